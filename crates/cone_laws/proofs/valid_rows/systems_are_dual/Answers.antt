use Rattle.cone_laws.proofs.ValidRows.{systems_are_dual}
use Rattle.cone_laws.proofs.valid_rows.systems_are_dual.Goals as goal

pub returns : goal.returns
returns c = systems_are_dual
