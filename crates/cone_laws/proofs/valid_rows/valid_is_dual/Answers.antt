use Rattle.cone_laws.proofs.ValidRows.{valid_is_dual}
use Rattle.cone_laws.proofs.valid_rows.valid_is_dual.Goals as goal

pub returns : goal.returns
returns c = valid_is_dual
