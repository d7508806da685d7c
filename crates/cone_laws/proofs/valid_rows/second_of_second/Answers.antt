use Rattle.cone_laws.proofs.ValidRows.{second_of_second}
use Rattle.cone_laws.proofs.valid_rows.second_of_second.Goals as goal

pub returns : goal.returns
returns c = second_of_second
