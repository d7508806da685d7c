use Rattle.cone_laws.proofs.SystemLists.{list_of_system}
use Rattle.cone_laws.proofs.valid_rows.list_of_system.Goals as goal

pub returns : goal.returns
returns c = list_of_system
