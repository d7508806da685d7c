use Rattle.stored_systems.proofs.PairedSystems.{stored_lists_tell}
use Rattle.stored_systems.proofs.stored_laws.stored_lists_tell.Goals as goal

pub returns : goal.returns
returns c = stored_lists_tell
