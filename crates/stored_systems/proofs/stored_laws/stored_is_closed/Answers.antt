use Rattle.stored_systems.proofs.Stored.{stored_is_closed}
use Rattle.stored_systems.proofs.stored_laws.stored_is_closed.Goals as goal

pub returns : goal.returns
returns c = stored_is_closed
