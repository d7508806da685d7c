use Rattle.stored_systems.proofs.Stored.{stored_is_pair}
use Rattle.stored_systems.proofs.stored_laws.stored_is_pair.Goals as goal

pub returns : goal.returns
returns c = stored_is_pair
