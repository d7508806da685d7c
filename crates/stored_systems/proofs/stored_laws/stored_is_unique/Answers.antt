use Rattle.stored_systems.proofs.Stored.{stored_is_unique}
use Rattle.stored_systems.proofs.stored_laws.stored_is_unique.Goals as goal

pub returns : goal.returns
returns c = stored_is_unique
