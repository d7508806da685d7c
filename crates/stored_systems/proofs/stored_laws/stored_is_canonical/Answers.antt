use Rattle.stored_systems.proofs.Stored.{stored_is_canonical}
use Rattle.stored_systems.proofs.stored_laws.stored_is_canonical.Goals as goal

pub returns : goal.returns
returns c = stored_is_canonical
