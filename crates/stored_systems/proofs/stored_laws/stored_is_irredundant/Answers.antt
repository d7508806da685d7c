use Rattle.stored_systems.proofs.Stored.{stored_is_irredundant}
use Rattle.stored_systems.proofs.stored_laws.stored_is_irredundant.Goals as goal

pub returns : goal.returns
returns c = stored_is_irredundant
