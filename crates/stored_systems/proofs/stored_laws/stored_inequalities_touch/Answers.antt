use Rattle.stored_systems.proofs.Touching.{stored_inequalities_touch}
use Rattle.stored_systems.proofs.stored_laws.stored_inequalities_touch.Goals as goal

pub returns : goal.returns
returns c = stored_inequalities_touch
