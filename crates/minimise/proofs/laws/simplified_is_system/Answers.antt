use Rattle.minimise.proofs.SecondSystems.{simplified_is_system}
use Rattle.minimise.proofs.laws.simplified_is_system.Goals as goal

pub returns : goal.returns
returns c = simplified_is_system
