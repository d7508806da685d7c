use Rattle.cone_laws.proofs.NextSystems.{units_system}
use Rattle.cone_laws.proofs.system_steps.start_is_system.Goals as goal

pub returns : goal.returns
returns c = units_system
