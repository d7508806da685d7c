use Rattle.cone_laws.proofs.NextSystems.{ray_step_system}
use Rattle.cone_laws.proofs.system_steps.ray_step_keeps_system.Goals as goal

pub returns : goal.returns
returns c = ray_step_system
