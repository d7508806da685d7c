use Rattle.cone_laws.proofs.StepExistence.{ray_step_count}
use Rattle.cone_laws.proofs.system_steps.ray_step_count.Goals as goal

pub returns : goal.returns
returns c = ray_step_count
