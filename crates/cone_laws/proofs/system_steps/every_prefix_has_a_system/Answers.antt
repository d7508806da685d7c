use Rattle.cone_laws.proofs.StepExistence.{every_prefix}
use Rattle.cone_laws.proofs.system_steps.every_prefix_has_a_system.Goals as goal

pub returns : goal.returns
returns c = every_prefix
