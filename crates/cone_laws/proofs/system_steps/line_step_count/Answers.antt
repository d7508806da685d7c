use Rattle.cone_laws.proofs.StepExistence.{line_step_count}
use Rattle.cone_laws.proofs.system_steps.line_step_count.Goals as goal

pub returns : goal.returns
returns c = line_step_count
