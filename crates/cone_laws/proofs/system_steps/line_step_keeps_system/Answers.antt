use Rattle.cone_laws.proofs.NextSystems.{line_step_system}
use Rattle.cone_laws.proofs.system_steps.line_step_keeps_system.Goals as goal

pub returns : goal.returns
returns c = line_step_system
