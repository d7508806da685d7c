use Rattle.cone_laws.proofs.GeneratedSteps as lemmas
use Rattle.cone_laws.proofs.steps.line_step_generates.Goals as goal

pub returns : goal.returns
returns c = lemmas.line_step_generates
