use Rattle.cone_laws.proofs.LineSpare.{line_step_irredundant}
use Rattle.cone_laws.proofs.adjacency.line_step_is_irredundant.Goals as goal

pub returns : goal.returns
returns c = line_step_irredundant
