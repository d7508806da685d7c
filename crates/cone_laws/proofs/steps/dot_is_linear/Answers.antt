use Rattle.cone_laws.proofs.Columns.{dot-add, dot-scale}
use Rattle.cone_laws.proofs.steps.dot_is_linear.Goals as goal

pub returns : goal.returns
returns c = record { sum = dot-add; multiple = dot-scale }
