use Rattle.powerset.proofs.ReducedPoints.{reduction_keeps_points, reduction_is_irredundant}
use Rattle.powerset.proofs.laws.reduced_lists.Goals as goal

pub returns-clause-points : goal.returns-clause-points
returns-clause-points c = reduction_keeps_points

pub returns-clause-irredundant : goal.returns-clause-irredundant
returns-clause-irredundant c = reduction_is_irredundant
