use Rattle.powerset.proofs.PowersetPoints.{join_is_union}
use Rattle.powerset.proofs.laws.join_is_union.Goals as goal

pub returns : goal.returns
returns c = join_is_union
