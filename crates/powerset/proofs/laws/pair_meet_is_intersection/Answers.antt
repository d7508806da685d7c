use Rattle.powerset.proofs.PowersetPoints.{pair_meet_is_intersection}
use Rattle.powerset.proofs.laws.pair_meet_is_intersection.Goals as goal

pub returns : goal.returns
returns c = pair_meet_is_intersection
