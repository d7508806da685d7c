use Rattle.powerset.proofs.PowersetPoints.{covered_both_ways}
use Rattle.powerset.proofs.laws.covered_both_ways.Goals as goal

pub returns : goal.returns
returns c = covered_both_ways
