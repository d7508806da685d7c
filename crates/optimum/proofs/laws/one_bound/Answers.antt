use Rattle.optimum.proofs.OneBound.{one_bound}
use Rattle.optimum.proofs.laws.one_bound.Goals as goal

pub returns : goal.returns
returns c = one_bound
