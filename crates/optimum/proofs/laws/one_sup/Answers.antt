use Rattle.optimum.proofs.OptimumLemmas.{one_sup}
use Rattle.optimum.proofs.laws.one_sup.Goals as goal

pub returns : goal.returns
returns c = one_sup
