use Rattle.difference_bounds.proofs.Emptiness.{none_by_negative}
use Rattle.difference_bounds.proofs.laws.emptiness.Goals as goal

pub returns : goal.returns
returns c = none_by_negative
