use Rattle.bd_shape.proofs.Canonical.{one_shape}
use Rattle.bd_shape.proofs.laws.one_shape.Goals as goal

pub returns : goal.returns
returns c = one_shape
