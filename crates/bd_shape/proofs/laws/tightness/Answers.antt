use Rattle.bd_shape.proofs.Canonical.{bounds_are_greatest, empty_without_points}
use Rattle.bd_shape.proofs.laws.tightness.Goals as goal

pub returns : goal.returns
returns c = record { greatest = bounds_are_greatest; empty = empty_without_points }
