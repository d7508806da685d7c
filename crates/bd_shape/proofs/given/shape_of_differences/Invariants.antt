use Rattle.bd_shape.specs.Given.{IsReading}
use Rattle.bd_shape.proofs.given.shape_of_differences.Given as goal

abbrev pub invariant-loop-k : goal.invariant-loop-k
invariant-loop-k l = IsReading l.cons l.k l.bounds
