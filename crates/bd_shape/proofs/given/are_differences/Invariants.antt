use Rattle.std.specs.Prelude.{ℕ, ◌<◌}
use Rattle.cons_sys.specs.Constraints.{row_at}
use Rattle.bd_shape.specs.Forms.{IsOther}
use Rattle.bd_shape.proofs.given.are_differences.Given as goal

abbrev pub invariant-loop-k : goal.invariant-loop-k
invariant-loop-k l = (q : ℕ) → q < l.k → ¬ (IsOther l.cons.dim (row_at l.cons.list q))
