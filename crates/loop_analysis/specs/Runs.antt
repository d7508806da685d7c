-- The runs of a loop, and what holds along them. A state is a point `(x1/d, .., xn/d)`, by its
-- vector `(x1, .., xn, d)`.
use Rattle.std.specs.Prelude.{◌≡◌, ◌≢◌, ℕ, ◌+◌, ◌<◌, ◌≤◌, List, [], ◌∷◌, ℤ}
use Rattle.std.proofs.Math.IntN.{◌*ℤ◌}
use Rattle.row_core.specs.Vectors.{cell, dot}
use Rattle.row_core.specs.Points.{IsPoint}
use Rattle.cons_sys.specs.Constraints.{Constraints, In}
use Rattle.loop_analysis.specs.declared.loops.Assignment.{Assignment}
use Rattle.loop_analysis.specs.Loops.{WhileLoop}

-- after the assignment its variable has the value that the fraction had before, and each other
-- variable the value that it had; all is multiplied out by the divisors
pub record Assigns (dim : ℕ) (a : Assignment) (before after : List ℤ) : Type 0 where
  pub value : cell after a.variable *ℤ (a.value.den *ℤ cell before dim)
      ≡ dot a.value.expr before *ℤ cell after dim
  pub others : (j : ℕ) → j < dim → j ≢ a.variable
      → cell after j *ℤ cell before dim ≡ cell before j *ℤ cell after dim

-- the assignments, one after the other, lead from one state to another
abbrev pub Leads : ℕ → List Assignment → List ℤ → List ℤ → Type 0
Leads dim [] before after = before ≡ after
Leads dim (a ∷ more) before after =
    (between : List ℤ) × IsPoint dim between × Assigns dim a before between
    × Leads dim more between after

-- a sequence of states at the head of the loop, up to state n: it begins in the start, and from
-- each state before the last, at which the guard holds, the body leads to the next
pub record IsRun (l : WhileLoop) (states : ℕ → List ℤ) (n : ℕ) : Type 0 where
  pub points : (k : ℕ) → k ≤ n → IsPoint l.dim (states k)
  pub begins : In l.start (states 0)
  pub guarded : (k : ℕ) → k < n → In l.guard (states k)
  pub goes_on : (k : ℕ) → k < n → Leads l.dim l.body (states k) (states (k + 1))

-- each state that a run comes to satisfies the constraints
abbrev pub HoldAtHead : WhileLoop → Constraints → Type 0
HoldAtHead l cs = (states : ℕ → List ℤ) (n : ℕ) → IsRun l states n → In cs (states n)

-- each state of a run at which the guard doesn't hold satisfies the constraints
abbrev pub HoldBehind : WhileLoop → Constraints → Type 0
HoldBehind l cs =
    (states : ℕ → List ℤ) (n : ℕ) → IsRun l states n → ¬ (In l.guard (states n)) → In cs (states n)
