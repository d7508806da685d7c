-- Loops.
use Rattle.std.specs.Prelude.{◌≡◌, ℕ, ◌+◌, ◌<◌, ◌≤◌, List, [], ◌∷◌, ◌++◌, length, pos, ◌<ℤ◌, All}
use Rattle.row_core.specs.Range.{InRange, AllInRange}
use Rattle.cons_sys.specs.Constraints.{Constraints}
use Rattle.stored_systems.specs.PointSets.{AreClosed}
use Rattle.poly_pair.specs.declared.topology.TheConstants.{MAX_DIM}
use Rattle.loop_analysis.specs.declared.loops.Assignment.{Assignment}

-- a loop over states of so many variables: the constraints of its start, those of its guard, and
-- the assignments of its body in order
pub record WhileLoop : Type 0 where
  pub dim : ℕ
  pub start : Constraints
  pub guard : Constraints
  pub body : List Assignment

-- the variable and the expression fit the dimension, and the divisor is above 0
pub record IsAssignment (dim : ℕ) (a : Assignment) : Type 0 where
  pub variable : a.variable < dim
  pub wide : length a.value.expr ≡ dim + 1
  pub in_range : AllInRange a.value.expr
  pub divisor : InRange a.value.den
  pub positive : pos 0 <ℤ a.value.den

-- what each loop keeps
pub record IsLoop (l : WhileLoop) : Type 0 where
  pub narrow : l.dim ≤ MAX_DIM
  pub start_dim : l.start.dim ≡ l.dim
  pub start_closed : AreClosed l.start
  pub guard_dim : l.guard.dim ≡ l.dim
  pub guard_closed : AreClosed l.guard
  pub body : All (IsAssignment l.dim) l.body

-- the loop with one more assignment at the end of its body
abbrev pub with_assignment : WhileLoop → Assignment → WhileLoop
with_assignment l a =
    record { dim = l.dim; start = l.start; guard = l.guard; body = l.body ++ a ∷ [] }
