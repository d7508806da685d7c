use Rattle.std.specs.Prelude.{◌≡◌, ◌⊎◌, ℕ, ◌+◌, ◌<◌, List, [], ℤ, pos, neg_ℤ, Bool, true, false, slice_set, ⊤}
use Rattle.std.proofs.Math.ListN.{replicate}
use Rattle.row_core.specs.Range.{InRange}
use Rattle.row_core.specs.declared.PairOver.{PairOver}
use Rattle.row_core.specs.declared.errors.Overflow.{Overflow}
use Rattle.cons_sys.specs.declared.kind.ConKind.{ConKind}
use Rattle.cons_sys.specs.declared.kind.ConKind.TheVariants.{Ge, Gt}
use Rattle.cons_sys.specs.Constraints.{Constraint, Constraints, Gains}
use Rattle.poly_pair.specs.Polyhedra.{Polyhedron, HasNoPoint}
use Rattle.optimum.specs.Search.{SeekLeaves}
use Rattle.optimum.specs.Showing.{shown_values}
use Rattle.optimum.specs.Suprema.{IsTrueSup}
use Rattle.optimum.specs.declared.outcome.Sup.{Sup}
use Rattle.optimum.specs.declared.outcome.Sup.TheVariants as sup

-- ---- rows of one variable
abbrev pub zeros : ℕ → List ℤ
zeros dim = replicate (dim + 1) (pos 0)

-- the row of the variable alone
abbrev pub variable_row : ℕ → ℕ → List ℤ
variable_row dim j = slice_set (zeros dim) j (pos 1)

-- the row with a factor of the variable and a constant
abbrev pub sparse_row : ℕ → ℕ → ℤ → ℤ → List ℤ
sparse_row dim j factor constant = slice_set (slice_set (zeros dim) dim constant) j factor

-- the row that is at least 0 where the variable is at most the fraction, for `true`, or at
-- least the fraction
abbrev pub bound_row : Bool → ℕ → ℕ → ℤ → ℤ → List ℤ
bound_row true dim j num den = sparse_row dim j (neg_ℤ den) num
bound_row false dim j num den = sparse_row dim j den (neg_ℤ num)

-- a bound that no point has is strict
abbrev pub bound_kind : Bool → ConKind
bound_kind true = Ge
bound_kind false = Gt

-- ---- boxes
-- the list gained what the answer says of the variable, if anything
abbrev pub GainsBound : Bool → ℕ → ℕ → Sup → List Constraint → List Constraint → Type 0
GainsBound up dim j sup.Empty old new = new ≡ old
GainsBound up dim j sup.Unbounded old new = new ≡ old
GainsBound up dim j (sup.At num den attained index) old new =
    Gains old new (bound_row up dim j num den) (bound_kind attained)

-- the list gained the greatest lower bound of the variable and then its least upper
-- one, where there are
pub record GainsBounds (p : Polyhedron) (j : ℕ) (old new : List Constraint) : Type 0 where
  pub low : Sup
  pub is_low : IsTrueSup false (variable_row p.cons.dim j) p low
  pub between : List Constraint
  pub lower : GainsBound false p.cons.dim j low old between
  pub high : Sup
  pub is_high : IsTrueSup true (variable_row p.cons.dim j) p high
  pub upper : GainsBound true p.cons.dim j high between new

-- the bounds of the first variables, in order
pub data AreBounds (p : Polyhedron) : ℕ → List Constraint → Type 0 where
  none_yet : AreBounds p 0 []
  one_more : {k : ℕ} {old new : List Constraint} → AreBounds p k old → GainsBounds p k old new
      → AreBounds p (k + 1) new

-- the bounds of all variables, or the constraint that holds nowhere where there is no point
pub record IsBox (p : Polyhedron) (bounds : Constraints) : Type 0 where
  pub same_dim : bounds.dim ≡ p.cons.dim
  pub list : (HasNoPoint p × (bounds.list ≡ p.cons.list))
      ⊎ ((¬ (HasNoPoint p)) × AreBounds p p.cons.dim bounds.list)

-- ---- overflows
-- the numbers of a bound are in the range
abbrev pub IsFractionOf : Sup → Type 0
IsFractionOf sup.Empty = ⊤
IsFractionOf sup.Unbounded = ⊤
IsFractionOf (sup.At num den attained index) = InRange num × InRange den

-- the search for a bound of the variable comes to a pair that leaves the range
pub record LeavesInBound (up : Bool) (p : Polyhedron) (j : ℕ) (over : Overflow) : Type 0 where
  pub pair : PairOver
  pub leaves : SeekLeaves up (variable_row p.cons.dim j) p.gens.dim p.gens.list pair
  pub shown : over ≡ shown_values (variable_row p.cons.dim j) p.gens pair

-- so does that for a bound of some variable
pub record LeavesInBox (p : Polyhedron) (over : Overflow) : Type 0 where
  pub up : Bool
  pub variable : ℕ
  pub below : variable < p.cons.dim
  pub leaves : LeavesInBound up p variable over
