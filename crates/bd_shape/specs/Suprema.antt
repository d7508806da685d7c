-- The suprema of differences over a polyhedron.
use Rattle.std.specs.Prelude.{◌≡◌, ◌≢◌, ℕ, ◌+◌, ◌<◌, List, [], ℤ, true, Some, None, IfSome, Ok}
use Rattle.row_core.specs.declared.PairOver.{PairOver}
use Rattle.row_core.specs.declared.errors.Overflow.{Overflow}
use Rattle.gens_sys.specs.Generators.{Generators}
use Rattle.stored_systems.specs.PointSets.{IsWithin}
use Rattle.poly_pair.specs.Polyhedra.{Polyhedron}
use Rattle.optimum.specs.Search.{SeekLeaves}
use Rattle.optimum.specs.Showing.{shown_values}
use Rattle.optimum.specs.Suprema.{SupAnswer, IsSupremum, IsUnbounded}
use Rattle.optimum.specs.declared.outcome.Sup.{Sup}
use Rattle.optimum.specs.declared.outcome.Sup.TheVariants as sup
use Rattle.difference_bounds.specs.Walks.{Bound, Bounds}
use Rattle.difference_bounds.specs.Tables.{Table, IsTable, HasZeros, bounds_of}
use Rattle.difference_bounds.specs.Passes.{IsBefore}
use Rattle.bd_shape.specs.Shapes.{DifferenceShape, IsIn, Includes}
use Rattle.bd_shape.specs.Differences.{difference}

-- the bound is the greatest difference of two places on the polyhedron, or none where the
-- difference has no bound
abbrev pub IsSupremumOf : Polyhedron → ℕ → ℕ → Bound → Type 0
IsSupremumOf p i j None = IsUnbounded true (difference p.cons.dim i j) p
IsSupremumOf p i j (Some f) =
    IsSupremum true (difference p.cons.dim i j) p.cons.dim (IsWithin p.cons) f.num f.den true

-- so is each bound of two different places
abbrev pub AreSuprema : Polyhedron → Bounds → Type 0
AreSuprema p b = (i j : ℕ) → i < p.cons.dim + 1 → j < p.cons.dim + 1 → i ≢ j
    → IsSupremumOf p i j (b i j)

-- the smallest shape that includes the polyhedron
pub record IsSmallest (p : Polyhedron) (s : DifferenceShape) : Type 0 where
  pub includes : (q : List ℤ) → IsWithin p.cons q → IsIn s q
  pub least : (u : DifferenceShape) → u.dim ≡ p.cons.dim → IfSome u.bounds IsTable
      → ((q : List ℤ) → IsWithin p.cons q → IsIn u q) → Includes u s

-- ---- answers in order
-- the bound that an answer gives
abbrev pub answered : Sup → Bound
answered sup.Empty = None
answered sup.Unbounded = None
answered (sup.At num den attained index) = Some (record { num = num; den = den })

-- the supremum of the difference of two places is found
pub record IsFoundAt (p : Polyhedron) (i j : ℕ) : Type 0 where
  pub answer : Sup
  pub found : SupAnswer true (difference p.cons.dim i j) p.gens (Ok answer)

-- so is that of each two different places
abbrev pub AreFound : Polyhedron → Type 0
AreFound p = (i j : ℕ) → i < p.cons.dim + 1 → j < p.cons.dim + 1 → i ≢ j → (p.gens.list ≡ [] → ⊥)
    → IsFoundAt p i j

-- the bounds of different places before row r and column c are found
pub record IsFinding (p : Polyhedron) (t : Table) (r c : ℕ) : Type 0 where
  pub zeros : HasZeros (bounds_of t) (p.cons.dim + 1)
  pub suprema : (i j : ℕ) → i < p.cons.dim + 1 → j < p.cons.dim + 1 → i ≢ j → IsBefore r c i j
      → IsSupremumOf p i j (bounds_of t i j)
  pub found : (i j : ℕ) → i < p.cons.dim + 1 → j < p.cons.dim + 1 → i ≢ j → IsBefore r c i j
      → IsFoundAt p i j

-- ---- overflows
-- the search for the supremum of the row comes to a pair that leaves the range
pub record LeavesInSupremum (row : List ℤ) (gs : Generators) (over : Overflow) : Type 0 where
  pub pair : PairOver
  pub leaves : SeekLeaves true row gs.dim gs.list pair
  pub shown : over ≡ shown_values row gs pair

-- the first difference, of the first place and then of the second, whose search does so
pub record LeavesInSuprema (p : Polyhedron) (over : Overflow) : Type 0 where
  pub i : ℕ
  pub j : ℕ
  pub i_below : i < p.cons.dim + 1
  pub j_below : j < p.cons.dim + 1
  pub apart : i ≢ j
  pub earlier : (a b : ℕ) → a < p.cons.dim + 1 → b < p.cons.dim + 1 → a ≢ b → IsBefore i j a b
      → IsFoundAt p a b
  pub leaves : LeavesInSupremum (difference p.cons.dim i j) p.gens over
