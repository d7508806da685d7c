use Rattle.row_core.specs.Lists.{system_rows}
use Rattle.std.specs.Prelude.{◌≡◌, ℕ, zero, suc, ◌+◌, ◌⊎◌, List, [], ◌∷◌, ◌++◌, map, filter, not, ◌&&◌, Bool, false, ℤ, pos, negsuc}
use Rattle.std.specs.Ordering.{int_eq}
use Rattle.row_core.specs.Vectors.{cell}
use Rattle.cons_sys.specs.declared.kind.ConKind.TheVariants.{Eq, Ge}
use Rattle.cons_sys.specs.Constraints.{Constraint, Constraints}
use Rattle.gens_sys.specs.declared.kind.GenKind.TheVariants.{Line}
use Rattle.gens_sys.specs.Generators.{Generator, Generators, vector_kind}
use Rattle.cone_laws.specs.Members.{ConeOf}
use Rattle.cone_laws.specs.DualSystems.{IsDual}
use Rattle.stored_systems.specs.WorkLists.{divisor_row, HasPoint}

-- ---- what two canonical systems stand for
-- whether the row is `(0, .., 0, 1)`
abbrev pub is_divisor_row : ℕ → List ℤ → Bool
is_divisor_row dim [] = false
is_divisor_row zero (a ∷ []) = int_eq a (pos 1)
is_divisor_row zero (a ∷ b ∷ v) = false
is_divisor_row (suc dim) (a ∷ v) = int_eq a (pos 0) && is_divisor_row dim v

-- the constraints of a canonical system of rows: all but the row of the divisor
abbrev pub stored_constraints : ℕ → List (List ℤ) → List (List ℤ) → List Constraint
stored_constraints dim equalities inequalities = map (λ l. (l, Eq)) equalities ++ map (λ r. (r, Ge))
    (filter (λ r. not (is_divisor_row dim r)) inequalities)

-- the generators of a canonical system of vectors
abbrev pub stored_generators : ℕ → List (List ℤ) → List (List ℤ) → List Generator
stored_generators dim lines rays =
    map (λ l. (l, Line)) lines ++ map (λ r. (r, vector_kind (cell r dim))) rays

-- ---- what a closed polyhedron stores
-- dual systems of a set with a point: no vector has a negative last entry, and some ray has a
-- positive one
pub record AreClosedSystems (dim : ℕ)
    (lines rays equalities inequalities : List (List ℤ)) : Type 0 where
  pub dual : IsDual (dim + 1) lines rays equalities inequalities
  pub divisor : ConeOf (dim + 1) (system_rows lines rays) (divisor_row dim)
  pub point : HasPoint dim rays

-- the systems of a set with a point
pub record IsPairForm (cs : Constraints) (gs : Generators) : Type 0 where
  pub same_dim : gs.dim ≡ cs.dim
  pub lines : List (List ℤ)
  pub rays : List (List ℤ)
  pub equalities : List (List ℤ)
  pub inequalities : List (List ℤ)
  pub systems : AreClosedSystems cs.dim lines rays equalities inequalities
  pub cons : cs.list ≡ stored_constraints cs.dim equalities inequalities
  pub gens : gs.list ≡ stored_generators cs.dim lines rays

-- the row `(0, .., 0, -1)`
abbrev pub false_row : ℕ → List ℤ
false_row zero = negsuc 0 ∷ []
false_row (suc dim) = pos 0 ∷ false_row dim

-- the systems of the empty set
pub record IsEmptyForm (cs : Constraints) (gs : Generators) : Type 0 where
  pub same_dim : gs.dim ≡ cs.dim
  pub cons : cs.list ≡ (false_row cs.dim, Ge) ∷ []
  pub gens : gs.list ≡ []

-- the two systems are those that a closed polyhedron stores
abbrev pub IsStored : Constraints → Generators → Type 0
IsStored cs gs = IsEmptyForm cs gs ⊎ IsPairForm cs gs
