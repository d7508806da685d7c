-- Generators of a dual pair fit their kinds.
use Rattle.std.proofs.Common.{◌≡◌, refl, ◌∷◌, map, ℕ, zero, suc, ◌+◌, List, [], length, ℤ, pos, ◌<ℤ◌, arith, All}
use Rattle.std.proofs.lemmas.Int.{ints}
use Rattle.std.proofs.lemmas.List.Elements.{All-from_get_or, All-get_or, All-head, All-tail}
use Rattle.row_core.specs.Vectors.{cell}
use Rattle.row_core.specs.Lists.{system_rows}
use Rattle.cone_laws.specs.Canon.{vector_at, IsSystem}
use Rattle.cone_laws.proofs.FaceLists.{rays_not_zero}
use Rattle.gens_sys.specs.declared.kind.GenKind.{GenKind}
use Rattle.gens_sys.specs.declared.kind.GenKind.TheVariants.{Line, Ray, Point, ClosurePoint}
use Rattle.gens_sys.specs.Kinds.{IsZeroDirection}
use Rattle.gens_sys.specs.Generators.{Generator, vector_kind}
use Rattle.cone_laws.specs.Members.{ConeOf}
use Rattle.stored_systems.specs.PointSets.{IsClosedGen}
use Rattle.stored_systems.specs.StoredForms.{AreClosedSystems}
use Rattle.stored_systems.proofs.ListLemmas.{All-map_first, All-map_rest, All-unmap}
use Rattle.stored_systems.proofs.StoredPair.{gens_closed}
use Rattle.stored_systems.specs.Entries.{FitsKind}

all_zero : (v : List ℤ) → All (λ z. z ≡ pos 0) v → (j : ℕ) → cell v j ≡ pos 0
all_zero [] h j = refl
all_zero (a ∷ v) h zero = All-head (λ z. z ≡ pos 0) a v h
all_zero (a ∷ v) h (suc j) = all_zero v (All-tail (λ z. z ≡ pos 0) a v h) j

-- a direction of length 0 is 0 at each column
pub zero_cells : (kind : GenKind) (v : List ℤ) → IsZeroDirection kind v → (j : ℕ) → cell v j ≡ pos 0
zero_cells Line v h j = all_zero v h j
zero_cells Ray v h j = all_zero v h j
zero_cells Point v h j = absurd h
zero_cells ClosurePoint v h j = absurd h

above_zero : (z : ℤ) → pos 0 <ℤ z → z ≡ pos 0 → ⊥
above_zero z h e = omega (arith, ints)

module _ (dim : ℕ) (lines rays equalities inequalities : List (List ℤ)) (pair : AreClosedSystems dim lines rays equalities inequalities) where
  abbrev AsLine : List ℤ → Generator
  AsLine l = (l, Line)

  abbrev AsRay : List ℤ → Generator
  AsRay r = (r, vector_kind (cell r dim))

  system : IsSystem (ConeOf (dim + 1) (system_rows equalities inequalities)) lines rays
  system = pair.dual.vectors.system

  lines_closed : All (λ l. IsClosedGen dim (AsLine l)) lines
  lines_closed = All-map_first AsLine (IsClosedGen dim) lines (map AsRay rays) (gens_closed dim lines rays equalities inequalities pair)

  rays_closed : All (λ r. IsClosedGen dim (AsRay r)) rays
  rays_closed = All-unmap AsRay (IsClosedGen dim) rays (All-map_rest AsLine (IsClosedGen dim) lines (map AsRay rays) (gens_closed dim lines rays equalities inequalities pair))

  pub lines_fit : All (λ l. FitsKind dim (l, Line)) lines
  lines_fit = All-from_get_or (λ l. FitsKind dim (l, Line)) lines [] (λ i h. record {
    divisor = (All-get_or (λ l. IsClosedGen dim (l, Line)) lines i [] h lines_closed).divisor;
    nonzero = λ z. above_zero (cell (vector_at lines i) (system.echelon.pivot i)) (system.echelon.pivots i h).positive (zero_cells Line (vector_at lines i) z (system.echelon.pivot i));
  })

  pub rays_fit : All (λ r. FitsKind dim (r, vector_kind (cell r dim))) rays
  rays_fit = All-from_get_or (λ r. FitsKind dim (r, vector_kind (cell r dim))) rays [] (λ i h. record {
    divisor = (All-get_or (λ r. IsClosedGen dim (r, vector_kind (cell r dim))) rays i [] h rays_closed).divisor;
    nonzero = λ z. rays_not_zero lines rays i system.irredundant h (zero_cells (vector_kind (cell (vector_at rays i) dim)) (vector_at rays i) z);
  })
