use Rattle.std.specs.Prelude.{◌≡◌, ◌≢◌, ℕ, ◌<◌, ◌⊎◌, Bool, true, List, length, ℤ, pos, int_lt}
use Rattle.std.specs.Prelude.{slice_index_or, Contains}
use Rattle.row_core.specs.Pairs.{value_at, pair_at, IsPairAt}
use Rattle.sat_matrix.specs.Tables.{Table, HasThird}
use Rattle.sat_matrix.specs.declared.adjacency.Side.{Side}
use Rattle.sat_matrix.specs.declared.adjacency.Side.TheVariants.{Above, Below}

-- the first ray is above and the second below 0, and no third row is true wherever theirs are
pub record IsCross (values : List ℤ) (table : Table) (p n : ℕ) : Type 0 where
  pub pair : IsPairAt values p n
  pub no_third : ¬ (HasThird table p n)

-- whether a value is on the side
abbrev pub is_on : Side → ℤ → Bool
is_on Above value = int_lt (pos 0) value
is_on Below value = int_lt value (pos 0)

-- the pair of an index on the side and one on the other, with that above first
abbrev pub pair_on : Side → ℕ → ℕ → ℕ × ℕ
pair_on Above outer inner = (outer, inner)
pair_on Below outer inner = (inner, outer)

-- index q of a list
abbrev pub index_at : List ℕ → ℕ → ℕ
index_at indices q = slice_index_or indices q 0

-- the indices rise, and are below the bound
pub record AreRising (bound : ℕ) (indices : List ℕ) : Type 0 where
  pub within : (q : ℕ) → q < length indices → index_at indices q < bound
  pub increasing : (q r : ℕ) → q < r → r < length indices → index_at indices q < index_at indices r

-- the indices below the bound of the values on the side, in order
pub record AreOn (side : Side) (values : List ℤ) (bound : ℕ) (indices : List ℕ) : Type 0 where
  pub rising : AreRising bound indices
  pub on : (q : ℕ) → q < length indices → is_on side (value_at values (index_at indices q)) ≡ true
  pub all : (n : ℕ) → n < bound → is_on side (value_at values n) ≡ true →
      (q : ℕ) × (q < length indices) × (index_at indices q ≡ n)

-- no third row of the table is true wherever those of the pair are
abbrev pub IsAdjacent : Table → ℕ × ℕ → Type 0
IsAdjacent table pair = ¬ (HasThird table pair.0 pair.1)

-- the pair at position p of the outer side and position q of the inner
abbrev pub pair_of : Side → List ℕ → List ℕ → ℕ → ℕ → ℕ × ℕ
pair_of side outer inner p q = pair_on side (index_at outer p) (index_at inner q)

-- the loops come to positions p and q before they come to the bound and next
abbrev pub IsBefore : ℕ → ℕ → ℕ → ℕ → Type 0
IsBefore bound next p q = (p < bound) ⊎ ((p ≡ bound) × (q < next))

-- the pair is adjacent, and at positions before the bound and next
pub record IsFoundAt (side : Side) (table : Table) (outer inner : List ℕ) (bound next : ℕ)
    (pair : ℕ × ℕ) : Type 0 where
  pub p : ℕ
  pub q : ℕ
  pub first : p < length outer
  pub second : q < length inner
  pub before : IsBefore bound next p q
  pub same : pair_of side outer inner p q ≡ pair
  pub adjacent : IsAdjacent table pair

-- the adjacent pairs at positions before the bound and next, each once
pub record AreFound (side : Side) (table : Table) (outer inner : List ℕ) (bound next : ℕ)
    (pairs : List (ℕ × ℕ)) : Type 0 where
  pub each : (i : ℕ) → i < length pairs →
      IsFoundAt side table outer inner bound next (pair_at pairs i)
  pub all : (p q : ℕ) → p < length outer → q < length inner → IsBefore bound next p q →
      IsAdjacent table (pair_of side outer inner p q) →
      Contains pairs (pair_of side outer inner p q)
  pub distinct : (i j : ℕ) → i < length pairs → j < length pairs → i ≢ j →
      pair_at pairs i ≢ pair_at pairs j

-- all adjacent pairs of the two sides, found with either of them in the outer loop
abbrev pub AreAllFound : Table → List ℕ → List ℕ → List (ℕ × ℕ) → Type 0
AreAllFound table above below pairs =
    AreFound Above table above below (length above) 0 pairs
    ⊎ AreFound Below table below above (length below) 0 pairs

-- all pairs that cross, each once
pub record AreAllCrosses (values : List ℤ) (table : Table) (pairs : List (ℕ × ℕ)) : Type 0 where
  pub each : (i : ℕ) → i < length pairs →
      IsCross values table (pair_at pairs i).0 (pair_at pairs i).1
  pub all : (p n : ℕ) → IsCross values table p n → Contains pairs (p, n)
  pub distinct : (i j : ℕ) → i < length pairs → j < length pairs → i ≢ j →
      pair_at pairs i ≢ pair_at pairs j
