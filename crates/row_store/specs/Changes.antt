use Rattle.std.specs.Prelude.{◌≡◌, ℕ, ◌+◌, ◌-◌, ◌<◌, ◌≤◌, Bool, true, false}
use Rattle.std.specs.Prelude.{◌++◌, [], ◌∷◌, List, length, ℤ}
use Rattle.flat_rows.specs.Flat.{marked}
use Rattle.row_core.specs.Vectors.{scale}
use Rattle.row_core.specs.Lists.{Row, row_at, vectors}
use Rattle.row_core.specs.Pairs.{value_at, pair_at, IsPairAt}
use Rattle.row_core.specs.Signs.{sign}
use Rattle.row_core.specs.Combinations.{IsCombined}

-- the vectors from one index up to another, with their values on a row, were lowered onto the row
-- by a line with the value u, and appended
pub record AreLowered (u : ℤ) (line : List ℤ) (values : List ℤ) (list : List Row)
    (from to : ℕ) (old new : List Row) : Type 0 where
  pub as_many : length new + from ≡ length old + to
  pub before : (i : ℕ) → i < length old → row_at new i ≡ row_at old i
  pub each : (i : ℕ) → from ≤ i → i < to
      → IsCombined u (value_at values i) line (row_at list i) (row_at new (length old + (i - from)))

-- all vectors but that at the index, lowered by a line with the value u
pub record AreOthersLowered (u : ℤ) (index : ℕ) (line : List ℤ) (values : List ℤ)
    (list new : List Row) : Type 0 where
  pub as_many : length new + 1 ≡ length list
  pub before : (i : ℕ) → i < index
      → IsCombined u (value_at values i) line (row_at list i) (row_at new i)
  pub behind : (i : ℕ) → index ≤ i → i + 1 < length list
      → IsCombined u (value_at values (i + 1)) line (row_at list (i + 1)) (row_at new i)

-- the rays, and for an inequality the line with the sign with which the row is above 0 on it
abbrev pub with_upward : Bool → ℤ → List ℤ → List Row → List Row
with_upward true u line rays = rays
with_upward false u line rays = rays ++ (scale (sign u) line, false) ∷ []

-- what the line at the index makes of the other lines and of the rays
pub record IsLineChange (index : ℕ) (line_values ray_values : List ℤ) (eq : Bool)
    (lines rays new_lines new_rays : List Row) : Type 0 where
  pub lines_lowered :
      AreOthersLowered (value_at line_values index) index (row_at lines index)
      line_values lines new_lines
  pub kept : List Row
  pub rays_lowered :
      AreLowered (value_at line_values index) (row_at lines index)
      ray_values rays 0 (length rays) [] kept
  pub result : new_rays ≡ with_upward eq (value_at line_values index) (row_at lines index) kept

-- each pair is of a value above 0 and one below
abbrev pub ArePairs : List ℤ → List (ℕ × ℕ) → Type 0
ArePairs values pairs =
    (i : ℕ) → i < length pairs → IsPairAt values (pair_at pairs i).0 (pair_at pairs i).1

-- a ray of the pair that is 0 on the row
abbrev pub IsPairCombined : List ℤ → List Row → ℕ × ℕ → List ℤ → Type 0
IsPairCombined values rays pair result =
    IsCombined (value_at values pair.0) (value_at values pair.1)
    (row_at rays pair.0) (row_at rays pair.1) result

-- one ray of each pair
pub record AreMade (values : List ℤ) (rays : List Row)
    (pairs : List (ℕ × ℕ)) (made : List Row) : Type 0 where
  pub as_many : length made ≡ length pairs
  pub each : (i : ℕ) → i < length pairs
      → IsPairCombined values rays (pair_at pairs i) (row_at made i)

-- one ray of each pair was appended
pub record HasMade (values : List ℤ) (rays : List Row)
    (pairs : List (ℕ × ℕ)) (old new : List Row) : Type 0 where
  pub made : List Row
  pub is_made : AreMade values rays pairs made
  pub result : new ≡ old ++ made

-- rows were appended
abbrev pub IsGrown : List Row → List Row → Type 0
IsGrown old new = (more : List Row) × (new ≡ old ++ more)

-- the marked rays, and one ray of each pair
pub record IsRayChange (values : List ℤ) (marks : List Bool)
    (pairs : List (ℕ × ℕ)) (rays new : List Row) : Type 0 where
  pub made : List Row
  pub is_made : AreMade values rays pairs made
  pub result : vectors new ≡ marked marks (vectors rays) ++ vectors made
