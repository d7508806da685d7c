use Rattle.std.specs.Prelude.{◌≡◌, ℕ, ◌<◌, Bool, true, false, List, length, map, ℤ}
use Rattle.row_core.specs.Vectors.{dot}
use Rattle.row_core.specs.Lists.{Row, row_at}
use Rattle.row_core.specs.Pairs.{value_at}
use Rattle.row_core.specs.Signs.{stays}
use Rattle.row_core.specs.Sizes.{Suffices}
use Rattle.row_core.specs.declared.linear.Summing.{Summing}

-- the values of the vectors on a row
abbrev pub values_on : List ℤ → List (List ℤ) → List ℤ
values_on a vs = map (λ v. dot a v) vs

-- the dot of a row with each vector of its width may be summed so
abbrev pub AllSuffice : Summing → List ℤ → List Row → Type 0
AllSuffice summing row rows =
    (i : ℕ) → i < length rows → length (row_at rows i) ≡ length row →
    Suffices summing row (row_at rows i)

-- each value stays on its side of a row
abbrev pub AllStay : Bool → List ℤ → Type 0
AllStay eq values = (i : ℕ) → i < length values → stays eq (value_at values i) ≡ true

-- some value doesn't
abbrev pub SomeGoes : Bool → List ℤ → Type 0
SomeGoes eq values = (i : ℕ) × (i < length values) × (stays eq (value_at values i) ≡ false)
