use Rattle.std.specs.Prelude.{◌≡◌, ℕ, ◌+◌, List, [], ℤ, pos, ◌+ℤ◌, ◌≤ℤ◌, All}
use Rattle.std.proofs.Math.IntN.{◌*ℤ◌}
use Rattle.row_core.specs.Vectors.{dot, scale, add}
use Rattle.row_core.specs.Lists.{Row}
use Rattle.cone_laws.specs.Cones.{Upto, Spans, Generates, HasLineality}
use Rattle.cone_laws.specs.Steps.{IsRowAt, AreUnits, IsLineStep}

-- ---- sums
-- the value of a row on a sum of two vectors
abbrev pub DotOfSum : Type 0
DotOfSum = (a u v : List ℤ) → dot a (add u v) ≡ dot a u +ℤ dot a v

-- the value of a row on a multiple of a vector
abbrev pub DotOfMultiple : Type 0
DotOfMultiple = (a : List ℤ) (k : ℤ) (v : List ℤ) → dot a (scale k v) ≡ k *ℤ dot a v

-- the sum of two spanned vectors is spanned
abbrev pub SumIsSpanned : Type 0
SumIsSpanned = (lines rays : List (List ℤ)) (u v : List ℤ) →
    Spans lines rays u →
    Spans lines rays v →
    Spans lines rays (add u v)

-- a multiple with a factor of at least 0 of a spanned vector is spanned
abbrev pub MultipleIsSpanned : Type 0
MultipleIsSpanned = (lines rays : List (List ℤ)) (k : ℤ) (v : List ℤ) →
    pos 0 ≤ℤ k →
    Spans lines rays v →
    Spans lines rays (scale k v)

-- what is spanned by spanned vectors is spanned
abbrev pub SpansOfSpanned : Type 0
SpansOfSpanned = (lines rays new_lines new_rays : List (List ℤ)) (v : List ℤ) →
    All (Spans new_lines []) lines →
    All (Spans new_lines new_rays) rays →
    Spans lines rays v →
    Spans new_lines new_rays v

-- a row that is 0 on the lines and at least 0 on the rays is at least 0 on what they span
abbrev pub AtLeastZeroOnSpanned : Type 0
AtLeastZeroOnSpanned = (a : List ℤ) (lines rays : List (List ℤ)) (v : List ℤ) →
    All (λ l. dot a l ≡ pos 0) lines →
    All (λ r. pos 0 ≤ℤ dot a r) rays →
    Spans lines rays v →
    pos 0 ≤ℤ dot a v

-- ---- the cone of the first k rows, and that of one row more
-- the lines and rays generate the cone of the first k rows,
-- and the lines alone its vectors whose negatives are in it too
pub record GeneratesUpto (width : ℕ) (rows : List Row) (k : ℕ)
    (lines rays : List (List ℤ)) : Type 0 where
  pub generates : Generates (Upto width rows k) lines rays
  pub lineality : HasLineality (Upto width rows k) lines

-- the unit vectors as lines generate the cone of no row
abbrev pub UnitsGenerate : Type 0
UnitsGenerate = (width : ℕ) (rows : List Row) (lines : List (List ℤ)) →
    AreUnits width lines →
    GeneratesUpto width rows 0 lines []

-- what the step with a line that isn't 0 on the row makes generates the cone of one row more
abbrev pub LineStepGenerates : Type 0
LineStepGenerates = (width : ℕ) (rows : List Row) (k : ℕ) (row : Row)
    (lines rays new_lines new_rays : List (List ℤ)) →
    IsRowAt rows k row →
    GeneratesUpto width rows k lines rays →
    IsLineStep row lines rays new_lines new_rays →
    GeneratesUpto width rows (k + 1) new_lines new_rays
