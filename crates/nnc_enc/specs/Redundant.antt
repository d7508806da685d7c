use Rattle.std.specs.Prelude.{◌≡◌, ◌≢◌, ◌⊎◌, ◌↔◌, ℕ, ◌+◌, ◌<◌, Bool, true, false, List, length, ℤ, pos, ◌<ℤ◌}
use Rattle.row_core.specs.Vectors.{cell, dot}
use Rattle.row_core.specs.Lists.{Row}
use Rattle.row_core.specs.Points.{IsPoint}
use Rattle.cone_laws.specs.Members.{ConeOf}
use Rattle.cone_laws.specs.Canon.{vector_at, IsSystem}
use Rattle.gens_sys.specs.Generators.{Generators}
use Rattle.gens_sys.specs.Spans.{Span}
use Rattle.nnc_enc.specs.Encoding.{HaveWidth, lowered, IsEncoded, IsEncodedDual}
use Rattle.nnc_enc.specs.StrongRows.{HoldsAt, kept_at, IsBare, IsCovered, IsSpare, IsCoveredPoint, IsSpareVector}
use Rattle.nnc_enc.specs.DecodedVectors.{Decodes}

-- the row holds at each point at which the lines are 0 and the other rows that are kept hold
abbrev pub IsRedundantRow : ℕ → List (List ℤ) → List (List ℤ) → List Bool → ℕ → Type 0
IsRedundantRow dim lines rays keep i = (p : List ℤ) → IsPoint dim p
    → ((m : ℕ) → m < length lines → dot (lowered dim (vector_at lines m)) p ≡ pos 0)
    → ((t : ℕ) → t < length rays → kept_at keep t ≡ true → t ≢ i → HoldsAt dim (vector_at rays t) p)
    → HoldsAt dim (vector_at rays i) p

-- a strict row that is kept is redundant exactly where it is 0 at no place, or where another strict
-- row that is kept is 0 at all places at which it is
abbrev pub StrictRowIsRedundant : Type 0
StrictRowIsRedundant = (dim : ℕ) (gens : List Row) (lines rays : List (List ℤ)) (keep : List Bool)
    (i : ℕ) → HaveWidth (dim + 2) gens → IsSystem (ConeOf (dim + 2) gens) lines rays
    → IsEncodedDual dim (ConeOf (dim + 2) gens)
    → ((t : ℕ) → t < length rays → kept_at keep t ≡ false → IsSpare dim gens rays keep t)
    → i < length rays → kept_at keep i ≡ true → cell (vector_at rays i) dim <ℤ pos 0
    → IsRedundantRow dim lines rays keep i
    ↔ (IsBare dim gens (vector_at rays i) ⊎ IsCovered dim gens rays keep i)

-- the marks are those that are given, but number i isn't kept
pub record LeavesOut (keep : List Bool) (i : ℕ) (rest : ℕ → Bool) : Type 0 where
  pub left : rest i ≡ false
  pub same : (t : ℕ) → t ≢ i → rest t ≡ kept_at keep t

-- a point that is kept is redundant exactly where another point that is kept is 0 on all rows with
-- 0 in column e on which it is
abbrev pub PointIsRedundant : Type 0
PointIsRedundant = (dim : ℕ) (rows : List Row) (lines rays : List (List ℤ)) (keep : List Bool)
    (rest : ℕ → Bool) (kept others : Generators) (i : ℕ) → HaveWidth (dim + 2) rows
    → IsSystem (ConeOf (dim + 2) rows) lines rays → IsEncoded dim (ConeOf (dim + 2) rows)
    → ((t : ℕ) → t < length rays → kept_at keep t ≡ false → IsSpareVector dim rows rays keep t)
    → i < length rays → kept_at keep i ≡ true → pos 0 <ℤ cell (vector_at rays i) dim
    → Decodes dim lines rays (kept_at keep) kept.list → LeavesOut keep i rest
    → Decodes dim lines rays rest others.list
    → ((v : List ℤ) → Span kept v → Span others v) ↔ IsCoveredPoint dim rows rays keep i
