use Rattle.std.specs.Prelude.{ℕ, ◌≤◌, ◌↔◌, List, ◌++◌, length, ℤ, pos, ◌≤ℤ◌, ◌<ℤ◌, ◌≡◌}
use Rattle.row_core.specs.Vectors.{cell}
use Rattle.row_core.specs.Lists.{Row}
use Rattle.cone_laws.specs.Cones.{Upto, Spans, Generates}
use Rattle.cone_laws.specs.Canon.{IsSystem, Canon}
use Rattle.cone_laws.specs.UniqueLaws.{AdmitSame}

-- the vectors of the width that meet each row of the list
abbrev pub ConeOf : ℕ → List Row → List ℤ → Type 0
ConeOf width rows = Upto width rows (length rows)

-- the cone of the first rows of a list doesn't depend on what follows them
abbrev pub FirstRowsAlone : Type 0
FirstRowsAlone = (width : ℕ) (rows more : List Row) (k : ℕ) (v : List ℤ) →
    k ≤ length rows →
    Upto width (rows ++ more) k v ↔ Upto width rows k v

-- a vector meets two lists, one after the other, where it meets both
abbrev pub RowsOfBoth : Type 0
RowsOfBoth = (width : ℕ) (rows more : List Row) (v : List ℤ) →
    ConeOf width (rows ++ more) v ↔ (ConeOf width rows v × ConeOf width more v)

-- what a generating system spans is in the cone
abbrev pub SpannedIsWithin : Type 0
SpannedIsWithin = (width : ℕ) (rows : List Row) (k : ℕ) (lines rays : List (List ℤ)) (v : List ℤ) →
    Generates (Upto width rows k) lines rays →
    length v ≡ width →
    Spans lines rays v →
    Upto width rows k v

-- a system, canonical or but for the order of its rays,
-- is that of each list which admits the same vectors
abbrev pub SystemOfSameCone : Type 0
SystemOfSameCone = (width : ℕ) (rows : List Row) (k : ℕ) (others : List Row) (n : ℕ)
    (lines rays : List (List ℤ)) →
    AdmitSame width rows k others n →
    (IsSystem (Upto width rows k) lines rays → IsSystem (Upto width others n) lines rays)
    × (Canon (Upto width rows k) lines rays → Canon (Upto width others n) lines rays)

-- where a cone holds a vector that is positive at the column,
-- and another cone holds all such vectors of it, it holds those too that are 0 there
abbrev pub PointsDetermine : Type 0
PointsDetermine = (width : ℕ) (rows others : List Row) (column : ℕ) (point v : List ℤ) →
    ConeOf width rows point →
    pos 0 <ℤ cell point column →
    ((p : List ℤ) → pos 0 <ℤ cell p column → ConeOf width rows p → ConeOf width others p) →
    ConeOf width rows v →
    pos 0 ≤ℤ cell v column →
    ConeOf width others v
