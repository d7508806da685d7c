use Rattle.std.specs.Prelude.{◌≡◌, ℕ, List, length, not, map, filter, ℤ, pos, ◌≤ℤ◌, All}
use Rattle.row_core.specs.Vectors.{dot}
use Rattle.row_core.specs.Lists.{Row}
use Rattle.cone_laws.specs.Cones.{Upto, Spans}

-- the vectors of the list that are marked as lines
abbrev pub lines_of : List Row → List (List ℤ)
lines_of vectors = map (λ g. g.0) (filter (λ g. g.1) vectors)

-- the vectors of the list that aren't
abbrev pub rays_of : List Row → List (List ℤ)
rays_of vectors = map (λ g. g.0) (filter (λ g. not g.1) vectors)

-- every row that is 0 on the lines of the list and at least 0
-- on its rays is at least 0 on the vector
abbrev pub IsAdmitted : ℕ → List Row → List ℤ → Type 0
IsAdmitted width vectors v = (a : List ℤ) → Upto width vectors (length vectors) a → pos 0 ≤ℤ dot a v

-- what all such rows admit is spanned: the bipolar law
abbrev pub AdmittedIsSpanned : Type 0
AdmittedIsSpanned = (width : ℕ) (vectors : List Row) (v : List ℤ) →
    All (λ g. length g.0 ≡ width) vectors →
    length v ≡ width →
    IsAdmitted width vectors v →
    Spans (lines_of vectors) (rays_of vectors) v

-- what is spanned is admitted by all such rows
abbrev pub SpannedIsAdmitted : Type 0
SpannedIsAdmitted = (width : ℕ) (vectors : List Row) (v : List ℤ) →
    Spans (lines_of vectors) (rays_of vectors) v →
    IsAdmitted width vectors v
