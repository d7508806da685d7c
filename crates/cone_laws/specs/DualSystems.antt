use Rattle.std.specs.Prelude.{◌≡◌, ℕ, ◌↔◌, List, length, ℤ, pos, ◌≤ℤ◌, All}
use Rattle.row_core.specs.Vectors.{dot}
use Rattle.row_core.specs.Lists.{Row}
pub use Rattle.row_core.specs.Lists.{system_rows}
use Rattle.cone_laws.specs.Cones.{Upto, Spans, Generates}
use Rattle.cone_laws.specs.Canon.{Canon}
use Rattle.cone_laws.specs.Duality.{lines_of, rays_of}
use Rattle.cone_laws.specs.Members.{ConeOf}

-- the list of a system has its lines and its rays
abbrev pub ListOfSystem : Type 0
ListOfSystem = (lines rays : List (List ℤ)) →
    (lines_of (system_rows lines rays) ≡ lines) × (rays_of (system_rows lines rays) ≡ rays)

-- a row is at least 0 on the whole cone exactly where it is 0
-- on the lines and at least 0 on the rays
abbrev pub ValidIsDual : Type 0
ValidIsDual = (width : ℕ) (rows : List Row) (k : ℕ) (lines rays : List (List ℤ)) (a : List ℤ) →
    Generates (Upto width rows k) lines rays →
    length a ≡ width →
    ((v : List ℤ) → Upto width rows k v → pos 0 ≤ℤ dot a v)
    ↔ ConeOf width (system_rows lines rays) a

-- the system of the rows that are valid on a cone admits the cone
abbrev pub SecondOfSecond : Type 0
SecondOfSecond = (width : ℕ) (rows : List Row) (lines rays equalities inequalities : List (List ℤ))
    (v : List ℤ) →
    Generates (ConeOf width rows) lines rays →
    Generates (ConeOf width (system_rows lines rays)) equalities inequalities →
    ConeOf width (system_rows equalities inequalities) v ↔ ConeOf width rows v

-- the system of the rows that are 0 on the lines of a list and at least 0
-- on its rays admits what the list spans
abbrev pub SpannedByTheList : Type 0
SpannedByTheList = (width : ℕ) (vectors : List Row) (equalities inequalities : List (List ℤ))
    (v : List ℤ) →
    All (λ g. length g.0 ≡ width) vectors →
    Generates (ConeOf width vectors) equalities inequalities →
    length v ≡ width →
    Spans (lines_of vectors) (rays_of vectors) v
    ↔ ConeOf width (system_rows equalities inequalities) v

-- each of two canonical systems is that of what the other, as rows, admits
pub record IsDual (width : ℕ) (lines rays equalities inequalities : List (List ℤ)) : Type 0 where
  pub vectors : Canon (ConeOf width (system_rows equalities inequalities)) lines rays
  pub rows : Canon (ConeOf width (system_rows lines rays)) equalities inequalities

-- the systems of a list: its canonical system, and that of the rows valid on what it admits
pub record AreSystemsOf (width : ℕ) (list : List Row)
    (lines rays equalities inequalities : List (List ℤ)) : Type 0 where
  pub first : Canon (ConeOf width list) lines rays
  pub second : Canon (ConeOf width (system_rows lines rays)) equalities inequalities

-- each of the two systems of a list is that of the other,
-- and the second admits what the list admits
abbrev pub SystemsAreDual : Type 0
SystemsAreDual = (width : ℕ) (list : List Row)
    (lines rays equalities inequalities : List (List ℤ)) →
    AreSystemsOf width list lines rays equalities inequalities →
    IsDual width lines rays equalities inequalities
    × ((v : List ℤ) → ConeOf width (system_rows equalities inequalities) v ↔ ConeOf width list v)
