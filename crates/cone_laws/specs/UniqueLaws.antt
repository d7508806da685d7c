use Rattle.std.specs.Prelude.{◌≡◌, ℕ, List, length, ℤ, IsPermutation}
use Rattle.std.specs.Ordering.{MatchOrdering, int_cmp}
use Rattle.std.specs.Cmp.Lexicographic.{slice_cmp}
use Rattle.row_core.specs.Content.{IsPrimitiveOf}
use Rattle.row_core.specs.Lists.{Row}
use Rattle.row_core.specs.Orders.{IsGreater, AreInOrder}
use Rattle.cone_laws.specs.Cones.{Upto}
use Rattle.cone_laws.specs.Canon.{IsSystem, Canon}

-- no vector is a positive multiple of two primitive ones
abbrev pub HasOnePrimitive : Type 0
HasOnePrimitive = (old a b : List ℤ) → IsPrimitiveOf old a → IsPrimitiveOf old b → a ≡ b

-- the first k rows of the one list admit the vectors that the first n of the other admit
pub record AdmitSame (width : ℕ) (rows : List Row) (k : ℕ) (others : List Row)
    (n : ℕ) : Type 0 where
  pub first : (v : List ℤ) → Upto width rows k v → Upto width others n v
  pub second : (v : List ℤ) → Upto width others n v → Upto width rows k v

-- systems of one cone have the same lines, and the same rays but for their order
abbrev pub SystemIsUnique : Type 0
SystemIsUnique = (width : ℕ) (rows : List Row) (k : ℕ) (others : List Row) (n : ℕ)
    (lines rays other_lines other_rays : List (List ℤ)) →
    AdmitSame width rows k others n →
    IsSystem (Upto width rows k) lines rays →
    IsSystem (Upto width others n) other_lines other_rays →
    (lines ≡ other_lines) × IsPermutation rays other_rays

-- a cone has one canonical system
abbrev pub CanonIsUnique : Type 0
CanonIsUnique = (width : ℕ) (rows : List Row) (k : ℕ) (others : List Row) (n : ℕ)
    (lines rays other_lines other_rays : List (List ℤ)) →
    AdmitSame width rows k others n →
    Canon (Upto width rows k) lines rays →
    Canon (Upto width others n) other_lines other_rays →
    (lines ≡ other_lines) × (rays ≡ other_rays)

-- in each order of its rays a system is a system
abbrev pub OrderKeepsSystem : Type 0
OrderKeepsSystem = (width : ℕ) (rows : List Row) (k : ℕ) (lines rays others : List (List ℤ)) →
    IsSystem (Upto width rows k) lines rays →
    IsPermutation rays others →
    IsSystem (Upto width rows k) lines others

-- a system with its rays in descending order is the canonical system
abbrev pub SortedSystemIsCanon : Type 0
SortedSystemIsCanon = (width : ℕ) (rows : List Row) (k : ℕ) (lines rays sorted : List (List ℤ)) →
    IsSystem (Upto width rows k) lines rays →
    IsPermutation rays sorted →
    AreInOrder sorted →
    Canon (Upto width rows k) lines sorted

-- comparing two vectors of one width entry by entry from the first column
-- tells which of them is greater
abbrev pub OrderIsLexicographic : Type 0
OrderIsLexicographic = (u v : List ℤ) →
    length u ≡ length v →
    MatchOrdering (slice_cmp int_cmp u v) (IsGreater v u) (u ≡ v) (IsGreater u v)
