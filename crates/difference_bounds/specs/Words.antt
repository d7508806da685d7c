-- Bounds as words of 64 bits.
use Rattle.std.specs.Prelude.{◌≡◌, ◌⊎◌, ℕ, ◌^◌, ◌<◌, List, [], ◌∷◌, length, ℤ, pos, neg_ℤ, ◌<ℤ◌, ◌≤ℤ◌, int_lt, cond, ⊤, Option, Some, None, true, false, Bool, get_or, slice_index_or}
use Rattle.difference_bounds.specs.declared.fraction.Fraction.{Fraction}
use Rattle.difference_bounds.specs.Fractions.{IsBelow}
use Rattle.difference_bounds.specs.Walks.{Bound}
use Rattle.difference_bounds.specs.Tables.{Table, IsTable}
use Rattle.difference_bounds.specs.Laws.{IsRelaxed, IsCovered}
use Rattle.difference_bounds.specs.declared.words.Outcome.{Outcome}
use Rattle.difference_bounds.specs.declared.words.Outcome.TheVariants.{Stays, Falls, Unknown}

-- the word of no bound
abbrev pub absent : ℤ
absent = pos (2 ^ 62)

-- the word of a bound that has none of its own
abbrev pub other : ℤ
other = neg_ℤ (pos (2 ^ 62))

-- the number is below 2^60 in size
pub record IsShort (n : ℤ) : Type 0 where
  pub least : neg_ℤ (pos (2 ^ 60)) <ℤ n
  pub most : n <ℤ pos (2 ^ 60)

-- the whole number
abbrev pub whole : ℤ → Fraction
whole n = record { num = n; den = pos 1 }

-- the word of a bound: a short whole number is its own
abbrev pub IsWord : Bound → ℤ → Type 0
IsWord None w = w ≡ absent
IsWord (Some f) w = (IsShort w × (f ≡ whole w)) ⊎ (w ≡ other)

-- no word is below that of other bounds or above that of none
pub record IsWithinWords (w : ℤ) : Type 0 where
  pub least : other ≤ℤ w
  pub most : w ≤ℤ absent

-- each cell has its word
pub record AreWords (cells : List Bound) (words : List ℤ) : Type 0 where
  pub full : length words ≡ length cells
  pub each : (q : ℕ) → q < length cells
      → IsWord (slice_index_or cells q None) (get_or words q (pos 0))

-- ---- what a table keeps
-- the word is that of no bound or of a short whole number
abbrev pub IsTold : ℤ → Type 0
IsTold w = (w ≡ absent) ⊎ IsShort w

-- the bound that such a word tells
abbrev pub told : ℤ → Bound
told w = cond (int_lt w absent) (Some (whole w)) None

-- the bound of a cell: what its word tells, or else the one that is kept
abbrev pub kept : ℤ → Bound → Bound
kept w b = cond (int_lt other w) (told w) b

-- the bounds of the cells, by their words and the bounds that are kept
abbrev pub cells_of : List ℤ → List Bound → List Bound
cells_of [] bs = []
cells_of (w ∷ ws) [] = kept w None ∷ cells_of ws []
cells_of (w ∷ ws) (b ∷ bs) = kept w b ∷ cells_of ws bs

-- bounds are kept for none of the cells, or each of them has room for one
abbrev pub IsRoom : ℕ → List Bound → Type 0
IsRoom n bs = (length bs ≡ 0) ⊎ (length bs ≡ n)

-- a table, the words of its cells and the bounds that are kept
pub record IsStored (t : Table) (words : List ℤ) (bounds : List Bound) : Type 0 where
  pub table : IsTable t
  pub worded : AreWords t.cells words
  pub room : IsRoom (length words) bounds

-- ---- steps
-- the bound stays, or falls to a short whole number, where it is lowered to the sum of two others
abbrev pub StepsTo : Bound → Bound → Bound → Outcome → Type 0
StepsTo a b c Stays = IsRelaxed a b c a
StepsTo a b c (Falls n) = IsRelaxed a b c (Some (whole n)) × IsShort n
StepsTo a b c Unknown = ⊤

-- so for all bounds of the words
abbrev pub IsStep : ℤ → ℤ → ℤ → Outcome → Type 0
IsStep x y z r = (a b c : Bound) → IsWord a x → IsWord b y → IsWord c z → StepsTo a b c r

-- ---- comparisons
-- the first bound is below the second: none is above all
abbrev pub IsBoundBelow : Bound → Bound → Type 0
IsBoundBelow None b = ⊥
IsBoundBelow (Some x) None = ⊤
IsBoundBelow (Some x) (Some y) = IsBelow x y

-- whether it is, where that is known
abbrev pub ComparesAs : Bound → Bound → Option Bool → Type 0
ComparesAs a b None = ⊤
ComparesAs a b (Some true) = IsBoundBelow a b
ComparesAs a b (Some false) = ¬ (IsBoundBelow a b)

-- so for all bounds of the words
abbrev pub IsComparison : ℤ → ℤ → Option Bool → Type 0
IsComparison x y r = (a b : Bound) → IsWord a x → IsWord b y → ComparesAs a b r

-- the second bound is at most the first, for all bounds of the words
abbrev pub IsCoveredWord : ℤ → ℤ → Type 0
IsCoveredWord x y = (a b : Bound) → IsWord a x → IsWord b y → IsCovered a b

-- so at each place of two lists
abbrev pub AllCovered : List ℤ → List ℤ → Type 0
AllCovered xs ys = (q : ℕ) → q < length xs
    → IsCoveredWord (get_or xs q (pos 0)) (get_or ys q (pos 0))

-- ---- the greater words
-- the greater of two words
abbrev pub IsRaised : ℤ → ℤ → ℤ → Type 0
IsRaised x y z = ((x <ℤ y) × (z ≡ y)) ⊎ (¬ (x <ℤ y) × (z ≡ x))

-- so at each place of two lists
abbrev pub AreRaised : List ℤ → List ℤ → List ℤ → Type 0
AreRaised xs ys zs = (q : ℕ) → q < length xs
    → IsRaised (get_or xs q (pos 0)) (get_or ys q (pos 0)) (get_or zs q (pos 0))
