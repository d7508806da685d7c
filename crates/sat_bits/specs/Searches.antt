use Rattle.std.specs.Prelude.{◌≢◌, ℕ, ◌*◌, ◌<◌, ◌≤◌, ◌&&◌, List, length, take, drop}
use Rattle.std.specs.Prelude.{slice_index_or, bit_and}
use Rattle.std.specs.List.{range_with_len, count_by}
use Rattle.sat_bits.specs.Places.{place, IsSubsetOfAnd}

-- the words of row i of rows of as many words each, one after another
abbrev pub row_words : List ℕ → ℕ → ℕ → List ℕ
row_words cells width i = take width (drop (i * width) cells)

-- word k has a bit that both rows have
abbrev pub HaveCommonBit : List ℕ → List ℕ → ℕ → Type 0
HaveCommonBit a b k = bit_and (slice_index_or a k 0) (slice_index_or b k 0) ≢ 0

-- some row of so many is another than i and j
abbrev pub HasOtherRow : ℕ → ℕ → ℕ → Type 0
HasOtherRow rows i j = (k : ℕ) × (k < rows) × (k ≢ i) × (k ≢ j)

-- row k of so many is another row than i and j, and has each bit that both have
pub record IsThirdRow (cells : List ℕ) (width rows i j k : ℕ) : Type 0 where
  pub row : k < rows
  pub not_first : k ≢ i
  pub not_second : k ≢ j
  pub covers :
      IsSubsetOfAnd (row_words cells width i) (row_words cells width j) (row_words cells width k)

-- some row other than i and j has each bit that both have
abbrev pub HasThirdRow : List ℕ → ℕ → ℕ → ℕ → ℕ → Type 0
HasThirdRow cells width rows i j = (k : ℕ) × IsThirdRow cells width rows i j k

-- the row that the list names at position q has each bit of row i
abbrev pub IsWithinNamed : List ℕ → ℕ → ℕ → List ℕ → ℕ → Type 0
IsWithinNamed cells width i among q =
    IsSubsetOfAnd (row_words cells width i) (row_words cells width i)
    (row_words cells width (slice_index_or among q 0))

-- some row that the list names has each bit of row i
abbrev pub IsWithinSome : List ℕ → ℕ → ℕ → List ℕ → Type 0
IsWithinSome cells width i among =
    (q : ℕ) × (q < length among) × IsWithinNamed cells width i among q

-- the row that the list names at position q is another than row i, and has each bit of it
abbrev pub IsCoveringRow : List ℕ → ℕ → ℕ → List ℕ → ℕ → Type 0
IsCoveringRow cells width i among q =
    (slice_index_or among q 0 ≢ i) × IsWithinNamed cells width i among q

-- another row that the list names has each bit of row i
abbrev pub HasCoveringRow : List ℕ → ℕ → ℕ → List ℕ → Type 0
HasCoveringRow cells width i among =
    (q : ℕ) × (q < length among) × IsCoveringRow cells width i among q

-- next is the first number from one on at which something holds, or the size where there is none
pub record IsFirstFrom (holds : ℕ → Type 0) (from size next : ℕ) : Type 0 where
  pub behind : from ≤ next
  pub within : next ≤ size
  pub before : (q : ℕ) → from ≤ q → q < next → ¬ (holds q)
  pub at : next < size → holds next

-- how many places are true in both of two rows of words
abbrev pub shared_places : List ℕ → List ℕ → ℕ
shared_places a b = count_by (λ i. place a i && place b i) (range_with_len 0 (length a * 64))

-- how many places are true in both of two rows of as many words each, one after another
abbrev pub shared_by : List ℕ → ℕ → ℕ → ℕ → ℕ
shared_by cells width i j = shared_places (row_words cells width i) (row_words cells width j)

-- row i shares at least so many true places with the row that the list names at position q
abbrev pub SharesPlaces : List ℕ → ℕ → ℕ → List ℕ → ℕ → ℕ → Type 0
SharesPlaces cells width i among least q =
    least ≤ shared_by cells width i (slice_index_or among q 0)
