use Rattle.std.specs.Prelude.{◌≡◌, ◌≢◌, ◌↔◌, ◌⊎◌, ℕ, ◌+◌, ◌*◌, ◌/◌, ◌%◌, ◌<◌, ◌≤◌, Bool, List}
use Rattle.std.specs.Prelude.{IsTrue, length, slice_index_or, ℤ, pos}
use Rattle.std.specs.Ordering.{int_eq}
use Rattle.sat_bits.specs.Places.{bit_in, place}

-- the truth value at a row and a column of rows of as many words each, one after another
abbrev pub cell_place : List ℕ → ℕ → ℕ → ℕ → Bool
cell_place cells width row column =
    bit_in (slice_index_or cells (row * width + column / 64) 0) (column % 64)

-- place i is a bit of the word at the index, and the bit is set
pub record IsBitOf (index word i : ℕ) : Type 0 where
  pub at : i / 64 ≡ index
  pub set : IsTrue (bit_in word (i % 64))

-- places of one column became true, at the rows that are named, and no place else changed
pub record IsMarked (width column : ℕ) (IsNamed : ℕ → Type 0) (old new : List ℕ) : Type 0 where
  pub len : length new ≡ length old
  pub marked : (i : ℕ) → IsTrue (cell_place new width i column) ↔
      (IsTrue (cell_place old width i column) ⊎ IsNamed i)
  pub others : (i j : ℕ) → j < width * 64 → j ≢ column →
      cell_place new width i j ≡ cell_place old width i j

-- one column tells of the first so many values whether they are 0, and no other column changed
pub record IsZeroColumn (width column : ℕ) (values : List ℤ) (rows : ℕ)
    (old new : List ℕ) : Type 0 where
  pub len : length new ≡ length old
  pub told : (i : ℕ) → i < rows →
      cell_place new width i column ≡ int_eq (slice_index_or values i (pos 0)) (pos 0)
  pub others : (i j : ℕ) → j < width * 64 → j ≢ column →
      cell_place new width i j ≡ cell_place old width i j

-- the first places of a row are true, so many, and no place else changed
pub record IsFrontFilled (width row count : ℕ) (old new : List ℕ) : Type 0 where
  pub len : length new ≡ length old
  pub front : (j : ℕ) → j < count → IsTrue (cell_place new width row j)
  pub others : (i j : ℕ) → j < width * 64 → (i ≢ row) ⊎ (count ≤ j) →
      cell_place new width i j ≡ cell_place old width i j

-- the places of a row behind so many became true that are named, and no place else changed
pub record IsJoined (width row front : ℕ) (IsNamed : ℕ → Type 0) (old new : List ℕ) : Type 0 where
  pub len : length new ≡ length old
  pub joined : (j : ℕ) → front + j < width * 64 → IsTrue (cell_place new width row (front + j)) ↔
      (IsTrue (cell_place old width row (front + j)) ⊎ IsNamed j)
  pub others : (i p : ℕ) → p < width * 64 → (i ≢ row) ⊎ (p < front) →
      cell_place new width i p ≡ cell_place old width i p

-- so many places of a row are true, those behind are the words', and no other row changed
pub record IsWrittenBehind (width row front : ℕ) (words old new : List ℕ) : Type 0 where
  pub len : length new ≡ length old
  pub front_true : (p : ℕ) → p < front → IsTrue (cell_place new width row p)
  pub behind : (j : ℕ) → front + j < width * 64 →
      cell_place new width row (front + j) ≡ place words j
  pub others : (i p : ℕ) → p < width * 64 → i ≢ row →
      cell_place new width i p ≡ cell_place old width i p
