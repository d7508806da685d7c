use Rattle.std.specs.Prelude.{◌≡◌, ◌≢◌, ℕ, ◌<◌, ◌≤◌, ◌↔◌, Bool, false, not, List, length, map, ℤ, pos, All, Contains, IsTrue, slice_index_or}
use Rattle.std.specs.List.{range_with_len}
use Rattle.flat_rows.specs.Flat.{marked}
use Rattle.row_core.specs.Vectors.{dot}
use Rattle.row_core.specs.Lists.{Row, row_at}
use Rattle.sat_matrix.specs.Tables.{bits_of, IsWithin, IsWithinSome, IsCoveredAmong}
use Rattle.sat_matrix.specs.Counts.{ones}
use Rattle.minimise.specs.FlatRows.{IsZeroOnAll}
use Rattle.minimise.specs.declared.facets.CountedRow.{CountedRow}

-- the second row is 0 on each ray on which the first is
abbrev pub KeepsZeros : List (List ℤ) → List ℤ → List ℤ → Type 0
KeepsZeros rays a b = All (λ y. dot a y ≡ pos 0 → dot b y ≡ pos 0) rays

-- the indices name rows that aren't 0 on all rays, one for each greatest set of zeros
pub record AreFacets (rows : List Row) (rays : List (List ℤ)) (kept : List ℕ) : Type 0 where
  pub within : All (λ i. i < length rows) kept
  pub uneven : All (λ i. ¬ (IsZeroOnAll rays (row_at rows i))) kept
  pub apart : (k m : ℕ) → k < length kept → m < length kept → k ≢ m
      → ¬ (KeepsZeros rays (row_at rows (slice_index_or kept k 0))
      (row_at rows (slice_index_or kept m 0)))
  pub each : (i : ℕ) → i < length rows → ¬ (IsZeroOnAll rays (row_at rows i))
      → (k : ℕ) × (k < length kept)
      × KeepsZeros rays (row_at rows i) (row_at rows (slice_index_or kept k 0))

-- each of the truth values is true
abbrev pub IsFull : List Bool → Type 0
IsFull bits = (j : ℕ) → j < length bits → IsTrue (slice_index_or bits j false)

-- the marks tell which rows of the table are true at each place
pub record TellsFull (rows : List (List Bool)) (marks : List Bool) : Type 0 where
  pub as_many : length marks ≡ length rows
  pub tells : (i : ℕ) → i < length rows
      → IsTrue (slice_index_or marks i false) ↔ IsFull (bits_of rows i)

-- the places of the rows of the table that are true at each place, and those of the others
pub record AreSplit (rows : List (List Bool)) (full others : List ℕ) : Type 0 where
  pub marks : List Bool
  pub tells : TellsFull rows marks
  pub full_are : full ≡ marked marks (range_with_len 0 (length marks))
  pub others_are : others ≡ marked (map not marks) (range_with_len 0 (length marks))

-- the place is that of a row of the table that isn't true everywhere
abbrev pub IsUneven : List (List Bool) → ℕ → Type 0
IsUneven rows p = (p < length rows) × ¬ (IsFull (bits_of rows p))

-- the places are those of the rows of the table that aren't true everywhere
pub record AreUneven (rows : List (List Bool)) (places : List ℕ) : Type 0 where
  pub uneven : All (IsUneven rows) places
  pub each : (i : ℕ) → IsUneven rows i → Contains places i

-- each place is lower than the next
abbrev pub AreRising : List ℕ → Type 0
AreRising places = (k m : ℕ) → k < m → m < length places
    → slice_index_or places k 0 < slice_index_or places m 0

-- the places of rows that aren't true everywhere, of which each is true only where one at the
-- places is, and none before an index only where one at another place is
pub record AreKept (rows : List (List Bool)) (places : List ℕ) (at : ℕ) : Type 0 where
  pub uneven : All (IsUneven rows) places
  pub rising : AreRising places
  pub led : (i : ℕ) → IsUneven rows i → IsWithinSome rows i places
  pub apart : (k : ℕ) → k < at → ¬ (IsCoveredAmong rows (slice_index_or places k 0) places)

-- no row at one of the places is true only where one at another is
abbrev pub AreApart : List (List Bool) → List ℕ → Type 0
AreApart rows places = (k m : ℕ) → k < length places → m < length places → k ≢ m
    → ¬ (IsWithin (bits_of rows (slice_index_or places k 0))
    (bits_of rows (slice_index_or places m 0)))

-- the places name rows that aren't true everywhere, one for each greatest set of true places
pub record AreGreatest (rows : List (List Bool)) (places : List ℕ) : Type 0 where
  pub uneven : All (IsUneven rows) places
  pub apart : AreApart rows places
  pub each : (i : ℕ) → IsUneven rows i → IsWithinSome rows i places

-- a row of the table with the number of its true places
abbrev pub counted_row : List (List Bool) → ℕ → CountedRow
counted_row rows p = record { ones = ones (bits_of rows p); place = p }

-- the row isn't true everywhere, and has so many true places
abbrev pub IsCounted : List (List Bool) → CountedRow → Type 0
IsCounted rows row = IsUneven rows row.place × (row.ones ≡ ones (bits_of rows row.place))

-- no row has more true places than one before it
abbrev pub AreFalling : List CountedRow → Type 0
AreFalling list = (i j : ℕ) (d : CountedRow) → i ≤ j → j < length list
    → (slice_index_or list j d).ones ≤ (slice_index_or list i d).ones

-- the row has at most as many true places as each at the places
abbrev pub IsNoLonger : List (List Bool) → List ℕ → ℕ → Type 0
IsNoLonger rows places row = All (λ p. ones (bits_of rows row) ≤ ones (bits_of rows p)) places
