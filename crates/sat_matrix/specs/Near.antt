use Rattle.std.specs.Prelude.{◌≡◌, ℕ, ◌<◌, ◌≤◌, List, length, take, IsTrue}
use Rattle.sat_bits.specs.Places.{place}
use Rattle.sat_bits.specs.Searches.{shared_places}
use Rattle.flat_rows.specs.Flat.{entries_at}
use Rattle.sat_matrix.specs.Tables.{Table}
use Rattle.sat_matrix.specs.CountTests.{CountsDecide}
use Rattle.sat_matrix.specs.Searches.{Shares}
use Rattle.sat_matrix.specs.Pairs.{index_at, AreRising}

-- the numbers of a list from an index on rise, and are below the bound
pub record AreRisingFrom (start bound : ℕ) (list : List ℕ) : Type 0 where
  pub within : (i : ℕ) → start ≤ i → i < length list → index_at list i < bound
  pub increasing : (i j : ℕ) → start ≤ i → i < j → j < length list →
      index_at list i < index_at list j

-- the number is in the list, at an index or behind it
abbrev pub IsFrom : List ℕ → ℕ → ℕ → Type 0
IsFrom list start number = (i : ℕ) × (start ≤ i) × (i < length list) × (index_at list i ≡ number)

-- those numbers of a list from an index on for which something holds were appended to it, in order
pub record HasKept (holds : ℕ → Type 0) (start bound : ℕ) (old new : List ℕ) : Type 0 where
  pub before : take (length old) new ≡ old
  pub rising : AreRisingFrom (length old) bound new
  pub all : (number : ℕ) → IsFrom old start number → holds number → IsFrom new (length old) number

-- a row of words is true wherever a row is that the list names from one position up to another
abbrev pub IsUnionOf : List (List ℕ) → List ℕ → ℕ → ℕ → List ℕ → Type 0
IsUnionOf rows outer from to union = (p c : ℕ) → from ≤ p → p < to →
    IsTrue (place (entries_at rows (index_at outer p)) c) → IsTrue (place union c)

-- the row that the list names at position q shares at least so many true places with another
abbrev pub SharesWords : List (List ℕ) → List ℕ → List ℕ → ℕ → ℕ → Type 0
SharesWords rows union among least q =
    least ≤ shared_places (entries_at rows (index_at among q)) union

-- what a search for adjacent pairs relies on: counts decide, and both sides rise
pub record IsSearch (table : Table) (outer inner : List ℕ) (least : ℕ) : Type 0 where
  pub decide : CountsDecide least table
  pub outer_rises : AreRising (length table.rows) outer
  pub inner_rises : AreRising (length table.rows) inner

-- from an index on a list has, in order, the positions of rays near to an outer ray of a group
pub record IsNear (table : Table) (outer among : List ℕ) (least from to start : ℕ)
    (list : List ℕ) : Type 0 where
  pub rising : AreRisingFrom start (length among) list
  pub all : (p q : ℕ) → from ≤ p → p < to → q < length among →
      Shares table.rows (index_at outer p) among least q → IsFrom list start q
