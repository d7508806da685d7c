-- Turns that would leave the table as it is, and those that are due.
use Rattle.std.specs.Prelude.{◌≡◌, ◌≢◌, ℕ, List, length, slice_get, Some, Bool, false}
use Rattle.widening.specs.Runs.{RunTable, TurnList, IsTurn}
use Rattle.widening.specs.RunLaws.{ReadsFrom}

-- a mark for each turn; one that isn't due leaves the table as it is
pub record AreSettled (turns : TurnList) (t : RunTable) (due : List Bool) : Type 0 where
  pub as_many : length due ≡ turns.count
  pub settled : (k : ℕ) → slice_get due k ≡ Some false → IsTurn turns k t t

-- the turn reads the set of another place
pub record IsReadElsewhere (turns : TurnList) (k place : ℕ) : Type 0 where
  pub source : ℕ
  pub reads : ReadsFrom turns k source
  pub elsewhere : source ≢ place

-- marks that are still not due are of turns that read no set of the place
pub record AreMadeDue (turns : TurnList) (place : ℕ) (old new : List Bool) : Type 0 where
  pub as_many : length new ≡ length old
  pub closed : (k : ℕ) → slice_get new k ≡ Some false → slice_get old k ≡ Some false
  pub elsewhere : (k : ℕ) → slice_get new k ≡ Some false → IsReadElsewhere turns k place
