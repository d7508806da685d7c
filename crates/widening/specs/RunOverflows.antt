use Rattle.std.specs.Prelude.{◌≡◌, ◌⊎◌, ℕ, ◌<◌, List, slice_get, Some}
use Rattle.row_core.specs.declared.errors.Overflow.{Overflow}
use Rattle.poly_pair.specs.Polyhedra.{Polyhedron, HaveSamePoints}
use Rattle.widening.specs.Overflows.{LeavesOnWidening}
use Rattle.widening.specs.Runs.{RunTable, TurnList, IsRound, AreRounds, start}

-- no delay remains at the place of the turn, and the widening of its set by the joined one, which
-- isn't the same, leaves the range
pub record LeavesOnUpdate (turns : TurnList) (k : ℕ) (t : RunTable) (over : Overflow) : Type 0 where
  pub old : Polyhedron
  pub has_old : slice_get t.sets (turns.place k) ≡ Some old
  pub used_up : slice_get t.left (turns.place k) ≡ Some 0
  pub joined : Polyhedron
  pub is_joined : turns.Joins k t.sets joined
  pub differs : ¬ (HaveSamePoints joined old)
  pub leaves : LeavesOnWidening old joined over

-- an overflow of a turn at the table
abbrev pub LeavesInTurn : TurnList → ℕ → RunTable → Overflow → Type 0
LeavesInTurn turns k t over = turns.Leaves k t.sets over ⊎ LeavesOnUpdate turns k t over

-- an overflow of a turn of the round that begins at the table
pub record LeavesInRound (turns : TurnList) (t : RunTable) (over : Overflow) : Type 0 where
  pub index : ℕ
  pub below : index < turns.count
  pub between : RunTable
  pub round : IsRound turns index t between
  pub leaves : LeavesInTurn turns index between over

-- an overflow of a turn of some round of the run
pub record LeavesInRun (turns : TurnList) (initial : List Polyhedron) (delay : ℕ)
    (over : Overflow) : Type 0 where
  pub before : RunTable
  pub rounds : AreRounds turns (start initial delay) before
  pub leaves : LeavesInRound turns before over
