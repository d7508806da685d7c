-- What runs of turns count and show.
use Rattle.std.specs.Prelude.{◌≡◌, ◌≢◌, ◌⊎◌, ℕ, ◌+◌, ◌<◌, List, slice_get, Option, Some, None, Result}
use Rattle.row_core.specs.declared.errors.Overflow.{Overflow}
use Rattle.row_core.specs.declared.errors.ConvErr.{ConvErr}
use Rattle.poly_pair.specs.Polyhedra.{Polyhedron, HaveSamePoints}
use Rattle.poly_pair.specs.Work.{conv_overflow, overflow_in}
use Rattle.widening.specs.Updates.{IsUpdateConversion}
use Rattle.widening.specs.Runs.{RunTable, TurnList, IsTurn, start}

-- ---- what a turn costs and shows
-- the update of its place by the joined set, which isn't the same
pub record IsPlaceConversion (turns : TurnList) (k : ℕ) (t : RunTable) (old new : ℕ)
    (over : Option Overflow) : Type 0 where
  pub set : Polyhedron
  pub left : ℕ
  pub has_set : slice_get t.sets (turns.place k) ≡ Some set
  pub has_left : slice_get t.left (turns.place k) ≡ Some left
  pub joined : Polyhedron
  pub is_joined : turns.Joins k t.sets joined
  pub differs : ¬ (HaveSamePoints joined set)
  pub conversion : IsUpdateConversion left set joined old new over

-- finding the joined set, and then this update
pub record AreFoundAndUpdated (turns : TurnList) (k : ℕ) (t : RunTable) (old new : ℕ)
    (over : Option Overflow) : Type 0 where
  pub between : ℕ
  pub finding : turns.Counts k t.sets old between None
  pub update : IsPlaceConversion turns k t between new over

-- the first alone, or both
abbrev pub IsTurnConversion : TurnList → ℕ → RunTable → ℕ → ℕ → Option Overflow → Type 0
IsTurnConversion turns k t old new over =
    turns.Counts k t.sets old new over ⊎ AreFoundAndUpdated turns k t old new over

-- a call that takes a turn
abbrev pub ConvertsTurn : {T : Type 0} → TurnList → ℕ → RunTable → ℕ → ℕ → Result T ConvErr → Type 0
ConvertsTurn turns k t old new result =
    IsTurnConversion turns k t old new (overflow_in conv_overflow result)

-- ---- rounds
-- the first k turns in order lead from one table to the next and count from the one number to the
-- other, each what a turn there may count
pub data IsCountedRound (turns : TurnList) : ℕ → RunTable → RunTable → ℕ → ℕ → Type 0 where
  begins : {t : RunTable} {n : ℕ} → IsCountedRound turns 0 t t n n
  takes : {k : ℕ} {t between after : RunTable} {old counted new : ℕ}
      → IsCountedRound turns k t between old counted → k < turns.count
      → IsTurn turns k between after → IsTurnConversion turns k between counted new None
      → IsCountedRound turns (k + 1) t after old new

-- the first turns of a round, and then none, or one that isn't finished
pub record IsBrokenRound (turns : TurnList) (t : RunTable) (old new : ℕ)
    (over : Option Overflow) : Type 0 where
  pub index : ℕ
  pub between : RunTable
  pub counted : ℕ
  pub round : IsCountedRound turns index t between old counted
  pub rest : ((new ≡ counted) × (over ≡ None))
      ⊎ ((index < turns.count) × IsTurnConversion turns index between counted new over)

-- whole rounds, each of which changes the table, lead from one to another and count so
pub data AreCountedRounds (turns : TurnList) : RunTable → RunTable → ℕ → ℕ → Type 0 where
  none : {t : RunTable} {n : ℕ} → AreCountedRounds turns t t n n
  more : {t between after : RunTable} {old counted new : ℕ}
      → AreCountedRounds turns t between old counted
      → IsCountedRound turns turns.count between after counted new → after ≢ between
      → AreCountedRounds turns t after old new

-- ---- runs
-- what a run costs and shows: its rounds that change the table, and then one more, or some first
-- turns of one
pub record IsRunConversion (turns : TurnList) (initial : List Polyhedron) (delay old new : ℕ)
    (over : Option Overflow) : Type 0 where
  pub before : RunTable
  pub counted : ℕ
  pub rounds : AreCountedRounds turns (start initial delay) before old counted
  pub last : IsBrokenRound turns before counted new over

-- a call that makes this run
abbrev pub ConvertsRun : {T : Type 0} → TurnList → List Polyhedron → ℕ → ℕ → ℕ → Result T ConvErr
    → Type 0
ConvertsRun turns initial delay old new result =
    IsRunConversion turns initial delay old new (overflow_in conv_overflow result)
