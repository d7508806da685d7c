-- What came of the command that runs transition systems.
use Rattle.std.proofs.Common.{ℕ, ◌<◌, List, length}
use Rattle.trans_sys.specs.Systems.{TransitionSystem}
use Rattle.fixpoint.specs.Commands.{fixpoint}
use Rattle.name_table.specs.Table.{Table, HasNoRoomForAll}
use Rattle.line_values.specs.Order.{Passes}

-- a run passes its tests
pub run_passes : {E : Type 0} (table : Table E) (delay : ℕ) (prefix : List ℕ) (s : TransitionSystem) → ¬ (1000000 < delay) → ¬ (HasNoRoomForAll table prefix (length s.initial)) → Passes (fixpoint table delay prefix s).conditions
run_passes table delay prefix s short room =
    (λ k. k, (λ k. k, (λ k. k, (λ k. k, (λ k. k, (short, (λ k. k, (λ k. k, (λ k. k, (λ k. k, (λ k. k, (λ k. k, (room, (λ k. k, tt))))))))))))))
