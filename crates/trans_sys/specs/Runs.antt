-- When no run of a transition system is begun.
use Rattle.std.specs.Prelude.{ℕ, ◌<◌, List}
use Rattle.reply_text.specs.declared.faults.Fault.{Fault}
use Rattle.reply_text.specs.declared.faults.Fault.TheVariants as fault
use Rattle.name_table.specs.Table.{Table, HasNoRoomForAll}

-- the delay is at most 1,000,000, and there is room for the name of each location
abbrev pub run_conditions : {E : Type 0} → Table E → ℕ → List ℕ → ℕ → Fault → Type 0
run_conditions table delay prefix locations fault.OutOfRange = 1000000 < delay
run_conditions table delay prefix locations fault.TooManyNames =
    HasNoRoomForAll table prefix locations
run_conditions table delay prefix locations other = ⊥
