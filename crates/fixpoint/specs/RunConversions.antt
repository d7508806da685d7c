-- What runs of transition systems count and show.
use Rattle.std.specs.Prelude.{ℕ, Result}
use Rattle.row_core.specs.declared.errors.ConvErr.{ConvErr}
use Rattle.trans_sys.specs.Systems.{TransitionSystem}
use Rattle.widening.specs.RunConversions as run
use Rattle.fixpoint.specs.Runs.{turns_of}

-- what a run counts and shows: at most what its turns may
abbrev pub ConvertsRun : {T : Type 0} → TransitionSystem → ℕ → ℕ → ℕ → Result T ConvErr → Type 0
ConvertsRun system delay old new result =
    run.ConvertsRun (turns_of system) system.initial delay old new result
