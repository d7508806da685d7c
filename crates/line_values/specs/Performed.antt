-- What came of a command.
use Rattle.std.specs.Prelude.{Result, Ok, Err}
use Rattle.line_values.specs.declared.refusal.StepErr.{StepErr}
use Rattle.line_values.specs.declared.refusal.StepErr.TheVariants as err
use Rattle.line_values.specs.Order.{IsFirst, Passes}
use Rattle.line_values.specs.Meaning.{Meaning}

-- what came of a command with this meaning
abbrev pub IsPerformed : {A : Type 0} → Meaning A → Result A StepErr → Type 0
IsPerformed m (Ok answer) = Passes m.conditions × m.does answer
IsPerformed m (Err (err.Input fault)) = IsFirst m.conditions fault
IsPerformed m (Err (err.Overflow over)) = Passes m.conditions × m.overflows over
IsPerformed m (Err err.Memory) = Unit {0}
