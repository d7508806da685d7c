use Rattle.std.specs.Prelude.{ℕ}
use Rattle.loop_bounds.specs.declared.status.Status.{Status}
use Rattle.loop_bounds.specs.declared.status.Status.TheVariants.{Done, Refused, ReadFault, WriteFault, Memory, InputTooLong}

-- the program's exit code
abbrev pub code_of : Status → ℕ
code_of Done = 0
code_of Refused = 1
code_of ReadFault = 3
code_of WriteFault = 4
code_of Memory = 5
code_of InputTooLong = 6
