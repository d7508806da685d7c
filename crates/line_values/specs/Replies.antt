-- What a line, a file or a number is answered.
use Rattle.std.specs.Prelude.{ℕ, List, Bool, true, false, Result, Ok, Err}
use Rattle.row_core.specs.declared.errors.Overflow.{Overflow}
use Rattle.reply_text.specs.declared.faults.Fault.{Fault}
use Rattle.line_values.specs.declared.refusal.StepErr.{StepErr}
use Rattle.line_values.specs.declared.refusal.StepErr.TheVariants as err

-- an answer, a fault or an overflow
pub data Reply : Type 0 where
  -- it is accepted, and these whole lines are written
  Answered : List ℕ → Reply
  -- it is refused for this fault
  Refused : Fault → Reply
  -- its arithmetic leaves the range
  Overflows : Overflow → Reply

-- the reply is neither a fault nor an overflow
abbrev pub is_answer : Reply → Bool
is_answer (Answered text) = true
is_answer (Refused fault) = false
is_answer (Overflows over) = false

-- what was given is a reply with this property, or memory ran out
abbrev pub GivesReply : (Reply → Type 0) → Result (List ℕ) StepErr → Type 0
GivesReply Is (Ok text) = Is (Answered text)
GivesReply Is (Err (err.Input fault)) = Is (Refused fault)
GivesReply Is (Err (err.Overflow over)) = Is (Overflows over)
GivesReply Is (Err err.Memory) = Unit {0}
