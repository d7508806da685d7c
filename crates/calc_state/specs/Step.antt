-- The steps of the calculator.
use Rattle.std.specs.Prelude.{◌≡◌, ℕ, List, Result, Ok, Err, All}
use Rattle.row_core.specs.declared.errors.Overflow.{Overflow}
use Rattle.reply_text.specs.declared.faults.Fault.{Fault}
use Rattle.script_text.specs.declared.command.Command.{Command}
use Rattle.script_text.specs.declared.command.Command.TheVariants.{Has, Size, Print, Names, Compare, Isempty, Relation, Bound, Write, Psize, ShapePrint}
use Rattle.script_text.specs.declared.command.Comparison.TheVariants as comparison
use Rattle.line_values.specs.declared.change.Change.TheVariants.{Puts, PutsAll}
use Rattle.line_values.specs.Effects.{lines_of, after as after_of}
use Rattle.line_values.specs.Replies.{Reply, Answered, Refused, Overflows}
use Rattle.line_values.specs.declared.refusal.StepErr.{StepErr}
use Rattle.line_values.specs.declared.refusal.StepErr.TheVariants as err
use Rattle.calc_state.specs.declared.entry.Entry.TheVariants as entry
use Rattle.calc_state.specs.Table.{Table, Change}
use Rattle.line_values.specs.Proper.{IsProper}
use Rattle.calc_state.specs.Entries.{IsKeptEntry}
use Rattle.line_values.specs.Order.{IsFirst, Passes}
use Rattle.line_values.specs.Meaning.{Meaning}
use Rattle.calc_state.specs.Meanings.{meaning}

-- the table after the change
abbrev pub after : Table → Change → Table
after table change = after_of entry.Poly table change

-- what a change puts keeps what its kind keeps
abbrev pub PutsProper : Change → Type 0
PutsProper (Puts name e) = IsKeptEntry e
PutsProper (PutsAll prefix sets) = All IsProper sets.items
PutsProper other = Unit {0}

-- the command is accepted: it does what it means, and these are its lines and the table after it
pub record IsAccepted (m : Meaning Change) (old : Table) (lines : List ℕ)
    (new : Table) : Type 0 where
  pub passes : Passes m.conditions
  pub change : Change
  pub does : m.does change
  pub proper : PutsProper change
  pub lines_are : lines ≡ lines_of change
  pub table : new ≡ after old change

-- the reply to a command with this meaning, and the table after it
abbrev pub Means : Meaning Change → Table → Reply → Table → Type 0
Means m old (Answered lines) new = IsAccepted m old lines new
Means m old (Refused fault) new = IsFirst m.conditions fault × (new ≡ old)
Means m old (Overflows over) new = Passes m.conditions × m.overflows over × (new ≡ old)

-- the reply to a command, and the table after it
abbrev pub Performs : Table → Command → Reply → Table → Type 0
Performs old command reply new = Means (meaning old command) old reply new

-- what was given is such a reply with such a table, or memory ran out and the table is as before
abbrev pub IsDone : Meaning Change → Table → Result (List ℕ) StepErr → Table → Type 0
IsDone m old (Ok lines) new = Means m old (Answered lines) new
IsDone m old (Err (err.Input fault)) new = Means m old (Refused fault) new
IsDone m old (Err (err.Overflow over)) new = Means m old (Overflows over) new
IsDone m old (Err err.Memory) new = new ≡ old

-- the same of a command
abbrev pub GivesCommand : Table → Command → Result (List ℕ) StepErr → Table → Type 0
GivesCommand old command result new = IsDone (meaning old command) old result new

-- the line is refused for this fault, or memory ran out
abbrev pub IsRefusedFor : Fault → Result (List ℕ) StepErr → Type 0
IsRefusedFor fault (Ok lines) = ⊥
IsRefusedFor fault (Err (err.Input f)) = f ≡ fault
IsRefusedFor fault (Err (err.Overflow over)) = ⊥
IsRefusedFor fault (Err err.Memory) = Unit {0}

-- no fault holds of the command
abbrev pub IsFaultless : Table → Command → Type 0
IsFaultless old command = Passes (meaning old command).conditions

-- no list and no pair of the command has an overflow
abbrev pub CannotOverflow : Table → Command → Type 0
CannotOverflow old command = (over : Overflow) → ¬ ((meaning old command).overflows over)

-- the line is accepted, or memory ran out
abbrev pub IsAcceptedUnlessMemory : Result (List ℕ) StepErr → Type 0
IsAcceptedUnlessMemory (Ok lines) = Unit {0}
IsAcceptedUnlessMemory (Err (err.Input fault)) = ⊥
IsAcceptedUnlessMemory (Err (err.Overflow over)) = ⊥
IsAcceptedUnlessMemory (Err err.Memory) = Unit {0}

-- both replies show the same fault, or neither shows one
abbrev pub HaveSameFault : Reply → Reply → Type 0
HaveSameFault (Refused f) (Refused g) = f ≡ g
HaveSameFault (Refused f) other = ⊥
HaveSameFault (Answered lines) (Refused g) = ⊥
HaveSameFault (Overflows over) (Refused g) = ⊥
HaveSameFault reply other = Unit {0}

-- what another calculator may reply there: the same fault, or no fault; memory may run out
abbrev pub Agrees : Result (List ℕ) StepErr → Reply → Type 0
Agrees (Ok lines) reply = HaveSameFault (Answered lines) reply
Agrees (Err (err.Input f)) reply = HaveSameFault (Refused f) reply
Agrees (Err (err.Overflow over)) reply = HaveSameFault (Overflows over) reply
Agrees (Err err.Memory) reply = Unit {0}

-- the command only asks, and nothing is converted
abbrev pub IsQuestion : Command → Type 0
IsQuestion (Has p part) = Unit {0}
IsQuestion (Size p) = Unit {0}
IsQuestion (Print side p) = Unit {0}
IsQuestion Names = Unit {0}
IsQuestion (Compare comparison.Contains p q) = Unit {0}
IsQuestion (Compare comparison.Equal p q) = Unit {0}
IsQuestion (Isempty p) = Unit {0}
IsQuestion (Relation p part) = Unit {0}
IsQuestion (Bound extremum p part) = Unit {0}
IsQuestion (Write p form) = Unit {0}
IsQuestion (Psize s) = Unit {0}
IsQuestion (ShapePrint s) = Unit {0}
IsQuestion other = ⊥

-- the reply is what was given, or memory ran out
abbrev pub IsGiven : Result (List ℕ) StepErr → Reply → Type 0
IsGiven (Ok lines) reply = reply ≡ Answered lines
IsGiven (Err (err.Input fault)) reply = reply ≡ Refused fault
IsGiven (Err (err.Overflow over)) reply = reply ≡ Overflows over
IsGiven (Err err.Memory) reply = Unit {0}
