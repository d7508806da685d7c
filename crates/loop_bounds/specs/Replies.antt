-- Replies, and what a call of the program comes to.
use Rattle.std.specs.Prelude.{◌≡◌, ◌⊎◌, ◌↔◌, ℕ, ◌<◌, ◌≤◌, List, ◌++◌, length, take, codes, decimal, Option, Bool, true, false}
use Rattle.std.specs.Io.KnownBytes.{append_known, IsAtEnd}
use Rattle.row_core.specs.declared.errors.Overflow.{Overflow}
use Rattle.cons_sys.specs.Constraints.{Constraints}
use Rattle.reply_text.specs.declared.faults.Fault.{Fault}
use Rattle.reply_text.specs.declared.faults.ReadErr.TheVariants.{Input}
use Rattle.reply_text.specs.Faults.{fault_text}
use Rattle.reply_text.specs.Overflows.{overflow_text}
use Rattle.term_text.specs.Systems.{IsCons}
use Rattle.expr_text.specs.Printed.{constraints_text}
use Rattle.poly_io.specs.declared.line_reader.TheConstants.{INPUT_LIMIT}
use Rattle.loop_bounds.specs.declared.status.Status.{Status}
use Rattle.loop_bounds.specs.declared.status.Status.TheVariants.{Done, Refused, ReadFault, WriteFault, Memory, InputTooLong}
use Rattle.loop_bounds.specs.declared.reading.LoopErr.{LoopErr}
use Rattle.loop_analysis.specs.Loops.{WhileLoop}
use Rattle.loop_analysis.specs.Runs.{HoldAtHead, HoldBehind}
use Rattle.loop_analysis.specs.Analysis.{AreBoundsOf, LeavesInAnalysis}
use Rattle.loop_bounds.specs.Reading.{Spells, IsTextRefused}

-- ---- texts
abbrev pub report_text : Constraints → Constraints → List ℕ
report_text head behind =
    codes "head " ++ constraints_text head ++ codes "\nbehind " ++ constraints_text behind
    ++ codes "\n"

-- the number of the line and its fault
abbrev pub IsRefusalText : LoopErr → List ℕ → Type 0
IsRefusalText refused text =
    (fault : Fault) × (refused.cause ≡ Input fault)
    × (text ≡ codes "line " ++ decimal refused.line ++ codes " " ++ fault_text fault ++ codes "\n")

abbrev pub overflow_line : Overflow → List ℕ
overflow_line over = overflow_text over ++ codes "\n"

-- ---- replies
-- the text of the constraints is read as these constraints alone
abbrev pub IsReadAs : ℕ → Constraints → Type 0
IsReadAs dim cs = (read : Constraints) → IsCons dim (constraints_text cs) read ↔ (read ≡ cs)

-- the text spells a loop, and what is written satisfies each run of it: its first constraints hold
-- at each state that the loop comes to, and its second ones at each state behind the loop; they are
-- the bounds of what the analysis finds
pub record IsReport (text reply : List ℕ) : Type 0 where
  pub program : WhileLoop
  pub spelled : Spells text program
  pub head : Constraints
  pub behind : Constraints
  pub written : reply ≡ report_text head behind
  pub head_read : IsReadAs program.dim head
  pub behind_read : IsReadAs program.dim behind
  pub at_head : HoldAtHead program head
  pub at_behind : HoldBehind program behind
  pub exact : AreBoundsOf program (record { head = head; behind = behind })

-- the line that is refused
pub record IsRefusal (text reply : List ℕ) : Type 0 where
  pub refused : LoopErr
  pub is_refused : IsTextRefused text refused
  pub written : IsRefusalText refused reply

-- an overflow of the analysis
pub record IsOverflow (text reply : List ℕ) : Type 0 where
  pub program : WhileLoop
  pub spelled : Spells text program
  pub over : Overflow
  pub leaves : LeavesInAnalysis program over
  pub written : reply ≡ overflow_line over

-- the reply to a text; whether it gives bounds
abbrev pub IsReply : List ℕ → List ℕ → Bool → Type 0
IsReply text reply true = IsReport text reply
IsReply text reply false = IsRefusal text reply ⊎ IsOverflow text reply

-- ---- calls
-- behind what was held stands the reply
pub record Writes (text : List ℕ) (found : Bool) (old new : Option (List ℕ)) : Type 0 where
  pub reply : List ℕ
  pub is_reply : IsReply text reply found
  pub held : new ≡ append_known old reply

-- or the front of one
pub record WritesFront (text : List ℕ) (old new : Option (List ℕ)) : Type 0 where
  pub reply : List ℕ
  pub found : Bool
  pub is_reply : IsReply text reply found
  pub count : ℕ
  pub held : new ≡ append_known old (take count reply)

-- what a call comes to, after the source gave these bytes and now has those left
abbrev pub Outcome : List ℕ → Option (List ℕ) → Option (List ℕ) → Option (List ℕ) → Status → Type 0
Outcome given left old new Done =
    (length given ≤ INPUT_LIMIT) × IsAtEnd left × Writes given true old new
Outcome given left old new Refused =
    (length given ≤ INPUT_LIMIT) × IsAtEnd left × Writes given false old new
Outcome given left old new ReadFault = (length given ≤ INPUT_LIMIT) × (new ≡ old)
Outcome given left old new WriteFault = (length given ≤ INPUT_LIMIT) × WritesFront given old new
Outcome given left old new Memory =
    (length given ≤ INPUT_LIMIT) × ((new ≡ old) ⊎ WritesFront given old new)
Outcome given left old new InputTooLong = (INPUT_LIMIT < length given) × (new ≡ old)
