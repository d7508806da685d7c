-- Runs over lines.
use Rattle.std.specs.Prelude.{◌≡◌, ℕ, List, [], ◌∷◌, true, Option, None, Some}
use Rattle.reply_text.specs.declared.faults.Fault.TheVariants as fault
use Rattle.open_files.specs.OpenFiles.{OpenFile}
use Rattle.calc_state.specs.State.{State}
use Rattle.line_values.specs.Replies.{Reply, Refused, is_answer}
use Rattle.calc_state.specs.Line.{Step, MustSucceed}

-- the calculator may give these replies to these lines, and go from the old state to the new
abbrev pub Run : State → List (List ℕ) → List Reply → State → Type 0
Run old [] [] new = new ≡ old
Run old (line ∷ lines) (reply ∷ replies) new =
    (mid : State) × Step old line reply mid × Run mid lines replies new
Run old [] (reply ∷ replies) new = ⊥
Run old (line ∷ lines) [] new = ⊥

-- each line of the run that must succeed is answered
abbrev pub IsComplete : (old : State) (lines : List (List ℕ)) (replies : List Reply) (new : State)
    → Run old lines replies new → Type 0
IsComplete old [] [] new run = Unit {0}
IsComplete old (line ∷ lines) (reply ∷ replies) new (mid, step, run) =
    (MustSucceed old line → is_answer reply ≡ true) × IsComplete mid lines replies new run
IsComplete old [] (reply ∷ replies) new run = ⊥
IsComplete old (line ∷ lines) [] new run = ⊥

-- in each run each line that must succeed is answered
abbrev pub RunsAreComplete : Type 0
RunsAreComplete =
    (old : State) (lines : List (List ℕ)) (replies : List Reply) (new : State)
    (run : Run old lines replies new) → IsComplete old lines replies new run

-- a file that is open is cut off by the end of the script
abbrev pub cut_off : Option OpenFile → List Reply
cut_off None = []
cut_off (Some file) = Refused fault.Truncated ∷ []

-- the reply to the end of a script
abbrev pub at_end : State → List Reply
at_end state = cut_off state.file
