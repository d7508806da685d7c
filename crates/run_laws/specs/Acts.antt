-- What a run accepts.
use Rattle.std.specs.Prelude.{◌≡◌, ◌⊎◌, ℕ, List, [], ◌∷◌, map, Option, None, Some}
use Rattle.cdd_reading.specs.Files.{IsEnd}
use Rattle.script_text.specs.Line.{Spells}
use Rattle.script_text.specs.declared.command.Command.{Command}
use Rattle.open_files.specs.OpenFiles.{OpenFile, with_line}
use Rattle.calc_state.specs.State.{opens}
use Rattle.line_values.specs.Replies.{Reply, Answered, Refused, Overflows}

-- what is accepted: a command, or a whole file, with its last line
pub data Act : Type 0 where
  Did : Command → Act
  Took : OpenFile → Act

-- with the answer to it
pub record Accepted : Type 0 where
  pub act : Act
  pub answer : List ℕ

abbrev pub did : Command → List ℕ → Accepted
did c text = record { act = Did c; answer = text }

abbrev pub took : OpenFile → List ℕ → Accepted
took file text = record { act = Took file; answer = text }

abbrev pub acts : List Accepted → List Act
acts all = map (λ a. a.act) all

-- from a file that is open, if any, and behind the earlier ones: what the answered lines come to,
-- the last one first; a refused line is passed over, and no file is open behind it
abbrev pub AreAccepted :
    Option OpenFile → List Accepted → List (List ℕ) → List Reply → List Accepted → Type 0
AreAccepted file earlier [] [] all = all ≡ earlier
AreAccepted None earlier (line ∷ lines) (Answered text ∷ replies) all =
    (c : Command) × Spells line c × AreAccepted (opens c) (did c text ∷ earlier) lines replies all
AreAccepted (Some file) earlier (line ∷ lines) (Answered text ∷ replies) all =
    (¬ (IsEnd line) × AreAccepted (Some (with_line file line)) earlier lines replies all)
    ⊎ (IsEnd line × AreAccepted None (took (with_line file line) text ∷ earlier) lines replies all)
AreAccepted file earlier (line ∷ lines) (Refused fault ∷ replies) all =
    AreAccepted None earlier lines replies all
AreAccepted file earlier (line ∷ lines) (Overflows over ∷ replies) all =
    AreAccepted None earlier lines replies all
AreAccepted file earlier [] (reply ∷ replies) all = ⊥
AreAccepted file earlier (line ∷ lines) [] all = ⊥
