-- What holds of what a run accepts, line by line.
use Rattle.std.proofs.Common.{◌≡◌, ℕ, List, [], ◌∷◌, refl, sym, ◌∙◌, subst, inl, inr}
use Rattle.std.specs.Prelude.{Option, None, Some}
use Rattle.script_text.specs.declared.command.Command.{Command}
use Rattle.script_text.specs.Line.{Spells, SpellsOne}
use Rattle.name_table.specs.Table.{HasDistinctNames}
use Rattle.calc_state.specs.Table.{Table}
use Rattle.calc_state.specs.Meanings.{meaning}
use Rattle.open_files.specs.OpenFiles.{OpenFile, with_line}
use Rattle.calc_state.specs.State.{State, opens}
use Rattle.calc_state.specs.Reading.{IsRead}
use Rattle.calc_state.specs.Step.{IsAccepted}
use Rattle.line_values.specs.Replies.{Reply, Answered, Refused, Overflows}
use Rattle.calc_state.specs.Line.{StepFrom}
use Rattle.calc_state.specs.Laws.{KeepsNamesDistinct}
use Rattle.calc_state.proofs.LineLemmas.{unchanged_from}
use Rattle.calc_state.specs.Runs.{Run}
use Rattle.run_laws.specs.Acts.{Accepted, did, took, AreAccepted}

abbrev state_of : Table → Option OpenFile → State
state_of names file = record { names = names; file = file }

-- the property holds of a table and what was accepted, once a command or a file more is accepted
pub record Steps (Holds : Table → List Accepted → Type 0) : Type 0 where
  pub command : (old new : Table) (earlier : List Accepted) (c : Command) (text : List ℕ) → Holds old earlier → HasDistinctNames new → IsAccepted (meaning old c) old text new → Holds new (did c text ∷ earlier)
  pub file : (old new : Table) (earlier : List Accepted) (file : OpenFile) (text : List ℕ) → Holds old earlier → HasDistinctNames new → IsRead old file text new → Holds new (took file text ∷ earlier)

-- what lines and their replies come to from a file that is open, if any, and the property holds of
-- it
pub record Told (Holds : Table → List Accepted → Type 0) (file : Option OpenFile) (earlier : List Accepted) (lines : List (List ℕ)) (replies : List Reply) (new : State) : Type 0 where
  pub all : List Accepted
  pub accepted : AreAccepted file earlier lines replies all
  pub holds : Holds new.names all

module _ (Holds : Table → List Accepted → Type 0) (keeps : KeepsNamesDistinct) (steps : Steps Holds) (lines : List (List ℕ)) (replies : List Reply) (new : State) where
  -- the lines behind this one
  abbrev Rest : State → Type 0
  Rest mid = (earlier : List Accepted) → HasDistinctNames mid.names → Holds mid.names earlier → Told Holds mid.file earlier lines replies new

  behind_command : (earlier : List Accepted) (line text : List ℕ) (c : Command) → Spells line c → Told Holds (opens c) (did c text ∷ earlier) lines replies new → Told Holds None earlier (line ∷ lines) (Answered text ∷ replies) new
  behind_command earlier line text c s t = record { all = t.all; accepted = (c, s, t.accepted); holds = t.holds }

  behind_refusal : (names : Table) (file : Option OpenFile) (earlier : List Accepted) (mid : State) → mid ≡ state_of names None → HasDistinctNames names → Holds names earlier → Rest mid → Told Holds None earlier lines replies new
  behind_refusal names file earlier mid e d h rest = subst (λ (s : State). Rest s → Told Holds None earlier lines replies new) (sym e) (λ r. r earlier d h) rest

  step_told : (names : Table) (file : Option OpenFile) (earlier : List Accepted) (line : List ℕ) (reply : Reply) (mid : State) → HasDistinctNames names → Holds names earlier → StepFrom names file line reply mid → Rest mid → Told Holds file earlier (line ∷ lines) (reply ∷ replies) new
  step_told names None earlier line (Answered text) mid d h (inl a) rest =
      let distinct = keeps (state_of names None) mid line (Answered text) d (inl a) in
      behind_command earlier line text a.command a.spelled
      (subst (λ (o : Option OpenFile). Told Holds o (did a.command text ∷ earlier) lines replies new) a.file (rest (did a.command text ∷ earlier) distinct (steps.command names mid.names earlier a.command text h distinct a.performed)))
  step_told names None earlier line (Answered text) mid d h (inr u) rest = (let no : Answered text ≡ Refused u.fault = u.shown in cc)
  step_told names (Some file) earlier line (Answered text) mid d h (inl a) rest =
      let t = subst (λ (s : State). Rest s → Told Holds (Some (with_line file line)) earlier lines replies new) (sym a.added) (λ r. r earlier d h) rest in
      record { all = t.all; accepted = inl (a.unended, t.accepted); holds = t.holds }
  step_told names (Some file) earlier line (Answered text) mid d h (inr b) rest =
      let distinct = keeps (state_of names (Some file)) mid line (Answered text) d (inr b) in
      let t = subst (λ (o : Option OpenFile). Told Holds o (took (with_line file line) text ∷ earlier) lines replies new) b.shut (rest (took (with_line file line) text ∷ earlier) distinct (steps.file names mid.names earlier (with_line file line) text h distinct b.read)) in
      record { all = t.all; accepted = inr (b.ends, t.accepted); holds = t.holds }
  step_told names file earlier line (Refused fault) mid d h step rest =
      let t = behind_refusal names file earlier mid (unchanged_from names file line (Refused fault) mid step (λ k. k)) d h rest in
      record { all = t.all; accepted = t.accepted; holds = t.holds }
  step_told names file earlier line (Overflows over) mid d h step rest =
      let t = behind_refusal names file earlier mid (unchanged_from names file line (Overflows over) mid step (λ k. k)) d h rest in
      record { all = t.all; accepted = t.accepted; holds = t.holds }

-- what a run accepts, with the property
pub run_told : (Holds : Table → List Accepted → Type 0) → KeepsNamesDistinct → Steps Holds → (old : State) (earlier : List Accepted) (lines : List (List ℕ)) (replies : List Reply) (new : State) → HasDistinctNames old.names → Holds old.names earlier → Run old lines replies new → Told Holds old.file earlier lines replies new
run_told Holds keeps steps old earlier [] [] new d h run = record { all = earlier; accepted = refl; holds = subst (λ (s : State). Holds s.names earlier) (sym run) h }
run_told Holds keeps steps old earlier (line ∷ lines) (reply ∷ replies) new d h (mid, step, run) =
    step_told Holds keeps steps lines replies new old.names old.file earlier line reply mid d h step (λ e distinct holds. run_told Holds keeps steps mid e lines replies new distinct holds run)
run_told Holds keeps steps old earlier [] (reply ∷ replies) new d h run = absurd run
run_told Holds keeps steps old earlier (line ∷ lines) [] new d h run = absurd run

-- ---- a run accepts one list
pub accepted_once : SpellsOne → (file : Option OpenFile) (earlier : List Accepted) (lines : List (List ℕ)) (replies : List Reply) (all rest : List Accepted) → AreAccepted file earlier lines replies all → AreAccepted file earlier lines replies rest → all ≡ rest
accepted_once one file earlier [] [] all rest a b = a ∙ sym b
accepted_once one None earlier (line ∷ lines) (Answered text ∷ replies) all rest (c, s, a) (d, t, b) =
    accepted_once one (opens c) (did c text ∷ earlier) lines replies all rest a (subst (λ (x : Command). AreAccepted (opens x) (did x text ∷ earlier) lines replies rest) (one line d c t s) b)
accepted_once one (Some file) earlier (line ∷ lines) (Answered text ∷ replies) all rest (inl a) (inl b) = accepted_once one (Some (with_line file line)) earlier lines replies all rest a.1 b.1
accepted_once one (Some file) earlier (line ∷ lines) (Answered text ∷ replies) all rest (inl a) (inr b) = absurd (a.0 b.0)
accepted_once one (Some file) earlier (line ∷ lines) (Answered text ∷ replies) all rest (inr a) (inl b) = absurd (b.0 a.0)
accepted_once one (Some file) earlier (line ∷ lines) (Answered text ∷ replies) all rest (inr a) (inr b) = accepted_once one None (took (with_line file line) text ∷ earlier) lines replies all rest a.1 b.1
accepted_once one file earlier (line ∷ lines) (Refused fault ∷ replies) all rest a b = accepted_once one None earlier lines replies all rest a b
accepted_once one file earlier (line ∷ lines) (Overflows over ∷ replies) all rest a b = accepted_once one None earlier lines replies all rest a b
accepted_once one file earlier [] (reply ∷ replies) all rest a b = absurd a
accepted_once one file earlier (line ∷ lines) [] all rest a b = absurd a
