-- A line spells one command at most.
use Rattle.std.proofs.Common.{◌≡◌, ℕ, ◌≤◌, List, length, refl, ap, sym, ◌∙◌, subst}
use Rattle.line_forms.specs.CommandWords.{HasForm}
use Rattle.line_forms.specs.Words.{behind_word}
use Rattle.line_forms.specs.Fields.{fields_of, fields_in}
use Rattle.line_forms.specs.declared.form.LineForm.{LineForm}
use Rattle.line_forms.specs.declared.form.LineForm.TheVariants.{Nothing}
use Rattle.line_forms.proofs.FormLaws.{fields_are, form_once}
use Rattle.script_text.specs.Commands.{command_of}
use Rattle.script_text.specs.Line.{Spells, PartsMatch, PartsTold}
use Rattle.script_text.specs.declared.command.Command.{Command}
use Rattle.script_text.proofs.PartLemmas.{parts_match, parts_told}

-- the command of a line is that of its words
command_law : (form : LineForm) (w : List ℕ) (h : HasForm form w) → command_of form (fields_of form w h) ≡ command_of form (fields_in (behind_word w))
command_law Nothing w h = refl
command_law form w h = ap (command_of form) (fields_are form w h)

pub spells : (line : List ℕ) (form : LineForm) (c : Command) → length line ≤ 65535 → (h : HasForm form line) → c ≡ command_of form (fields_in (behind_word line)) → Spells line c
spells line form c short h is = record { short = short; form = form; has = h; is = is ∙ sym (command_law form line h) }

-- each part of a command that a line spells has its form
pub parts : (line : List ℕ) (c : Command) → Spells line c → PartsMatch c
parts line c s = subst PartsMatch (sym s.is) (parts_match s.form line s.has)

-- what is told of each part of a command that a line spells is so
pub told : (line : List ℕ) (c : Command) → Spells line c → PartsTold c
told line c s = subst PartsTold (sym s.is) (parts_told s.form (fields_of s.form line s.has))

-- a line spells one command at most
pub spells_one : (line : List ℕ) (c d : Command) → Spells line c → Spells line d → c ≡ d
spells_one line c d a b =
    let forms : a.form ≡ b.form = form_once a.form b.form line a.has b.has in
    a.is ∙ (command_law a.form line a.has ∙ (ap (λ f. command_of f (fields_in (behind_word line))) forms ∙ sym (b.is ∙ command_law b.form line b.has)))
