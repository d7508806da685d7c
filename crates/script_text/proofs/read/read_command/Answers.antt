use Rattle.std.proofs.Common.{◌≡◌, ℕ, ◌≤◌, List, length, Result, Ok, Err, ap, sym, ◌∙◌, subst}
use Rattle.std.specs.Prelude.{MatchResult, IfOk}
use Rattle.reply_text.specs.declared.faults.ReadErr.{ReadErr}
use Rattle.reply_text.specs.declared.faults.ReadErr.TheVariants.{Memory}
use Rattle.line_forms.specs.CommandWords.{HasForm}
use Rattle.line_forms.specs.Words.{behind_word}
use Rattle.line_forms.specs.Fields.{fields_in}
use Rattle.script_text.specs.Commands.{command_of}
use Rattle.script_text.specs.Line.{Spells, IsUnread, PartsMatch, PartsTold}
use Rattle.line_forms.specs.declared.form.LineForm.{LineForm}
use Rattle.script_text.specs.declared.command.Command.{Command}
use Rattle.script_text.proofs.SpellLemmas.{spells, parts, told}
use Rattle.script_text.proofs.read.read_command.Goals as goal

-- the command of a line of the form, or want of memory
answer : (line rest : List ℕ) (form : LineForm) (r : Result Command ReadErr) → length line ≤ 65535 → HasForm form line → rest ≡ behind_word line → MatchResult r (λ c. c ≡ command_of form (fields_in rest)) (λ e. e ≡ Memory) →
    MatchResult r (Spells line) (IsUnread line) × IfOk r PartsMatch × IfOk r PartsTold
answer line rest form (Ok c) short has behind is =
    let s : Spells line c = spells line form c short has (is ∙ ap (λ (x : List ℕ). command_of form (fields_in x)) behind) in
    (s, parts line c s, told line c s)
answer line rest form (Err e) short has behind is = (subst (IsUnread line) (sym is) tt, tt, tt)

pub returns-in-Ok : goal.returns-in-Ok
returns-in-Ok c =
    let a = answer c.args.line.now c.split_word.result.1.now c.in-Ok.form c.command_of.result c.if-line-gt-MAX_LINE.false (rw c.in-Ok.is at c.form_of.ensures) c.split_word.ensures.behind c.command_of.ensures in
    record { command = a.0; parts = a.1; told = a.2 }
