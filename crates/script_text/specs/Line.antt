-- What a line spells.
use Rattle.std.specs.Prelude.{◌≡◌, ℕ, ◌<◌, ◌≤◌, List, length}
use Rattle.grammar.specs.Form.{Matches, IsColumnOfAny}
use Rattle.grammar.specs.Grammar.{alone}
use Rattle.grammar.specs.Cases.{expr_cases, frac_cases, con_cases, cons_cases, gens_cases, point_cases}
use Rattle.reply_text.specs.declared.faults.Fault.{Fault}
use Rattle.reply_text.specs.declared.faults.Fault.TheVariants as fault
use Rattle.reply_text.specs.declared.faults.ReadErr.{ReadErr}
use Rattle.reply_text.specs.declared.faults.ReadErr.TheVariants.{Input, Memory}
use Rattle.line_forms.specs.CommandWords.{HasForm, line_forms}
use Rattle.line_forms.specs.Fields.{fields_of}
use Rattle.line_forms.specs.declared.form.LineForm.{LineForm}
use Rattle.script_text.specs.Commands.{command_of, is_strict}
use Rattle.script_text.specs.declared.command.Command.{Command}
use Rattle.script_text.specs.declared.command.Command.TheVariants.{Cons, Gens, Add, Addgen, Has, Relation, Bound, Map, Bounds}

-- the line has a form, and this is the command of its fields
pub record Spells (line : List ℕ) (c : Command) : Type 0 where
  pub short : length line ≤ 65535
  pub form : LineForm
  pub has : HasForm form line
  pub is : c ≡ command_of form (fields_of form line has)

-- why the line gave no command: it is too long, or else it has no form, or memory ran out
abbrev pub IsUnread : List ℕ → ReadErr → Type 0
IsUnread line (Input fault.LineTooLong) = 65535 < length line
IsUnread line (Input (fault.Syntax column)) =
    (length line ≤ 65535) × IsColumnOfAny line_forms line column
IsUnread line (Input other) = ⊥
IsUnread line Memory = Unit {0}

-- each part of the command has its form, as the reader of its value asks for it
abbrev pub PartsMatch : Command → Type 0
PartsMatch (Cons out top n part) = Matches (alone cons_cases) part.text
PartsMatch (Gens out top n part) = Matches (alone gens_cases) part.text
PartsMatch (Add p part) = Matches (alone cons_cases) part.text
PartsMatch (Addgen p part) = Matches (alone gens_cases) part.text
PartsMatch (Has p part) = Matches (alone point_cases) part.text
PartsMatch (Relation p part) = Matches (alone con_cases) part.text
PartsMatch (Bound of p part) = Matches (alone expr_cases) part.text
PartsMatch (Map by out p v rel part) = Matches (alone frac_cases) part.text
PartsMatch (Bounds out n part) = Matches (alone cons_cases) part.text
PartsMatch _ = Unit {0}

-- whether a strict relation or a closure point stands in each part of the command is told as it is
abbrev pub PartsTold : Command → Type 0
PartsTold (Cons out top n part) = part.strict ≡ is_strict part.text
PartsTold (Gens out top n part) = part.strict ≡ is_strict part.text
PartsTold (Add p part) = part.strict ≡ is_strict part.text
PartsTold (Addgen p part) = part.strict ≡ is_strict part.text
PartsTold (Has p part) = part.strict ≡ is_strict part.text
PartsTold (Relation p part) = part.strict ≡ is_strict part.text
PartsTold (Bound of p part) = part.strict ≡ is_strict part.text
PartsTold (Map by out p v rel part) = part.strict ≡ is_strict part.text
PartsTold (Bounds out n part) = part.strict ≡ is_strict part.text
PartsTold _ = Unit {0}

-- a line spells one command at most
abbrev pub SpellsOne : Type 0
SpellsOne = (line : List ℕ) (c d : Command) → Spells line c → Spells line d → c ≡ d

-- a line that spells a command isn't refused, and a refused line has one fault
pub record ReadsOnce : Type 0 where
  pub spelled :
      (line : List ℕ) (c : Command) (f : Fault) → Spells line c → ¬ (IsUnread line (Input f))
  pub unread :
      (line : List ℕ) (f g : Fault) → IsUnread line (Input f) → IsUnread line (Input g) → f ≡ g
