use Rattle.std.specs.Prelude.{◌≡◌, ℕ, List}
use Rattle.line_forms.specs.CommandWords.{HasForm}
use Rattle.line_forms.specs.Fields.{fields_of, fields_in}
use Rattle.line_forms.specs.Words.{behind_word}
use Rattle.line_forms.specs.declared.form.LineForm.{LineForm}
use Rattle.line_forms.specs.declared.form.LineForm.TheVariants.{Nothing}

-- the fields of a line, however it matches, are those of its words
abbrev pub IsFormRead : (form : LineForm) (line : List ℕ) → HasForm form line → Type 0
IsFormRead Nothing line h = Unit {0}
IsFormRead form line h = fields_of form line h ≡ fields_in (behind_word line)

-- the fields of a line of any form, however it matches, are those of its words
abbrev pub FieldsAreWords : Type 0
FieldsAreWords = (form : LineForm) (line : List ℕ) (h : HasForm form line) → IsFormRead form line h
