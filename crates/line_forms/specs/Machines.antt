-- What the machine of a form decides.
use Rattle.std.specs.Prelude.{ℕ, List}
use Rattle.grammar.specs.Machine.{Decides}
use Rattle.grammar.specs.declared.machine.Machine.{Machine}
use Rattle.line_forms.specs.Layouts.{rest_form, layout_of}
use Rattle.line_forms.specs.declared.form.LineForm.{LineForm}

-- what stands behind the command word of a line of the form, whatever the word
abbrev pub DecidesRest : Machine → LineForm → Type 0
DecidesRest machine form =
    (command : List ℕ)
    → Decides machine.classes.now machine.steps.now machine.ends.now
    (rest_form (layout_of form command))
