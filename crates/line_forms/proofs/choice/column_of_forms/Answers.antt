use Rattle.std.proofs.Common.{◌≡◌, ℕ, List, [], get_or, map, max, arith, refl, ap, subst, ◌∙◌, Bor}
use Rattle.std.proofs.lemmas.Bool.Decides.{nat_tests}
use Rattle.std.proofs.lemmas.List.{take_all}
use Rattle.grammar.specs.Form.{Form, IsColumnOfAny}
use Rattle.grammar.proofs.LargestColumn.{larger_more}
use Rattle.line_forms.specs.CommandWords.{CommandWord, command_words, lines_with}
use Rattle.line_forms.specs.declared.form.LineForm.{LineForm}
use Rattle.line_forms.specs.declared.form.LineForm.TheVariants.{Nothing}
use Rattle.line_forms.proofs.Listed.{listed_at, lines_of_rows}
use Rattle.line_forms.proofs.choice.column_of_forms.Goals as goal

abbrev Stored : Type 0
Stored = LineForm × Bor (List ℕ)

abbrev read : Stored → CommandWord
read row = (row.0, row.1.now)

abbrev none : Stored
none = (Nothing, record { ref_ptr = (0, 0); now = [] })

pub column_of_form-requires-clause-listed : goal.column_of_form-requires-clause-listed
column_of_form-requires-clause-listed c = listed_at read c.args.rows.now command_words c.loop-row.row-index none c.requires.all c.loop-row-test.true

pub loop-row-preserved : goal.loop-row-preserved
loop-row-preserved c =
    let largest : c.max-column.result ≡ max c.loop-row.column c.column_of_form.result = grind (arith, nat_tests, c.max-column.ensures) in
    larger_more (λ (row : Stored). lines_with (read row)) c.args.rows.now c.loop-row.row-index (get_or c.args.rows.now c.loop-row.row-index none) none c.args.line.now
    c.loop-row.column c.column_of_form.result c.max-column.result c.loop-row-test.true refl c.loop-row.invariant c.column_of_form.ensures largest

pub returns : goal.returns
returns c =
    subst (λ (fs : List Form). IsColumnOfAny fs c.args.line.now c.loop-row.column)
    (ap (map (λ (row : Stored). lines_with (read row))) (take_all c.loop-row.row-index c.args.rows.now c.loop-row-test.false) ∙ lines_of_rows read c.args.rows.now command_words c.requires.all)
    c.loop-row.invariant
