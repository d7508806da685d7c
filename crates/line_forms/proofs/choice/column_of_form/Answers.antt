use Rattle.std.proofs.Common.{rules, ◌≡◌, ◌-◌, ◌≤◌, eqb, length, ap, arith, ◌∙◌}
use Rattle.std.specs.List.{take_while}
use Rattle.std.proofs.lemmas.List.{length-drop}
use Rattle.std.proofs.lemmas.List.Sums.{common_prefix_len-le}
use Rattle.line_forms.specs.Words.{is_blank}
use Rattle.line_forms.proofs.OtherWord.{other_column}
use Rattle.line_forms.proofs.choice.column_of_form.Goals as goal

pub overflow_add-result : goal.overflow_add-result
overflow_add-result c =
    let most : c.common_len.result ≤ length c.args.text.now = omega (arith, c.common_len.ensures, (common_prefix_len-le eqb c.args.text.now c.args.row.now.1.now).0) in
    let cut : length c.args.text.now ≡ length c.args.line.now - length (take_while is_blank c.args.line.now) = ap length c.requires.text ∙ length-drop (length (take_while is_blank c.args.line.now)) c.args.line.now in
    search rules

pub overflow_add-result-in_default : goal.overflow_add-result-in_default
overflow_add-result-in_default c =
    let most : c.common_len.result ≤ length c.args.text.now = omega (arith, c.common_len.ensures, (common_prefix_len-le eqb c.args.text.now c.args.row.now.1.now).0) in
    let cut : length c.args.text.now ≡ length c.args.line.now - length (take_while is_blank c.args.line.now) = ap length c.requires.text ∙ length-drop (length (take_while is_blank c.args.line.now)) c.args.line.now in
    search rules

pub returns-in_default : goal.returns-in_default
returns-in_default c =
    other_column c.args.row.now.0 c.args.row.now.1.now c.args.line.now c.args.text.now c.common_len.result c.requires.listed c.in_default.not-Nothing c.requires.text (c.requires.other c.args.row.now.0) c.common_len.ensures
