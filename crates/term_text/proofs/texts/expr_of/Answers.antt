use Rattle.term_text.proofs.SaysLaws.{expr_says}
use Rattle.term_text.proofs.texts.expr_of.Goals as goal

pub returns : goal.returns
returns c = expr_says c.args.dim c.args.text.now c.expr_row.result c.requires.form c.expr_row.ensures
