use Rattle.term_text.proofs.SaysLaws.{frac_says}
use Rattle.term_text.proofs.texts.frac_of.Goals as goal

pub returns : goal.returns
returns c = frac_says c.args.dim c.args.text.now c.frac_row.result c.requires.form c.frac_row.ensures
