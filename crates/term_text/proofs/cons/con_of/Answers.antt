use Rattle.term_text.proofs.SaysLaws.{con_says}
use Rattle.term_text.proofs.cons.con_of.Goals as goal

pub returns : goal.returns
returns c = con_says c.args.dim c.args.text.now c.con_row.result c.requires.form c.con_row.ensures
