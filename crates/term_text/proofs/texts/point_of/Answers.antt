use Rattle.term_text.proofs.SaysLaws.{point_says}
use Rattle.term_text.proofs.texts.point_of.Goals as goal

pub returns : goal.returns
returns c = point_says c.args.dim c.args.text.now c.point_row.result c.requires.form c.point_row.ensures
