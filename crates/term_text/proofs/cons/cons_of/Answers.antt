use Rattle.term_text.proofs.SaysLaws.{cons_says}
use Rattle.term_text.proofs.cons.cons_of.Goals as goal

pub returns : goal.returns
returns c = cons_says c.args.dim c.args.text.now c.cons_system.result c.requires.form c.cons_system.ensures
