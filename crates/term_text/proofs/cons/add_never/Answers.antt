use Rattle.std.proofs.Common.{rules}
use Rattle.term_text.proofs.Stored.{adds_never}
use Rattle.term_text.proofs.cons.add_never.Goals as goal

pub returns-clause-value : goal.returns-clause-value
returns-clause-value c = adds_never c.args.system.now.dim c.args.system.now.list c.add_sum.new.system.list c.in_ok-sum.sum c.add.new.self c.add_sum.result c.in_ok-sum.ensures.1 c.in_ok-add.ensures (search rules)
