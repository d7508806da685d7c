use Rattle.term_text.specs.Reading.{cons_read}
use Rattle.term_text.proofs.Stored.{system_of, no_system}
use Rattle.term_text.proofs.cons.cons_system.Goals as goal

pub returns-then-branch : goal.returns-then-branch
returns-then-branch c = system_of c.args.dim c.new-system.result.dim (cons_read c.args.text.now) c.add_cons.new.system c.in_ok-add_cons.field-0 c.in_ok-add_cons.ensures.dim c.new-system.ensures.dim c.if-branch.true c.in_ok-add_cons.ensures.value

pub returns-else-branch : goal.returns-else-branch
returns-else-branch c = no_system c.args.dim c.new-system.result.dim (cons_read c.args.text.now) c.add_cons.new.system.list c.in_ok-add_cons.field-0 c.new-system.ensures.dim c.if-branch.false c.in_ok-add_cons.ensures.value
