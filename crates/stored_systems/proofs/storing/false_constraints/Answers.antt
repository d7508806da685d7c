use Rattle.std.proofs.Common.{◌∙◌}
use Rattle.stored_systems.proofs.RowLemmas.{false_gains}
use Rattle.stored_systems.proofs.storing.false_constraints.Goals as goal

pub returns-clause-list : goal.returns-clause-list
returns-clause-list c = false_gains c.args.dim c.new-cons.result.list c.push.new.self.list c.deref.result.now c.new-cons.ensures.empty (c.deref.ensures.value ∙ c.in_ok-false_row.ensures.row) c.in_ok-push.ensures.list
