use Rattle.cons_sys.proofs.AnswerLemmas.{refusal_exactly, holds_exactly}
use Rattle.cons_sys.proofs.system.ConsSys.holds_at.Goals as goal

pub returns-clause-holds : goal.returns-clause-holds
returns-clause-holds c = holds_exactly c.args.self.now c.args.v.now c.test_in_order.result c.test_in_order.ensures

pub returns-clause-over : goal.returns-clause-over
returns-clause-over c = refusal_exactly c.args.self.now.list c.args.v.now c.test_in_order.result c.test_in_order.ensures
