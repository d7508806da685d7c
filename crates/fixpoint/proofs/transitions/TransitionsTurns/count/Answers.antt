use Rattle.fixpoint.proofs.SystemTurns.{proper}
use Rattle.fixpoint.proofs.transitions.TransitionsTurns.count.Goals as goal

pub returns-clause-proper : goal.returns-clause-proper
returns-clause-proper c = proper c.args.self.now.system.now c.trans_len.ensures.kept
