use Rattle.fixpoint.proofs.SystemTurns.{reads_from}
use Rattle.fixpoint.proofs.transitions.TransitionsTurns.source.Goals as goal

pub returns : goal.returns
returns c = reads_from c.args.self.now.system.now c.args.index c.trans.result.now c.trans.ensures.value
