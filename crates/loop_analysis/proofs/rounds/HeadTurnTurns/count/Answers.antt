use Rattle.loop_analysis.proofs.TurnLemmas.{proper}
use Rattle.loop_analysis.proofs.rounds.HeadTurnTurns.count.Goals as goal

pub returns-clause-proper : goal.returns-clause-proper
returns-clause-proper c = proper c.args.self.now.program.now
