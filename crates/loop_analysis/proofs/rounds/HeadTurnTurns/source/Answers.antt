use Rattle.loop_analysis.proofs.TurnLemmas.{reads_head}
use Rattle.loop_analysis.proofs.rounds.HeadTurnTurns.source.Goals as goal

pub returns : goal.returns
returns c = reads_head c.args.self.now.program.now c.args._index
