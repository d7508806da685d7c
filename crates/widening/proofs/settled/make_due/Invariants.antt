use Rattle.widening.proofs.SettledTurns.{IsMadeDueUpto}
use Rattle.widening.proofs.settled.make_due.Given as goal

abbrev pub invariant-loop-index : goal.invariant-loop-index
invariant-loop-index g l = IsMadeDueUpto (g.T.Turns.turns l.turns) l.place l.index l.initial.due l.due
