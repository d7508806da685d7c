use Rattle.std.proofs.Common.{◌+◌, ◌<◌, length, sym, subst, arith}
use Rattle.widening.specs.Runs.{TurnList}
use Rattle.widening.proofs.SettledTurns.{IsMadeDueUpto, none_made_due, made_due, kept_settled, all_made_due}
use Rattle.widening.proofs.settled.make_due.Goals.{then-source-place, else-source-place}
use Rattle.widening.proofs.settled.make_due.Goals as goal

pub loop-index-init : goal.loop-index-init
loop-index-init g c = none_made_due (g.T.Turns.turns c.args.turns.now) c.args.place c.args.due.now

pub loop-index-preserved : goal.loop-index-preserved
loop-index-preserved g c = elim c.if-source-place.branch [
  | then-source-place w ↦ subst (IsMadeDueUpto turns c.args.place (c.loop-index.index + 1) c.args.due.now) (sym w.due-is) (made_due turns c.args.place c.loop-index.index c.args.due.now c.loop-index.due c.loop-index.invariant below)
  | else-source-place w ↦ subst (IsMadeDueUpto turns c.args.place (c.loop-index.index + 1) c.args.due.now) (sym w.due-is) (kept_settled turns c.args.place c.loop-index.index c.args.due.now c.loop-index.due c.loop-index.invariant c.source.result c.source.ensures w.if-source-place.false)
]
  where
    turns : TurnList
    turns = g.T.Turns.turns c.args.turns.now

    below : c.loop-index.index < length c.loop-index.due
    below = omega (arith, c.loop-index.invariant.as_many, c.requires, c.count-index-end.ensures.value)

pub returns : goal.returns
returns g c = all_made_due (g.T.Turns.turns c.args.turns.now) c.args.place c.loop-index.index c.args.due.now c.loop-index.due c.loop-index.invariant (omega (arith, c.requires, c.count-index-end.ensures.value))
