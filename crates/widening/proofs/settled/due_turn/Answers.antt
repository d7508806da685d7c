use Rattle.std.proofs.Common.{◌≡◌, ◌<◌, ℕ, Bool, false, MatchBool, slice_set, sym, subst}
use Rattle.widening.specs.Ranks.{total}
use Rattle.widening.specs.Runs.{TurnList}
use Rattle.widening.specs.SettledTurns.{AreSettled, AreMadeDue}
use Rattle.widening.proofs.SettledTurns.{settled_after, settled_same}
use Rattle.widening.proofs.settled.due_turn.Goals.{then-changed, else-changed}
use Rattle.widening.proofs.settled.due_turn.Goals as goal

pub returns-clause-settled : goal.returns-clause-settled
returns-clause-settled g c = elim c.if-changed.branch [
  | then-changed w ↦ subst (AreSettled turns c.turn.new.table) (sym w.due-is)
      (settled_after turns c.requires.proper c.widening_includes.ensures c.args.index c.requires.index c.args.table.now c.turn.new.table c.requires.table c.in_ok-changed.ensures.turn c.args.due.now c.requires.settled w.make_due.new.due
      (subst (λ (n : ℕ). AreMadeDue turns n (slice_set c.args.due.now c.args.index false) w.make_due.new.due) w.place.ensures w.make_due.ensures))
  | else-changed w ↦ subst (AreSettled turns c.turn.new.table) (sym w.due-is)
      (settled_same turns c.requires.proper c.widening_includes.ensures c.args.index c.requires.index c.args.table.now c.turn.new.table c.requires.table c.in_ok-changed.ensures.turn c.args.due.now c.requires.settled
      (subst (λ (b : Bool). MatchBool b (total c.turn.new.table.sets c.turn.new.table.left < total c.args.table.now.sets c.args.table.now.left) (c.turn.new.table ≡ c.args.table.now)) w.if-changed.false c.in_ok-changed.ensures.falls))
]
  where
    turns : TurnList
    turns = g.T.Turns.turns c.args.turns.now
