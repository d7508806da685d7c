use Rattle.std.proofs.Common.{rules, ◌≡◌, ◌+◌, ◌<◌, refl, subst, sym, arith, Bool, true, false, MatchBool, inr}
use Rattle.row_core.specs.declared.errors.ConvErr.{ConvErr}
use Rattle.row_core.specs.declared.errors.ConvErr.TheVariants as conversion
use Rattle.widening.specs.Ranks.{total}
use Rattle.widening.specs.Runs.{TurnList, begins, takes}
use Rattle.row_core.specs.Refusals.{IsOverflowIn}
use Rattle.widening.specs.RunOverflows.{LeavesInTurn, LeavesInRound}
use Rattle.poly_pair.specs.Work.{conv_overflow}
use Rattle.widening.specs.RunConversions as counts
use Rattle.widening.specs.RunConversions.{IsBrokenRound}
use Rattle.widening.proofs.Totals.{IsSoFar, so_far_changed, so_far_same, so_far_stable}
use Rattle.widening.proofs.TurnLemmas.{turn_table}
use Rattle.widening.proofs.runs.round.Goals.{then-branch, else-branch}
use Rattle.widening.proofs.runs.round.Goals as goal

pub loop-index-init : goal.loop-index-init
loop-index-init g c = record { table = c.requires.table; settled = c.requires.settled; round = begins; counted = counts.begins; no_fewer = omega arith; so_far = (refl, λ k b. absurd (omega (arith, b))) }

pub loop-index-preserved : goal.loop-index-preserved
loop-index-preserved g c = record {
  table = turn_table turns c.count-index-end.ensures.proper c.loop-index.index below c.loop-index.table c.due_turn.new.table c.loop-index.invariant.table c.in_ok-due_turn.ensures.turn;
  settled = c.in_ok-due_turn.ensures.settled;
  round = takes c.loop-index.invariant.round below c.in_ok-due_turn.ensures.turn;
  counted = counts.takes c.loop-index.invariant.counted below c.in_ok-due_turn.ensures.turn c.in_ok-due_turn.ensures.conversion;
  no_fewer = omega (arith, c.loop-index.invariant.no_fewer, c.in_ok-due_turn.ensures.no_fewer);
  so_far = elim c.if-branch.branch [ then-branch w ↦ moved w.if-branch.true w.changed-is | else-branch w ↦ stayed w.if-branch.false w.changed-is ];
}
  where
    turns : TurnList
    turns = g.T.Turns.turns c.args.turns.now

    below : c.loop-index.index < turns.count
    below = omega (arith, c.count-index-end.ensures.value)

    fell : (b : Bool) → c.in_ok-due_turn.field-0 ≡ b → MatchBool b (total c.due_turn.new.table.sets c.due_turn.new.table.left < total c.loop-index.table.sets c.loop-index.table.left) (c.due_turn.new.table ≡ c.loop-index.table)
    fell b e = subst (λ (x : Bool). MatchBool x (total c.due_turn.new.table.sets c.due_turn.new.table.left < total c.loop-index.table.sets c.loop-index.table.left) (c.due_turn.new.table ≡ c.loop-index.table)) e c.in_ok-due_turn.ensures.falls

    moved : c.in_ok-due_turn.field-0 ≡ true → c.if-branch.changed ≡ true → IsSoFar turns c.args.table.now c.if-branch.changed (c.loop-index.index + 1) c.due_turn.new.table
    moved e f =
        subst (λ (b : Bool). IsSoFar turns c.args.table.now b (c.loop-index.index + 1) c.due_turn.new.table) (sym f)
        (so_far_changed turns c.args.table.now c.loop-index.table c.due_turn.new.table c.loop-index.changed c.loop-index.index c.loop-index.invariant.so_far (fell true e))

    stayed : c.in_ok-due_turn.field-0 ≡ false → c.if-branch.changed ≡ c.loop-index.changed → IsSoFar turns c.args.table.now c.if-branch.changed (c.loop-index.index + 1) c.due_turn.new.table
    stayed e f =
        subst (λ (b : Bool). IsSoFar turns c.args.table.now b (c.loop-index.index + 1) c.due_turn.new.table) (sym f)
        (so_far_same turns c.args.table.now c.loop-index.table c.due_turn.new.table c.loop-index.changed c.loop-index.index c.loop-index.invariant.so_far (fell false e) c.in_ok-due_turn.ensures.turn)

pub returns-clause-falls : goal.returns-clause-falls
returns-clause-falls g c = so_far_stable (g.T.Turns.turns c.args.turns.now) c.args.table.now c.loop-index.table c.loop-index.changed c.loop-index.index c.loop-index.invariant.so_far (omega (arith, c.count-index-end.ensures.value))

pub returns-in_err-due_turn-clause-overflow : goal.returns-in_err-due_turn-clause-overflow
returns-in_err-due_turn-clause-overflow g c = let known : IsOverflowIn (LeavesInRound turns c.args.table.now) c.in_err-due_turn.field-0.0 = by c.in_err-due_turn.field-0.0 c.in_err-due_turn.ensures.overflow in search (rules, known, c.from_residual.ensures)
  where
    turns : TurnList
    turns = g.T.Turns.turns c.args.turns.now

    by : (e : ConvErr) → IsOverflowIn (LeavesInTurn turns c.loop-index.index c.loop-index.table) e → IsOverflowIn (LeavesInRound turns c.args.table.now) e
    by (conversion.Overflow over) l = record { index = c.loop-index.index; below = omega (arith, c.count-index-end.ensures.value); between = c.loop-index.table; round = c.loop-index.invariant.round; leaves = l }
    by conversion.Memory l = tt

pub returns-in_err-due_turn-clause-broken : goal.returns-in_err-due_turn-clause-broken
returns-in_err-due_turn-clause-broken g c = search (rules, known, c.from_residual.ensures)
  where
    turns : TurnList
    turns = g.T.Turns.turns c.args.turns.now

    known : IsBrokenRound turns c.args.table.now c.args.steps.now c.due_turn.new.steps (conv_overflow c.in_err-due_turn.field-0.0)
    known = record {
      index = c.loop-index.index;
      between = c.loop-index.table;
      counted = c.loop-index.steps;
      round = c.loop-index.invariant.counted;
      rest = inr (omega (arith, c.count-index-end.ensures.value), c.in_err-due_turn.ensures.conversion);
    }
