use Rattle.std.specs.Prelude.{ℕ}
use Rattle.std.proofs.Common.{sym, subst, arith}
use Rattle.chernikova.specs.Conversion.{IsState}
use Rattle.chernikova.proofs.beside.Beside.catch_up.Goals as goal

pub plan_next-requires-clause-state : goal.plan_next-requires-clause-state
plan_next-requires-clause-state g c =
    let runs = c.loop-turn.invariant.beside (c.has_turn.ensures c.if-not-has_turn.false).0 in
    let P : ℕ → Type 0 = λ w. IsState w c.loop-turn.self.rows.rows c.loop-turn.self.taken c.loop-turn.self.system in
    subst P (sym runs.same_width) runs.state

pub plan_next-requires-clause-planned : goal.plan_next-requires-clause-planned
plan_next-requires-clause-planned g c = (c.loop-turn.invariant.beside (c.has_turn.ensures c.if-not-has_turn.false).0).planned

pub loop-turn-preserved : goal.loop-turn-preserved
loop-turn-preserved g c =
    let inv = c.loop-turn.invariant in
    record {
      beside = c.take_in.ensures.beside c.args.list.now.width c.args.list.now.rows (c.plan_next.ensures.running c.args.list.now.width c.args.list.now.rows (inv.beside (c.has_turn.ensures c.if-not-has_turn.false).0));
      no_fewer = omega (arith, inv.no_fewer, c.take_in.ensures.no_fewer);
      within = omega (arith, inv.within, c.take_in.ensures.within);
    }
