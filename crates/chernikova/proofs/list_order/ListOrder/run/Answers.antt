use Rattle.std.specs.Prelude.{◌≡◌, ℕ}
use Rattle.std.proofs.Common.{arith, subst, refl}
use Rattle.std.proofs.lemmas.Result.{err_from_is_err_and}
use Rattle.chernikova.specs.Beside.{GoesOnFrom}
use Rattle.chernikova.proofs.Counts.{count_none}
use Rattle.chernikova.proofs.GoingOn.{goes_on_next, answered_here, refused_next}
use Rattle.chernikova.proofs.list_order.ListOrder.run.Goals as goal

pub loop-k-preserved : goal.loop-k-preserved
loop-k-preserved g c = record {
  goes_on = goes_on_next c.args.rows.now.width c.args.rows.now.rows c.loop-k.k c.args.steps.now c.loop-k.steps c.take_placed.new.steps _ _ _ (omega arith) c.loop-k.invariant.goes_on c.in_ok-take_placed.ensures.state c.take_placed.ensures.no_fewer c.take_placed.ensures.counted (omega arith);
}

pub returns-in_err-position-clause-conversion : goal.returns-in_err-position-clause-conversion
returns-in_err-position-clause-conversion g c =
    let p = err_from_is_err_and c.from_residual.result c.from_residual.ensures.1 in
    rw (p.1, p.2) (refused_next c.args.rows.now.width c.args.rows.now.rows c.loop-k.k c.args.steps.now c.loop-k.steps c.loop-k.steps 0 c.loop-k.self c.in_err-position.field-0.0 (omega arith) c.loop-k.invariant.goes_on (omega arith)
    (count_none c.args.rows.now.width c.args.rows.now.rows c.loop-k.k 0 (omega arith) refl) (omega arith) c.in_err-position.ensures.position c.in_err-position.ensures.step)

pub returns-in_err-take_placed-clause-conversion : goal.returns-in_err-take_placed-clause-conversion
returns-in_err-take_placed-clause-conversion g c =
    let p = err_from_is_err_and c.from_residual-in_err-take_placed.result c.from_residual-in_err-take_placed.ensures.1 in
    rw (p.1, p.2) (refused_next c.args.rows.now.width c.args.rows.now.rows c.loop-k.k c.args.steps.now c.loop-k.steps c.take_placed.new.steps _ c.loop-k.self c.in_err-take_placed.field-0.0 (omega arith) c.loop-k.invariant.goes_on c.take_placed.ensures.no_fewer
    c.take_placed.ensures.counted (omega arith) c.in_err-take_placed.ensures.state c.in_err-take_placed.ensures.step)

pub returns-then-pays-clause-conversion : goal.returns-then-pays-clause-conversion
returns-then-pays-clause-conversion g c =
    answered_here c.args.rows.now.width c.args.rows.now.rows c.loop-k.k c.args.steps.now c.loop-k.steps c.loop-k.self _ c.loop-k.invariant.goes_on

pub returns-clause-taken : goal.returns-clause-taken
returns-clause-taken g c =
    let P : ℕ → Type 0 = λ k. GoesOnFrom c.args.rows.now.width c.args.rows.now.rows k c.args.steps.now c.loop-k.steps c.loop-k.self in
    subst P (let e : c.loop-k.k ≡ c.len-2.result = omega (arith, c.len-k-end.ensures, c.len-2.ensures) in e) c.loop-k.invariant.goes_on

pub returns-clause-conversion : goal.returns-clause-conversion
returns-clause-conversion g c =
    answered_here c.args.rows.now.width c.args.rows.now.rows c.loop-k.k c.args.steps.now c.loop-k.steps c.loop-k.self _ c.loop-k.invariant.goes_on
