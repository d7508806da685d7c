use Rattle.std.specs.Prelude.{◌≡◌, ◌+◌, ℕ, length, Bool, MatchBool}
use Rattle.std.proofs.Common.{arith, subst}
use Rattle.chernikova.specs.Beside.{IsDone}
use Rattle.chernikova.specs.Conversion.{IsState}
use Rattle.chernikova.proofs.GoingOn.{goes_on_next, answered_here, answered_next, refused_next}
use Rattle.chernikova.proofs.PlacedCones.{second_of}
use Rattle.chernikova.proofs.better_order.Race.run.Goals as goal

pub loop-k-init : goal.loop-k-init
loop-k-init g c = record {
  beside = c.requires.beside;
  state = c.requires.state;
  goes_on = λ before h. h;
}

pub loop-k-preserved : goal.loop-k-preserved
loop-k-preserved g c =
    let inv = c.loop-k.invariant in
    let state : IsState c.args.rows.now.width c.args.rows.now.rows (c.loop-k.k + 1) c.take_row.new.self.first.system =
    second_of c.in-Ok-false.field-0 (IsDone c.args.rows.now.width c.args.rows.now.rows c.take_row.new.self.beside) (IsState c.args.rows.now.width c.args.rows.now.rows (c.loop-k.k + 1) c.take_row.new.self.first.system) c.in-Ok-false.field-0-test c.in-Ok-false.ensures.done in
    record {
      beside = c.take_row.ensures.beside;
      state = state;
      goes_on = λ before h.
          goes_on_next c.args.rows.now.width c.args.rows.now.rows c.loop-k.k before c.loop-k.steps c.take_row.new.steps _ c.loop-k.self.first c.take_row.new.self.first (omega arith) (inv.goes_on before h) state c.take_row.ensures.no_fewer c.take_row.ensures.counted
          (omega (arith, c.take_row.ensures.no_fewer));
    }

pub returns-in-Ok-true-clause-conversion : goal.returns-in-Ok-true-clause-conversion
returns-in-Ok-true-clause-conversion g c = λ before h.
    answered_next c.args.rows.now.width c.args.rows.now.rows c.loop-k.k before c.loop-k.steps c.take_row.new.steps _ c.loop-k.self.first _ (omega arith) (c.loop-k.invariant.goes_on before h) c.take_row.ensures.no_fewer c.take_row.ensures.counted
    (omega (arith, c.take_row.ensures.no_fewer))

pub returns-then-is_done-clause-conversion : goal.returns-then-is_done-clause-conversion
returns-then-is_done-clause-conversion g c = λ before h.
    answered_next c.args.rows.now.width c.args.rows.now.rows c.loop-k.k before c.loop-k.steps c.catch_up.new.steps _ c.loop-k.self.first _ (omega arith) (c.loop-k.invariant.goes_on before h)
    (omega (arith, c.take_row.ensures.no_fewer, c.catch_up.ensures.no_fewer)) c.take_row.ensures.counted
    (omega (arith, c.take_row.ensures.no_fewer, c.catch_up.ensures.no_fewer, c.catch_up.ensures.within))

pub returns-in-Err-clause-conversion : goal.returns-in-Err-clause-conversion
returns-in-Err-clause-conversion g c = λ before h.
    refused_next c.args.rows.now.width c.args.rows.now.rows c.loop-k.k before c.loop-k.steps c.catch_up.new.steps _ c.loop-k.self.first c.in-Err.error (omega arith) (c.loop-k.invariant.goes_on before h)
    (omega (arith, c.take_row.ensures.no_fewer, c.catch_up.ensures.no_fewer)) c.take_row.ensures.counted
    (omega (arith, c.take_row.ensures.no_fewer, c.catch_up.ensures.no_fewer, c.catch_up.ensures.within))
    c.in-Err.ensures.overflow c.in-Err.ensures.step

pub returns-clause-done : goal.returns-clause-done
returns-clause-done g c =
    let P : ℕ → Type 0 = λ k. IsState c.args.rows.now.width c.args.rows.now.rows k c.loop-k.self.first.system in
    subst P (let e : c.loop-k.k ≡ length c.args.rows.now.rows = omega (arith, c.len-k-end.ensures, c.requires.from) in e) c.loop-k.invariant.state

pub returns-clause-conversion : goal.returns-clause-conversion
returns-clause-conversion g c = λ before h.
    answered_here c.args.rows.now.width c.args.rows.now.rows c.loop-k.k before c.loop-k.steps c.loop-k.self.first _ (c.loop-k.invariant.goes_on before h)

pub returns-in-Ok-true-clause-done : goal.returns-in-Ok-true-clause-done
returns-in-Ok-true-clause-done g c =
    subst (λ (b : Bool). MatchBool b (IsDone c.args.rows.now.width c.args.rows.now.rows c.take_row.new.self.beside) (IsState c.args.rows.now.width c.args.rows.now.rows (c.loop-k.k + 1) c.take_row.new.self.first.system)) c.in-Ok-true.field-0-test c.in-Ok-true.ensures.done
