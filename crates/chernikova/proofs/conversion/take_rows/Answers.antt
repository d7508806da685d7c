use Rattle.std.specs.Prelude.{◌≡◌, ◌-◌, ◌+◌, ◌≤◌, ℕ, length}
use Rattle.std.proofs.Common.{subst, arith}
use Rattle.chernikova.specs.Conversion.{IsState, TellsChange, IsCountedBetween}
use Rattle.chernikova.proofs.Counts.{counted_none, counted_more, counted_all, counted_before}
use Rattle.chernikova.proofs.Prefixes.{overflow_from}
use Rattle.chernikova.proofs.Told.{none_told, tells_more}
use Rattle.std.proofs.lemmas.Result.{err_from_is_err_and}
use Rattle.chernikova.proofs.conversion.take_rows.Goals as goal

pub loop-k-preserved : goal.loop-k-preserved
loop-k-preserved g c =
    let inv = c.loop-k.invariant in
    record {
      from = omega (arith, inv.from);
      state = c.in_ok-row_changes.ensures.state;
      told = tells_more c.args.rows.now.width c.args.rows.now.rows c.args.from c.loop-k.k c.loop-k.changed c.in_ok-row_changes.row_changes inv.from inv.told c.in_ok-row_changes.ensures.changed;
      no_fewer = omega (arith, inv.no_fewer, c.take_row.ensures.no_fewer);
      counted = counted_more c.args.rows.now.width c.args.rows.now.rows c.args.from c.loop-k.k (c.loop-k.steps - c.args.steps.now) (c.take_row.new.steps - c.loop-k.steps) (c.take_row.new.steps - c.args.steps.now) inv.counted c.take_row.ensures.counted
          (omega (arith, inv.no_fewer, c.take_row.ensures.no_fewer));
    }

pub loop-k-init : goal.loop-k-init
loop-k-init g c = record {
  from = omega arith;
  state = c.requires.state;
  told = none_told c.args.rows.now.width c.args.rows.now.rows c.args.from;
  no_fewer = omega arith;
  counted = counted_none c.args.rows.now.width c.args.rows.now.rows c.args.from _ (omega arith);
}

pub returns-clause-changed : goal.returns-clause-changed
returns-clause-changed g c =
    let P : ℕ → Type 0 = λ k. TellsChange c.args.rows.now.width c.args.rows.now.rows c.args.from k c.loop-k.changed in
    subst P (let e : c.loop-k.k ≡ length c.args.rows.now.rows = omega (arith, c.len-k-end.ensures, c.requires.from) in e) c.loop-k.invariant.told

pub returns-clause-state : goal.returns-clause-state
returns-clause-state g c =
    let P : ℕ → Type 0 = λ k. IsState c.args.rows.now.width c.args.rows.now.rows k c.loop-k.cone in
    subst P (let e : c.loop-k.k ≡ length c.args.rows.now.rows = omega (arith, c.len-k-end.ensures, c.requires.from) in e) c.loop-k.invariant.state

pub returns-in_err-row_changes-clause-conversion : goal.returns-in_err-row_changes-clause-conversion
returns-in_err-row_changes-clause-conversion g c =
    let inv = c.loop-k.invariant in
    let width = c.args.rows.now.width in
    let rows = c.args.rows.now.rows in
    let k = c.loop-k.k in
    let error = c.in_err-row_changes.field-0.0 in
    let total : ℕ = c.take_row.new.steps - c.args.steps.now in
    let none_fewer : c.args.steps.now ≤ c.take_row.new.steps = omega (arith, inv.no_fewer, c.take_row.ensures.no_fewer) in
    let counted = counted_more width rows c.args.from k (c.loop-k.steps - c.args.steps.now) (c.take_row.new.steps - c.loop-k.steps) total inv.counted c.take_row.ensures.counted
    (omega (arith, inv.no_fewer, c.take_row.ensures.no_fewer)) in
    let p = err_from_is_err_and c.from_residual.result c.from_residual.ensures.1 in
    rw (p.1, p.2) (record {
      overflow = overflow_from width rows c.args.from k error inv.from c.in_err-row_changes.ensures.step c.in_err-row_changes.ensures.state;
      no_fewer = none_fewer;
      counted = counted_all width rows c.args.from (k + 1) total (omega arith) counted;
      counted_before = counted_before width rows c.args.from k total error c.in_err-row_changes.ensures.step counted;
    })

pub returns-clause-conversion : goal.returns-clause-conversion
returns-clause-conversion g c =
    let total : ℕ = c.loop-k.steps - c.args.steps.now in
    let all : c.loop-k.k ≡ length c.args.rows.now.rows = omega (arith, c.len-k-end.ensures, c.requires.from) in
    record {
      overflow = tt;
      no_fewer = c.loop-k.invariant.no_fewer;
      counted = subst (λ (n : ℕ). IsCountedBetween c.args.rows.now.width c.args.rows.now.rows c.args.from n total) all c.loop-k.invariant.counted;
      counted_before = tt;
    }
