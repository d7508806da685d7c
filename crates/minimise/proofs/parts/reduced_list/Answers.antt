use Rattle.std.specs.Prelude.{false}
use Rattle.std.specs.List.{length_refill}
use Rattle.std.proofs.Common.{◌≡◌, ◌+◌, ◌*◌, ◌≤◌, List, ℤ, ℕ, length, drop, get_or, arith, refl, sym, ap, ◌∙◌, subst}
use Rattle.std.proofs.Math.Nat.{mul-le-mul_right}
use Rattle.std.proofs.lemmas.Result.{err_from_is_err_and}
use Rattle.std.proofs.lemmas.List.{take_all, take_at}
use Rattle.row_core.specs.Range.{AllInRange}
use Rattle.row_core.specs.Lists.{row_at, vectors, AreMarked, Pointwise}
use Rattle.row_core.proofs.RowListLemmas.{vectors_push, marked_push}
use Rattle.minimise.specs.Bases.{IsReduced}
use Rattle.minimise.proofs.Widths.{lines_narrow}
use Rattle.minimise.proofs.PointwiseLists.{pointwise_more, pointwise_none}
use Rattle.minimise.proofs.FaultCases.{row_fault}
use Rattle.minimise.proofs.parts.reduced_list.Goals as goal

-- a number is at most itself
at_most_itself : (n : ℕ) → n ≤ n
at_most_itself n = omega arith

-- no row was reduced
none_counted : (steps width : ℕ) → steps ≤ steps + 0 * width
none_counted steps width = omega arith

pub row-row-requires : goal.row-row-requires
row-row-requires g c = c.requires.within c.loop-index.index 0 c.loop-index-test.true

pub reduce-requires-clause-wide : goal.reduce-requires-clause-wide
reduce-requires-clause-wide g c = ap (λ (v : List ℤ). length v) c.row-row.ensures.value ∙ c.row-row.ensures.wide ∙ sym c.requires.width

pub reduce-requires-clause-buffers : goal.reduce-requires-clause-buffers
reduce-requires-clause-buffers g c = (ap (λ (v : List ℤ). length v) c.deref_mut.ensures.value ∙ c.loop-index.invariant.buffer, ap (λ (v : List ℤ). length v) c.deref_mut-in-loop-index.ensures.value ∙ c.loop-index.invariant.scratch)

pub reduce-requires-clause-in_range : goal.reduce-requires-clause-in_range
reduce-requires-clause-in_range g c = subst AllInRange (sym c.row-row.ensures.value) c.row-row.ensures.in_range

pub returns-in_err-reduce-clause-reduced : goal.returns-in_err-reduce-clause-reduced
returns-in_err-reduce-clause-reduced g c =
    let rows = c.args.rows.now.rows in
    let p = err_from_is_err_and c.from_residual-in_err-reduce.result c.from_residual-in_err-reduce.ensures.1 in
    rw (p.1, p.2) (row_fault rows (vectors c.args.lines.now.rows) (get_or c.args.kept.now c.loop-index.index 0) c.row-row.result.now _ (c.requires.within c.loop-index.index 0 c.loop-index-test.true) c.row-row.ensures.value c.in_err-reduce.ensures.reduced)

pub returns-in_err-reduce-clause-counted : goal.returns-in_err-reduce-clause-counted
returns-in_err-reduce-clause-counted g c =
    let inv = c.loop-index.invariant in
    let narrow = lines_narrow c.args.lines.now c.width-width.ensures.rows c.requires.echelon in
    let more : c.loop-index.index + 1 ≤ length c.args.kept.now = omega arith in
    let most = mul-le-mul_right c.args.rows.now.width more in
    (omega (arith, inv.no_fewer, c.reduce.ensures.counted), omega (arith, inv.no_more, c.reduce.ensures.counted, narrow, c.requires.width, most))

pub returns-in_err-push-clause-counted : goal.returns-in_err-push-clause-counted
returns-in_err-push-clause-counted g c =
    let inv = c.loop-index.invariant in
    let narrow = lines_narrow c.args.lines.now c.width-width.ensures.rows c.requires.echelon in
    let more : c.loop-index.index + 1 ≤ length c.args.kept.now = omega arith in
    let most = mul-le-mul_right c.args.rows.now.width more in
    (omega (arith, inv.no_fewer, c.reduce.ensures.counted), omega (arith, inv.no_more, c.reduce.ensures.counted, narrow, c.requires.width, most))

pub loop-index-preserved : goal.loop-index-preserved
loop-index-preserved g c =
    let inv = c.loop-index.invariant in
    let pushed = c.in_ok-push.ensures.rows in
    let index = c.loop-index.index in
    let narrow = lines_narrow c.args.lines.now c.width-width.ensures.rows c.requires.echelon in
    let new = c.reduce.new.reduced in
    let written : c.deref.result.now ≡ c.reduce.new.reduced = c.deref.ensures ∙ take_at new (drop (length new) c.loop-index.reduced.items) (length c.loop-index.reduced.items) (omega (arith, c.reduce.ensures.widths.0, ap (λ (v : List ℤ). length v) c.deref_mut.ensures.value)) in
    let made : IsReduced (vectors c.args.lines.now.rows) (row_at c.args.rows.now.rows (get_or c.args.kept.now c.loop-index.index 0)) c.deref.result.now =
    subst (λ (v : List ℤ). IsReduced (vectors c.args.lines.now.rows) (row_at c.args.rows.now.rows (get_or c.args.kept.now c.loop-index.index 0)) v) (sym written)
    (subst (λ (v : List ℤ). IsReduced (vectors c.args.lines.now.rows) v c.reduce.new.reduced) c.row-row.ensures.value c.in_ok-reduce.ensures.reduced) in
    record {
      width = c.in_ok-push.ensures.width ∙ inv.width;
      marks = subst (AreMarked false) (sym pushed) (marked_push false c.loop-index.new.rows c.deref.result.now inv.marks);
      buffer = sym (length_refill (length c.loop-index.reduced.items) c.loop-index.reduced.items c.reduce.new.reduced refl) ∙ inv.buffer;
      scratch = sym (length_refill (length c.loop-index.scratch.items) c.loop-index.scratch.items c.reduce.new.scratch refl) ∙ inv.scratch;
      no_fewer = omega (arith, inv.no_fewer, c.reduce.ensures.counted);
      no_more = omega (arith, inv.no_more, c.reduce.ensures.counted, narrow, c.requires.width);
      reduced = pointwise_more (λ (i : ℕ) (r : List ℤ). IsReduced (vectors c.args.lines.now.rows) (row_at c.args.rows.now.rows i) r) c.args.kept.now (vectors c.loop-index.new.rows) (vectors c.push.new.self.rows) index 0 c.deref.result.now c.loop-index-test.true inv.reduced made
          (ap vectors pushed ∙ vectors_push c.loop-index.new.rows c.deref.result.now false);
    }

pub returns-clause-reduced : goal.returns-clause-reduced
returns-clause-reduced g c =
    subst (λ (is : List ℕ). Pointwise (λ (i : ℕ) (r : List ℤ). IsReduced (vectors c.args.lines.now.rows) (row_at c.args.rows.now.rows i) r) is (vectors c.loop-index.new.rows)) (take_all c.loop-index.index c.args.kept.now (omega arith)) c.loop-index.invariant.reduced

pub loop-index-init : goal.loop-index-init
loop-index-init g c = record {
  width = c.in_ok-new.ensures.width ∙ c.width-width.ensures.value;
  marks = subst (AreMarked false) (sym c.in_ok-new.ensures.empty) (λ k d h. absurd (omega (arith, h)));
  buffer = c.in_ok-reduced.ensures ∙ c.width-width.ensures.value;
  scratch = c.in_ok-scratch.ensures ∙ c.width-width.ensures.value;
  no_fewer = at_most_itself c.args.steps.now;
  no_more = none_counted c.args.steps.now c.args.rows.now.width;
  reduced = pointwise_none (λ (i : ℕ) (r : List ℤ). IsReduced (vectors c.args.lines.now.rows) (row_at c.args.rows.now.rows i) r) (vectors c.in_ok-new.new.rows) (ap vectors c.in_ok-new.ensures.empty);
}

pub push-requires-clause-wide : goal.push-requires-clause-wide
push-requires-clause-wide g c =
    let new = c.reduce.new.reduced in
    let written : c.deref.result.now ≡ c.reduce.new.reduced = c.deref.ensures ∙ take_at new (drop (length new) c.loop-index.reduced.items) (length c.loop-index.reduced.items) (omega (arith, c.reduce.ensures.widths.0, ap (λ (v : List ℤ). length v) c.deref_mut.ensures.value)) in
    ap (λ (v : List ℤ). length v) written ∙ c.reduce.ensures.widths.0 ∙ ap (λ (v : List ℤ). length v) c.deref_mut.ensures.value ∙ c.loop-index.invariant.buffer ∙ sym c.loop-index.invariant.width

pub push-requires-clause-in_range : goal.push-requires-clause-in_range
push-requires-clause-in_range g c =
    let new = c.reduce.new.reduced in
    subst AllInRange (sym (c.deref.ensures ∙ take_at new (drop (length new) c.loop-index.reduced.items) (length c.loop-index.reduced.items) (omega (arith, c.reduce.ensures.widths.0, ap (λ (v : List ℤ). length v) c.deref_mut.ensures.value)))) c.reduce.ensures.in_range

pub returns-clause-list : goal.returns-clause-list
returns-clause-list g c = (c.loop-index.invariant.width ∙ c.requires.width, c.loop-index.invariant.marks)
