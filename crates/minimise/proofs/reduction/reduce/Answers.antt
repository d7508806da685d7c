use Rattle.std.proofs.Common.{◌≡◌, ◌+◌, ◌<◌, suc, ℕ, List, ℤ, length, take, arith, sym, ap, ◌∙◌, subst}
use Rattle.std.proofs.lemmas.Result.{err_from_is_err_and}
use Rattle.row_core.specs.Range.{AllInRange}
use Rattle.row_core.specs.Content.{IsMultipleOf}
use Rattle.row_core.specs.Lists.{vectors, vector_at}
use Rattle.cone_laws.specs.Canon.{IsPivot}
use Rattle.row_core.proofs.RowListLemmas.{length-vectors, vector_at-vectors}
use Rattle.minimise.specs.Bases.{IsCleared, IsReduced}
use Rattle.minimise.proofs.Reductions.{reduced_none, reduced_more, reduced_all}
use Rattle.minimise.proofs.FaultCases.{reduce_fault}
use Rattle.minimise.proofs.reduction.reduce.Goals as goal

pub copy_from_slice-requires : goal.copy_from_slice-requires
copy_from_slice-requires g c = c.requires.buffers.0 ∙ sym c.requires.wide

pub make_primitive-requires : goal.make_primitive-requires
make_primitive-requires g c = subst AllInRange (sym c.copy_from_slice.ensures.after) c.requires.in_range

pub loop-index-init : goal.loop-index-init
loop-index-init g c =
    let wide : length c.make_primitive.new.row ≡ length c.args.row.now = c.make_primitive.ensures.width ∙ ap (λ (v : List ℤ). length v) c.copy_from_slice.ensures.after in
    record {
      width = wide ∙ c.requires.wide;
      scratch = c.requires.buffers.1;
      no_fewer = omega arith;
      no_more = omega arith;
      reduced = reduced_none c.args.row.now c.make_primitive.new.row (record { multiple = subst (λ (v : List ℤ). IsMultipleOf v c.make_primitive.new.row) c.copy_from_slice.ensures.after c.make_primitive.ensures.multiple; primitive = c.make_primitive.ensures.primitive }) wide;
      in_range = c.make_primitive.ensures.in_range;
    }

pub pivot_of-requires : goal.pivot_of-requires
pivot_of-requires g c =
    let rows = c.args.lines.now.rows in
    let index = c.loop-index.index in
    let below : index < length (vectors c.args.lines.now.rows) = omega (arith, length-vectors rows) in
    (c.requires.echelon.pivot index, subst (λ (v : List ℤ). IsPivot v (c.requires.echelon.pivot index)) (vector_at-vectors rows index ∙ sym c.row-line.ensures.value) (c.requires.echelon.pivots index below))

pub clear-requires-clause-same_width : goal.clear-requires-clause-same_width
clear-requires-clause-same_width g c =
    let line : length c.row-line.result.now ≡ c.args.lines.now.width = ap (λ (v : List ℤ). length v) c.row-line.ensures.value ∙ c.row-line.ensures.wide in
    (c.loop-index.invariant.width ∙ sym line, c.loop-index.invariant.scratch ∙ sym line)

pub clear-requires-clause-narrow : goal.clear-requires-clause-narrow
clear-requires-clause-narrow g c = subst (λ (n : ℕ). n < 4294967296) (sym (ap (λ (v : List ℤ). length v) c.row-line.ensures.value ∙ c.row-line.ensures.wide)) c.width-width.ensures.narrow

pub clear-requires-clause-row : goal.clear-requires-clause-row
clear-requires-clause-row g c = (c.loop-index.invariant.in_range, c.loop-index.invariant.reduced.primitive)

pub clear-requires-clause-line : goal.clear-requires-clause-line
clear-requires-clause-line g c = (subst AllInRange (sym c.row-line.ensures.value) c.row-line.ensures.in_range, c.pivot_of.ensures)

pub returns-in_err-clear-clause-reduced : goal.returns-in_err-clear-clause-reduced
returns-in_err-clear-clause-reduced g c =
    let rows = c.args.lines.now.rows in
    let index = c.loop-index.index in
    let line : c.row-line.result.now ≡ vector_at (vectors c.args.lines.now.rows) c.loop-index.index = c.row-line.ensures.value ∙ sym (vector_at-vectors rows index) in
    let p = err_from_is_err_and c.from_residual.result c.from_residual.ensures.1 in
    rw (p.1, p.2) (reduce_fault (vectors rows) c.args.row.now c.loop-index.reduced c.row-line.result.now index c.pivot_of.result _ (omega (arith, length-vectors rows)) line c.pivot_of.ensures c.loop-index.invariant.reduced c.in_err-clear.ensures.cleared)

pub loop-index-preserved : goal.loop-index-preserved
loop-index-preserved g c =
    let inv = c.loop-index.invariant in
    let rows = c.args.lines.now.rows in
    let index = c.loop-index.index in
    let line : c.row-line.result.now ≡ vector_at (vectors c.args.lines.now.rows) c.loop-index.index = c.row-line.ensures.value ∙ sym (vector_at-vectors rows index) in
    let made : IsCleared c.pivot_of.result (vector_at (vectors c.args.lines.now.rows) c.loop-index.index) c.loop-index.reduced c.clear.new.row =
    subst (λ (v : List ℤ). IsCleared c.pivot_of.result v c.loop-index.reduced c.clear.new.row) line c.in_ok-clear.ensures.cleared in
    let one : suc c.loop-index.index ≡ c.loop-index.index + 1 = omega arith in
    record {
      width = c.clear.ensures.widths.0 ∙ inv.width;
      scratch = c.clear.ensures.widths.1 ∙ inv.scratch;
      no_fewer = omega (arith, inv.no_fewer, c.clear.ensures.counted);
      no_more = omega (arith, inv.no_more, c.clear.ensures.counted);
      reduced = subst (λ (n : ℕ). IsReduced (take n (vectors c.args.lines.now.rows)) c.args.row.now c.clear.new.row) one
          (reduced_more (vectors rows) c.requires.echelon c.args.row.now c.loop-index.reduced c.clear.new.row index c.pivot_of.result (omega (arith, length-vectors rows)) (subst (λ (v : List ℤ). IsPivot v c.pivot_of.result) line c.pivot_of.ensures) inv.reduced made);
      in_range = c.clear.ensures.in_range;
    }

pub returns-clause-reduced : goal.returns-clause-reduced
returns-clause-reduced g c = reduced_all (vectors c.args.lines.now.rows) c.loop-index.index c.args.row.now c.loop-index.reduced (omega (arith, length-vectors c.args.lines.now.rows)) c.loop-index.invariant.reduced
