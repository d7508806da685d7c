use Rattle.std.specs.Prelude.{◌<◌, pos}
use Rattle.std.specs.Int.{w128}
use Rattle.std.proofs.Common.{◌≡◌, ◌++◌, List, ℤ, length, take, drop, get_or, arith, refl, sym, ap, ◌∙◌, subst}
use Rattle.std.proofs.lemmas.Int.{to_z-of_z}
use Rattle.std.proofs.lemmas.List.{take_at}
use Rattle.std.proofs.lemmas.List.Elements.{All-get_or}
use Rattle.std.proofs.lemmas.Result.{err_from_is_err_and}
use mir.Val.{SFits, to_z}
use Rattle.row_core.specs.Range.{InRange, AllInRange}
use Rattle.row_core.specs.Content.{IsPrimitive}
use Rattle.row_core.specs.Vectors.{cell}
use Rattle.row_core.specs.Lists.{row_at}
use Rattle.row_core.proofs.SignTests.{fits}
use Rattle.cone_laws.specs.Canon.{IsPivot}
use Rattle.minimise.specs.Bases.{IsCleared}
use Rattle.minimise.proofs.ClearedRows.{line_put, cleared_zero}
use Rattle.minimise.proofs.FaultCases.{combine_fault}
use Rattle.minimise.proofs.Widths.{lent_wide}
use Rattle.minimise.proofs.NarrowBases.{pivot_below}
use Rattle.minimise.proofs.bases.GrowingBasis.clear_line.Goals as goal

pub clear-requires-clause-row : goal.clear-requires-clause-row
clear-requires-clause-row g c =
    let old = c.args.self.now.cleared.items in
    let copied = c.copy_from_slice.new.self in
    let kept = take_at copied (drop (length copied) old) (length old) (omega (arith, c.copy_from_slice.ensures.len, ap (λ (v : List ℤ). length v) c.deref_mut.ensures.value)) in
    let same : c.deref_mut-2.result.now ≡ row_at c.args.self.now.lines.rows c.args.index = c.deref_mut-2.ensures.value ∙ kept ∙ c.copy_from_slice.ensures.after ∙ c.row-2.ensures.value in
    (subst AllInRange (sym same) c.row-2.ensures.in_range, subst IsPrimitive (sym same) c.requires.primitive)

pub returns-clause-cleared : goal.returns-clause-cleared
returns-clause-cleared g c =
    let old = c.args.self.now.cleared.items in
    let copied = c.copy_from_slice.new.self in
    let kept = take_at copied (drop (length copied) old) (length old) (omega (arith, c.copy_from_slice.ensures.len, ap (λ (v : List ℤ). length v) c.deref_mut.ensures.value)) in
    let same : c.deref_mut-2.result.now ≡ row_at c.args.self.now.lines.rows c.args.index = c.deref_mut-2.ensures.value ∙ kept ∙ c.copy_from_slice.ensures.after ∙ c.row-2.ensures.value in
    let new = c.clear.new.row in
    let lent = take (length old) (copied ++ drop (length copied) old) in
    let written : c.deref-2.result.now ≡ c.clear.new.row = c.deref-2.ensures ∙ take_at new (drop (length new) lent) (length lent) (omega (arith, c.clear.ensures.widths.0, ap (λ (v : List ℤ). length v) c.deref_mut-2.ensures.value)) in
    let made : IsCleared c.args.pivot c.args.self.now.reduced.items (row_at c.args.self.now.lines.rows c.args.index) c.deref-2.result.now =
    subst (λ (v : List ℤ). IsCleared c.args.pivot c.args.self.now.reduced.items (row_at c.args.self.now.lines.rows c.args.index) v) (sym written)
    (subst (λ (v : List ℤ). IsCleared c.args.pivot v (row_at c.args.self.now.lines.rows c.args.index) c.clear.new.row) c.deref.ensures
    (subst (λ (v : List ℤ). IsCleared c.args.pivot c.deref.result.now v c.clear.new.row) same c.in_ok-clear.ensures.cleared)) in
    line_put c.args.pivot c.args.self.now.reduced.items c.args.self.now.lines.rows c.args.index c.deref-2.result.now c.put.new.self.rows c.requires.index made c.put.ensures.rows

pub bounds-row-pivot : goal.bounds-row-pivot
bounds-row-pivot g c =
    let wide = ap (λ (v : List ℤ). length v) c.row.ensures.value in
    omega (arith, pivot_below c.args.self.now.reduced.items c.args.pivot c.requires.pivot, c.requires.buffers.reduced, wide, c.row.ensures.wide)

pub returns-then-row-pivot-eq0-clause-cleared : goal.returns-then-row-pivot-eq0-clause-cleared
returns-then-row-pivot-eq0-clause-cleared g c =
    let line = c.args.self.now.reduced.items in
    let row = row_at c.args.self.now.lines.rows c.args.index in
    let lent = c.row.result.now in
    let below : c.args.pivot < length c.row.result.now =
    let wide = ap (λ (v : List ℤ). length v) c.row.ensures.value in
    omega (arith, pivot_below line c.args.pivot c.requires.pivot, c.requires.buffers.reduced, wide, c.row.ensures.wide) in
    let row_fits : SFits w128 (get_or c.row.result.now c.args.pivot (pos 0)) = fits (get_or lent c.args.pivot (pos 0)) (All-get_or InRange lent c.args.pivot (pos 0) below (subst AllInRange (sym c.row.ensures.value) c.row.ensures.in_range)) in
    let zero : cell c.row.result.now c.args.pivot ≡ pos 0 = sym (to_z-of_z w128 _ row_fits) ∙ ap (λ n. to_z w128 n) c.if-row-pivot-eq0.true in
    record {
      as_many = refl;
      cleared = cleared_zero c.args.pivot line row c.requires.pivot.positive (sym (ap (λ (v : List ℤ). cell v c.args.pivot) c.row.ensures.value) ∙ zero) c.requires.primitive;
      others = λ k ne. refl;
      marks = λ k. refl;
    }

pub copy_from_slice-requires : goal.copy_from_slice-requires
copy_from_slice-requires g c = ap (λ (v : List ℤ). length v) c.deref_mut.ensures.value ∙ c.requires.buffers.cleared ∙ sym (ap (λ (v : List ℤ). length v) c.row-2.ensures.value ∙ c.row-2.ensures.wide)

pub clear-requires-clause-same_width : goal.clear-requires-clause-same_width
clear-requires-clause-same_width g c =
    let line = sym (ap (λ (v : List ℤ). length v) c.deref.ensures ∙ c.requires.buffers.reduced) in (
      ap (λ (v : List ℤ). length v) c.deref_mut-2.ensures.value ∙ lent_wide c.args.self.now.cleared.items c.copy_from_slice.new.self _ c.requires.buffers.cleared ∙ line,
      ap (λ (v : List ℤ). length v) c.deref_mut-3.ensures.value ∙ c.requires.buffers.scratch ∙ line,
    )

pub clear-requires-clause-narrow : goal.clear-requires-clause-narrow
clear-requires-clause-narrow g c =
    let wide = ap (λ (v : List ℤ). length v) c.deref.ensures in
    omega (arith, wide, c.requires.buffers.reduced, c.width-width.ensures.narrow)

pub clear-requires-clause-line : goal.clear-requires-clause-line
clear-requires-clause-line g c = (subst AllInRange (sym c.deref.ensures) c.requires.in_range, subst (λ (v : List ℤ). IsPivot v c.args.pivot) (sym c.deref.ensures) c.requires.pivot)

pub returns-in_err-clear-clause-buffers : goal.returns-in_err-clear-clause-buffers
returns-in_err-clear-clause-buffers g c = record {
  reduced = c.requires.buffers.reduced;
  cleared = lent_wide _ c.clear.new.row _ (lent_wide c.args.self.now.cleared.items c.copy_from_slice.new.self _ c.requires.buffers.cleared);
  scratch = lent_wide c.args.self.now.scratch.items c.clear.new.scratch _ c.requires.buffers.scratch;
}

pub returns-in_err-clear-clause-cleared : goal.returns-in_err-clear-clause-cleared
returns-in_err-clear-clause-cleared g c =
    let old = c.args.self.now.cleared.items in
    let copied = c.copy_from_slice.new.self in
    let kept = take_at copied (drop (length copied) old) (length old) (omega (arith, c.copy_from_slice.ensures.len, ap (λ (v : List ℤ). length v) c.deref_mut.ensures.value)) in
    let same : c.deref_mut-2.result.now ≡ row_at c.args.self.now.lines.rows c.args.index = c.deref_mut-2.ensures.value ∙ kept ∙ c.copy_from_slice.ensures.after ∙ c.row-2.ensures.value in
    let p = err_from_is_err_and c.from_residual.result c.from_residual.ensures.1 in
    rw (p.1, p.2) (combine_fault c.args.pivot _ _ _ _ _ c.deref.ensures same c.in_err-clear.ensures.cleared)

pub put-requires-clause-wide : goal.put-requires-clause-wide
put-requires-clause-wide g c = ap (λ (v : List ℤ). length v) c.deref-2.ensures ∙ lent_wide _ c.clear.new.row _ (lent_wide c.args.self.now.cleared.items c.copy_from_slice.new.self _ c.requires.buffers.cleared)

pub put-requires-clause-in_range : goal.put-requires-clause-in_range
put-requires-clause-in_range g c =
    let old = c.args.self.now.cleared.items in
    let copied = c.copy_from_slice.new.self in
    let new = c.clear.new.row in
    let lent = take (length old) (copied ++ drop (length copied) old) in
    let written : c.deref-2.result.now ≡ c.clear.new.row = c.deref-2.ensures ∙ take_at new (drop (length new) lent) (length lent) (omega (arith, c.clear.ensures.widths.0, ap (λ (v : List ℤ). length v) c.deref_mut-2.ensures.value)) in
    subst AllInRange (sym written) c.clear.ensures.in_range

pub returns-clause-buffers : goal.returns-clause-buffers
returns-clause-buffers g c = record {
  reduced = c.requires.buffers.reduced ∙ sym c.put.ensures.width;
  cleared = lent_wide _ c.clear.new.row _ (lent_wide c.args.self.now.cleared.items c.copy_from_slice.new.self _ c.requires.buffers.cleared) ∙ sym c.put.ensures.width;
  scratch = lent_wide c.args.self.now.scratch.items c.clear.new.scratch _ c.requires.buffers.scratch ∙ sym c.put.ensures.width;
}
