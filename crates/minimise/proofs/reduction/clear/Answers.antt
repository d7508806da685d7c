use Rattle.std.specs.Prelude.{◌<◌, List, ℤ, pos, length}
use Rattle.std.specs.Int.{w128}
use Rattle.std.proofs.Common.{◌≡◌, refl, sym, subst, get_or, arith, ap, ◌∙◌}
use Rattle.std.proofs.lemmas.Int.{ints, to_z-of_z}
use Rattle.std.proofs.lemmas.List.Elements.{All-get_or}
use mir.Val.{SFits, to_z}
use Rattle.row_core.specs.Vectors.{cell}
use Rattle.row_core.specs.Range.{InRange, AllInRange}
use Rattle.row_core.proofs.SignTests.{fits}
use Rattle.minimise.specs.Bases.{IsCleared}
use Rattle.minimise.proofs.ClearedRows.{cleared_zero, cleared_from_combined}
use Rattle.minimise.proofs.NarrowBases.{pivot_below}
use Rattle.minimise.proofs.reduction.clear.Goals as goal

pub returns-then-row-pivot-eq0-clause-cleared : goal.returns-then-row-pivot-eq0-clause-cleared
returns-then-row-pivot-eq0-clause-cleared g c =
    let line = c.args.line.now in
    let row = c.args.row.now in
    let below : c.args.pivot < length c.args.line.now = pivot_below line c.args.pivot c.requires.line.1 in
    let row_fits : SFits w128 (get_or c.args.row.now c.args.pivot (pos 0)) = fits (get_or row c.args.pivot (pos 0)) (All-get_or InRange row c.args.pivot (pos 0) (omega (arith, below, c.requires.same_width.0)) c.requires.row.0) in
    cleared_zero c.args.pivot line row c.requires.line.1.positive (sym (to_z-of_z w128 _ row_fits) ∙ ap (λ n. to_z w128 n) c.if-row-pivot-eq0.true) c.requires.row.1

pub bounds-line-pivot : goal.bounds-line-pivot
bounds-line-pivot g c = pivot_below c.args.line.now c.args.pivot c.requires.line.1

pub bounds-row-pivot : goal.bounds-row-pivot
bounds-row-pivot g c = omega (arith, pivot_below c.args.line.now c.args.pivot c.requires.line.1, c.requires.same_width.0)

pub offset_bounds-row-pivot : goal.offset_bounds-row-pivot
offset_bounds-row-pivot g c = omega (arith, pivot_below c.args.line.now c.args.pivot c.requires.line.1, c.requires.narrow)

pub offset_bounds-line-pivot : goal.offset_bounds-line-pivot
offset_bounds-line-pivot g c = omega (arith, pivot_below c.args.line.now c.args.pivot c.requires.line.1, c.requires.narrow)

pub returns-clause-cleared : goal.returns-clause-cleared
returns-clause-cleared g c =
    let line = c.args.line.now in
    let row = c.args.row.now in
    let below : c.args.pivot < length c.args.line.now = pivot_below line c.args.pivot c.requires.line.1 in
    let line_fits : SFits w128 (get_or c.args.line.now c.args.pivot (pos 0)) = fits (get_or line c.args.pivot (pos 0)) (All-get_or InRange line c.args.pivot (pos 0) below c.requires.line.0) in
    let row_fits : SFits w128 (get_or c.args.row.now c.args.pivot (pos 0)) = fits (get_or row c.args.pivot (pos 0)) (All-get_or InRange row c.args.pivot (pos 0) (omega (arith, below, c.requires.same_width.0)) c.requires.row.0) in
    let combined = simp to_z-of_z at c.in_default.ensures.combined in
    subst (λ (r : List ℤ). IsCleared c.args.pivot c.args.line.now c.args.row.now r) (sym c.copy_from_slice.ensures.after) (cleared_from_combined c.args.pivot line row c.combine.new.dst c.requires.line.1.positive combined)

pub copy_from_slice-requires : goal.copy_from_slice-requires
copy_from_slice-requires g c = c.requires.same_width.0 ∙ sym (c.combine.ensures.width ∙ c.requires.same_width.1)

pub combine-requires-clause-same_width : goal.combine-requires-clause-same_width
combine-requires-clause-same_width g c = (c.requires.same_width.1 ∙ sym c.requires.same_width.0, c.requires.same_width.0)

pub combine-requires-clause-narrow : goal.combine-requires-clause-narrow
combine-requires-clause-narrow g c = omega (arith, c.requires.same_width.0, c.requires.narrow)

pub combine-requires-clause-first_in_range : goal.combine-requires-clause-first_in_range
combine-requires-clause-first_in_range g c =
    let line = c.args.line.now in
    let here = All-get_or InRange line c.args.pivot (pos 0) (pivot_below line c.args.pivot c.requires.line.1) c.requires.line.0 in
    subst InRange (sym (to_z-of_z w128 _ (fits (get_or line c.args.pivot (pos 0)) here))) here

pub combine-requires-clause-second_in_range : goal.combine-requires-clause-second_in_range
combine-requires-clause-second_in_range g c =
    let row = c.args.row.now in
    let below : c.args.pivot < length c.args.row.now = omega (arith, pivot_below c.args.line.now c.args.pivot c.requires.line.1, c.requires.same_width.0) in
    let here = All-get_or InRange row c.args.pivot (pos 0) below c.requires.row.0 in
    subst InRange (sym (to_z-of_z w128 _ (fits (get_or row c.args.pivot (pos 0)) here))) here

pub combine-requires-clause-nonzero : goal.combine-requires-clause-nonzero
combine-requires-clause-nonzero g c = λ e.
    let line = c.args.line.now in
    let here = All-get_or InRange line c.args.pivot (pos 0) (pivot_below line c.args.pivot c.requires.line.1) c.requires.line.0 in
    let zero : cell c.args.line.now c.args.pivot ≡ pos 0 = sym (to_z-of_z w128 _ (fits (get_or line c.args.pivot (pos 0)) here)) ∙ e in
    omega (arith, ints, zero, c.requires.line.1.positive)

pub left_of-requires-clause-left : goal.left_of-requires-clause-left
left_of-requires-clause-left g c = (c.requires.line.0, c.requires.narrow)

pub left_of-requires-clause-right : goal.left_of-requires-clause-right
left_of-requires-clause-right g c = (c.requires.row.0, omega (arith, c.requires.same_width.0, c.requires.narrow))

pub returns-in-Err-clause-cleared : goal.returns-in-Err-clause-cleared
returns-in-Err-clause-cleared g c =
    let line = c.args.line.now in
    let row = c.args.row.now in
    let below : c.args.pivot < length c.args.line.now = pivot_below line c.args.pivot c.requires.line.1 in
    let line_fits : SFits w128 (get_or c.args.line.now c.args.pivot (pos 0)) = fits (get_or line c.args.pivot (pos 0)) (All-get_or InRange line c.args.pivot (pos 0) below c.requires.line.0) in
    let row_fits : SFits w128 (get_or c.args.row.now c.args.pivot (pos 0)) = fits (get_or row c.args.pivot (pos 0)) (All-get_or InRange row c.args.pivot (pos 0) (omega (arith, below, c.requires.same_width.0)) c.requires.row.0) in
    let leaves = simp to_z-of_z at c.in-Err.ensures.combined in
    rw c.in_ok-left_of.ensures (record { left_is = refl; right_is = refl; leaves = leaves })

pub returns-clause-in_range : goal.returns-clause-in_range
returns-clause-in_range g c = subst AllInRange (sym c.copy_from_slice.ensures.after) c.in_default.ensures.in_range
