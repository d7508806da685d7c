use Rattle.std.proofs.Common.{◌≡◌, ◌<◌, ◌∙◌, ℕ, ℤ, ◌*ℤ◌, pos, length, get_or, ap, sym, subst, arith, rules}
use Rattle.std.specs.Int.{w128}
use Rattle.std.proofs.lemmas.Int.{to_z-of_z, fits_signed_from_abs}
use Rattle.std.proofs.lemmas.List.{get_or-set_other}
use Rattle.std.proofs.lemmas.List.Elements.{All-from_get_or}
use mir.Val.{SFits}
use Rattle.row_core.specs.Vectors.{cell}
use Rattle.row_core.specs.Range.{InRange}
use Rattle.row_core.proofs.CellLemmas.{written_more}
use Rattle.row_core.proofs.ContentLemmas.{scale_from_cells}
use Rattle.mapped_systems.proofs.substitution.scale_all.Goals as goal

pub loop-column-preserved : goal.loop-column-preserved
loop-column-preserved c =
    let factor_fits : SFits w128 c.args.factor = c.ranges.factor in
    let old_fits : SFits w128 (get_or c.loop-column.row c.loop-column.column (pos 0)) = search rules in
    let within : c.loop-column.column < length c.loop-column.row = omega arith in
    let old : cell c.loop-column.row c.loop-column.column ≡ cell c.args.row.now c.loop-column.column = c.loop-column.invariant.rest c.loop-column.column (omega arith) in
    let value : c.in-Some.entry ≡ c.args.factor *ℤ cell c.loop-column.row c.loop-column.column = simp to_z-of_z at c.in-Some.ensures.1 in
    let stays : InRange (c.args.factor *ℤ cell c.loop-column.row c.loop-column.column) = simp to_z-of_z at c.in-Some.ensures.0 in
    let in_range : InRange c.in-Some.entry = subst InRange (sym value) stays in
    let entry_fits : SFits w128 c.in-Some.entry = fits_signed_from_abs w128 c.in-Some.entry in_range.size in
    let done = simp to_z-of_z at c.loop-column.invariant.done in
    simp to_z-of_z (record {
      done = written_more (λ (k : ℕ) (z : ℤ). z ≡ c.args.factor *ℤ cell c.args.row.now k) c.loop-column.row c.loop-column.column c.in-Some.entry within done (value ∙ ap (λ (z : ℤ). c.args.factor *ℤ z) old);
      in_range = written_more (λ (k : ℕ) (z : ℤ). InRange z) c.loop-column.row c.loop-column.column c.in-Some.entry within c.loop-column.invariant.in_range in_range;
      rest = λ k h. get_or-set_other c.loop-column.row c.loop-column.column k c.in-Some.entry (pos 0) (λ e. absurd (omega (arith, h, e))) ∙ c.loop-column.invariant.rest k (omega (arith, h));
    })

pub returns-clause-scaled : goal.returns-clause-scaled
returns-clause-scaled c =
    let factor_fits : SFits w128 c.args.factor = c.ranges.factor in
    let done = simp to_z-of_z at c.loop-column.invariant.done in (
      scale_from_cells c.loop-column.row c.args.row.now c.args.factor (omega arith) (λ k h. done k (omega arith)),
      All-from_get_or InRange c.loop-column.row (pos 0) (λ k h. c.loop-column.invariant.in_range k (omega arith)),
    )

pub returns-in_default-clause-scaled : goal.returns-in_default-clause-scaled
returns-in_default-clause-scaled c =
    let factor_fits : SFits w128 c.args.factor = c.ranges.factor in
    let old_fits : SFits w128 (get_or c.loop-column.row c.loop-column.column (pos 0)) = search rules in
    let old : cell c.loop-column.row c.loop-column.column ≡ cell c.args.row.now c.loop-column.column = c.loop-column.invariant.rest c.loop-column.column (omega arith) in
    let none = simp to_z-of_z at c.in_default.ensures in
    let done = simp to_z-of_z at c.loop-column.invariant.done in
    record {
      column = c.loop-column-test.true;
      leaves = λ stays. none (subst (λ (z : ℤ). InRange (c.args.factor *ℤ z)) (sym old) stays);
      before = λ k h. subst InRange (done k h) (c.loop-column.invariant.in_range k h);
    }
