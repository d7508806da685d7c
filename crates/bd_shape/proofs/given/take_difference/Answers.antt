use Rattle.std.specs.Prelude.{◌≡◌, ℤ, List, pos, neg_ℤ, ◌-ℤ◌, slice_index_or, ◌≢◌, OnOk, IfErr}
use Rattle.std.specs.Int.{w128}
use Rattle.std.proofs.Common.{arith, rules, sym, ap, ◌∙◌, subst}
use Rattle.std.proofs.lemmas.Int.{ints, to_z-of_z, fits_signed_from_abs}
use Rattle.std.proofs.lemmas.Result.{on_ok_weaker, IfErr-weaker}
use mir.Val.{SFits}
use Rattle.row_core.specs.Vectors.{cell}
use Rattle.row_core.specs.Range.{InRange}
use Rattle.row_core.specs.Refusals.{IsOverflowIn}
use Rattle.row_core.proofs.RefusalLemmas.{overflow_weaker}
use Rattle.cons_sys.specs.Constraints.{row_at}
use Rattle.difference_bounds.specs.Tables.{bounds_of}
use Rattle.bd_shape.specs.Given.{IsLowered}
use Rattle.bd_shape.specs.Refusals.{LeavesInTaking, LeavesInTwoGiven}
use Rattle.bd_shape.proofs.GivenTables.{reads_inequality, reads_equality, mirror_kept, upper_leaves, lower_leaves}
use Rattle.cons_sys.specs.declared.kind.ConKind.TheVariants.{Eq, Ge, Gt}
use Rattle.bd_shape.proofs.given.take_difference.Goals as goal

negated : (z : ℤ) → pos 0 -ℤ z ≡ neg_ℤ z
negated z = omega (arith, ints)

negated_fits : (z : ℤ) → InRange z → SFits w128 (pos 0 -ℤ z)
negated_fits z h = let size = h.size in fits_signed_from_abs w128 (pos 0 -ℤ z) (omega (arith, ints, size))

negated_in_range : (z : ℤ) → InRange z → InRange (pos 0 -ℤ z)
negated_in_range z h = let size = h.size in record { size = omega (arith, ints, size) }

-- nor is a strict one
strict_not_equality : Gt ≢ Eq
strict_not_equality e = cc

-- an inequality is no equality
inequality_not_equality : Ge ≢ Eq
inequality_not_equality e = cc

pub returns-in_err-take-clause-overflow : goal.returns-in_err-take-clause-overflow
returns-in_err-take-clause-overflow c =
    let cs = c.args.cons.now in
    let same : cell c.row.result.now c.dim.result ≡ cell (row_at cs.list c.args.k) cs.dim = ap (λ (v : List ℤ). cell v c.dim.result) c.row.ensures.value ∙ ap (cell (row_at cs.list c.args.k)) c.dim.ensures.value in
    let inside : InRange (cell (row_at cs.list c.args.k) cs.dim) = c.row.ensures.in_range cs.dim (pos 0) (let w = c.row.ensures.wide in omega (arith, w)) in
    let kept : InRange (cell c.row.result.now c.dim.result) = subst InRange (sym same) inside in
    let fits : SFits w128 (slice_index_or c.row.result.now c.dim.result (pos 0)) = fits_signed_from_abs w128 (slice_index_or c.row.result.now c.dim.result (pos 0)) kept.size in
    let factor_fits : SFits w128 c.args.factor = search rules in
    let leaves = simp to_z-of_z at c.in_err-take.ensures.overflow in
    let known : IsOverflowIn (LeavesInTwoGiven cs) c.in_err-take.field-0.0 =
    overflow_weaker (LeavesInTaking (bounds_of c.args.bounds.now) c.args.minus c.args.plus (record { num = cell c.row.result.now c.dim.result; den = c.args.factor })) (LeavesInTwoGiven cs)
    (λ over h. upper_leaves cs c.args.k c.args.plus c.args.minus c.args.factor c.requires.difference c.args.bounds.now over c.requires.index c.requires.reading (subst (λ (z : ℤ). LeavesInTaking (bounds_of c.args.bounds.now) c.args.minus c.args.plus (record { num = z; den = c.args.factor }) over) same h))
    c.in_err-take.field-0.0 leaves in
    search (rules, known, c.from_residual.ensures)

pub returns-in-Ge-clause-reading : goal.returns-in-Ge-clause-reading
returns-in-Ge-clause-reading c =
    let cs = c.args.cons.now in
    let same : cell c.row.result.now c.dim.result ≡ cell (row_at cs.list c.args.k) cs.dim = ap (λ (v : List ℤ). cell v c.dim.result) c.row.ensures.value ∙ ap (cell (row_at cs.list c.args.k)) c.dim.ensures.value in
    let inside : InRange (cell (row_at cs.list c.args.k) cs.dim) = c.row.ensures.in_range cs.dim (pos 0) (let w = c.row.ensures.wide in omega (arith, w)) in
    let kept : InRange (cell c.row.result.now c.dim.result) = subst InRange (sym same) inside in
    let fits : SFits w128 (slice_index_or c.row.result.now c.dim.result (pos 0)) = fits_signed_from_abs w128 (slice_index_or c.row.result.now c.dim.result (pos 0)) kept.size in
    let factor_fits : SFits w128 c.args.factor = search rules in
    let first = simp to_z-of_z at c.in_ok-take.ensures.lowered in
    let upper : IsLowered c.args.bounds.now c.take.new.bounds c.args.minus c.args.plus (record { num = cell (row_at cs.list c.args.k) cs.dim; den = c.args.factor }) = subst (λ (z : ℤ). IsLowered c.args.bounds.now c.take.new.bounds c.args.minus c.args.plus (record { num = z; den = c.args.factor })) same first in
    reads_inequality cs c.args.k c.args.plus c.args.minus c.args.factor c.requires.difference c.args.bounds.now c.take.new.bounds c.requires.reading c.places-old.ensures.table.fractions upper c.take.ensures.places (λ e. inequality_not_equality (c.in-Ge.ensures ∙ e))

pub returns-in-Gt-clause-reading : goal.returns-in-Gt-clause-reading
returns-in-Gt-clause-reading c =
    let cs = c.args.cons.now in
    let same : cell c.row.result.now c.dim.result ≡ cell (row_at cs.list c.args.k) cs.dim = ap (λ (v : List ℤ). cell v c.dim.result) c.row.ensures.value ∙ ap (cell (row_at cs.list c.args.k)) c.dim.ensures.value in
    let inside : InRange (cell (row_at cs.list c.args.k) cs.dim) = c.row.ensures.in_range cs.dim (pos 0) (let w = c.row.ensures.wide in omega (arith, w)) in
    let kept : InRange (cell c.row.result.now c.dim.result) = subst InRange (sym same) inside in
    let fits : SFits w128 (slice_index_or c.row.result.now c.dim.result (pos 0)) = fits_signed_from_abs w128 (slice_index_or c.row.result.now c.dim.result (pos 0)) kept.size in
    let factor_fits : SFits w128 c.args.factor = search rules in
    let first = simp to_z-of_z at c.in_ok-take.ensures.lowered in
    let upper : IsLowered c.args.bounds.now c.take.new.bounds c.args.minus c.args.plus (record { num = cell (row_at cs.list c.args.k) cs.dim; den = c.args.factor }) = subst (λ (z : ℤ). IsLowered c.args.bounds.now c.take.new.bounds c.args.minus c.args.plus (record { num = z; den = c.args.factor })) same first in
    reads_inequality cs c.args.k c.args.plus c.args.minus c.args.factor c.requires.difference c.args.bounds.now c.take.new.bounds c.requires.reading c.places-old.ensures.table.fractions upper c.take.ensures.places (λ e. strict_not_equality (c.in-Gt.ensures ∙ e))

pub returns-in-Eq-clause-reading : goal.returns-in-Eq-clause-reading
returns-in-Eq-clause-reading c =
    let cs = c.args.cons.now in
    let same : cell c.row.result.now c.dim.result ≡ cell (row_at cs.list c.args.k) cs.dim = ap (λ (v : List ℤ). cell v c.dim.result) c.row.ensures.value ∙ ap (cell (row_at cs.list c.args.k)) c.dim.ensures.value in
    let inside : InRange (cell (row_at cs.list c.args.k) cs.dim) = c.row.ensures.in_range cs.dim (pos 0) (let w = c.row.ensures.wide in omega (arith, w)) in
    let kept : InRange (cell c.row.result.now c.dim.result) = subst InRange (sym same) inside in
    let fits : SFits w128 (slice_index_or c.row.result.now c.dim.result (pos 0)) = fits_signed_from_abs w128 (slice_index_or c.row.result.now c.dim.result (pos 0)) kept.size in
    let factor_fits : SFits w128 c.args.factor = search rules in
    let first = simp to_z-of_z at c.in_ok-take.ensures.lowered in
    let upper : IsLowered c.args.bounds.now c.take.new.bounds c.args.minus c.args.plus (record { num = cell (row_at cs.list c.args.k) cs.dim; den = c.args.factor }) = subst (λ (z : ℤ). IsLowered c.args.bounds.now c.take.new.bounds c.args.minus c.args.plus (record { num = z; den = c.args.factor })) same first in
    let minus_fits : SFits w128 (pos 0 -ℤ slice_index_or c.row.result.now c.dim.result (pos 0)) = negated_fits (slice_index_or c.row.result.now c.dim.result (pos 0)) kept in
    let second = subst (λ (z : ℤ). OnOk c.take-in-Eq.result (IsLowered c.take.new.bounds c.take-in-Eq.new.bounds c.args.plus c.args.minus (record { num = z; den = c.args.factor }))) (negated (slice_index_or c.row.result.now c.dim.result (pos 0))) (simp to_z-of_z at c.take-in-Eq.ensures.lowered) in
    let step = λ (s : IsLowered c.take.new.bounds c.take-in-Eq.new.bounds c.args.plus c.args.minus (record { num = neg_ℤ (cell c.row.result.now c.dim.result); den = c.args.factor })).
    reads_equality cs c.args.k c.args.plus c.args.minus c.args.factor c.requires.difference c.args.bounds.now c.take.new.bounds c.requires.reading c.places-old.ensures.table.fractions upper
    c.take-in-Eq.new.bounds c.places-upper.ensures.table.fractions c.take.ensures.places
    (subst (λ (z : ℤ). IsLowered c.take.new.bounds c.take-in-Eq.new.bounds c.args.plus c.args.minus (record { num = neg_ℤ z; den = c.args.factor })) same s)
    (sym c.in-Eq.ensures) c.take-in-Eq.ensures.places in
    on_ok_weaker c.take-in-Eq.result step second

pub returns-in-Eq-clause-overflow : goal.returns-in-Eq-clause-overflow
returns-in-Eq-clause-overflow c =
    let cs = c.args.cons.now in
    let same : cell c.row.result.now c.dim.result ≡ cell (row_at cs.list c.args.k) cs.dim = ap (λ (v : List ℤ). cell v c.dim.result) c.row.ensures.value ∙ ap (cell (row_at cs.list c.args.k)) c.dim.ensures.value in
    let inside : InRange (cell (row_at cs.list c.args.k) cs.dim) = c.row.ensures.in_range cs.dim (pos 0) (let w = c.row.ensures.wide in omega (arith, w)) in
    let kept : InRange (cell c.row.result.now c.dim.result) = subst InRange (sym same) inside in
    let fits : SFits w128 (slice_index_or c.row.result.now c.dim.result (pos 0)) = fits_signed_from_abs w128 (slice_index_or c.row.result.now c.dim.result (pos 0)) kept.size in
    let factor_fits : SFits w128 c.args.factor = search rules in
    let first = simp to_z-of_z at c.in_ok-take.ensures.lowered in
    let upper : IsLowered c.args.bounds.now c.take.new.bounds c.args.minus c.args.plus (record { num = cell (row_at cs.list c.args.k) cs.dim; den = c.args.factor }) = subst (λ (z : ℤ). IsLowered c.args.bounds.now c.take.new.bounds c.args.minus c.args.plus (record { num = z; den = c.args.factor })) same first in
    let minus_fits : SFits w128 (pos 0 -ℤ slice_index_or c.row.result.now c.dim.result (pos 0)) = negated_fits (slice_index_or c.row.result.now c.dim.result (pos 0)) kept in
    let leaves = subst (λ (z : ℤ). IfErr c.take-in-Eq.result (IsOverflowIn (LeavesInTaking (bounds_of c.take.new.bounds) c.args.plus c.args.minus (record { num = z; den = c.args.factor })))) (negated (slice_index_or c.row.result.now c.dim.result (pos 0))) (simp to_z-of_z at c.take-in-Eq.ensures.overflow) in
    IfErr-weaker c.take-in-Eq.result (IsOverflowIn (LeavesInTaking (bounds_of c.take.new.bounds) c.args.plus c.args.minus (record { num = neg_ℤ (cell c.row.result.now c.dim.result); den = c.args.factor }))) (IsOverflowIn (LeavesInTwoGiven cs))
    (overflow_weaker (LeavesInTaking (bounds_of c.take.new.bounds) c.args.plus c.args.minus (record { num = neg_ℤ (cell c.row.result.now c.dim.result); den = c.args.factor })) (LeavesInTwoGiven cs)
    (λ over h. lower_leaves cs c.args.k c.args.plus c.args.minus c.args.factor c.requires.difference c.args.bounds.now c.take.new.bounds over c.requires.index c.requires.reading
    (mirror_kept cs c.args.k c.args.plus c.args.minus c.args.factor c.requires.difference c.args.bounds.now c.take.new.bounds c.requires.reading c.places-old.ensures.table.fractions upper)
    (sym c.in-Eq.ensures)
    (subst (λ (z : ℤ). LeavesInTaking (bounds_of c.take.new.bounds) c.args.plus c.args.minus (record { num = neg_ℤ z; den = c.args.factor }) over) same h)))
    leaves

pub take-requires-in-Eq-clause-num : goal.take-requires-in-Eq-clause-num
take-requires-in-Eq-clause-num c =
    let cs = c.args.cons.now in
    let same : cell c.row.result.now c.dim.result ≡ cell (row_at cs.list c.args.k) cs.dim = ap (λ (v : List ℤ). cell v c.dim.result) c.row.ensures.value ∙ ap (cell (row_at cs.list c.args.k)) c.dim.ensures.value in
    let inside : InRange (cell (row_at cs.list c.args.k) cs.dim) = c.row.ensures.in_range cs.dim (pos 0) (let w = c.row.ensures.wide in omega (arith, w)) in
    let kept : InRange (cell c.row.result.now c.dim.result) = subst InRange (sym same) inside in
    let fits : SFits w128 (slice_index_or c.row.result.now c.dim.result (pos 0)) = fits_signed_from_abs w128 (slice_index_or c.row.result.now c.dim.result (pos 0)) kept.size in
    let minus_fits : SFits w128 (pos 0 -ℤ slice_index_or c.row.result.now c.dim.result (pos 0)) = negated_fits (slice_index_or c.row.result.now c.dim.result (pos 0)) kept in
    simp to_z-of_z (negated_in_range (slice_index_or c.row.result.now c.dim.result (pos 0)) kept)

pub overflow_sub-constant : goal.overflow_sub-constant
overflow_sub-constant c =
    let cs = c.args.cons.now in
    let same : cell c.row.result.now c.dim.result ≡ cell (row_at cs.list c.args.k) cs.dim = ap (λ (v : List ℤ). cell v c.dim.result) c.row.ensures.value ∙ ap (cell (row_at cs.list c.args.k)) c.dim.ensures.value in
    let inside : InRange (cell (row_at cs.list c.args.k) cs.dim) = c.row.ensures.in_range cs.dim (pos 0) (let w = c.row.ensures.wide in omega (arith, w)) in
    let kept : InRange (cell c.row.result.now c.dim.result) = subst InRange (sym same) inside in
    let fits : SFits w128 (slice_index_or c.row.result.now c.dim.result (pos 0)) = fits_signed_from_abs w128 (slice_index_or c.row.result.now c.dim.result (pos 0)) kept.size in
    let minus_fits : SFits w128 (pos 0 -ℤ slice_index_or c.row.result.now c.dim.result (pos 0)) = negated_fits (slice_index_or c.row.result.now c.dim.result (pos 0)) kept in
    simp to_z-of_z minus_fits
