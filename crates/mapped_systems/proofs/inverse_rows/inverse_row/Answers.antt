use Rattle.std.proofs.Common.{◌≡◌, ◌∙◌, List, ℤ, pos, neg_ℤ, ◌-ℤ◌, ap, sym, subst, slice_set, true, false}
use Rattle.std.specs.Prelude.{int_lt}
use Rattle.std.specs.Int.{w128}
use Rattle.std.proofs.lemmas.Int.{to_z-of_z}
use Rattle.std.proofs.lemmas.List.Elements.{All-set}
use mir.Val.{to_z, of_z}
use Rattle.row_core.specs.Range.{InRange, AllInRange}
use Rattle.row_core.specs.Vectors.{cell, scale}
use Rattle.row_core.proofs.SignTests.{under_zero, not_under}
use Rattle.row_core.proofs.Magnitudes.{back}
use Rattle.mapped_systems.proofs.InverseMaps.{inverse_below, inverse_above, negated_entry, negated_in_range, above_zero}
use Rattle.mapped_systems.proofs.inverse_rows.inverse_row.Goals as goal

pub returns-then-expr-var-lt0-clause-row : goal.returns-then-expr-var-lt0-clause-row
returns-then-expr-var-lt0-clause-row c =
    let e : List ℤ = c.args.expr.now in
    let n : ℤ = to_z w128 (of_z w128 (pos 0 -ℤ to_z w128 (of_z w128 c.args.den))) in
    inverse_below c.args.var c.args.expr.now c.args.den (slice_set c.in_ok-row.row.items c.args.var n) c.requires.var
    (under_zero (cell e c.args.var) (subst (λ (z : ℤ). int_lt z (pos 0) ≡ true) (back (cell e c.args.var) (c.requires.in_range c.args.var (pos 0) c.requires.var)) c.if-expr-var-lt0.true))
    (ap (λ (xs : List ℤ). slice_set xs c.args.var n) c.in_ok-row.ensures.items ∙ ap (λ (z : ℤ). slice_set e c.args.var z) (negated_entry c.args.den c.requires.den_in_range (to_z-of_z w128 c.args.den c.ranges.den)))

pub returns-clause-row : goal.returns-clause-row
returns-clause-row c =
    let e : List ℤ = c.args.expr.now in
    let n : ℤ = to_z w128 (of_z w128 c.args.den) in
    inverse_above c.args.var c.args.expr.now c.args.den (slice_set c.into_vec-row.result.items c.args.var n) c.requires.var
    (above_zero (cell e c.args.var) (not_under (cell e c.args.var) (subst (λ (z : ℤ). int_lt z (pos 0) ≡ false) (back (cell e c.args.var) (c.requires.in_range c.args.var (pos 0) c.requires.var)) c.if-expr-var-lt0.false)) c.requires.part)
    (ap (λ (xs : List ℤ). slice_set xs c.args.var n) (c.into_vec-row.ensures.value ∙ c.in_ok-negated.ensures.value) ∙ ap (λ (z : ℤ). slice_set (scale (neg_ℤ (pos 1)) e) c.args.var z) (to_z-of_z w128 c.args.den c.ranges.den))

pub returns-then-expr-var-lt0-clause-in_range : goal.returns-then-expr-var-lt0-clause-in_range
returns-then-expr-var-lt0-clause-in_range c =
    let n : ℤ = to_z w128 (of_z w128 (pos 0 -ℤ to_z w128 (of_z w128 c.args.den))) in
    let own : InRange n = subst InRange (sym (negated_entry c.args.den c.requires.den_in_range (to_z-of_z w128 c.args.den c.ranges.den))) (negated_in_range c.args.den c.requires.den_in_range) in
    All-set InRange c.in_ok-row.row.items c.args.var n own (subst AllInRange (sym c.in_ok-row.ensures.items) c.requires.in_range)

pub returns-clause-in_range : goal.returns-clause-in_range
returns-clause-in_range c = All-set InRange c.into_vec-row.result.items c.args.var (to_z w128 (of_z w128 c.args.den)) (subst InRange (sym (to_z-of_z w128 c.args.den c.ranges.den)) c.requires.den_in_range) (subst AllInRange (sym c.into_vec-row.ensures.value) c.into_vec-row.ensures.in_range)
