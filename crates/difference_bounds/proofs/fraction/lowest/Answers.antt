use Rattle.std.specs.Prelude.{◌≡◌, ℕ, ℤ, pos, negsuc, ◌<ℤ◌, slice_index_or, ◌∷◌, []}
use Rattle.std.specs.Int.{w128}
use Rattle.std.proofs.Common.{arith, ap, rules}
use Rattle.std.proofs.lemmas.Int.{ints, to_z-of_z}
use mir.Val.{SFits, of_z}
use Rattle.row_core.proofs.OnePrimitive.{IsPrimitiveOf-self}
use Rattle.difference_bounds.proofs.FractionLemmas.{lowest_pair, lowest_fraction, whole_fraction}
use Rattle.difference_bounds.proofs.fraction.lowest.Goals as goal

whole : (z : ℤ) → pos 0 <ℤ z → of_z w128 z ≡ 1 → z ≡ pos 1
whole (pos n) p e = ap (λ (k : ℕ). pos k) e
whole (negsuc n) p e = absurd (omega (arith, ints))

pub returns-clause-same : goal.returns-clause-same
returns-clause-same c =
    let first : SFits w128 (slice_index_or c.make_primitive.new.row 0 (pos 0)) = search rules in
    let second : SFits w128 (slice_index_or c.make_primitive.new.row 1 (pos 0)) = search rules in
    let num_fits : SFits w128 c.args.num = search rules in
    let den_fits : SFits w128 c.args.den = search rules in
    let multiple = simp to_z-of_z at c.make_primitive.ensures.multiple in
    simp to_z-of_z (lowest_pair c.args.num c.args.den c.make_primitive.new.row c.make_primitive.ensures.width multiple c.make_primitive.ensures.primitive)

pub returns-clause-fraction : goal.returns-clause-fraction
returns-clause-fraction c =
    let first : SFits w128 (slice_index_or c.make_primitive.new.row 0 (pos 0)) = search rules in
    let second : SFits w128 (slice_index_or c.make_primitive.new.row 1 (pos 0)) = search rules in
    let num_fits : SFits w128 c.args.num = search rules in
    let den_fits : SFits w128 c.args.den = search rules in
    let multiple = simp to_z-of_z at c.make_primitive.ensures.multiple in
    simp to_z-of_z (lowest_fraction (record { num = c.args.num; den = c.args.den }) c.make_primitive.new.row c.requires.positive c.make_primitive.ensures.width multiple c.make_primitive.ensures.primitive c.make_primitive.ensures.in_range)

pub returns-then-den-eq1-clause-same : goal.returns-then-den-eq1-clause-same
returns-then-den-eq1-clause-same c =
    let num_fits : SFits w128 c.args.num = search rules in
    let den_fits : SFits w128 c.args.den = search rules in
    simp to_z-of_z (IsPrimitiveOf-self (c.args.num ∷ c.args.den ∷ []) (whole_fraction c.args.num c.args.den (whole c.args.den c.requires.positive c.if-den-eq1.true) c.requires.num).lowest)

pub returns-then-den-eq1-clause-fraction : goal.returns-then-den-eq1-clause-fraction
returns-then-den-eq1-clause-fraction c =
    let num_fits : SFits w128 c.args.num = search rules in
    let den_fits : SFits w128 c.args.den = search rules in
    simp to_z-of_z (whole_fraction c.args.num c.args.den (whole c.args.den c.requires.positive c.if-den-eq1.true) c.requires.num)
