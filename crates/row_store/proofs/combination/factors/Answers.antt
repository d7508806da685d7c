use Rattle.std.specs.Prelude.{neg_ℤ}
use Rattle.std.specs.Int.{w128}
use Rattle.std.proofs.lemmas.Int.{to_z-of_z}
use mir.Val.{SFits}
use Rattle.row_store.proofs.FactorLemmas.{factors_above, factors_below, factors_again}
use Rattle.row_core.proofs.SignTests.{fits, above_zero, below_zero}
use Rattle.row_store.proofs.combination.factors.Goals as goal

pub quotient-left-requires-clause-divides : goal.quotient-left-requires-clause-divides
quotient-left-requires-clause-divides c =
    let u_fits : SFits w128 c.args.u = c.ranges.u in
    let g_fits : SFits w128 c.divisor_of-divisor.result = fits c.divisor_of-divisor.result c.divisor_of-divisor.ensures.in_range in
    simp to_z-of_z (simp to_z-of_z at c.divisor_of-divisor.ensures.greatest.0)

pub quotient-right-requires-clause-divides : goal.quotient-right-requires-clause-divides
quotient-right-requires-clause-divides c =
    let v_fits : SFits w128 c.args.v = c.ranges.v in
    let g_fits : SFits w128 c.divisor_of-divisor.result = fits c.divisor_of-divisor.result c.divisor_of-divisor.ensures.in_range in
    simp to_z-of_z (simp to_z-of_z at c.divisor_of-divisor.ensures.greatest.1)

pub returns-then-u-gt0-clause-factors : goal.returns-then-u-gt0-clause-factors
returns-then-u-gt0-clause-factors c =
    let g = c.divisor_of-divisor.result in
    let l = c.quotient-left.result in
    let r = c.quotient-right.result in
    let u_fits : SFits w128 c.args.u = c.ranges.u in
    let v_fits : SFits w128 c.args.v = c.ranges.v in
    let g_fits : SFits w128 c.divisor_of-divisor.result = fits g c.divisor_of-divisor.ensures.in_range in
    let l_fits : SFits w128 c.quotient-left.result = fits l c.quotient-left.ensures.in_range in
    let r_fits : SFits w128 c.quotient-right.result = fits r c.quotient-right.ensures.in_range in
    let n_fits : SFits w128 c.negated.result = fits c.negated.result c.negated.ensures.in_range in
    simp to_z-of_z
    (factors_again c.args.u c.args.v l (neg_ℤ r) l c.negated.result (λ i. l) (simp to_z-of_z at c.negated.ensures.value)
    (factors_above c.args.u c.args.v g l r c.divisor_of-divisor.ensures.positive (simp to_z-of_z at c.divisor_of-divisor.ensures.greatest)
    (simp to_z-of_z at c.quotient-left.ensures.value) (simp to_z-of_z at c.quotient-right.ensures.value)
    (above_zero c.args.u (simp to_z-of_z at c.if-u-gt0.true))))

pub returns-else-u-gt0-clause-factors : goal.returns-else-u-gt0-clause-factors
returns-else-u-gt0-clause-factors c =
    let g = c.divisor_of-divisor.result in
    let l = c.quotient-left.result in
    let r = c.quotient-right.result in
    let u_fits : SFits w128 c.args.u = c.ranges.u in
    let v_fits : SFits w128 c.args.v = c.ranges.v in
    let g_fits : SFits w128 c.divisor_of-divisor.result = fits g c.divisor_of-divisor.ensures.in_range in
    let l_fits : SFits w128 c.quotient-left.result = fits l c.quotient-left.ensures.in_range in
    let r_fits : SFits w128 c.quotient-right.result = fits r c.quotient-right.ensures.in_range in
    let n_fits : SFits w128 c.negated-else-u-gt0.result = fits c.negated-else-u-gt0.result c.negated-else-u-gt0.ensures.in_range in
    simp to_z-of_z
    (factors_again c.args.u c.args.v (neg_ℤ l) r c.negated-else-u-gt0.result r (simp to_z-of_z at c.negated-else-u-gt0.ensures.value) (λ i. r)
    (factors_below c.args.u c.args.v g l r c.divisor_of-divisor.ensures.positive (simp to_z-of_z at c.divisor_of-divisor.ensures.greatest)
    (simp to_z-of_z at c.quotient-left.ensures.value) (simp to_z-of_z at c.quotient-right.ensures.value)
    (below_zero c.args.u c.requires.nonzero (simp to_z-of_z at c.if-u-gt0.false))))

pub divisor_of-divisor-requires : goal.divisor_of-divisor-requires
divisor_of-divisor-requires c = rw (to_z-of_z w128 c.args.u c.ranges.u, to_z-of_z w128 c.args.v c.ranges.v) (record { first_in_range = c.requires.first_in_range; second_in_range = c.requires.second_in_range; nonzero = c.requires.nonzero })

pub quotient-left-requires-clause-in_range : goal.quotient-left-requires-clause-in_range
quotient-left-requires-clause-in_range c = rw (to_z-of_z w128 c.args.u c.ranges.u) c.requires.first_in_range

pub quotient-right-requires-clause-in_range : goal.quotient-right-requires-clause-in_range
quotient-right-requires-clause-in_range c = rw (to_z-of_z w128 c.args.v c.ranges.v) c.requires.second_in_range

pub quotient-left-requires-clause-positive : goal.quotient-left-requires-clause-positive
quotient-left-requires-clause-positive c = rw (to_z-of_z w128 c.divisor_of-divisor.result (fits c.divisor_of-divisor.result c.divisor_of-divisor.ensures.in_range)) c.divisor_of-divisor.ensures.positive

pub quotient-right-requires-clause-positive : goal.quotient-right-requires-clause-positive
quotient-right-requires-clause-positive c = rw (to_z-of_z w128 c.divisor_of-divisor.result (fits c.divisor_of-divisor.result c.divisor_of-divisor.ensures.in_range)) c.divisor_of-divisor.ensures.positive

pub negated-requires : goal.negated-requires
negated-requires c = rw (to_z-of_z w128 c.quotient-right.result (fits c.quotient-right.result c.quotient-right.ensures.in_range)) c.quotient-right.ensures.in_range

pub negated-requires-else-u-gt0 : goal.negated-requires-else-u-gt0
negated-requires-else-u-gt0 c = rw (to_z-of_z w128 c.quotient-left.result (fits c.quotient-left.result c.quotient-left.ensures.in_range)) c.quotient-left.ensures.in_range

pub returns-then-u-gt0-clause-in_range : goal.returns-then-u-gt0-clause-in_range
returns-then-u-gt0-clause-in_range c = (rw (to_z-of_z w128 c.quotient-left.result (fits c.quotient-left.result c.quotient-left.ensures.in_range)) c.quotient-left.ensures.in_range, rw (to_z-of_z w128 c.negated.result (fits c.negated.result c.negated.ensures.in_range)) c.negated.ensures.in_range)

pub returns-else-u-gt0-clause-in_range : goal.returns-else-u-gt0-clause-in_range
returns-else-u-gt0-clause-in_range c = (rw (to_z-of_z w128 c.negated-else-u-gt0.result (fits c.negated-else-u-gt0.result c.negated-else-u-gt0.ensures.in_range)) c.negated-else-u-gt0.ensures.in_range, rw (to_z-of_z w128 c.quotient-right.result (fits c.quotient-right.result c.quotient-right.ensures.in_range)) c.quotient-right.ensures.in_range)
