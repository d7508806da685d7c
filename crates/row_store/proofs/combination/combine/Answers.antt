use Rattle.std.specs.Int.{w128}
use Rattle.std.proofs.Common.{◌≡◌, List, ℤ, length, sym, ap, ◌∙◌, arith, max}
use Rattle.std.proofs.lemmas.Bool.Decides.{nat_tests}
use Rattle.row_core.proofs.SizeLemmas.{HaveBits-more}
use Rattle.std.proofs.lemmas.Result.{err_from_is_err_and}
use Rattle.std.proofs.lemmas.Int.{to_z-of_z}
use mir.Val.{SFits}
use Rattle.row_store.proofs.FactorLemmas.{combined_from_written}
use Rattle.row_core.proofs.Magnitudes.{magnitude_above}
use Rattle.row_core.proofs.SignTests.{fits}
use Rattle.row_store.proofs.combination.combine.Goals as goal

pub returns-in_err-made-clause-combined : goal.returns-in_err-made-clause-combined
returns-in_err-made-clause-combined g c =
    let u_fits : SFits w128 c.args.u = c.ranges.u in
    let v_fits : SFits w128 c.args.v = c.ranges.v in
    let s_fits : SFits w128 c.factors-second.result.0 = fits c.factors-second.result.0 c.factors-second.ensures.in_range.0 in
    let f_fits : SFits w128 c.factors-second.result.1 = fits c.factors-second.result.1 c.factors-second.ensures.in_range.1 in
    let factors = simp to_z-of_z at c.factors-second.ensures.factors in
    let left = simp to_z-of_z at c.in_err-made.ensures.combined in
    let p = err_from_is_err_and c.from_residual.result c.from_residual.ensures.1 in
    rw (p.1, p.2) (record { second = c.factors-second.result.0; first = c.factors-second.result.1; factors = factors; column = rw c.copy_from_slice.ensures.after at left.1 })

pub returns-clause-combined : goal.returns-clause-combined
returns-clause-combined g c =
    let u_fits : SFits w128 c.args.u = c.ranges.u in
    let v_fits : SFits w128 c.args.v = c.ranges.v in
    let s_fits : SFits w128 c.factors-second.result.0 = fits c.factors-second.result.0 c.factors-second.ensures.in_range.0 in
    let f_fits : SFits w128 c.factors-second.result.1 = fits c.factors-second.result.1 c.factors-second.ensures.in_range.1 in
    let factors = simp to_z-of_z at c.factors-second.ensures.factors in
    let written = simp to_z-of_z at c.in_ok-made.ensures.combined in
    let copied : length c.combine_within.new.dst ≡ length c.args.right.now = c.in_ok-made.ensures.width ∙ ap (λ (v : List ℤ). length v) c.copy_from_slice.ensures.after in
    combined_from_written c.args.u c.args.v c.factors-second.result.0 c.factors-second.result.1 c.args.left.now c.args.right.now c.combine_within.new.dst c.make_primitive_within.new.row factors c.requires.nonzero (magnitude_above c.args.u c.requires.nonzero) (rw c.copy_from_slice.ensures.after at written.0) copied c.make_primitive_within.ensures.width c.make_primitive_within.ensures.multiple c.make_primitive_within.ensures.primitive

pub factors-second-requires : goal.factors-second-requires
factors-second-requires g c = rw (to_z-of_z w128 c.args.u c.ranges.u, to_z-of_z w128 c.args.v c.ranges.v) (record { first_in_range = c.requires.first_in_range; second_in_range = c.requires.second_in_range; nonzero = c.requires.nonzero })

pub make_primitive_within-requires-clause-in_range : goal.make_primitive_within-requires-clause-in_range
make_primitive_within-requires-clause-in_range g c = c.in_ok-made.ensures.in_range

pub make_primitive_within-requires-clause-within : goal.make_primitive_within-requires-clause-within
make_primitive_within-requires-clause-within g c = c.in_ok-made.ensures.bits

pub combine_within-requires-clause-within : goal.combine_within-requires-clause-within
combine_within-requires-clause-within g c =
    let most : c.max-within.result ≡ max c.bits.result c.bits-2.result =
    grind (arith, nat_tests, c.max-within.ensures) in (
      HaveBits-more c.bits.result c.max-within.result _ (omega (arith, most)) c.bits.ensures.within,
      HaveBits-more c.bits-2.result c.max-within.result c.args.left.now (omega (arith, most))
          c.bits-2.ensures.within,
    )

pub returns-clause-in_range : goal.returns-clause-in_range
returns-clause-in_range g c = c.make_primitive_within.ensures.in_range

pub returns-clause-width : goal.returns-clause-width
returns-clause-width g c =
    c.make_primitive_within.ensures.width ∙ c.in_ok-made.ensures.width ∙ ap (λ (v : List ℤ). length v) c.copy_from_slice.ensures.after ∙ sym c.requires.same_width.0

pub returns-in_err-made-clause-in_range : goal.returns-in_err-made-clause-in_range
returns-in_err-made-clause-in_range g c = let p = err_from_is_err_and c.from_residual.result c.from_residual.ensures.1 in rw p.1 tt

pub combine_within-requires-clause-same_width : goal.combine_within-requires-clause-same_width
combine_within-requires-clause-same_width g c = ap (λ (v : List ℤ). length v) c.copy_from_slice.ensures.after ∙ c.requires.same_width.1
