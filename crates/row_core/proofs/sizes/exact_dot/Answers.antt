use Rattle.std.specs.Prelude.{ℤ, pos, get_or, ◌+ℤ◌, ◌*ℤ◌}
use Rattle.std.specs.Int.{w128}
use Rattle.std.proofs.Common.{rules}
use Rattle.std.proofs.lemmas.Int.{to_z-of_z, fits_signed_from_abs}
use mir.Val.{SFits, to_z}
use Rattle.row_core.specs.Vectors.{cell}
use Rattle.row_core.proofs.ColumnLemmas.{total_more, stays_then}
use Rattle.row_core.proofs.sizes.exact_dot.Goals as goal

pub overflow_mul-total : goal.overflow_mul-total
overflow_mul-total c =
    let u_fits : SFits w128 (get_or c.args.u.now c.loop-j.j (pos 0)) = search rules in
    let v_fits : SFits w128 (get_or c.args.v.now c.loop-j.j (pos 0)) = search rules in
    let next = stays_then c.args.u.now c.args.v.now c.loop-j.j (to_z w128 c.loop-j.total-bits)
    c.loop-j-test.true c.requires.same_width c.loop-j.invariant.total
    (c.requires.stays c.loop-j.j c.loop-j-test.true) in
    rw (to_z-of_z w128 (get_or c.args.u.now c.loop-j.j (pos 0)) u_fits, to_z-of_z w128 (get_or c.args.v.now c.loop-j.j (pos 0)) v_fits)
    (fits_signed_from_abs w128 (get_or c.args.u.now c.loop-j.j (pos 0) *ℤ get_or c.args.v.now c.loop-j.j (pos 0)) next.0.size)

pub overflow_add-total : goal.overflow_add-total
overflow_add-total c =
    let total : ℤ = to_z w128 c.loop-j.total-bits in
    let product : ℤ = cell c.args.u.now c.loop-j.j *ℤ cell c.args.v.now c.loop-j.j in
    let u_fits : SFits w128 (get_or c.args.u.now c.loop-j.j (pos 0)) = search rules in
    let v_fits : SFits w128 (get_or c.args.v.now c.loop-j.j (pos 0)) = search rules in
    let next = stays_then c.args.u.now c.args.v.now c.loop-j.j total c.loop-j-test.true
    c.requires.same_width c.loop-j.invariant.total
    (c.requires.stays c.loop-j.j c.loop-j-test.true) in
    let product_fits : SFits w128 product = fits_signed_from_abs w128 product next.0.size in
    let sum_fits : SFits w128 (total +ℤ product) =
    fits_signed_from_abs w128 (total +ℤ product) next.1.size in
    simp to_z-of_z sum_fits

pub loop-j-preserved : goal.loop-j-preserved
loop-j-preserved c =
    let total : ℤ = to_z w128 c.loop-j.total-bits in
    let product : ℤ = cell c.args.u.now c.loop-j.j *ℤ cell c.args.v.now c.loop-j.j in
    let u_fits : SFits w128 (get_or c.args.u.now c.loop-j.j (pos 0)) = search rules in
    let v_fits : SFits w128 (get_or c.args.v.now c.loop-j.j (pos 0)) = search rules in
    let next = stays_then c.args.u.now c.args.v.now c.loop-j.j total c.loop-j-test.true
    c.requires.same_width c.loop-j.invariant.total
    (c.requires.stays c.loop-j.j c.loop-j-test.true) in
    let product_fits : SFits w128 product = fits_signed_from_abs w128 product next.0.size in
    let sum_fits : SFits w128 (total +ℤ product) =
    fits_signed_from_abs w128 (total +ℤ product) next.1.size in
    simp to_z-of_z (record {
      total = total_more c.args.u.now c.args.v.now c.loop-j.j total c.loop-j-test.true
          c.requires.same_width c.loop-j.invariant.total;
      in_range = next.1;
    })
