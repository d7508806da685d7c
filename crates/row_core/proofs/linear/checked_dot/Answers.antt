use Rattle.std.specs.Prelude.{◌≡◌, ℤ, pos, get_or, ◌+ℤ◌, ◌*ℤ◌}
use Rattle.std.specs.Int.{w128}
use Rattle.std.proofs.Common.{below_more, rules, ◌∙◌, sym, subst}
use Rattle.std.proofs.lemmas.Int.{to_z-of_z, fits_signed_from_abs}
use mir.Val.{SFits, to_z}
use Rattle.row_core.specs.Range.{InRange, ColumnStays, DotStays}
use Rattle.row_core.proofs.ColumnLemmas.{one_stays, stays_one, total_one, total_more, stays_then, stays_more}
use Rattle.row_core.proofs.linear.checked_dot.Goals as goal

pub returns-in_default-clause-exact : goal.returns-in_default-clause-exact
returns-in_default-clause-exact c =
    let u_fits : SFits w128 (get_or c.args.u.now c.loop-j.j (pos 0)) = search rules in
    let v_fits : SFits w128 (get_or c.args.v.now c.loop-j.j (pos 0)) = search rules in
    let total : ℤ = to_z w128 c.loop-j.total-bits in
    let refused : ¬ (ColumnStays (pos 1) total (get_or c.args.u.now c.loop-j.j (pos 0))
    (get_or c.args.v.now c.loop-j.j (pos 0))) = simp to_z-of_z at c.in_default.ensures in
    record {
      column = c.loop-j-test.true;
      leaves = λ stays. refused (stays_one total (get_or c.args.u.now c.loop-j.j (pos 0))
          (get_or c.args.v.now c.loop-j.j (pos 0)) c.loop-j.invariant.in_range (stays_then c.args.u.now c.args.v.now c.loop-j.j
          (to_z w128 c.loop-j.total-bits) c.loop-j-test.true c.requires.same_width
          c.loop-j.invariant.total stays));
      before = c.loop-j.invariant.stay;
    }

pub loop-j-preserved : goal.loop-j-preserved
loop-j-preserved c =
    let u_fits : SFits w128 (get_or c.args.u.now c.loop-j.j (pos 0)) = search rules in
    let v_fits : SFits w128 (get_or c.args.v.now c.loop-j.j (pos 0)) = search rules in
    let x : ℤ = get_or c.args.u.now c.loop-j.j (pos 0) in
    let y : ℤ = get_or c.args.v.now c.loop-j.j (pos 0) in
    let total : ℤ = to_z w128 c.loop-j.total-bits in
    let given : ColumnStays (pos 1) total x y × (c.in-Some.next ≡ pos 1 *ℤ total +ℤ x *ℤ y) =
    simp to_z-of_z at c.in-Some.ensures in
    let both = one_stays total x y given.0 in
    let value = total_one total x y c.in-Some.next given.1 in
    let next_in_range : InRange c.in-Some.next = subst InRange (sym value) both.1 in
    let next_fits : SFits w128 c.in-Some.next =
    fits_signed_from_abs w128 c.in-Some.next next_in_range.size in
    simp to_z-of_z (record {
      total = value ∙
          total_more c.args.u.now c.args.v.now c.loop-j.j (to_z w128 c.loop-j.total-bits)
          c.loop-j-test.true c.requires.same_width c.loop-j.invariant.total;
      in_range = next_in_range;
      stay = below_more (DotStays c.args.u.now c.args.v.now) c.loop-j.j c.loop-j.invariant.stay
          (stays_more c.args.u.now c.args.v.now c.loop-j.j (to_z w128 c.loop-j.total-bits)
          c.loop-j-test.true c.requires.same_width c.loop-j.invariant.total both.0 both.1);
    })
