use Rattle.std.specs.Prelude.{◌≡◌, ◌<◌, ℕ, pos, length, get_or}
use Rattle.std.specs.Int.{w128}
use Rattle.std.proofs.Common.{below_more, rules, arith, subst}
use Rattle.std.proofs.lemmas.Int.{to_z-of_z}
use mir.Val.{SFits}
use Rattle.row_core.specs.Range.{CombineStays, AllStay}
use Rattle.row_core.proofs.linear.check_combination.Goals as goal

pub loop-column-init : goal.loop-column-init
loop-column-init c = λ i h. absurd (omega (arith, h))

pub bounds-u-column : goal.bounds-u-column
bounds-u-column c = c.loop-column-test.true

pub bounds-v-column : goal.bounds-v-column
bounds-v-column c =
    subst (λ (n : ℕ). c.loop-column.column < n) c.requires.same_width c.loop-column-test.true

pub loop-column-preserved : goal.loop-column-preserved
loop-column-preserved c =
    let u_fits : SFits w128 (get_or c.args.u.now c.loop-column.column (pos 0)) = search rules in
    let v_fits : SFits w128 (get_or c.args.v.now c.loop-column.column (pos 0)) = search rules in
    let s = to_z-of_z w128 c.args.s c.ranges.s in
    let t = to_z-of_z w128 c.args.t c.ranges.t in
    let before = rw (s, t) at c.loop-column.invariant in
    let given = rw (
      s,
      t,
      to_z-of_z w128 (get_or c.args.u.now c.loop-column.column (pos 0)) u_fits,
      to_z-of_z w128 (get_or c.args.v.now c.loop-column.column (pos 0)) v_fits,
    ) at
    c.in-Some.ensures in
    rw (s, t) (below_more (CombineStays c.args.u.now c.args.s c.args.v.now c.args.t)
    c.loop-column.column before given.0)

pub returns-in_default : goal.returns-in_default
returns-in_default c =
    let u_fits : SFits w128 (get_or c.args.u.now c.loop-column.column (pos 0)) = search rules in
    let v_fits : SFits w128 (get_or c.args.v.now c.loop-column.column (pos 0)) = search rules in
    let s = to_z-of_z w128 c.args.s c.ranges.s in
    let t = to_z-of_z w128 c.args.t c.ranges.t in
    record {
      column = c.loop-column-test.true;
      leaves = rw (
        s,
        t,
        to_z-of_z w128 (get_or c.args.u.now c.loop-column.column (pos 0)) u_fits,
        to_z-of_z w128 (get_or c.args.v.now c.loop-column.column (pos 0)) v_fits,
      ) at
          c.in_default.ensures;
      before = rw (s, t) at c.loop-column.invariant;
    }

pub overflow_cast-result : goal.overflow_cast-result
overflow_cast-result c = omega (arith, c.loop-column-test.true, c.requires.narrow)

pub returns : goal.returns
returns c =
    let s = to_z-of_z w128 c.args.s c.ranges.s in
    let t = to_z-of_z w128 c.args.t c.ranges.t in
    let all : c.loop-column.column ≡ length c.args.u.now =
    omega (arith, c.loop-column-test.false, c.loop-column.auto.column-end) in
    subst (AllStay (CombineStays c.args.u.now c.args.s c.args.v.now c.args.t)) all
    (rw (s, t) at c.loop-column.invariant)
