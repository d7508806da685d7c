use Rattle.std.proofs.Common.{ℕ, ℤ, List, length, arith, sym, subst, ap, ◌∙◌, [], below_more}
use Rattle.std.specs.Int.{w128}
use Rattle.std.proofs.lemmas.Int.{to_z-of_z}
use Rattle.std.proofs.lemmas.List.{take_all}
use mir.Val.{SFits}
use Rattle.row_core.specs.Range.{InRange, AllInRange}
use Rattle.cons_sys.specs.Constraints.{Constraint, row_at}
use Rattle.mapped_systems.specs.Maps.{pulled_back}
use Rattle.mapped_systems.specs.MappedLists.{ArePulled, none_pulled}
use Rattle.row_core.specs.Refusals.{IsOverflowIn}
use Rattle.row_core.proofs.RefusalLemmas.{overflow_weaker}
use Rattle.mapped_systems.specs.Refusals.{StaysInPullback, LeavesInPullback, SomeLeavesInPullback}
use Rattle.mapped_systems.proofs.ColumnLemmas.{length-pulled_back}
use Rattle.mapped_systems.proofs.ListSteps.{pulled_step}
use Rattle.mapped_systems.proofs.pulled.preimage_constraints.Goals as goal

pub loop-index-init : goal.loop-index-init
loop-index-init g c =
    let den_fits : SFits w128 c.args.den = c.ranges.den in
    simp to_z-of_z (record {
      dim = omega (arith, c.in_ok-pulled.ensures.dim, c.dim.ensures.value);
      pulled = subst (ArePulled (pulled_back c.args.var c.args.expr.now c.args.den) []) (sym c.in_ok-pulled.ensures.empty) none_pulled;
      earlier = λ i h. absurd {A = StaysInPullback c.args.var c.args.expr.now c.args.den (row_at c.args.cons.now.list i)} (omega (arith, h));
      no_fewer = omega arith;
      counted = omega arith;
    })

pub push-requires : goal.push-requires
push-requires g c =
    let den_fits : SFits w128 c.args.den = c.ranges.den in
    let r = simp to_z-of_z at c.in-Ok.ensures.row in
    let e = ap length (c.deref.ensures.value ∙ r) ∙ length-pulled_back c.args.var c.args.expr.now c.args.den c.row.result.now (omega (arith, c.requires.wide, ap length c.row.ensures.value, c.row.ensures.wide)) in
    record {
      wide = omega (arith, e, ap length c.row.ensures.value, c.row.ensures.wide, c.loop-index.invariant.dim);
      in_range = subst AllInRange (sym c.deref.ensures.value) c.in-Ok.ensures.in_range;
    }

pub loop-index-preserved : goal.loop-index-preserved
loop-index-preserved g c =
    let den_fits : SFits w128 c.args.den = c.ranges.den in
    let r = simp to_z-of_z at c.in-Ok.ensures.row in
    let p = simp to_z-of_z at c.loop-index.invariant.pulled in
    let earlier = simp to_z-of_z at c.loop-index.invariant.earlier in
    let stays = simp to_z-of_z at c.in-Ok.ensures.stays in
    simp to_z-of_z (record {
      dim = c.in_ok-push.ensures.dim ∙ c.loop-index.invariant.dim;
      pulled = pulled_step (pulled_back c.args.var c.args.expr.now c.args.den) c.args.cons.now.list c.loop-index.pulled.list c.push.new.self.list c.loop-index.index c.deref.result.now c.kind.result (omega arith) (c.deref.ensures.value ∙ r ∙ ap (pulled_back c.args.var c.args.expr.now c.args.den) c.row.ensures.value) c.kind.ensures p c.in_ok-push.ensures.list;
      earlier = below_more (λ (i : ℕ). StaysInPullback c.args.var c.args.expr.now c.args.den (row_at c.args.cons.now.list i)) c.loop-index.index earlier (subst (StaysInPullback c.args.var c.args.expr.now c.args.den) c.row.ensures.value stays);
      no_fewer = omega (arith, c.loop-index.invariant.no_fewer, c.in-Ok.ensures.no_fewer);
      counted = omega (arith, c.loop-index.invariant.counted, c.in-Ok.ensures.counted);
    })

pub put_pulled-requires : goal.put_pulled-requires
put_pulled-requires g c =
    let wide = ap length c.row.ensures.value in
    record {
      var = omega (arith, wide, c.row.ensures.wide, c.requires.var);
      wide = omega (arith, wide, c.row.ensures.wide, c.requires.wide);
      narrow = omega (arith, wide, c.row.ensures.wide, c.row.ensures.narrow);
      in_range = subst AllInRange (sym c.row.ensures.value) c.row.ensures.in_range;
      expr_in_range = c.requires.expr_in_range;
      den_in_range = subst InRange (sym (to_z-of_z w128 c.args.den c.ranges.den)) c.requires.den_in_range;
    }

pub returns : goal.returns
returns g c =
    let den_fits : SFits w128 c.args.den = c.ranges.den in
    let p = simp to_z-of_z at c.loop-index.invariant.pulled in
    record {
      fit = c.dim.ensures.rows;
      system = record {
        same_dim = c.loop-index.invariant.dim;
        pulled = subst (λ (l : List Constraint). ArePulled (pulled_back c.args.var c.args.expr.now c.args.den) l c.loop-index.pulled.list) (take_all c.loop-index.index c.args.cons.now.list (omega (arith, c.loop-index-test.false, c.len-index-end.ensures))) p;
      };
      overflow = tt;
      no_fewer = c.loop-index.invariant.no_fewer;
      counted = omega (arith, c.loop-index.invariant.counted, c.loop-index-test.false, c.len-index-end.ensures);
    }

pub returns-in-Err-clause-overflow : goal.returns-in-Err-clause-overflow
returns-in-Err-clause-overflow g c =
    let den_fits : SFits w128 c.args.den = c.ranges.den in
    let list = c.args.cons.now.list in
    let earlier = simp to_z-of_z at c.loop-index.invariant.earlier in
    let leaves = simp to_z-of_z at c.in-Err.ensures.overflow in
    overflow_weaker (LeavesInPullback c.args.var c.args.expr.now c.args.den (row_at list c.loop-index.index)) (SomeLeavesInPullback c.args.var c.args.expr.now c.args.den list)
    (λ over l. record { index = c.loop-index.index; below = omega arith; leaves = l; earlier = earlier })
    c.in-Err.cause
    (subst (λ (row : List ℤ). IsOverflowIn (LeavesInPullback c.args.var c.args.expr.now c.args.den row) c.in-Err.cause) c.row.ensures.value leaves)
