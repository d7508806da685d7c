use Rattle.std.proofs.Common.{ℕ, ℤ, List, length, arith, refl, sym, subst, ap, ◌∙◌, [], below_more}
use Rattle.std.specs.Int.{w128}
use Rattle.std.proofs.lemmas.Int.{to_z-of_z}
use Rattle.std.proofs.lemmas.List.{take_all}
use mir.Val.{SFits}
use Rattle.row_core.specs.Range.{InRange, AllInRange}
use Rattle.row_core.specs.Sizes.{HaveBits}
use Rattle.gens_sys.specs.declared.kind.GenKind.TheVariants.{Line}
use Rattle.gens_sys.specs.Generators.{Generator, generator_at, row_at}
use Rattle.mapped_systems.specs.Maps.{substituted}
use Rattle.mapped_systems.specs.MappedLists.{AreMapped, nothing}
use Rattle.row_core.specs.Refusals.{IsOverflowIn}
use Rattle.row_core.proofs.RefusalLemmas.{overflow_weaker}
use Rattle.mapped_systems.specs.Refusals.{StaysInImage, LeavesInImage, SomeLeavesInImage}
use Rattle.mapped_systems.proofs.LinearMaps.{substitution_linear}
use Rattle.mapped_systems.proofs.ListSteps.{mapped_step}
use Rattle.mapped_systems.proofs.MappedKinds.{step_divisor, step_wide}
use Rattle.mapped_systems.proofs.mapped.image_generators.Goals as goal

pub loop-index-init : goal.loop-index-init
loop-index-init c =
    let den_fits : SFits w128 c.args.den = c.ranges.den in
    simp to_z-of_z (record {
      dim = omega (arith, c.in_ok-mapped.ensures.dim, c.dim.ensures.value);
      mapped = subst (AreMapped (substituted c.args.var c.args.expr.now c.args.den) []) (sym c.in_ok-mapped.ensures.empty) nothing;
      earlier = λ i h. absurd (omega (arith, h));
    })

pub push_mapped-requires-clause-wide : goal.push_mapped-requires-clause-wide
push_mapped-requires-clause-wide c =
    let den_fits : SFits w128 c.args.den = c.ranges.den in
    let r = simp to_z-of_z at c.in-Ok.ensures.row in
    step_wide c.args.gens.now.dim c.args.gens.now.dim c.loop-index.mapped.dim (substituted c.args.var c.args.expr.now c.args.den) (substitution_linear c.args.gens.now.dim c.args.var c.args.expr.now c.args.den c.requires.var c.requires.positive) (generator_at c.args.gens.now.list c.loop-index.index) c.row.ensures.generator c.deref.result.now c.loop-index.invariant.dim (c.deref.ensures.value ∙ r ∙ ap (substituted c.args.var c.args.expr.now c.args.den) c.row.ensures.value)

pub push_mapped-requires-clause-in_range : goal.push_mapped-requires-clause-in_range
push_mapped-requires-clause-in_range c = subst AllInRange (sym c.deref.ensures.value) c.in-Ok.ensures.in_range

pub push_mapped-requires-clause-divisor : goal.push_mapped-requires-clause-divisor
push_mapped-requires-clause-divisor c =
    let den_fits : SFits w128 c.args.den = c.ranges.den in
    let r = simp to_z-of_z at c.in-Ok.ensures.row in
    step_divisor c.args.gens.now.dim c.args.gens.now.dim c.loop-index.mapped.dim (substituted c.args.var c.args.expr.now c.args.den) (substitution_linear c.args.gens.now.dim c.args.var c.args.expr.now c.args.den c.requires.var c.requires.positive) (generator_at c.args.gens.now.list c.loop-index.index) c.row.ensures.generator c.deref.result.now c.kind.result c.loop-index.invariant.dim (c.deref.ensures.value ∙ r ∙ ap (substituted c.args.var c.args.expr.now c.args.den) c.row.ensures.value) c.kind.ensures

pub loop-index-preserved : goal.loop-index-preserved
loop-index-preserved c =
    let den_fits : SFits w128 c.args.den = c.ranges.den in
    let r = simp to_z-of_z at c.in-Ok.ensures.row in
    let m = simp to_z-of_z at c.loop-index.invariant.mapped in
    let earlier = simp to_z-of_z at c.loop-index.invariant.earlier in
    let stays = simp to_z-of_z at c.in-Ok.ensures.stays in
    simp to_z-of_z (record {
      dim = c.in_ok-push_mapped.ensures.dim ∙ c.loop-index.invariant.dim;
      mapped = mapped_step (substituted c.args.var c.args.expr.now c.args.den) c.args.gens.now.list c.loop-index.mapped.list c.push_mapped.new.gens.list c.loop-index.index c.deref.result.now c.kind.result (omega arith) (c.deref.ensures.value ∙ r ∙ ap (substituted c.args.var c.args.expr.now c.args.den) c.row.ensures.value) c.kind.ensures m c.in_ok-push_mapped.ensures.list;
      earlier = below_more (λ (i : ℕ). StaysInImage c.args.var c.args.expr.now c.args.den (row_at c.args.gens.now.list i)) c.loop-index.index earlier (subst (StaysInImage c.args.var c.args.expr.now c.args.den) c.row.ensures.value stays);
    })

pub put_image-requires : goal.put_image-requires
put_image-requires c =
    let wide = ap length c.row.ensures.value in
    record {
      var = omega (arith, wide, c.row.ensures.wide, c.requires.var);
      wide = omega (arith, wide, c.row.ensures.wide, c.requires.wide);
      narrow = omega (arith, wide, c.row.ensures.wide, c.row.ensures.narrow);
      in_range = subst AllInRange (sym c.row.ensures.value) c.row.ensures.in_range;
      expr_in_range = c.requires.expr_in_range;
      den_in_range = subst InRange (sym (to_z-of_z w128 c.args.den c.ranges.den)) c.requires.den_in_range;
      suffices = c.of-summing.ensures.suffices c.args.expr.now c.row.result.now refl (wide ∙ c.row.ensures.wide ∙ sym c.requires.wide) c.bits.ensures.within (subst (HaveBits c.bits-2.result) (sym c.row.ensures.value) (c.bits-2.ensures.within c.loop-index.index ([], Line) (omega arith)));
    }

pub returns : goal.returns
returns c =
    let den_fits : SFits w128 c.args.den = c.ranges.den in
    let m = simp to_z-of_z at c.loop-index.invariant.mapped in
    record {
      fit = c.dim.ensures.rows;
      system = record {
        same_dim = c.loop-index.invariant.dim;
        mapped = subst (λ (l : List Generator). AreMapped (substituted c.args.var c.args.expr.now c.args.den) l c.loop-index.mapped.list) (take_all c.loop-index.index c.args.gens.now.list (omega (arith, c.loop-index-test.false, c.len-index-end.ensures))) m;
      };
      overflow = tt;
    }

pub returns-in-Err-clause-overflow : goal.returns-in-Err-clause-overflow
returns-in-Err-clause-overflow c =
    let den_fits : SFits w128 c.args.den = c.ranges.den in
    let list = c.args.gens.now.list in
    let earlier = simp to_z-of_z at c.loop-index.invariant.earlier in
    let leaves = simp to_z-of_z at c.in-Err.ensures.overflow in
    overflow_weaker (LeavesInImage c.args.var c.args.expr.now c.args.den (row_at list c.loop-index.index)) (SomeLeavesInImage c.args.var c.args.expr.now c.args.den list)
    (λ over l. record { index = c.loop-index.index; below = omega arith; leaves = l; earlier = earlier })
    c.in-Err.cause
    (subst (λ (v : List ℤ). IsOverflowIn (LeavesInImage c.args.var c.args.expr.now c.args.den v) c.in-Err.cause) c.row.ensures.value leaves)
