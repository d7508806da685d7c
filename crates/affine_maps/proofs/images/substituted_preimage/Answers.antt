use Rattle.std.proofs.Common.{inl, inr, ◌⊎◌, ℕ, ◌<◌, ℤ, pos, ◌<ℤ◌, refl, sym, ap, subst, arith}
use Rattle.std.specs.Prelude.{⊤, Option, Ok, Err, MatchOption}
use Rattle.std.specs.Int.{w128}
use Rattle.std.proofs.lemmas.Int.{to_z-of_z}
use Rattle.std.proofs.lemmas.Result.{IfOk-weaker, IfErr-weaker, err_from_is_err_and}
use mir.Val.{SFits, to_z, of_z}
use Rattle.row_core.specs.Range.{InRange}
use Rattle.cons_sys.specs.Constraints.{Constraints, FitDimension}
use Rattle.row_core.specs.Refusals.{IsOverflowIn}
use Rattle.mapped_systems.specs.Refusals.{SomeLeavesInPullback}
use Rattle.poly_pair.specs.declared.topology.Topology.{Topology}
use Rattle.poly_pair.specs.TopologyLists.{list_width, constraints_of}
use Rattle.poly_pair.specs.Parts.{AreStoredOfRows}
use Rattle.poly_pair.specs.Refusals.{IsOverflowOn}
use Rattle.poly_pair.proofs.WorkLemmas.{overflow_clause}
use Rattle.poly_pair.specs.Polyhedra.{Polyhedron, IsOfConstraints}
use Rattle.mapped_systems.specs.Maps.{pulled_back}
use Rattle.mapped_systems.specs.MappedLists.{IsPulledSystem}
use Rattle.affine_maps.specs.SubstitutedSets.{IsSubstitutedPreimage, IsStoredOfPulledBack, LeavesOnPulledBack}
use Rattle.affine_maps.proofs.MappedPolyhedra.{pulled_kinds, preimage_points, pulled_overflow, either_overflow}
use Rattle.poly_pair.specs.Work.{cons_work, conv_overflow, overflow_in, IsConversion}
use Rattle.mapped_systems.proofs.AfterPairs.{after_found, after_none}
use Rattle.affine_maps.proofs.PairConversions.{pullback_of, pulled_in_vain}
use Rattle.affine_maps.proofs.images.substituted_preimage.Goals as goal

pub from_cons-requires-clause-kinds : goal.from_cons-requires-clause-kinds
from_cons-requires-clause-kinds g c =
    let den_fits : SFits w128 c.args.den = c.ranges.den in
    let p = c.args.p.now in
    let s = simp to_z-of_z at c.in-Ok.ensures.system in
    let m : IsPulledSystem (pulled_back c.args.var c.args.expr.now c.args.den) p.cons.dim p.cons c.in-Ok.pulled = subst (λ (cs : Constraints). IsPulledSystem (pulled_back c.args.var c.args.expr.now c.args.den) cs.dim cs c.in-Ok.pulled) c.cons.ensures.value s in
    pulled_kinds (pulled_back c.args.var c.args.expr.now c.args.den) c.topology.result p.cons.dim p c.in-Ok.pulled c.topology.ensures.value c.topology.ensures.kept m

pub returns-clause-points : goal.returns-clause-points
returns-clause-points g c =
    let den_fits : SFits w128 c.args.den = c.ranges.den in
    let p = c.args.p.now in
    let s = simp to_z-of_z at c.in-Ok.ensures.system in
    let m : IsPulledSystem (pulled_back c.args.var c.args.expr.now c.args.den) p.cons.dim p.cons c.in-Ok.pulled = subst (λ (cs : Constraints). IsPulledSystem (pulled_back c.args.var c.args.expr.now c.args.den) cs.dim cs c.in-Ok.pulled) c.cons.ensures.value s in
    IfOk-weaker c.from_cons.result (IsOfConstraints c.topology.result c.in-Ok.pulled) (IsSubstitutedPreimage c.args.var c.args.expr.now c.args.den p)
    (λ q o. preimage_points c.args.var c.args.expr.now c.args.den p c.in-Ok.pulled c.topology.result c.topology.ensures.value (subst FitDimension c.cons.ensures.value c.in-Ok.ensures.fit) c.requires.var m q o)
    c.from_cons.ensures.points

pub returns-in-Some-clause-points : goal.returns-in-Some-clause-points
returns-in-Some-clause-points g c =
    let den_fits : SFits w128 c.args.den = c.ranges.den in
    let p = c.args.p.now in
    let s = simp to_z-of_z at c.in-Ok.ensures.system in
    let m : IsPulledSystem (pulled_back c.args.var c.args.expr.now c.args.den) p.cons.dim p.cons c.in-Ok.pulled = subst (λ (cs : Constraints). IsPulledSystem (pulled_back c.args.var c.args.expr.now c.args.den) cs.dim cs c.in-Ok.pulled) c.cons.ensures.value s in
    let o : IsOfConstraints p.topology c.in-Ok.pulled c.in-Some.preimage = subst (λ (x : Option Polyhedron). MatchOption x ⊤ (IsOfConstraints p.topology c.in-Ok.pulled)) c.in-Some.is c.in_ok-preimage.ensures.points in
    preimage_points c.args.var c.args.expr.now c.args.den p c.in-Ok.pulled p.topology refl (subst FitDimension c.cons.ensures.value c.in-Ok.ensures.fit) c.requires.var m c.in-Some.preimage o

pub returns-clause-stored : goal.returns-clause-stored
returns-clause-stored g c =
    let den_fits : SFits w128 c.args.den = c.ranges.den in
    let p = c.args.p.now in
    let s = simp to_z-of_z at c.in-Ok.ensures.system in
    let m : IsPulledSystem (pulled_back c.args.var c.args.expr.now c.args.den) p.cons.dim p.cons c.in-Ok.pulled = subst (λ (cs : Constraints). IsPulledSystem (pulled_back c.args.var c.args.expr.now c.args.den) cs.dim cs c.in-Ok.pulled) c.cons.ensures.value s in
    let new = c.in-Ok.pulled in
    IfOk-weaker c.from_cons.result (AreStoredOfRows c.topology.result new.dim (constraints_of c.topology.result new)) (IsStoredOfPulledBack c.args.var c.args.expr.now c.args.den p)
    (λ q h. record {
      system = new;
      pulled = m;
      stored = subst (λ (n : ℕ). AreStoredOfRows p.topology n (constraints_of p.topology new) q) m.same_dim
          (subst (λ (t : Topology). AreStoredOfRows t new.dim (constraints_of t new) q) c.topology.ensures.value h);
    })
    c.from_cons.ensures.stored

pub returns-clause-overflow : goal.returns-clause-overflow
returns-clause-overflow g c =
    let den_fits : SFits w128 c.args.den = c.ranges.den in
    let p = c.args.p.now in
    let s = simp to_z-of_z at c.in-Ok.ensures.system in
    let m : IsPulledSystem (pulled_back c.args.var c.args.expr.now c.args.den) p.cons.dim p.cons c.in-Ok.pulled = subst (λ (cs : Constraints). IsPulledSystem (pulled_back c.args.var c.args.expr.now c.args.den) cs.dim cs c.in-Ok.pulled) c.cons.ensures.value s in
    let new = c.in-Ok.pulled in
    IfErr-weaker c.from_cons.result (IsOverflowOn (list_width c.topology.result new.dim) new.dim (constraints_of c.topology.result new)) (IsOverflowIn (λ over. SomeLeavesInPullback c.args.var c.args.expr.now c.args.den p.cons.list over ⊎ LeavesOnPulledBack c.args.var c.args.expr.now c.args.den p over))
    (λ e l. either_overflow (SomeLeavesInPullback c.args.var c.args.expr.now c.args.den p.cons.list) (LeavesOnPulledBack c.args.var c.args.expr.now c.args.den p) e (pulled_overflow c.args.var c.args.expr.now c.args.den p new c.topology.result c.topology.ensures.value m e l))
    (overflow_clause _ _ _ c.from_cons.result c.from_cons.ensures.conversion)

pub preimage_constraints-requires : goal.preimage_constraints-requires
preimage_constraints-requires g c = record {
  var = subst (λ (cs : Constraints). c.args.var < cs.dim) (sym c.cons.ensures.value) c.requires.var;
  wide = omega (arith, ap (λ (cs : Constraints). cs.dim) c.cons.ensures.value, c.requires.wide);
  expr_in_range = c.requires.in_range;
  den_in_range = subst InRange (sym (to_z-of_z w128 c.args.den c.ranges.den)) c.requires.den_in_range;
}

pub carried_preimage-requires : goal.carried_preimage-requires
carried_preimage-requires g c =
    let back = sym (to_z-of_z w128 c.args.den c.ranges.den) in
    record {
      var = c.requires.var;
      wide = c.requires.wide;
      in_range = c.requires.in_range;
      den_in_range = subst InRange back c.requires.den_in_range;
      positive = subst (λ (z : ℤ). pos 0 <ℤ z) back c.requires.positive;
      pulled = subst (λ (cs : Constraints). IsPulledSystem (pulled_back c.args.var c.args.expr.now (to_z w128 (of_z w128 c.args.den))) cs.dim cs c.in-Ok.pulled) c.cons.ensures.value c.in-Ok.ensures.system;
    }

pub returns-in_err-preimage : goal.returns-in_err-preimage
returns-in_err-preimage g c =
    let e = err_from_is_err_and c.from_residual.result c.from_residual.ensures.1 in
    let den_fits : SFits w128 c.args.den = c.ranges.den in
    let p = c.args.p.now in
    let s = simp to_z-of_z at c.in-Ok.ensures.system in
    let m : IsPulledSystem (pulled_back c.args.var c.args.expr.now c.args.den) p.cons.dim p.cons c.in-Ok.pulled = subst (λ (cs : Constraints). IsPulledSystem (pulled_back c.args.var c.args.expr.now c.args.den) cs.dim cs c.in-Ok.pulled) c.cons.ensures.value s in
    let b = pullback_of p c.cons.result.now c.args.steps.now c.preimage_constraints.new.steps c.cons.ensures.value c.preimage_constraints.ensures.no_fewer c.preimage_constraints.ensures.counted in
    let carried = simp to_z-of_z at c.in_err-preimage.ensures.conversion in
    rw (e.1, e.2) (record { points = tt; stored = tt; overflow = tt; conversion = inr (record { first = c.preimage_constraints.new.steps; pullback = b; system = c.in-Ok.pulled; pulled = m; pair = Err c.in_err-preimage.field-0.0; second = c.carried_preimage.new.steps; tried = carried; after = (refl, refl) }) })

pub returns-in-Err-clause-conversion : goal.returns-in-Err-clause-conversion
returns-in-Err-clause-conversion g c =
    let den_fits : SFits w128 c.args.den = c.ranges.den in
    let p = c.args.p.now in
    let leaves = simp to_z-of_z at c.in-Err.ensures.overflow in
    let b = pullback_of p c.cons.result.now c.args.steps.now c.preimage_constraints.new.steps c.cons.ensures.value c.preimage_constraints.ensures.no_fewer c.preimage_constraints.ensures.counted in
    inl (pulled_in_vain c.args.var c.args.expr.now c.args.den p c.cons.result.now c.args.steps.now c.preimage_constraints.new.steps c.in-Err.cause c.cons.ensures.value b leaves)

pub returns-in-Some-clause-conversion : goal.returns-in-Some-clause-conversion
returns-in-Some-clause-conversion g c =
    let den_fits : SFits w128 c.args.den = c.ranges.den in
    let p = c.args.p.now in
    let s = simp to_z-of_z at c.in-Ok.ensures.system in
    let m : IsPulledSystem (pulled_back c.args.var c.args.expr.now c.args.den) p.cons.dim p.cons c.in-Ok.pulled = subst (λ (cs : Constraints). IsPulledSystem (pulled_back c.args.var c.args.expr.now c.args.den) cs.dim cs c.in-Ok.pulled) c.cons.ensures.value s in
    let b = pullback_of p c.cons.result.now c.args.steps.now c.preimage_constraints.new.steps c.cons.ensures.value c.preimage_constraints.ensures.no_fewer c.preimage_constraints.ensures.counted in
    let carried = simp to_z-of_z at c.in_ok-preimage.ensures.conversion in
    inr (record {
      first = c.preimage_constraints.new.steps;
      pullback = b;
      system = c.in-Ok.pulled;
      pulled = m;
      pair = Ok c.in_ok-preimage.field-0;
      second = c.carried_preimage.new.steps;
      tried = carried;
      after = after_found (IsConversion (cons_work p.topology c.in-Ok.pulled)) c.in_ok-preimage.field-0 c.in-Some.preimage c.in-Some.is c.carried_preimage.new.steps;
    })

pub returns-clause-conversion : goal.returns-clause-conversion
returns-clause-conversion g c =
    let den_fits : SFits w128 c.args.den = c.ranges.den in
    let p = c.args.p.now in
    let s = simp to_z-of_z at c.in-Ok.ensures.system in
    let m : IsPulledSystem (pulled_back c.args.var c.args.expr.now c.args.den) p.cons.dim p.cons c.in-Ok.pulled = subst (λ (cs : Constraints). IsPulledSystem (pulled_back c.args.var c.args.expr.now c.args.den) cs.dim cs c.in-Ok.pulled) c.cons.ensures.value s in
    let b = pullback_of p c.cons.result.now c.args.steps.now c.preimage_constraints.new.steps c.cons.ensures.value c.preimage_constraints.ensures.no_fewer c.preimage_constraints.ensures.counted in
    let carried = simp to_z-of_z at c.in_ok-preimage.ensures.conversion in
    let over = overflow_in conv_overflow c.from_cons.result in
    let list = subst (λ (t : Topology). IsConversion (cons_work t c.in-Ok.pulled) c.carried_preimage.new.steps c.from_cons.new.steps over) c.topology.ensures.value c.from_cons.ensures.conversion in
    inr (record {
      first = c.preimage_constraints.new.steps;
      pullback = b;
      system = c.in-Ok.pulled;
      pulled = m;
      pair = Ok c.in_ok-preimage.field-0;
      second = c.carried_preimage.new.steps;
      tried = carried;
      after = after_none (IsConversion (cons_work p.topology c.in-Ok.pulled)) c.in_ok-preimage.field-0 c.in_default.not-Some c.carried_preimage.new.steps c.from_cons.new.steps over list;
    })
