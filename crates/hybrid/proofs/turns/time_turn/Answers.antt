use Rattle.std.proofs.Common.{◌≡◌, ◌⊎◌, ℕ, Some, slice_get, subst, sym}
use Rattle.std.proofs.lemmas.Result.{IfOk-weaker, IfErr-weaker}
use Rattle.poly_pair.specs.Polyhedra.{Polyhedron}
use Rattle.poly_pair.specs.ClosedPolyhedra.{IsClosedOver}
use Rattle.row_core.specs.Refusals.{IsOverflowIn}
use Rattle.widening.specs.RunLaws.{IsFound}
use Rattle.widening.proofs.Places.{all_at}
use Rattle.hybrid.specs.Steps.{IsTimePost, LeavesOnTime}
use Rattle.hybrid.specs.Turns.{IsHullWithPost, IsOfTime, LeavesAfter, LeavesInTime}
use Rattle.hybrid.proofs.HybridTurns.{found_time, leaves_time}
use Rattle.hybrid.proofs.turns.time_turn.Goals as goal

pub time_joined-requires : goal.time_joined-requires
time_joined-requires g c =
    let h = c.args.h.now in
    let kept = c.system-kept.ensures.kept in
    let inv : IsClosedOver h.system.dim c.inv.result.now = all_at (IsClosedOver h.system.dim) h.invariants c.args.location c.inv.result.now kept.invariants.each c.inv.ensures.value in
    let same : h.system.dim ≡ c.inv.result.now.cons.dim = sym inv.over.same_dim in
    record {
      old = subst (λ (d : ℕ). IsClosedOver d c.set_of.result.now) same (all_at (IsClosedOver h.system.dim) c.args.sets.now c.args.location c.set_of.result.now c.requires.sets.each c.set_of.ensures);
      inv = subst (λ (d : ℕ). IsClosedOver d c.inv.result.now) same inv;
      flow = subst (λ (d : ℕ). IsClosedOver d c.flow.result.now) same (all_at (IsClosedOver h.system.dim) h.flows c.args.location c.flow.result.now kept.flows.each c.flow.ensures.value);
    }

pub returns-clause-found : goal.returns-clause-found
returns-clause-found g c =
    IfOk-weaker c.time_joined.result (IsFound (IsHullWithPost (IsTimePost c.set_of.result.now c.inv.result.now c.flow.result.now) c.set_of.result.now) c.set_of.result.now) (λ o. (old : Polyhedron) → slice_get c.args.sets.now c.args.location ≡ Some old → IsFound (IsOfTime c.args.h.now c.args.location c.args.sets.now) old o)
    (found_time c.args.h.now c.args.sets.now c.args.location c.set_of.result.now c.inv.result.now c.flow.result.now c.set_of.ensures c.inv.ensures.value c.flow.ensures.value) c.time_joined.ensures.found

pub returns-clause-overflow : goal.returns-clause-overflow
returns-clause-overflow g c =
    IfErr-weaker c.time_joined.result (IsOverflowIn (λ over. LeavesOnTime c.set_of.result.now c.inv.result.now c.flow.result.now over ⊎ LeavesAfter (IsTimePost c.set_of.result.now c.inv.result.now c.flow.result.now) c.set_of.result.now over)) (IsOverflowIn (LeavesInTime c.args.h.now c.args.location c.args.sets.now))
    (leaves_time c.args.h.now c.args.sets.now c.args.location c.set_of.result.now c.inv.result.now c.flow.result.now c.set_of.ensures c.inv.ensures.value c.flow.ensures.value) c.time_joined.ensures.overflow

pub returns-clause-conversion : goal.returns-clause-conversion
returns-clause-conversion g c = record {
  old = c.set_of.result.now;
  inv = c.inv.result.now;
  flow = c.flow.result.now;
  has_old = c.set_of.ensures;
  has_inv = c.inv.ensures.value;
  has_flow = c.flow.ensures.value;
  holds = c.time_joined.ensures.conversion;
}
