use Rattle.std.proofs.Common.{◌≡◌, ◌⊎◌, ℕ, ◌*◌, ◌<◌, length, Some, slice_get, subst, sym, ap, arith}
use Rattle.std.proofs.lemmas.Result.{IfOk-weaker, IfErr-weaker}
use Rattle.poly_pair.specs.Polyhedra.{Polyhedron}
use Rattle.poly_pair.specs.ClosedPolyhedra.{IsClosedOver}
use Rattle.trans_sys.specs.declared.transition.Transition.{Transition}
use Rattle.trans_sys.specs.Systems.{TransitionSystem, IsTransition, IsKeptSystem}
use Rattle.row_core.specs.Refusals.{IsOverflowIn}
use Rattle.widening.specs.RunLaws.{IsFound}
use Rattle.widening.proofs.Places.{all_at}
use Rattle.hybrid.specs.Systems.{IsKeptHybrid}
use Rattle.hybrid.specs.Steps.{IsJumpPost, LeavesOnJump}
use Rattle.hybrid.specs.Turns.{IsHullWithPost, IsOfJump, LeavesAfter, LeavesInJump}
use Rattle.hybrid.proofs.HybridTurns.{found_jump, leaves_jump, counts_jump}
use Rattle.hybrid.proofs.turns.jump_turn.Goals as goal

ends_within : (s : TransitionSystem) (index : ℕ) (t : Transition) → IsKeptSystem s → slice_get s.transitions index ≡ Some t → (t.source < length s.initial) × (t.target < length s.initial)
ends_within s index t kept at = let is = all_at (IsTransition (length s.initial) s.dim) s.transitions index t kept.transitions at in (is.source, is.target)

pub set_of-requires : goal.set_of-requires
set_of-requires g c =
    let s = c.system.result.now in
    let ends : (c.trans-transition.result.now.source < length s.initial) × (c.trans-transition.result.now.target < length s.initial) = ends_within s c.args.index _ c.trans-transition.ensures.kept c.trans-transition.ensures.value in
    omega (arith, ends.0, ap (λ (k : TransitionSystem). length k.initial) c.system.ensures.value, c.requires.sets.as_many)

pub inv-requires : goal.inv-requires
inv-requires g c =
    let s = c.system.result.now in
    let ends : (c.trans-transition.result.now.source < length s.initial) × (c.trans-transition.result.now.target < length s.initial) = ends_within s c.args.index _ c.trans-transition.ensures.kept c.trans-transition.ensures.value in
    omega (arith, ends.0, ap (λ (k : TransitionSystem). length k.initial) c.system.ensures.value, c.system.ensures.kept.invariants.as_many)

pub set_of-requires-2 : goal.set_of-requires-2
set_of-requires-2 g c =
    let s = c.system.result.now in
    let ends : (c.trans-transition.result.now.source < length s.initial) × (c.trans-transition.result.now.target < length s.initial) = ends_within s c.args.index _ c.trans-transition.ensures.kept c.trans-transition.ensures.value in
    omega (arith, ends.1, ap (λ (k : TransitionSystem). length k.initial) c.system.ensures.value, c.requires.sets.as_many)

pub inv-requires-2 : goal.inv-requires-2
inv-requires-2 g c =
    let s = c.system.result.now in
    let ends : (c.trans-transition.result.now.source < length s.initial) × (c.trans-transition.result.now.target < length s.initial) = ends_within s c.args.index _ c.trans-transition.ensures.kept c.trans-transition.ensures.value in
    omega (arith, ends.1, ap (λ (k : TransitionSystem). length k.initial) c.system.ensures.value, c.system.ensures.kept.invariants.as_many)

pub jump_joined-requires : goal.jump_joined-requires
jump_joined-requires g c =
    let h = c.args.h.now in
    let kept : IsKeptHybrid h = c.system.ensures.kept in
    let t : Transition = c.trans-transition.result.now in
    let at : slice_get h.system.transitions c.args.index ≡ Some t = subst (λ (s : TransitionSystem). slice_get s.transitions c.args.index ≡ Some t) c.system.ensures.value c.trans-transition.ensures.value in
    let is : IsTransition (length h.system.initial) h.system.dim t = all_at (IsTransition (length h.system.initial) h.system.dim) h.system.transitions c.args.index t kept.system.transitions at in
    let target : IsClosedOver h.system.dim c.inv-2.result.now = all_at (IsClosedOver h.system.dim) h.invariants t.target c.inv-2.result.now kept.invariants.each c.inv-2.ensures.value in
    let same : h.system.dim ≡ c.inv-2.result.now.cons.dim = sym target.over.same_dim in
    record {
      narrow = omega (arith, same, kept.system.narrow);
      source = subst (λ (d : ℕ). IsClosedOver d c.set_of.result.now) same (all_at (IsClosedOver h.system.dim) c.args.sets.now t.source c.set_of.result.now c.requires.sets.each c.set_of.ensures);
      inv = subst (λ (d : ℕ). IsClosedOver d c.inv.result.now) same (all_at (IsClosedOver h.system.dim) h.invariants t.source c.inv.result.now kept.invariants.each c.inv.ensures.value);
      relation = subst (λ (d : ℕ). IsClosedOver (2 * d) t.relation) same is.relation;
      old = subst (λ (d : ℕ). IsClosedOver d c.set_of-2.result.now) same (all_at (IsClosedOver h.system.dim) c.args.sets.now t.target c.set_of-2.result.now c.requires.sets.each c.set_of-2.ensures);
      target_inv = subst (λ (d : ℕ). IsClosedOver d c.inv-2.result.now) same target;
    }

pub returns-clause-found : goal.returns-clause-found
returns-clause-found g c =
    let t : Transition = c.trans-transition.result.now in
    let at : slice_get c.args.h.now.system.transitions c.args.index ≡ Some t = subst (λ (s : TransitionSystem). slice_get s.transitions c.args.index ≡ Some t) c.system.ensures.value c.trans-transition.ensures.value in
    IfOk-weaker c.jump_joined.result (IsFound (IsHullWithPost (IsJumpPost c.set_of.result.now c.inv.result.now t.relation c.inv-2.result.now) c.set_of-2.result.now) c.set_of-2.result.now) (λ o. (u : Transition) (old : Polyhedron) → slice_get c.args.h.now.system.transitions c.args.index ≡ Some u → slice_get c.args.sets.now u.target ≡ Some old → IsFound (IsOfJump c.args.h.now u c.args.sets.now) old o)
    (found_jump c.args.h.now c.args.sets.now t c.set_of.result.now c.inv.result.now c.set_of-2.result.now c.inv-2.result.now c.set_of.ensures c.inv.ensures.value c.set_of-2.ensures c.inv-2.ensures.value c.args.index at) c.jump_joined.ensures.found

pub returns-clause-overflow : goal.returns-clause-overflow
returns-clause-overflow g c =
    let t : Transition = c.trans-transition.result.now in
    let at : slice_get c.args.h.now.system.transitions c.args.index ≡ Some t = subst (λ (s : TransitionSystem). slice_get s.transitions c.args.index ≡ Some t) c.system.ensures.value c.trans-transition.ensures.value in
    IfErr-weaker c.jump_joined.result (IsOverflowIn (λ over. LeavesOnJump c.set_of.result.now c.inv.result.now t.relation c.inv-2.result.now over ⊎ LeavesAfter (IsJumpPost c.set_of.result.now c.inv.result.now t.relation c.inv-2.result.now) c.set_of-2.result.now over)) (IsOverflowIn (λ over. (u : Transition) → slice_get c.args.h.now.system.transitions c.args.index ≡ Some u → LeavesInJump c.args.h.now u c.args.sets.now over))
    (leaves_jump c.args.h.now c.args.sets.now t c.set_of.result.now c.inv.result.now c.set_of-2.result.now c.inv-2.result.now c.set_of.ensures c.inv.ensures.value c.set_of-2.ensures c.inv-2.ensures.value c.args.index at) c.jump_joined.ensures.overflow

pub returns-clause-conversion : goal.returns-clause-conversion
returns-clause-conversion g c =
    let t : Transition = c.trans-transition.result.now in
    let at : slice_get c.args.h.now.system.transitions c.args.index ≡ Some t = subst (λ (s : TransitionSystem). slice_get s.transitions c.args.index ≡ Some t) c.system.ensures.value c.trans-transition.ensures.value in
    counts_jump c.args.h.now c.args.sets.now t c.set_of.result.now c.inv.result.now c.set_of-2.result.now c.inv-2.result.now c.set_of.ensures c.inv.ensures.value c.set_of-2.ensures c.inv-2.ensures.value c.args.index at _ _ _ c.jump_joined.ensures.conversion
