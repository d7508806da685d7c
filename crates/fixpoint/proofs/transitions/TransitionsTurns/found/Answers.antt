use Rattle.std.proofs.Common.{◌≡◌, ℕ, ◌*◌, length, Some, slice_get, subst, sym, arith}
use Rattle.std.proofs.lemmas.Result.{IfOk-weaker, IfErr-weaker}
use Rattle.poly_pair.specs.Polyhedra.{Polyhedron}
use Rattle.poly_pair.specs.ClosedPolyhedra.{IsClosedOver}
use Rattle.trans_sys.specs.Systems.{IsTransition}
use Rattle.trans_sys.specs.declared.transition.Transition.{Transition}
use Rattle.row_core.specs.Refusals.{IsOverflowIn}
use Rattle.widening.specs.RunLaws.{IsFound}
use Rattle.widening.proofs.Places.{all_at}
use Rattle.fixpoint.specs.Runs.{IsHullWithSuccessors, LeavesBothWays, target_of, JoinsBy, LeavesBy}
use Rattle.fixpoint.proofs.SystemTurns.{found_by, leaves_by, counts_by}
use Rattle.fixpoint.proofs.transitions.TransitionsTurns.found.Goals as goal

pub set_of-requires : goal.set_of-requires
set_of-requires g c =
    let s = c.args.self.now.system.now in
    let t : Transition = c.trans-transition.result.now in
    let is : IsTransition (length s.initial) s.dim t = all_at (IsTransition (length s.initial) s.dim) s.transitions c.args.index t c.trans-transition.ensures.kept.transitions c.trans-transition.ensures.value in
    omega (arith, is.source, c.requires.sets.as_many)

pub set_of-requires-2 : goal.set_of-requires-2
set_of-requires-2 g c =
    let s = c.args.self.now.system.now in
    let t : Transition = c.trans-transition.result.now in
    let is : IsTransition (length s.initial) s.dim t = all_at (IsTransition (length s.initial) s.dim) s.transitions c.args.index t c.trans-transition.ensures.kept.transitions c.trans-transition.ensures.value in
    omega (arith, is.target, c.requires.sets.as_many)

pub joined-requires : goal.joined-requires
joined-requires g c =
    let s = c.args.self.now.system.now in
    let t : Transition = c.trans-transition.result.now in
    let is : IsTransition (length s.initial) s.dim t = all_at (IsTransition (length s.initial) s.dim) s.transitions c.args.index t c.trans-transition.ensures.kept.transitions c.trans-transition.ensures.value in
    let old : IsClosedOver s.dim c.set_of-2.result.now = all_at (IsClosedOver s.dim) c.args.sets.now t.target c.set_of-2.result.now c.requires.sets.each c.set_of-2.ensures in
    let same : s.dim ≡ c.set_of-2.result.now.cons.dim = sym old.over.same_dim in
    record {
      source = subst (λ (d : ℕ). IsClosedOver d c.set_of.result.now) same (all_at (IsClosedOver s.dim) c.args.sets.now t.source c.set_of.result.now c.requires.sets.each c.set_of.ensures);
      relation = subst (λ (d : ℕ). IsClosedOver (2 * d) t.relation) same is.relation;
      old = subst (λ (d : ℕ). IsClosedOver d c.set_of-2.result.now) same old;
    }

pub returns-clause-found : goal.returns-clause-found
returns-clause-found g c =
    let s = c.args.self.now.system.now in
    let t : Transition = c.trans-transition.result.now in
    IfOk-weaker c.joined.result (IsFound (IsHullWithSuccessors c.set_of.result.now t.relation c.set_of-2.result.now) c.set_of-2.result.now) (λ o. (old : Polyhedron) → slice_get c.args.sets.now (target_of (slice_get s.transitions c.args.index)) ≡ Some old → IsFound (JoinsBy (slice_get s.transitions c.args.index) c.args.sets.now) old o)
    (found_by s c.args.index t c.args.sets.now c.set_of.result.now c.set_of-2.result.now c.trans-transition.ensures.value c.set_of.ensures c.set_of-2.ensures) c.joined.ensures.found

pub returns-clause-overflow : goal.returns-clause-overflow
returns-clause-overflow g c =
    let s = c.args.self.now.system.now in
    let t : Transition = c.trans-transition.result.now in
    IfErr-weaker c.joined.result (IsOverflowIn (LeavesBothWays c.set_of.result.now t.relation c.set_of-2.result.now)) (IsOverflowIn (LeavesBy (slice_get s.transitions c.args.index) c.args.sets.now))
    (leaves_by s c.args.index t c.args.sets.now c.set_of.result.now c.set_of-2.result.now c.trans-transition.ensures.value c.set_of.ensures c.set_of-2.ensures) c.joined.ensures.overflow

pub returns-clause-conversion : goal.returns-clause-conversion
returns-clause-conversion g c = counts_by c.args.self.now.system.now c.args.index c.trans-transition.result.now c.args.sets.now c.set_of.result.now c.set_of-2.result.now c.trans-transition.ensures.value c.set_of.ensures c.set_of-2.ensures _ _ _ c.joined.ensures.conversion
