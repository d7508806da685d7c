-- What the sets that are reached include.
use Rattle.std.proofs.Common.{◌≡◌, ◌⊎◌, inl, inr, ℕ, zero, suc, ◌+◌, ◌-◌, ◌<◌, List, [], ◌∷◌, ◌++◌, length, Some, None, slice_get, ℤ, sym, ap, ◌∙◌, subst, arith}
use Rattle.std.proofs.lemmas.Option.{slice_get_within}
use Rattle.row_core.specs.Points.{IsPoint}
use Rattle.row_core.specs.declared.errors.ConvErr.{ConvErr}
use Rattle.row_core.specs.declared.errors.ConvErr.TheVariants as conversion
use Rattle.row_core.specs.Refusals.{IsOverflowIn}
use Rattle.cons_sys.specs.Constraints.{In}
use Rattle.stored_systems.specs.PointSets.{IsWithin}
use Rattle.poly_pair.specs.Polyhedra.{Polyhedron, HasNoPoint, IsIncluded}
use Rattle.trans_sys.specs.declared.transition.Transition.{Transition}
use Rattle.poly_pair.specs.ClosedPolyhedra.{IsClosedOver}
use Rattle.elapse.specs.ElapsedPoints.{IsMoved}
use Rattle.widening.specs.RunLaws.{AreSetsOf, IncludeEach, AreTaken}
use Rattle.widening.proofs.Places.{some_same, same_at, has_at, all_at}
use Rattle.widening.proofs.OneRun.{one_set}
use Rattle.hybrid.specs.Systems.{HybridAutomaton, IsKeptHybrid}
use Rattle.affine_maps.specs.Posts.{IsStepTo}
use Rattle.hybrid.specs.Steps.{IsPartIn, IsFlown, IsTimePost, IsJumpPost}
use Rattle.hybrid.specs.Turns.{Turn, jump, IsOfTime, IsOfJump, Joins, turn_at, place_of, turns_of}
use Rattle.hybrid.specs.Reaches.{IsPartAt, AreParts, LeavesInPart, LeavesInParts, IncludeInitial, AreClosedUnderFlow, AreClosedUnderJumps}
use Rattle.hybrid.proofs.Closed.{part_closed, time_closed, jump_closed}
use Rattle.hybrid.proofs.Joined.{hull_above, hull_takes}
use Rattle.hybrid.proofs.HybridTurns.{at_time, at_jump, set_at}

-- ---- parts
point_at : (m n : ℕ) (v : List ℤ) → m ≡ n → IsPoint m v → IsPoint n v
point_at m n v e pt = subst (λ (k : ℕ). IsPoint k v) e pt

part_takes : (d : ℕ) (p q part : Polyhedron) → IsClosedOver d p → IsPartIn p q part → (v : List ℤ) → IsPoint d v → In p.cons v → In q.cons v → In part.cons v
part_takes d p q part c h v pt a b = (h.is_meet.points v (point_at d p.cons.dim v (sym c.over.same_dim) pt)).1 (a, b)

part_gives : (d : ℕ) (p q part : Polyhedron) → IsClosedOver d p → IsPartIn p q part → (v : List ℤ) → IsPoint d v → In part.cons v → In p.cons v × In q.cons v
part_gives d p q part c h v pt i = (h.is_meet.points v (point_at d p.cons.dim v (sym c.over.same_dim) pt)).0 i

-- there is one set of a location, and one invariant
pub part_at : (invariants sets : List Polyhedron) (l : ℕ) (inv set : Polyhedron) → slice_get invariants l ≡ Some inv → slice_get sets l ≡ Some set → (part : Polyhedron) → IsPartIn set inv part → IsPartAt invariants sets l part
part_at invariants sets l inv set at_inv at_set part p other_inv other has_inv has_set =
    subst (λ (q : Polyhedron). IsPartIn q other_inv part) (same_at sets l set other at_set has_set)
    (subst (λ (q : Polyhedron). IsPartIn set q part) (same_at invariants l inv other_inv at_inv has_inv) p)

-- ---- time
-- a state of the invariant to which a state of the set in it moves is in the time post
pub time_takes : (d : ℕ) (set inv flow post : Polyhedron) → IsClosedOver d set → IsClosedOver d inv → IsTimePost set inv flow post → (x q v : List ℤ) → IsPoint d x → In set.cons x → In inv.cons x → IsWithin flow.cons q → IsMoved d x q v → In inv.cons v → In post.cons v
time_takes d set inv flow post c i h x q v pt in_set in_inv w moved inside = by h.after
  where
    closed : IsClosedOver d h.start
    closed = part_closed d set inv h.start c h.is_start

    begins : IsWithin h.start.cons x
    begins = record { point = point_at d h.start.cons.dim x (sym closed.over.same_dim) pt; holds = part_takes d set inv h.start c h.is_start x pt in_set in_inv }

    by : (HasNoPoint flow × (post ≡ h.start)) ⊎ (¬ (HasNoPoint flow) × IsFlown h.start inv flow post) → In post.cons v
    by (inl (none, e)) = absurd (none q w)
    by (inr (some, f)) =
        part_takes d inv f.elapsed post i f.is_part v moved.point inside
        ((f.is_elapse.points v (point_at d h.start.cons.dim v (sym closed.over.same_dim) moved.point)).1 (λ a is t. t v (record { start = x; start_within = begins; velocity = q; velocity_within = w; moved = subst (λ (k : ℕ). IsMoved k x q v) (sym closed.over.same_dim) moved })))

-- ---- jumps
-- there is one part of a set in another
pub one_part : (d : ℕ) (p q one other : Polyhedron) → IsClosedOver d p → IsPartIn p q one → IsPartIn p q other → one ≡ other
one_part d p q one other c h k =
    one_set d one other (part_closed d p q one c h) (part_closed d p q other c k)
    (λ v pt. let at = point_at one.cons.dim p.cons.dim v h.is_meet.over.same_dim pt in ((λ i. (k.is_meet.points v at).1 ((h.is_meet.points v at).0 i)), (λ i. (h.is_meet.points v at).1 ((k.is_meet.points v at).0 i))))

-- a successor in the target's invariant of a state of the set in its invariant is in the jump post
pub jump_takes : (d : ℕ) (set inv relation target_inv post part : Polyhedron) → IsClosedOver d set → IsClosedOver d target_inv → IsPartIn set inv part → IsJumpPost set inv relation target_inv post → (y : List ℤ) → IsPoint d y → IsStepTo part.cons relation.cons y → In target_inv.cons y → In post.cons y
jump_takes d set inv relation target_inv post part c i p h y pt step inside =
    let closed = part_closed d set inv h.start c h.is_start in
    part_takes d target_inv h.successors post i h.is_part y pt inside
    ((h.is_post.points y (point_at d h.start.cons.dim y (sym closed.over.same_dim) pt)).1 (subst (λ (r : Polyhedron). IsStepTo r.cons relation.cons y) (one_part d set inv part h.start c p h.is_start) step))

-- ---- the three promises
module _ (h : HybridAutomaton) (kept : IsKeptHybrid h) (sets parts : List Polyhedron) (are : AreSetsOf h.system.dim (length h.system.initial) sets) (of : AreParts h.invariants sets parts) where
  inv_at : (l : ℕ) (p : Polyhedron) → slice_get h.invariants l ≡ Some p → IsClosedOver h.system.dim p
  inv_at l p at = all_at (IsClosedOver h.system.dim) h.invariants l p kept.invariants.each at

  -- the set of the limit at the place of a part
  set_of : (l : ℕ) (part : Polyhedron) → slice_get parts l ≡ Some part → (set : Polyhedron) × (slice_get sets l ≡ Some set)
  set_of l part at = has_at sets l (omega (arith, slice_get_within parts l part at, of.as_many))

  pub includes_initial : IncludeEach h.system.initial sets → IncludeInitial h parts
  includes_initial each l initial inv part has_initial has_inv has_part v pt in_initial in_inv =
      let set = set_of l part has_part in
      let begins = all_at (IsClosedOver h.system.dim) h.system.initial l initial kept.system.initial has_initial in
      part_takes h.system.dim set.0 inv part (set_at h sets l set.0 are set.1) (of.each l part has_part inv set.0 has_inv set.1) v pt (each l initial set.0 has_initial set.1 v (point_at h.system.dim initial.cons.dim v (sym begins.over.same_dim) pt) in_initial) in_inv

  module _ (taken : AreTaken (turns_of h) sets) where
    time_taken : (l : ℕ) → l < length h.system.initial → (set : Polyhedron) → slice_get sets l ≡ Some set → (joined : Polyhedron) × (IsOfTime h l sets joined × IsIncluded joined set)
    time_taken l b set has_set =
        let here = taken l (omega (arith, b)) in
        let turn : IsOfTime h l sets here.joined = subst (λ (t : Turn). Joins h t sets here.joined) (at_time h l b) here.is_joined in
        let at : slice_get sets l ≡ Some here.set = subst (λ (t : Turn). slice_get sets (place_of t) ≡ Some here.set) (at_time h l b) here.has_set in
        (here.joined, (turn, subst (λ (p : Polyhedron). IsIncluded here.joined p) (same_at sets l here.set set at has_set) here.within))

    pub closed_under_flow : AreClosedUnderFlow h parts
    closed_under_flow l inv flow part has_inv has_flow has_part x q v in_part w moved inside =
        let set = set_of l part has_part in
        let d = h.system.dim in
        let set_closed = set_at h sets l set.0 are set.1 in
        let is_part = of.each l part has_part inv set.0 has_inv set.1 in
        let part_is_closed = part_closed d set.0 inv part set_closed is_part in
        let pt = point_at part.cons.dim d x part_is_closed.over.same_dim in_part.point in
        let both = part_gives d set.0 inv part set_closed is_part x pt in_part.holds in
        let here = time_taken l (omega (arith, slice_get_within sets l set.0 set.1, are.as_many)) set.0 set.1 in
        let j = here.1.0 in
        let old : j.old ≡ set.0 = same_at sets l j.old set.0 j.has_old set.1 in
        let inv_is : j.inv ≡ inv = same_at h.invariants l j.inv inv j.has_inv has_inv in
        let flow_is : j.flow ≡ flow = same_at h.flows l j.flow flow j.has_flow has_flow in
        let old_closed = set_at h sets l j.old are j.has_old in
        let inv_closed = inv_at l j.inv j.has_inv in
        let c = time_closed d j.old j.inv j.flow j.holds.post old_closed inv_closed j.holds.is_post in
        let in_post : In j.holds.post.cons v =
        time_takes d j.old j.inv j.flow j.holds.post old_closed inv_closed j.holds.is_post x q v pt (subst (λ (p : Polyhedron). In p.cons x) (sym old) both.0) (subst (λ (p : Polyhedron). In p.cons x) (sym inv_is) both.1) (subst (λ (p : Polyhedron). IsWithin p.cons q) (sym flow_is) w) moved (subst (λ (p : Polyhedron). In p.cons v) (sym inv_is) inside) in
        let above = hull_above (IsTimePost j.old j.inv j.flow) d j.old old_closed here.0 j.holds in
        let in_set : In set.0.cons v =
        here.1.1 v (point_at d here.0.cons.dim v (sym above.closed.over.same_dim) moved.point) (hull_takes (IsTimePost j.old j.inv j.flow) d j.old old_closed here.0 j.holds c v moved.point in_post) in
        part_takes d set.0 inv part set_closed is_part v moved.point in_set inside

    jump_taken : (k : ℕ) (t : Transition) → slice_get h.system.transitions k ≡ Some t → (set : Polyhedron) → slice_get sets t.target ≡ Some set → (joined : Polyhedron) × (IsOfJump h t sets joined × IsIncluded joined set)
    jump_taken k t at set has_set =
        let n = length h.system.initial + k in
        let here = taken n (omega (arith, slice_get_within h.system.transitions k t at)) in
        let back : n - length h.system.initial ≡ k = omega arith in
        let is : turn_at h n ≡ jump (Some t) = at_jump h n (λ l. omega (arith, l)) ∙ ap (λ (i : ℕ). jump (slice_get h.system.transitions i)) back ∙ ap jump at in
        let turn : IsOfJump h t sets here.joined = subst (λ (x : Turn). Joins h x sets here.joined) is here.is_joined in
        let place : slice_get sets t.target ≡ Some here.set = subst (λ (x : Turn). slice_get sets (place_of x) ≡ Some here.set) is here.has_set in
        (here.joined, (turn, subst (λ (p : Polyhedron). IsIncluded here.joined p) (same_at sets t.target here.set set place has_set) here.within))

    pub closed_under_jumps : AreClosedUnderJumps h parts
    closed_under_jumps k t source target inv at has_source has_target has_inv y pt step inside =
        let d = h.system.dim in
        let set = set_of t.target target has_target in
        let set_closed = set_at h sets t.target set.0 are set.1 in
        let here = jump_taken k t at set.0 set.1 in
        let j = here.1.0 in
        let inv_is : j.target_inv ≡ inv = same_at h.invariants t.target j.target_inv inv j.has_target_inv has_inv in
        let old_closed = set_at h sets t.target j.old are j.has_old in
        let source_closed = set_at h sets t.source j.source are j.has_source in
        let inv_closed = inv_at t.target j.target_inv j.has_target_inv in
        let is_source = of.each t.source source has_source j.inv j.source j.has_inv j.has_source in
        let c = jump_closed d j.source j.inv t.relation j.target_inv j.holds.post inv_closed j.holds.is_post in
        let in_post : In j.holds.post.cons y =
        jump_takes d j.source j.inv t.relation j.target_inv j.holds.post source source_closed inv_closed is_source j.holds.is_post y pt step (subst (λ (p : Polyhedron). In p.cons y) (sym inv_is) inside) in
        let above = hull_above (IsJumpPost j.source j.inv t.relation j.target_inv) d j.old old_closed here.0 j.holds in
        let in_set : In set.0.cons y =
        here.1.1 y (point_at d here.0.cons.dim y (sym above.closed.over.same_dim) pt) (hull_takes (IsJumpPost j.source j.inv t.relation j.target_inv) d j.old old_closed here.0 j.holds c y pt in_post) in
        part_takes d set.0 inv target set_closed (of.each t.target target has_target inv set.0 has_inv set.1) y pt in_set inside

-- an overflow at one location is one at some
pub part_leaves : (invariants sets : List Polyhedron) (l : ℕ) (e : ConvErr) → IsOverflowIn (LeavesInPart invariants sets l) e → IsOverflowIn (LeavesInParts invariants sets) e
part_leaves invariants sets l (conversion.Overflow over) p = (l, p)
part_leaves invariants sets l conversion.Memory p = tt

-- ---- lists of parts
-- one more element at the end
pub pushed : (P : ℕ → Polyhedron → Type 0) (old : List Polyhedron) (a : Polyhedron) → P (length old) a → ((i : ℕ) (b : Polyhedron) → slice_get old i ≡ Some b → P i b) → (i : ℕ) (b : Polyhedron) → slice_get (old ++ a ∷ []) i ≡ Some b → P i b
pushed P [] a p h zero b at = subst (P 0) (some_same a b at) p
pushed P [] a p h (suc i) b at = absurd (let e : None ≡ Some b = at in cc)
pushed P (x ∷ old) a p h zero b at = h zero b at
pushed P (x ∷ old) a p h (suc i) b at = pushed (λ (m : ℕ). P (suc m)) old a (subst (λ (m : ℕ). P m a) (omega arith) p) (λ j c e. h (suc j) c e) i b at
