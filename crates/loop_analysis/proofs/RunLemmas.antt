-- The states of a run lie in the sets that the analysis finds.
use Rattle.std.proofs.Common.{◌≡◌, ◌⊎◌, inl, inr, ℕ, zero, suc, ◌+◌, ◌<◌, ◌≤◌, List, [], ◌∷◌, ◌++◌, length, take, Some, slice_get, ℤ, refl, sym, ap, ◌∙◌, subst, arith, All}
use Rattle.std.proofs.lemmas.List.{take_more, take_all}
use Rattle.std.proofs.lemmas.List.Elements.{All-append}
use Rattle.std.proofs.lemmas.Option.{get_or_from_slice_get}
use Rattle.row_core.specs.Points.{IsPoint}
use Rattle.row_core.specs.Refusals.{IsOverflowIn}
use Rattle.row_core.specs.declared.errors.ConvErr.{ConvErr}
use Rattle.row_core.specs.declared.errors.ConvErr.TheVariants as conversion
use Rattle.cons_sys.specs.Constraints.{Constraint, Constraints, In, Satisfies}
use Rattle.stored_systems.specs.PointSets.{IsWithin}
use Rattle.stored_systems.specs.WorkLists.{LeavesOn}
use Rattle.poly_pair.specs.declared.topology.Topology.{Topology}
use Rattle.poly_pair.specs.declared.topology.Topology.TheVariants.{Closed}
use Rattle.poly_pair.specs.TopologyLists.{list_width, constraints_of}
use Rattle.poly_pair.specs.Additions.{with_constraints}
use Rattle.poly_pair.specs.Refusals.{IsOverflowOn}
use Rattle.poly_pair.specs.Polyhedra.{Polyhedron, IsKept, IsOfConstraints, IsIncluded}
use Rattle.poly_pair.specs.ClosedPolyhedra.{IsClosedOver}
use Rattle.lattice_ops.specs.Sets.{IsHull}
use Rattle.widening.proofs.Places.{all_at}
use Rattle.loop_analysis.specs.declared.loops.Assignment.{Assignment}
use Rattle.loop_analysis.specs.Loops.{WhileLoop, IsLoop, IsAssignment}
use Rattle.loop_analysis.specs.Runs.{Assigns, Leads, IsRun, HoldAtHead, HoldBehind}
use Rattle.loop_analysis.specs.Rounds.{IsImageOf, AreImages, IsRound, IsJoined, LeavesInImage, LeavesInRound, LeavesOnHull, LeavesInJoin}
use Rattle.loop_analysis.specs.Analysis.{IsStart, IsStable, IsHead, IsBehind}

-- ---- hulls
pub hull_first : (p q r : Polyhedron) → IsHull p q r → IsIncluded p r
hull_first p q r h v pt inside = (h.points v pt).1 (λ c is in_p in_q. in_p v pt inside)

hull_second : (d : ℕ) (p q r : Polyhedron) → p.cons.dim ≡ d → q.cons.dim ≡ d → IsHull p q r → (v : List ℤ) → IsPoint d v → In q.cons v → In r.cons v
hull_second d p q r e f h v pt inside = (h.points v (subst (λ (n : ℕ). IsPoint n v) (sym e) pt)).1 (λ c is in_p in_q. in_q v (subst (λ (n : ℕ). IsPoint n v) (sym f) pt) inside)

-- ---- assignments
image_takes : (d : ℕ) (a : Assignment) (p made : Polyhedron) → p.cons.dim ≡ d → IsImageOf a p made → (u v : List ℤ) → IsPoint d u → In p.cons u → IsPoint d v → Assigns d a u v → In made.cons v
image_takes d a p made e i u v pu inside pv s =
    let t : Assigns p.cons.dim a u v = subst (λ (n : ℕ). Assigns n a u v) (sym e) s in
    (i.image.points v (subst (λ (n : ℕ). IsPoint n v) (sym e) pv)).1
    (record { source = u; within = record { point = subst (λ (n : ℕ). IsPoint n u) (sym e) pu; holds = inside }; others = t.others; stands = t.value })

pub images_dim : (d : ℕ) (list : List Assignment) (p made : Polyhedron) → p.cons.dim ≡ d → AreImages list p made → made.cons.dim ≡ d
images_dim d [] p made e is = subst (λ (q : Polyhedron). q.cons.dim ≡ d) is e
images_dim d (a ∷ more) p made e (between, i, rest) = images_dim d more between made (i.image.over.same_dim ∙ e) rest

images_take : (d : ℕ) (list : List Assignment) (p made : Polyhedron) → p.cons.dim ≡ d → AreImages list p made → (u v : List ℤ) → IsPoint d u → In p.cons u → Leads d list u v → In made.cons v
images_take d [] p made e is u v pu inside same = subst (λ (q : Polyhedron). In q.cons v) is (subst (In p.cons) same inside)
images_take d (a ∷ more) p made e (between, i, rest) u v pu inside (w, pw, s, further) =
    images_take d more between made (i.image.over.same_dim ∙ e) rest w v pw (image_takes d a p between e i u w pu inside pw s) further

module _ (l : WhileLoop) where
  -- ---- rounds
  round_dim : (set made : Polyhedron) → set.cons.dim ≡ l.dim → IsRound l set made → made.cons.dim ≡ l.dim
  round_dim set made e r = images_dim l.dim l.body r.guarded made (r.is_guarded.over.same_dim ∙ e) r.images

  round_takes : (set made : Polyhedron) → set.cons.dim ≡ l.dim → IsRound l set made → (u v : List ℤ) → IsPoint l.dim u → In set.cons u → In l.guard u → Leads l.dim l.body u v → In made.cons v
  round_takes set made e r u v pu inside guard leads =
      let guarded : In r.guarded.cons u = (r.is_guarded.points u (subst (λ (n : ℕ). IsPoint n u) (sym e) pu)).0 (All-append (Satisfies u) set.cons.list l.guard.list inside guard) in
      images_take l.dim l.body r.guarded made (r.is_guarded.over.same_dim ∙ e) r.images u v pu guarded leads

  -- ---- states of a run
  by_suc : (k : ℕ) → k + 1 ≡ suc k
  by_suc k = omega arith

  module _ (states : ℕ → List ℤ) (n : ℕ) (run : IsRun l states n) where
    leads_on : (k : ℕ) → k < n → Leads l.dim l.body (states k) (states (suc k))
    leads_on k h = subst (λ (m : ℕ). Leads l.dim l.body (states k) (states m)) (by_suc k) (run.goes_on k h)

    -- from a set with the states of the start that a round doesn't leave
    module _ (start set : Polyhedron) (s : IsStart l start) (closed : IsClosedOver l.dim set) (stable : IsStable l start set) where
      at_start : In start.cons (states 0)
      at_start = (s.points.points (states 0) (subst (λ (m : ℕ). IsPoint m (states 0)) (sym (sym s.points.over.same_dim ∙ s.closed.over.same_dim)) (run.points 0 (omega arith)))).0 run.begins

      joined_takes : (u v : List ℤ) → IsPoint l.dim u → In set.cons u → In l.guard u → IsPoint l.dim v → Leads l.dim l.body u v → In set.cons v
      joined_takes u v pu inside guard pv leads =
          let j = stable.is_joined in
          let e = closed.over.same_dim in
          let in_joined : In stable.joined.cons v = hull_second l.dim set j.round stable.joined e (round_dim set j.round e j.is_round) j.is_hull v pv (round_takes set j.round e j.is_round u v pu inside guard leads) in
          stable.within v (subst (λ (m : ℕ). IsPoint m v) (sym (j.is_hull.over.same_dim ∙ e)) pv) in_joined

      pub stays : (k : ℕ) → k ≤ n → In set.cons (states k)
      stays zero h = stable.includes (states 0) (subst (λ (m : ℕ). IsPoint m (states 0)) (sym s.closed.over.same_dim) (run.points 0 (omega arith))) at_start
      stays (suc k) h = joined_takes (states k) (states (suc k)) (run.points k (omega (arith, h))) (stays k (omega (arith, h))) (run.guarded k (omega (arith, h))) (run.points (suc k) h) (leads_on k (omega (arith, h)))

  -- each state of a run is in the head
  pub in_head : (start head : Polyhedron) → IsStart l start → IsHead l start head → (states : ℕ → List ℤ) (n : ℕ) → IsRun l states n → In head.cons (states n)
  in_head start head s h states zero run = hull_first start h.round head h.is_hull (states 0) (subst (λ (m : ℕ). IsPoint m (states 0)) (sym s.closed.over.same_dim) (run.points 0 (omega arith))) (at_start states 0 run start h.invariant s h.closed h.stable)
  in_head start head s h states (suc k) run =
      let e = h.closed.over.same_dim in
      let inside = stays states (suc k) run start h.invariant s h.closed h.stable k (omega arith) in
      hull_second l.dim start h.round head s.closed.over.same_dim (round_dim h.invariant h.round e h.is_round) h.is_hull (states (suc k)) (run.points (suc k) (omega arith))
      (round_takes h.invariant h.round e h.is_round (states k) (states (suc k)) (run.points k (omega arith)) inside (run.guarded k (omega arith)) (leads_on states (suc k) run k (omega arith)))

  pub head_holds : (start head : Polyhedron) (cs : Constraints) → IsStart l start → IsHead l start head → IsClosedOver l.dim head → ((v : List ℤ) → IsWithin head.cons v → In cs v) → HoldAtHead l cs
  head_holds start head cs s h c includes states n run =
      includes (states n) (record { point = subst (λ (m : ℕ). IsPoint m (states n)) (sym c.over.same_dim) (run.points n (omega arith)); holds = in_head start head s h states n run })

  -- and where the guard doesn't hold, behind
  pub behind_holds : (start head behind : Polyhedron) (cs : Constraints) → IsStart l start → IsHead l start head → IsClosedOver l.dim head → IsBehind l head behind → ((v : List ℤ) → IsWithin behind.cons v → In cs v) → HoldBehind l cs
  behind_holds start head behind cs s h c b includes states n run fails =
      let v = states n in
      let pt = run.points n (omega arith) in
      let at_head : IsPoint head.cons.dim v = subst (λ (m : ℕ). IsPoint m v) (sym c.over.same_dim) pt in
      let in_open : In b.opened.cons v = (b.is_open.points v at_head).0 (in_head start head s h states n run) in
      let at_open : IsPoint b.opened.cons.dim v = subst (λ (m : ℕ). IsPoint m v) (sym b.is_open.over.same_dim) at_head in
      let inside : In behind.cons v = (b.is_difference.points v at_open).1 (λ a is valid. valid v at_open in_open fails) in
      includes v (record { point = subst (λ (m : ℕ). IsPoint m v) (sym b.is_difference.over.same_dim) at_open; holds = inside })

-- ---- closed sets
pub image_closed : (d : ℕ) (a : Assignment) (p made : Polyhedron) → IsClosedOver d p → IsImageOf a p made → IsClosedOver d made
image_closed d a p made c i = record { kept = i.kept; over = record { same_topology = i.image.over.same_topology ∙ c.over.same_topology; same_dim = i.image.over.same_dim ∙ c.over.same_dim } }

-- one more assignment
pub images_more : (list : List Assignment) (a : Assignment) (p q r : Polyhedron) → AreImages list p q → IsImageOf a q r → AreImages (list ++ a ∷ []) p r
images_more [] a p q r is i = (r, subst (λ (s : Polyhedron). IsImageOf a s r) (sym is) i, refl)
images_more (b ∷ more) a p q r (between, first, rest) i = (between, first, images_more more a between q r rest i)

pub images_next : (body : List Assignment) (k : ℕ) (a : Assignment) (p q r : Polyhedron) → k < length body → slice_get body k ≡ Some a → AreImages (take k body) p q → IsImageOf a q r → AreImages (take (k + 1) body) p r
images_next body k a p q r l at is i =
    subst (λ (list : List Assignment). AreImages list p r)
    (sym (take_more body k a l ∙ ap (λ (b : Assignment). take k body ++ b ∷ []) (get_or_from_slice_get body k a a at)))
    (images_more (take k body) a p q r is i)

pub fits_at : (l : WhileLoop) → IsLoop l → (k : ℕ) (a : Assignment) → slice_get l.body k ≡ Some a → IsAssignment l.dim a
fits_at l kept k a at = all_at (IsAssignment l.dim) l.body k a kept.body at

pub fits_set : (d : ℕ) (a : Assignment) (p : Polyhedron) → IsClosedOver d p → IsAssignment d a → IsAssignment p.cons.dim a
fits_set d a p c fits = subst (λ (n : ℕ). IsAssignment n a) (sym c.over.same_dim) fits

pub guarded_of : (d : ℕ) (p : Polyhedron) (cs : Constraints) (r : Polyhedron) → IsClosedOver d p → IsOfConstraints p.topology cs r → IsOfConstraints Closed cs r
guarded_of d p cs r c of = subst (λ (t : Topology). IsOfConstraints t cs r) c.over.same_topology of

pub guarded_closed : (d : ℕ) (p : Polyhedron) (more : Constraints) (r : Polyhedron) → IsClosedOver d p → IsOfConstraints p.topology (with_constraints p more) r → IsKept r → IsClosedOver d r
guarded_closed d p more r c of k = record { kept = k; over = record { same_topology = of.over.same_topology ∙ c.over.same_topology; same_dim = of.over.same_dim ∙ c.over.same_dim } }

pub all_images : (body : List Assignment) (k : ℕ) (p q : Polyhedron) → k ≡ length body → AreImages (take k body) p q → AreImages body p q
all_images body k p q e is = subst (λ (list : List Assignment). AreImages list p q) (take_all k body (omega (arith, e))) is

-- ---- overflows
module _ (l : WhileLoop) (set : Polyhedron) where
  pub guard_leaves : (d : ℕ) → IsClosedOver d set → (e : ConvErr) → IsOverflowOn (list_width set.topology set.cons.dim) set.cons.dim (constraints_of set.topology (with_constraints set l.guard)) e → IsOverflowIn (LeavesInRound l set) e
  guard_leaves d c (conversion.Overflow over) h = inl (subst (λ (t : Topology). LeavesOn (list_width t set.cons.dim) set.cons.dim (constraints_of t (with_constraints set l.guard)) over) c.over.same_topology h)
  guard_leaves d c conversion.Memory h = tt

  pub body_leaves : (guarded p : Polyhedron) (k : ℕ) (a : Assignment) → IsOfConstraints Closed (with_constraints set l.guard) guarded → IsKept guarded → slice_get l.body k ≡ Some a → AreImages (take k l.body) guarded p → (e : ConvErr) → IsOverflowIn (LeavesInImage a p) e → IsOverflowIn (LeavesInRound l set) e
  body_leaves guarded p k a of kept at is (conversion.Overflow over) h = inr (record { guarded = guarded; is_guarded = of; kept = kept; leaves = record { index = k; a = a; at = at; set = p; images = is; leaves = h } })
  body_leaves guarded p k a of kept at is conversion.Memory h = tt

  pub round_leaves : (e : ConvErr) → IsOverflowIn (LeavesInRound l set) e → IsOverflowIn (LeavesInJoin l set) e
  round_leaves (conversion.Overflow over) h = inl h
  round_leaves conversion.Memory h = tt

  pub last_leaves : (e : ConvErr) → IsOverflowIn (LeavesOnHull l set set) e → IsOverflowIn (LeavesInJoin l set) e
  last_leaves (conversion.Overflow over) h = inr h
  last_leaves conversion.Memory h = tt
