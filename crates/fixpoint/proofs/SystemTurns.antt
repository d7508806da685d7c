-- The turns of a system.
use Rattle.std.proofs.Common.{◌≡◌, inl, inr, ℕ, ◌<◌, List, length, Option, Some, None, slice_get, slice_index_or, ℤ, refl, sym, ap, ◌∙◌, subst, arith}
use Rattle.std.proofs.lemmas.Option.{slice_get_within}
use Rattle.row_core.specs.Points.{IsPoint}
use Rattle.row_core.specs.declared.errors.Overflow.{Overflow}
use Rattle.row_core.specs.declared.errors.ConvErr.{ConvErr}
use Rattle.row_core.specs.declared.errors.ConvErr.TheVariants as conversion
use Rattle.cons_sys.specs.Constraints.{Constraint, In, Satisfies, FitDimension as FitConstraints}
use Rattle.gens_sys.specs.Generators.{Generators}
use Rattle.set_laws.specs.Asking.{IsMember}
use Rattle.poly_pair.specs.declared.topology.Topology.{Topology}
use Rattle.poly_pair.specs.declared.topology.Topology.TheVariants.{Closed}
use Rattle.poly_pair.specs.Polyhedra.{Polyhedron, IsKept, IsOver, IsIncluded}
use Rattle.trans_sys.specs.declared.transition.Transition.{Transition}
use Rattle.trans_sys.specs.Systems.{TransitionSystem, IsTransition, IsKeptSystem}
use Rattle.stored_systems.specs.WorkLists.{LeavesOn}
use Rattle.poly_pair.specs.TopologyLists.{list_width, generators_of}
use Rattle.poly_pair.specs.Refusals.{IsOverflowOn}
use Rattle.poly_pair.specs.Work.{added_gens}
use Rattle.lattice_ops.specs.Sets.{IsValidOn, IsHull, both_generators}
use Rattle.lattice_ops.specs.Growing.{IsGrown, IsHullWith, IsGrownBy}
use Rattle.lattice_ops.proofs.KeptSets.{constraint_for}
use Rattle.row_core.specs.Refusals.{IsOverflowIn}
use Rattle.poly_pair.specs.ClosedPolyhedra.{IsClosedOver}
use Rattle.widening.specs.RunLaws as run
use Rattle.widening.specs.RunLaws.{AreProper, ReadsFrom, IsAbove, AreTaken, IsTaken, IsFound, JoinOne}
use Rattle.widening.proofs.Places.{same_at, has_at, all_at}
use Rattle.widening.proofs.TurnLemmas.{enlarged}
use Rattle.widening.proofs.OneRun.{one_set}
use Rattle.widening.proofs.OwnConstraints.{within_own}
use Rattle.affine_maps.specs.Posts.{IsPost, IsStepTo, SpanPost}
use Rattle.fixpoint.specs.Runs.{IsValidOnPost, IsHullWithSuccessors, IsJoinedBy, LeavesOnHullWithPost, LeavesByGenerators, LeavesByPost, LeavesBothWays, IsConversionBothWays, target_of, JoinsBy, LeavesBy, CountsBy, turns_of}
use Rattle.fixpoint.specs.RunLaws.{AreClosedUnder}

pub initial_sets : (s : TransitionSystem) → IsKeptSystem s → run.AreSetsOf s.dim (length s.initial) s.initial
initial_sets s k = record { as_many = refl; each = k.initial }

-- ---- what a transition joins
over_closed : (topology : Topology) (dim d : ℕ) (p : Polyhedron) → topology ≡ Closed → dim ≡ d → IsKept p → IsOver topology dim p → IsClosedOver d p
over_closed topology dim d p e f k o = record { kept = k; over = record { same_topology = o.same_topology ∙ e; same_dim = o.same_dim ∙ f } }

module _ (d : ℕ) (source relation old : Polyhedron) (s : IsClosedOver d source) (o : IsClosedOver d old) where
  joined_closed : (joined : Polyhedron) → IsHullWithSuccessors source relation old joined → IsClosedOver d joined
  joined_closed joined j = over_closed old.topology old.cons.dim d joined o.over.same_topology o.over.same_dim j.kept j.over

  pub joined_above : (joined : Polyhedron) → IsHullWithSuccessors source relation old joined → IsAbove d old joined
  joined_above joined j = record { closed = joined_closed joined j; includes = λ v pt h. (j.points v pt).1 (λ c is on_old on_post. on_old v pt h) }

  pub joined_takes : (joined : Polyhedron) → IsHullWithSuccessors source relation old joined → (y : List ℤ) → IsPoint d y → IsStepTo source.cons relation.cons y → In joined.cons y
  joined_takes joined j y pt h = (j.points y (subst (λ (n : ℕ). IsPoint n y) (sym o.over.same_dim) pt)).1 (λ c is on_old on_post. on_post y (subst (λ (n : ℕ). IsPoint n y) (sym s.over.same_dim) pt) h)

  -- a set that has all of what was joined has the successors too
  pub joined_stays : (joined set : Polyhedron) → IsHullWithSuccessors source relation old joined → IsClosedOver d set → IsIncluded joined set → IsHullWithSuccessors source relation set set
  joined_stays joined set j c within = record {
    over = record { same_topology = refl; same_dim = refl };
    points = λ v pt. ((λ h a is on_set on_post. on_set v pt h), (λ all. within_own d set c v (λ a is on_set. all a is on_set (λ y at step. takes a on_set y (subst (λ (n : ℕ). IsPoint n y) s.over.same_dim at) step))));
    kept = c.kept;
  }
    where
      takes : (a : Constraint) → IsValidOn set a → (y : List ℤ) → IsPoint d y → IsStepTo source.cons relation.cons y → Satisfies y a
      takes a on_set y at step =
          let inside : In set.cons y = within y (subst (λ (n : ℕ). IsPoint n y) (sym (joined_closed joined j).over.same_dim) at) (joined_takes joined j y at step) in
          on_set y (subst (λ (n : ℕ). IsPoint n y) (sym c.over.same_dim) at) inside

  pub one_joined : (one other : Polyhedron) → IsHullWithSuccessors source relation old one → IsHullWithSuccessors source relation old other → one ≡ other
  one_joined one other j k =
      one_set d one other (joined_closed one j) (joined_closed other k)
      (λ v pt. let at = subst (λ (n : ℕ). IsPoint n v) j.over.same_dim pt in ((λ h. (k.points v at).1 ((j.points v at).0 h)), (λ h. (j.points v at).1 ((k.points v at).0 h))))

-- ---- turns
module _ (s : TransitionSystem) where
  by_transition : (k : ℕ) (t : Transition) (sets : List Polyhedron) (joined : Polyhedron) → slice_get s.transitions k ≡ Some t → JoinsBy (slice_get s.transitions k) sets joined → IsJoinedBy t sets joined
  by_transition k t sets joined at j = subst (λ (o : Option Transition). JoinsBy o sets joined) at j

  pub proper : IsKeptSystem s → AreProper (turns_of s)
  proper kept = record { place = place; above = above; free = free }
    where
      place : (k : ℕ) → k < length s.transitions → target_of (slice_get s.transitions k) < length s.initial
      place k below =
          let t = has_at s.transitions k below in
          subst (λ (o : Option Transition). target_of o < length s.initial) (sym t.1) (all_at (IsTransition (length s.initial) s.dim) s.transitions k t.0 kept.transitions t.1).target

      above : (k : ℕ) (sets : List Polyhedron) (old joined : Polyhedron) → k < length s.transitions → run.AreSetsOf s.dim (length s.initial) sets → slice_get sets (target_of (slice_get s.transitions k)) ≡ Some old → JoinsBy (slice_get s.transitions k) sets joined → IsAbove s.dim old joined
      above k sets old joined below are has_old j =
          let t = has_at s.transitions k below in
          let by = by_transition k t.0 sets joined t.1 j in
          let same : by.old ≡ old = same_at sets t.0.target by.old old by.has_old (ap (λ (o : Option Transition). slice_get sets (target_of o)) (sym t.1) ∙ has_old) in
          subst (λ (p : Polyhedron). IsAbove s.dim p joined) same
          (joined_above s.dim by.source t.0.relation by.old (all_at (IsClosedOver s.dim) sets t.0.source by.source are.each by.has_source) (all_at (IsClosedOver s.dim) sets t.0.target by.old are.each by.has_old) joined by.is_joined)

      free : (k : ℕ) (sets : List Polyhedron) (n : ℕ) → k < length s.transitions → run.AreSetsOf s.dim (length s.initial) sets → CountsBy (slice_get s.transitions k) sets n n None
      free k sets n below are =
          let t = has_at s.transitions k below in
          let is = all_at (IsTransition (length s.initial) s.dim) s.transitions k t.0 kept.transitions t.1 in
          let source = has_at sets t.0.source (omega (arith, is.source, are.as_many)) in
          let set = has_at sets t.0.target (omega (arith, is.target, are.as_many)) in
          subst (λ (o : Option Transition). CountsBy o sets n n None) (sym t.1) (record { source = source.0; set = set.0; has_source = source.1; has_set = set.1; conversion = inl (refl, inl (inl (refl, refl))) })

  pub reads_from : (k : ℕ) (t : Transition) → slice_get s.transitions k ≡ Some t → ReadsFrom (turns_of s) k t.source
  reads_from k t at sets others joined set are other same j has_set within =
      let by = by_transition k t sets joined at j in
      let source = all_at (IsClosedOver s.dim) sets t.source by.source are.each by.has_source in
      let old = all_at (IsClosedOver s.dim) sets t.target by.old are.each by.has_old in
      let set_at : slice_get others t.target ≡ Some set = ap (λ (o : Option Transition). slice_get others (target_of o)) (sym at) ∙ has_set in
      subst (λ (o : Option Transition). JoinsBy o others set) (sym at) (record {
        source = by.source;
        old = set;
        has_source = same ∙ by.has_source;
        has_old = set_at;
        is_joined = joined_stays s.dim by.source t.relation by.old source old joined set by.is_joined (all_at (IsClosedOver s.dim) others t.target set other.each set_at) within;
      })

  pub join_one : JoinOne (turns_of s)
  join_one k sets one other below are j l =
      let t = has_at s.transitions k below in
      let a = by_transition k t.0 sets one t.1 j in
      let b = by_transition k t.0 sets other t.1 l in
      let source : b.source ≡ a.source = same_at sets t.0.source b.source a.source b.has_source a.has_source in
      let old : b.old ≡ a.old = same_at sets t.0.target b.old a.old b.has_old a.has_old in
      one_joined s.dim a.source t.0.relation a.old (all_at (IsClosedOver s.dim) sets t.0.source a.source are.each a.has_source) (all_at (IsClosedOver s.dim) sets t.0.target a.old are.each a.has_old) one other a.is_joined
      (subst (λ (p : Polyhedron). IsHullWithSuccessors a.source t.0.relation p other) old (subst (λ (p : Polyhedron). IsHullWithSuccessors p t.0.relation b.old other) source b.is_joined))

  -- where what each turn joins is in the set of its place, the sets are closed under the transitions
  pub closed_under : (sets : List Polyhedron) → run.AreSetsOf s.dim (length s.initial) sets → AreTaken (turns_of s) sets → AreClosedUnder s.transitions sets
  closed_under sets are taken k t source target at has_source has_target y pt step =
      let here = taken k (slice_get_within s.transitions k t at) in
      let by = by_transition k t sets here.joined at here.is_joined in
      let closed = all_at (IsClosedOver s.dim) sets t.source by.source are.each by.has_source in
      let old_closed = all_at (IsClosedOver s.dim) sets t.target by.old are.each by.has_old in
      let is_source : source ≡ by.source = same_at sets t.source source by.source has_source by.has_source in
      let is_target : here.set ≡ target = same_at sets t.target here.set target (ap (λ (o : Option Transition). slice_get sets (target_of o)) (sym at) ∙ here.has_set) has_target in
      let at_dim : IsPoint s.dim y = subst (λ (n : ℕ). IsPoint n y) (ap (λ (p : Polyhedron). p.cons.dim) is_source ∙ closed.over.same_dim) pt in
      let c = (joined_above s.dim by.source t.relation by.old closed old_closed here.joined by.is_joined).closed in
      subst (λ (p : Polyhedron). In p.cons y) is_target
      (here.within y (subst (λ (n : ℕ). IsPoint n y) (sym c.over.same_dim) at_dim)
      (joined_takes s.dim by.source t.relation by.old closed old_closed here.joined by.is_joined y at_dim (subst (λ (p : Polyhedron). IsStepTo p.cons t.relation.cons y) is_source step)))

-- ---- what a turn finds
-- by the hull of a set and a post
module _ (source relation old post : Polyhedron) (s : IsClosedOver old.cons.dim source) (o : IsClosedOver old.cons.dim old) (p : IsPost source relation post) where
  at_source : (y : List ℤ) → IsPoint post.cons.dim y → IsPoint source.cons.dim y
  at_source y pt = subst (λ (n : ℕ). IsPoint n y) p.over.same_dim pt

  valid_on_steps : (c : Constraint) → IsValidOn post c → IsValidOnPost source relation c
  valid_on_steps c valid y pt h = valid y (subst (λ (n : ℕ). IsPoint n y) (sym p.over.same_dim) pt) ((p.points y pt).1 h)

  valid_on_set : (c : Constraint) → IsValidOnPost source relation c → IsValidOn post c
  valid_on_set c valid y pt h = valid y (at_source y pt) ((p.points y (at_source y pt)).0 h)

  joined_of_hull : (hull : Polyhedron) → IsHull old post hull → IsKept hull → IsHullWithSuccessors source relation old hull
  joined_of_hull hull h k = record {
    over = h.over;
    points = λ v pt. (
      (λ w c is on_old on_post. (h.points v pt).0 w c is on_old (valid_on_set c on_post)),
      (λ all. (h.points v pt).1 (λ c is on_old on_post. all c is on_old (valid_on_steps c on_post))),
    );
    kept = k;
  }

  pub found_of : (found : Option Polyhedron) → IsGrown old post found → IsFound (IsHullWithSuccessors source relation old) old found
  found_of None h = record { joined = h.hull; is_joined = joined_of_hull h.hull h.is_hull h.kept; same = h.same }
  found_of (Some hull) h = let j = joined_of_hull hull h.is_hull h.kept in record { is_joined = j; enlarged = enlarged old.cons.dim old hull o (joined_above old.cons.dim source relation old s o hull j) h.differs }

-- where the set has all successors it is what the turn joins
pub found_same : (source relation old : Polyhedron) → IsKept old → FitConstraints old.cons → ((y : List ℤ) → IsPoint source.cons.dim y → IsStepTo source.cons relation.cons y → In old.cons y) → IsFound (IsHullWithSuccessors source relation old) old None
found_same source relation old k fit within = record { joined = old; is_joined = joined; same = λ v pt. ((λ h. h), (λ h. h)) }
  where
    joined : IsHullWithSuccessors source relation old old
    joined = record {
      over = record { same_topology = refl; same_dim = refl };
      points = λ v pt. (
        (λ h c is on_old on_post. on_old v pt h),
        (λ all i c h. all (slice_index_or old.cons.list i c) (constraint_for old.topology old.cons.dim old (record { same_topology = refl; same_dim = refl }) k fit i c h) (λ w at holds. holds i c h) (λ y at step. within y at step i c h)),
      );
      kept = k;
    }

-- by generators of the post
module _ (source relation old : Polyhedron) (s : IsClosedOver old.cons.dim source) (o : IsClosedOver old.cons.dim old) (fit : FitConstraints old.cons) where
  pub found_without : ((y : List ℤ) → ¬ (IsStepTo source.cons relation.cons y)) → IsFound (IsHullWithSuccessors source relation old) old None
  found_without none = found_same source relation old o.kept fit (λ y pt h. absurd (none y h))

  module _ (gs : Generators) (span : SpanPost source relation gs) where
    to_source : (v : List ℤ) → IsPoint gs.dim v → IsPoint source.cons.dim v
    to_source v pt = subst (λ (n : ℕ). IsPoint n v) span.same_dim pt

    member : (y : List ℤ) → IsPoint source.cons.dim y → IsStepTo source.cons relation.cons y → IsMember gs y
    member y pt h = record { point = subst (λ (n : ℕ). IsPoint n y) (sym span.same_dim) pt; spanned = (span.points y pt).1 h }

    joined_of_spanned : (hull : Polyhedron) → IsHullWith old gs hull → IsKept hull → IsHullWithSuccessors source relation old hull
    joined_of_spanned hull h k = record {
      over = h.over;
      points = λ v pt. (
        (λ w c is on_old on_post. (h.points v pt).0 w c is on_old (λ y m. on_post y (to_source y m.point) ((span.points y (to_source y m.point)).0 m.spanned))),
        (λ all. (h.points v pt).1 (λ c is on_old on_gs. all c is on_old (λ y at step. on_gs y (member y at step)))),
      );
      kept = k;
    }

    pub found_by_generators : (found : Option Polyhedron) → IsGrownBy old gs found → IsFound (IsHullWithSuccessors source relation old) old found
    found_by_generators None h = found_same source relation old o.kept fit (λ y pt step. h y (member y pt step))
    found_by_generators (Some hull) h = let j = joined_of_spanned hull h.is_hull h.kept in record { is_joined = j; enlarged = enlarged old.cons.dim old hull o (joined_above old.cons.dim source relation old s o hull j) h.differs }

-- by the transition at a place
module _ (s : TransitionSystem) (k : ℕ) (t : Transition) (sets : List Polyhedron) (source old : Polyhedron) (at : slice_get s.transitions k ≡ Some t) (has_source : slice_get sets t.source ≡ Some source) (has_old : slice_get sets t.target ≡ Some old) where
  joined_by : (joined : Polyhedron) → IsHullWithSuccessors source t.relation old joined → JoinsBy (slice_get s.transitions k) sets joined
  joined_by joined j = subst (λ (o : Option Transition). JoinsBy o sets joined) (sym at) (record { source = source; old = old; has_source = has_source; has_old = has_old; is_joined = j })

  found_old : (o : Option Polyhedron) → IsFound (IsHullWithSuccessors source t.relation old) old o → IsFound (JoinsBy (slice_get s.transitions k) sets) old o
  found_old None h = record { joined = h.joined; is_joined = joined_by h.joined h.is_joined; same = h.same }
  found_old (Some joined) h = record { is_joined = joined_by joined h.is_joined; enlarged = h.enlarged }

  pub found_by : (o : Option Polyhedron) → IsFound (IsHullWithSuccessors source t.relation old) old o → (other : Polyhedron) → slice_get sets (target_of (slice_get s.transitions k)) ≡ Some other → IsFound (JoinsBy (slice_get s.transitions k) sets) other o
  found_by o h other has_other = subst (λ (p : Polyhedron). IsFound (JoinsBy (slice_get s.transitions k) sets) p o) (same_at sets t.target old other has_old (ap (λ (x : Option Transition). slice_get sets (target_of x)) (sym at) ∙ has_other)) (found_old o h)

  pub leaves_by : (e : ConvErr) → IsOverflowIn (LeavesBothWays source t.relation old) e → IsOverflowIn (LeavesBy (slice_get s.transitions k) sets) e
  leaves_by (conversion.Overflow over) l = subst (λ (o : Option Transition). LeavesBy o sets over) (sym at) (record { source = source; old = old; has_source = has_source; has_old = has_old; leaves = l })
  leaves_by conversion.Memory l = tt

  pub counts_by : (before after : ℕ) (over : Option Overflow) → IsConversionBothWays source t.relation old before after over → CountsBy (slice_get s.transitions k) sets before after over
  counts_by before after over h = subst (λ (o : Option Transition). CountsBy o sets before after over) (sym at) (record { source = source; set = old; has_source = has_source; has_set = has_old; conversion = h })

-- an overflow of the hull, behind those of the post
hull_leaves : (source relation old post : Polyhedron) (over : Overflow) → old.topology ≡ Closed → IsPost source relation post → IsKept post → LeavesOn (list_width old.topology old.cons.dim) old.cons.dim (generators_of old.topology (both_generators old post)) over → LeavesOnHullWithPost source relation old over
hull_leaves source relation old post over closed is kept l = record {
  post = post;
  is_post = is;
  post_kept = kept;
  leaves = subst (λ (t : Topology). LeavesOn (list_width t old.cons.dim) old.cons.dim (generators_of t (both_generators old post)) over) closed l;
}

pub leaves_of : (source relation old post : Polyhedron) → old.topology ≡ Closed → IsPost source relation post → IsKept post → (e : ConvErr) → IsOverflowOn (list_width old.topology old.cons.dim) old.cons.dim (generators_of old.topology (both_generators old post)) e → IsOverflowIn (LeavesByPost source relation old) e
leaves_of source relation old post closed is kept (conversion.Overflow over) l = inr (hull_leaves source relation old post over closed is kept l)
leaves_of source relation old post closed is kept conversion.Memory l = tt

-- an overflow of growing by generators of the post, behind those of finding these
pub growth_leaves : (source relation old : Polyhedron) (gens : Generators) → SpanPost source relation gens → (e : ConvErr) → IsOverflowOn (added_gens old gens).width (added_gens old gens).column (added_gens old gens).rows e → IsOverflowIn (LeavesByGenerators source relation old) e
growth_leaves source relation old gens span (conversion.Overflow over) l = inr (record { gens = gens; span = span; leaves = l })
growth_leaves source relation old gens span conversion.Memory l = tt

-- an overflow by generators, and then one by the post
pub both_leave : (source relation old : Polyhedron) (first : Overflow) → LeavesByGenerators source relation old first → (e : ConvErr) → IsOverflowIn (LeavesByPost source relation old) e → IsOverflowIn (LeavesBothWays source relation old) e
both_leave source relation old first f (conversion.Overflow over) l = record { first = first; by_generators = f; by_post = l }
both_leave source relation old first f conversion.Memory l = tt
