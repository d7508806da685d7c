-- The turns of a hybrid system.
use Rattle.std.proofs.Common.{◌≡◌, ◌⊎◌, inl, inr, ℕ, ◌+◌, ◌-◌, ◌<◌, List, length, Option, Some, None, slice_get, nat_lt, cond, Bool, true, false, refl, sym, ap, ◌∙◌, subst, arith}
use Rattle.row_core.specs.declared.errors.Overflow.{Overflow}
use Rattle.row_core.specs.declared.errors.ConvErr.{ConvErr}
use Rattle.row_core.specs.declared.errors.ConvErr.TheVariants as conversion
use Rattle.poly_pair.specs.Polyhedra.{Polyhedron, IsIncluded}
use Rattle.trans_sys.specs.declared.transition.Transition.{Transition}
use Rattle.poly_pair.specs.ClosedPolyhedra.{IsClosedOver}
use Rattle.trans_sys.specs.Systems.{IsTransition}
use Rattle.widening.specs.RunLaws.{AreSetsOf, AreProper, ReadsFrom, IsAbove, IsFound}
use Rattle.row_core.specs.Refusals.{IsOverflowIn}
use Rattle.widening.proofs.Places.{same_at, has_at, all_at}
use Rattle.widening.proofs.OneRun.{joined_is_old}
use Rattle.hybrid.specs.Systems.{HybridAutomaton, IsKeptHybrid}
use Rattle.hybrid.specs.Steps.{IsTimePost, IsJumpPost, LeavesOnTime, LeavesOnJump}
use Rattle.hybrid.specs.Turns.{Turn, time, jump, IsHullWithPost, IsOfTime, IsOfJump, Joins, LeavesAfter, LeavesInTime, LeavesInJump, Leaves, CountsInJump, Counts, turn_at, place_of, turns_of}
use Rattle.hybrid.specs.Conversions.{IsJumpTurnConversion}
use Rattle.lattice_ops.specs.Sets.{meet_work}
use Rattle.poly_pair.proofs.WorkLemmas.{unconverted, cons_below}
use Rattle.hybrid.proofs.Closed.{jump_closed}
use Rattle.hybrid.proofs.Joined.{hull_above, hull_stays, found_as}

lt_true : (k n : ℕ) → k < n → nat_lt k n ≡ true
lt_true k n h = search (arith, h)

lt_false : (k n : ℕ) → ¬ (k < n) → nat_lt k n ≡ false
lt_false k n h = search (arith, h)

module _ (h : HybridAutomaton) where
  pub at_time : (k : ℕ) → k < length h.system.initial → turn_at h k ≡ time k
  at_time k b = ap (λ (x : Bool). cond x (time k) (jump (slice_get h.system.transitions (k - length h.system.initial)))) (lt_true k (length h.system.initial) b)

  pub at_jump : (k : ℕ) → ¬ (k < length h.system.initial) → turn_at h k ≡ jump (slice_get h.system.transitions (k - length h.system.initial))
  at_jump k b = ap (λ (x : Bool). cond x (time k) (jump (slice_get h.system.transitions (k - length h.system.initial)))) (lt_false k (length h.system.initial) b)

  pub set_at : (sets : List Polyhedron) (l : ℕ) (p : Polyhedron) → AreSetsOf h.system.dim (length h.system.initial) sets → slice_get sets l ≡ Some p → IsClosedOver h.system.dim p
  set_at sets l p are at = all_at (IsClosedOver h.system.dim) sets l p are.each at

  above_turn : (turn : Turn) (sets : List Polyhedron) (old joined : Polyhedron) → AreSetsOf h.system.dim (length h.system.initial) sets → slice_get sets (place_of turn) ≡ Some old → Joins h turn sets joined → IsAbove h.system.dim old joined
  above_turn (time l) sets old joined are at j =
      subst (λ (p : Polyhedron). IsAbove h.system.dim p joined) (same_at sets l j.old old j.has_old at)
      (hull_above (IsTimePost j.old j.inv j.flow) h.system.dim j.old (set_at sets l j.old are j.has_old) joined j.holds)
  above_turn (jump None) sets old joined are at j = absurd j
  above_turn (jump (Some t)) sets old joined are at j =
      subst (λ (p : Polyhedron). IsAbove h.system.dim p joined) (same_at sets t.target j.old old j.has_old at)
      (hull_above (IsJumpPost j.source j.inv t.relation j.target_inv) h.system.dim j.old (set_at sets t.target j.old are j.has_old) joined j.holds)

  module _ (kept : IsKeptHybrid h) where
    place_below : (k : ℕ) → k < length h.system.initial + length h.system.transitions → (k < length h.system.initial) ⊎ ¬ (k < length h.system.initial) → place_of (turn_at h k) < length h.system.initial
    place_below k b (inl l) = subst (λ (t : Turn). place_of t < length h.system.initial) (sym (at_time k l)) l
    place_below k b (inr g) =
        let t = has_at h.system.transitions (k - length h.system.initial) (omega (arith, b, g)) in
        subst (λ (x : Turn). place_of x < length h.system.initial) (sym (at_jump k g ∙ ap jump t.1))
        (all_at (IsTransition (length h.system.initial) h.system.dim) h.system.transitions (k - length h.system.initial) t.0 kept.system.transitions t.1).target

    below_or_not : (k n : ℕ) → (k < n) ⊎ ¬ (k < n)
    below_or_not k n = by (nat_lt k n) refl
      where
        by : (b : Bool) → nat_lt k n ≡ b → (k < n) ⊎ ¬ (k < n)
        by true e = inl (search (arith, e))
        by false e = inr (λ l. search (arith, e, l))

    -- ---- turns without a combination
    set_in : (sets : List Polyhedron) (l : ℕ) → length sets ≡ length h.system.initial → l < length h.system.initial → (p : Polyhedron) × (slice_get sets l ≡ Some p)
    set_in sets l many below = has_at sets l (omega (arith, many, below))

    free_at : (k : ℕ) (sets : List Polyhedron) (n : ℕ) → k < length h.system.initial + length h.system.transitions → AreSetsOf h.system.dim (length h.system.initial) sets → (k < length h.system.initial) ⊎ ¬ (k < length h.system.initial) → Counts h (turn_at h k) sets n n None
    free_at k sets n b are (inl l) =
        let old = set_in sets k are.as_many l in
        let inv = set_in h.invariants k kept.invariants.as_many l in
        let flow = set_in h.flows k kept.flows.as_many l in
        subst (λ (t : Turn). Counts h t sets n n None) (sym (at_time k l)) (record {
          old = old.0;
          inv = inv.0;
          flow = flow.0;
          has_old = old.1;
          has_inv = inv.1;
          has_flow = flow.1;
          holds = inl (inl (unconverted (meet_work old.0 inv.0) n (cons_below old.0 inv.0.cons)));
        })
    free_at k sets n b are (inr g) =
        let t = has_at h.system.transitions (k - length h.system.initial) (omega (arith, b, g)) in
        let is = all_at (IsTransition (length h.system.initial) h.system.dim) h.system.transitions (k - length h.system.initial) t.0 kept.system.transitions t.1 in
        let source = set_in sets t.0.source are.as_many is.source in
        let inv = set_in h.invariants t.0.source kept.invariants.as_many is.source in
        let old = set_in sets t.0.target are.as_many is.target in
        let target_inv = set_in h.invariants t.0.target kept.invariants.as_many is.target in
        subst (λ (x : Turn). Counts h x sets n n None) (sym (at_jump k g ∙ ap jump t.1)) (record {
          source = source.0;
          inv = inv.0;
          old = old.0;
          target_inv = target_inv.0;
          has_source = source.1;
          has_inv = inv.1;
          has_old = old.1;
          has_target_inv = target_inv.1;
          holds = inl (inl (unconverted (meet_work source.0 inv.0) n (cons_below source.0 inv.0.cons)));
        })

    pub proper : AreProper (turns_of h)
    proper = record {
      place = λ k b. place_below k b (below_or_not k (length h.system.initial));
      above = λ k sets old joined b are at j. above_turn (turn_at h k) sets old joined are at j;
      free = λ k sets n b are. free_at k sets n b are (below_or_not k (length h.system.initial));
    }

    -- ---- what a turn reads
    abbrev Reads : Turn → ℕ → Type 0
    Reads turn source = (sets others : List Polyhedron) (joined set : Polyhedron) → AreSetsOf h.system.dim (length h.system.initial) sets → AreSetsOf h.system.dim (length h.system.initial) others → slice_get others source ≡ slice_get sets source → Joins h turn sets joined → slice_get others (place_of turn) ≡ Some set → IsIncluded joined set → Joins h turn others set

    time_reads : (l : ℕ) → Reads (time l) l
    time_reads l sets others joined set are other same j at within =
        let old = set_at sets l j.old are j.has_old in
        let above = hull_above (IsTimePost j.old j.inv j.flow) h.system.dim j.old old joined j.holds in
        let is_old : j.old ≡ set = same_at others l j.old set (same ∙ j.has_old) at in
        let is_joined : joined ≡ j.old = joined_is_old h.system.dim j.old joined old above (subst (λ (p : Polyhedron). IsIncluded joined p) (sym is_old) within) in
        subst (λ (p : Polyhedron). IsOfTime h l others p) (is_joined ∙ is_old) (record { old = j.old; inv = j.inv; flow = j.flow; has_old = same ∙ j.has_old; has_inv = j.has_inv; has_flow = j.has_flow; holds = j.holds })

    jump_reads : (t : Transition) → Reads (jump (Some t)) t.source
    jump_reads t sets others joined set are other same j at within =
        let old = set_at sets t.target j.old are j.has_old in
        let post = jump_closed h.system.dim j.source j.inv t.relation j.target_inv j.holds.post (all_at (IsClosedOver h.system.dim) h.invariants t.target j.target_inv kept.invariants.each j.has_target_inv) j.holds.is_post in
        record {
          source = j.source;
          inv = j.inv;
          old = set;
          target_inv = j.target_inv;
          has_source = same ∙ j.has_source;
          has_inv = j.has_inv;
          has_old = at;
          has_target_inv = j.has_target_inv;
          holds = hull_stays (IsJumpPost j.source j.inv t.relation j.target_inv) h.system.dim j.old old joined set j.holds post (set_at others t.target set other at) within;
        }

    pub reads_time : (k : ℕ) → k < length h.system.initial → ReadsFrom (turns_of h) k k
    reads_time k below = subst (λ (t : Turn). Reads t k) (sym (at_time k below)) (time_reads k)

    pub reads_jump : (k i : ℕ) (t : Transition) → ¬ (k < length h.system.initial) → i ≡ k - length h.system.initial → slice_get h.system.transitions i ≡ Some t → ReadsFrom (turns_of h) k t.source
    reads_jump k i t behind same at = subst (λ (x : Turn). Reads x t.source) (sym (at_jump k behind ∙ ap (λ (n : ℕ). jump (slice_get h.system.transitions n)) (sym same) ∙ ap jump at)) (jump_reads t)

    pub initial_sets : AreSetsOf h.system.dim (length h.system.initial) h.system.initial
    initial_sets = record { as_many = refl; each = kept.system.initial }

  -- ---- what a turn finds
  module _ (sets : List Polyhedron) (l : ℕ) (old inv flow : Polyhedron) (has_old : slice_get sets l ≡ Some old) (has_inv : slice_get h.invariants l ≡ Some inv) (has_flow : slice_get h.flows l ≡ Some flow) where
    pub found_time : (o : Option Polyhedron) → IsFound (IsHullWithPost (IsTimePost old inv flow) old) old o → (other : Polyhedron) → slice_get sets l ≡ Some other → IsFound (IsOfTime h l sets) other o
    found_time o f other at =
        subst (λ (p : Polyhedron). IsFound (IsOfTime h l sets) p o) (same_at sets l old other has_old at)
        (found_as (IsHullWithPost (IsTimePost old inv flow) old) (IsOfTime h l sets) (λ joined j. record { old = old; inv = inv; flow = flow; has_old = has_old; has_inv = has_inv; has_flow = has_flow; holds = j }) old o f)

    pub leaves_time : (e : ConvErr) → IsOverflowIn (λ over. LeavesOnTime old inv flow over ⊎ LeavesAfter (IsTimePost old inv flow) old over) e → IsOverflowIn (LeavesInTime h l sets) e
    leaves_time (conversion.Overflow over) p = record { old = old; inv = inv; flow = flow; has_old = has_old; has_inv = has_inv; has_flow = has_flow; holds = p }
    leaves_time conversion.Memory p = tt

  module _ (sets : List Polyhedron) (t : Transition) (source inv old target_inv : Polyhedron) (has_source : slice_get sets t.source ≡ Some source) (has_inv : slice_get h.invariants t.source ≡ Some inv) (has_old : slice_get sets t.target ≡ Some old) (has_target_inv : slice_get h.invariants t.target ≡ Some target_inv) where
    of_jump : (joined : Polyhedron) → IsHullWithPost (IsJumpPost source inv t.relation target_inv) old joined → IsOfJump h t sets joined
    of_jump joined j = record { source = source; inv = inv; old = old; target_inv = target_inv; has_source = has_source; has_inv = has_inv; has_old = has_old; has_target_inv = has_target_inv; holds = j }

    pub found_jump : (i : ℕ) → slice_get h.system.transitions i ≡ Some t → (o : Option Polyhedron) → IsFound (IsHullWithPost (IsJumpPost source inv t.relation target_inv) old) old o → (u : Transition) (other : Polyhedron) → slice_get h.system.transitions i ≡ Some u → slice_get sets u.target ≡ Some other → IsFound (IsOfJump h u sets) other o
    found_jump i at o f u other has at_other =
        subst (λ (x : Transition). (p : Polyhedron) → slice_get sets x.target ≡ Some p → IsFound (IsOfJump h x sets) p o) (same_at h.system.transitions i t u at has)
        (λ p at_p. subst (λ (q : Polyhedron). IsFound (IsOfJump h t sets) q o) (same_at sets t.target old p has_old at_p) (found_as (IsHullWithPost (IsJumpPost source inv t.relation target_inv) old) (IsOfJump h t sets) of_jump old o f)) other at_other

    pub leaves_jump : (i : ℕ) → slice_get h.system.transitions i ≡ Some t → (e : ConvErr) → IsOverflowIn (λ over. LeavesOnJump source inv t.relation target_inv over ⊎ LeavesAfter (IsJumpPost source inv t.relation target_inv) old over) e → IsOverflowIn (λ over. (u : Transition) → slice_get h.system.transitions i ≡ Some u → LeavesInJump h u sets over) e
    leaves_jump i at (conversion.Overflow over) p = λ u has. subst (λ (x : Transition). LeavesInJump h x sets over) (same_at h.system.transitions i t u at has) (record { source = source; inv = inv; old = old; target_inv = target_inv; has_source = has_source; has_inv = has_inv; has_old = has_old; has_target_inv = has_target_inv; holds = p })
    leaves_jump i at conversion.Memory p = tt

    pub counts_jump : (i : ℕ) → slice_get h.system.transitions i ≡ Some t → (before after : ℕ) (over : Option Overflow) → IsJumpTurnConversion source inv t.relation old target_inv before after over → (u : Transition) → slice_get h.system.transitions i ≡ Some u → CountsInJump h u sets before after over
    counts_jump i at before after over p u has = subst (λ (x : Transition). CountsInJump h x sets before after over) (same_at h.system.transitions i t u at has) (record { source = source; inv = inv; old = old; target_inv = target_inv; has_source = has_source; has_inv = has_inv; has_old = has_old; has_target_inv = has_target_inv; holds = p })

  -- ---- the turn behind those of time
  module _ (k i : ℕ) (behind : ¬ (k < length h.system.initial)) (same : i ≡ k - length h.system.initial) (below : i < length h.system.transitions) (sets : List Polyhedron) where
    is_jump : (t : Transition) × (slice_get h.system.transitions i ≡ Some t) × (turn_at h k ≡ jump (Some t))
    is_jump = let t = has_at h.system.transitions i below in (t.0, t.1, at_jump k behind ∙ ap (λ (n : ℕ). jump (slice_get h.system.transitions n)) (sym same) ∙ ap jump t.1)

    pub found_behind : (o : Option Polyhedron) → ((t : Transition) (old : Polyhedron) → slice_get h.system.transitions i ≡ Some t → slice_get sets t.target ≡ Some old → IsFound (IsOfJump h t sets) old o) → (old : Polyhedron) → slice_get sets (place_of (turn_at h k)) ≡ Some old → IsFound (Joins h (turn_at h k) sets) old o
    found_behind o f = subst (λ (x : Turn). (old : Polyhedron) → slice_get sets (place_of x) ≡ Some old → IsFound (Joins h x sets) old o) (sym is_jump.2) (λ old at. f is_jump.0 old is_jump.1 at)

    pub leaves_behind : (e : ConvErr) → IsOverflowIn (λ over. (t : Transition) → slice_get h.system.transitions i ≡ Some t → LeavesInJump h t sets over) e → IsOverflowIn (Leaves h (turn_at h k) sets) e
    leaves_behind (conversion.Overflow over) f = subst (λ (x : Turn). Leaves h x sets over) (sym is_jump.2) (f is_jump.0 is_jump.1)
    leaves_behind conversion.Memory f = tt

    pub counts_behind : (before after : ℕ) (over : Option Overflow) → ((t : Transition) → slice_get h.system.transitions i ≡ Some t → CountsInJump h t sets before after over) → Counts h (turn_at h k) sets before after over
    counts_behind before after over f = subst (λ (x : Turn). Counts h x sets before after over) (sym is_jump.2) (f is_jump.0 is_jump.1)
