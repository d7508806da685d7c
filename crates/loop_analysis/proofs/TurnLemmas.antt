-- The loop as the one turn of a run.
use Rattle.std.proofs.Common.{◌≡◌, inl, ℕ, List, [], ◌∷◌, length, Option, Some, None, slice_get, refl, sym, ap, ◌∙◌, subst, arith}
use Rattle.row_core.specs.Refusals.{IsOverflowIn}
use Rattle.row_core.specs.declared.errors.ConvErr.{ConvErr}
use Rattle.row_core.specs.declared.errors.ConvErr.TheVariants as conversion
use Rattle.cons_sys.specs.Constraints.{In}
use Rattle.stored_systems.specs.WorkLists.{LeavesOn}
use Rattle.poly_pair.specs.declared.topology.Topology.{Topology}
use Rattle.poly_pair.specs.declared.topology.Topology.TheVariants.{Closed}
use Rattle.poly_pair.specs.TopologyLists.{list_width, generators_of}
use Rattle.poly_pair.specs.Polyhedra.{Polyhedron, IsKept, IsIncluded}
use Rattle.poly_pair.specs.ClosedPolyhedra.{IsClosedOver}
use Rattle.poly_pair.specs.Refusals.{IsOverflowOn}
use Rattle.lattice_ops.specs.Sets.{both_generators}
use Rattle.lattice_ops.specs.Growing.{IsGrown}
use Rattle.std.proofs.lemmas.List.Elements.{All-nil, All-cons}
use Rattle.widening.specs.Runs.{HasLimit}
use Rattle.widening.specs.RunOverflows.{LeavesInRun}
use Rattle.widening.specs.RunLaws.{AreSetsOf, AreProper, ReadsFrom, IsAbove, IsFound, AreTaken, IncludeEach}
use Rattle.poly_pair.specs.Work.{added_cons}
use Rattle.poly_pair.proofs.WorkLemmas.{unconverted, cons_below}
use Rattle.widening.proofs.Places.{same_at, has_at, all_at, some_same}
use Rattle.widening.proofs.OneRun.{joined_is_old}
use Rattle.widening.proofs.TurnLemmas.{enlarged}
use Rattle.loop_analysis.specs.Loops.{WhileLoop}
use Rattle.loop_analysis.specs.Rounds.{IsRound, IsJoined, LeavesOnHull, LeavesInJoin, JoinsFirst, LeavesAtFirst, turns_of}
use Rattle.loop_analysis.specs.Analysis.{IsStable, IsInvariant, LeavesInHead}
use Rattle.loop_analysis.specs.declared.analysis.TheConstants.{DELAY}
use Rattle.loop_analysis.proofs.AnalysisLemmas.{run_leaves}
use Rattle.loop_analysis.proofs.RunLemmas.{hull_first}

joined_above : (l : WhileLoop) (set joined : Polyhedron) → IsClosedOver l.dim set → IsJoined l set joined → IsAbove l.dim set joined
joined_above l set joined c j = record {
  closed = record { kept = j.joined_kept; over = record { same_topology = j.is_hull.over.same_topology ∙ c.over.same_topology; same_dim = j.is_hull.over.same_dim ∙ c.over.same_dim } };
  includes = hull_first set j.round joined j.is_hull;
}

pub proper : (l : WhileLoop) → AreProper (turns_of l)
proper l = record {
  place = λ k h. omega arith;
  above = λ k sets old joined h are at j.
      let same : j.set ≡ old = same_at sets 0 j.set old j.first at in
      let set : IsClosedOver l.dim old = all_at (IsClosedOver l.dim) sets 0 old are.each at in
      joined_above l old joined set (subst (λ (p : Polyhedron). IsJoined l p joined) same j.is_joined);
  free = λ k sets n h are.
      let set = has_at sets 0 (omega (arith, are.as_many)) in
      record { set = set.0; first = set.1; conversion = inl (inl (unconverted (added_cons set.0 l.guard) n (cons_below set.0 l.guard))) };
}

-- the turn reads the set at the head alone
pub reads_head : (l : WhileLoop) (k : ℕ) → ReadsFrom (turns_of l) k 0
reads_head l k sets others joined set are other same j at within =
    let old : IsClosedOver l.dim j.set = all_at (IsClosedOver l.dim) sets 0 j.set are.each j.first in
    let is_old : j.set ≡ set = same_at others 0 j.set set (same ∙ j.first) at in
    let is_joined : joined ≡ j.set = joined_is_old l.dim j.set joined old (joined_above l j.set joined old j.is_joined) (subst (λ (p : Polyhedron). IsIncluded joined p) (sym is_old) within) in
    subst (λ (p : Polyhedron). JoinsFirst l others p) (is_joined ∙ is_old) (record { set = j.set; first = same ∙ j.first; is_joined = j.is_joined })

pub found_of : (l : WhileLoop) (set round : Polyhedron) → IsClosedOver l.dim set → IsRound l set round → IsKept round → (o : Option Polyhedron) → IsGrown set round o → IsFound (IsJoined l set) set o
found_of l set round c r k None h = record { joined = h.hull; is_joined = record { round = round; is_round = r; round_kept = k; is_hull = h.is_hull; joined_kept = h.kept }; same = h.same }
found_of l set round c r k (Some hull) h = record { is_joined = j; enlarged = enlarged l.dim set hull c (joined_above l set hull c j) h.differs }
  where
    j : IsJoined l set hull
    j = record { round = round; is_round = r; round_kept = k; is_hull = h.is_hull; joined_kept = h.kept }

module _ (l : WhileLoop) (sets : List Polyhedron) (set : Polyhedron) (first : slice_get sets 0 ≡ Some set) where
  found_here : (o : Option Polyhedron) → IsFound (IsJoined l set) set o → IsFound (JoinsFirst l sets) set o
  found_here None h = record { joined = h.joined; is_joined = record { set = set; first = first; is_joined = h.is_joined }; same = h.same }
  found_here (Some joined) h = record { is_joined = record { set = set; first = first; is_joined = h.is_joined }; enlarged = h.enlarged }

  pub found_first : (o : Option Polyhedron) → IsFound (IsJoined l set) set o → (old : Polyhedron) → slice_get sets 0 ≡ Some old → IsFound (JoinsFirst l sets) old o
  found_first o h old at = subst (λ (p : Polyhedron). IsFound (JoinsFirst l sets) p o) (same_at sets 0 set old first at) (found_here o h)

  pub leaves_first : (e : ConvErr) → IsOverflowIn (LeavesInJoin l set) e → IsOverflowIn (LeavesAtFirst l sets) e
  leaves_first (conversion.Overflow over) h = record { set = set; first = first; leaves = h }
  leaves_first conversion.Memory h = tt

-- an overflow of the hull of a set and a round
pub hull_leaves : (l : WhileLoop) (set old round : Polyhedron) → old.topology ≡ Closed → IsRound l set round → IsKept round → (e : ConvErr) → IsOverflowOn (list_width old.topology old.cons.dim) old.cons.dim (generators_of old.topology (both_generators old round)) e → IsOverflowIn (LeavesOnHull l set old) e
hull_leaves l set old round closed r k (conversion.Overflow over) h = record {
  round = round;
  is_round = r;
  round_kept = k;
  leaves = subst (λ (t : Topology). LeavesOn (list_width t old.cons.dim) old.cons.dim (generators_of t (both_generators old round)) over) closed h;
}
hull_leaves l set old round closed r k conversion.Memory h = tt

-- ---- the limit
pub only : (sets : List Polyhedron) (set : Polyhedron) → length sets ≡ 1 → slice_get sets 0 ≡ Some set → sets ≡ set ∷ []
only [] set n at = absurd (omega (arith, n))
only (p ∷ []) set n at = ap (λ (q : Polyhedron). q ∷ []) (some_same p set at)
only (p ∷ q ∷ sets) set n at = absurd (omega (arith, n))

pub limit_stable : (l : WhileLoop) (start set : Polyhedron) → IncludeEach (start ∷ []) (set ∷ []) → AreTaken (turns_of l) (set ∷ []) → IsStable l start set
limit_stable l start set includes taken =
    let t = taken 0 (omega arith) in
    let same : t.set ≡ set = sym (some_same set t.set t.has_set) in
    let from : t.is_joined.set ≡ set = sym (some_same set t.is_joined.set t.is_joined.first) in
    record {
      includes = includes 0 start set refl refl;
      joined = t.joined;
      is_joined = subst (λ (p : Polyhedron). IsJoined l p t.joined) from t.is_joined.is_joined;
      within = λ v pt inside. subst (λ (p : Polyhedron). In p.cons v) same (t.within v pt inside);
    }

pub sets_of_one : (d : ℕ) (p : Polyhedron) → IsClosedOver d p → AreSetsOf d 1 (p ∷ [])
sets_of_one d p c = record { as_many = refl; each = All-cons (IsClosedOver d) p [] c (All-nil (IsClosedOver d)) }

module _ (l : WhileLoop) (start set : Polyhedron) (initial sets : List Polyhedron) (from : initial ≡ start ∷ []) (are : AreSetsOf l.dim 1 sets) (at : slice_get sets 0 ≡ Some set) where
  alone : sets ≡ set ∷ []
  alone = only sets set are.as_many at

  pub invariant_of : HasLimit (turns_of l) initial DELAY sets → IsInvariant l start set
  invariant_of h = subst (λ (xs : List Polyhedron). HasLimit (turns_of l) xs DELAY (set ∷ [])) from (subst (HasLimit (turns_of l) initial DELAY) alone h)

  pub stable_of : IncludeEach initial sets → AreTaken (turns_of l) sets → IsStable l start set
  stable_of includes taken = limit_stable l start set (subst (λ (xs : List Polyhedron). IncludeEach xs (set ∷ [])) from (subst (IncludeEach initial) alone includes)) (subst (AreTaken (turns_of l)) alone taken)

  pub closed_of : IsClosedOver l.dim set
  closed_of = all_at (IsClosedOver l.dim) sets 0 set are.each at

pub run_leaves_from : (l : WhileLoop) (start : Polyhedron) (initial : List Polyhedron) → initial ≡ start ∷ [] → (e : ConvErr) → IsOverflowIn (LeavesInRun (turns_of l) initial DELAY) e → IsOverflowIn (LeavesInHead l start) e
run_leaves_from l start initial from e h = run_leaves l start e (subst (λ (xs : List Polyhedron). IsOverflowIn (LeavesInRun (turns_of l) xs DELAY) e) from h)
