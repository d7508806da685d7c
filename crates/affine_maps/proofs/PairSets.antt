-- The successors in pairs, by the constraints of these and by columns.
use Rattle.std.specs.List.{range_with_len}
use Rattle.std.proofs.Common.{◌≡◌, ◌⊎◌, inl, inr, ℕ, zero, suc, ◌+◌, ◌*◌, ◌<◌, List, [], ◌∷◌, ◌++◌, length, drop, ℤ, refl, sym, ap, ◌∙◌, subst, arith, All}
use Rattle.std.specs.Prelude.{Option, Some, None, Result, Ok, Err, IfErr}
use Rattle.std.proofs.lemmas.List.FromFn.{get_or-range_with_len, length-range_with_len}
use Rattle.std.proofs.lemmas.List.Elements.{All-append, All-from_get_or}
use Rattle.row_core.specs.Points.{IsPoint, IsSamePoint}
use Rattle.row_core.specs.declared.errors.ConvErr.{ConvErr}
use Rattle.row_core.specs.declared.errors.ConvErr.TheVariants as conversion
use Rattle.cons_sys.specs.Constraints.{Constraint, Constraints, In, Satisfies}
use Rattle.gens_sys.specs.Generators.{Generators}
use Rattle.stored_systems.specs.PointSets.{IsWithin, AreClosed, IsClosedKind}
use Rattle.stored_systems.proofs.ListLemmas.{All-left, All-right}
use Rattle.cone_laws.specs.Leaves.{Leaves}
use Rattle.poly_pair.specs.declared.topology.Topology.{Topology}
use Rattle.poly_pair.specs.declared.topology.Topology.TheVariants.{Closed}
use Rattle.poly_pair.specs.TopologyLists.{AreConstraintsFor, list_width, constraints_of}
use Rattle.poly_pair.specs.Work.{begun_cons}
use Rattle.poly_pair.specs.Polyhedra.{Polyhedron, IsKept}
use Rattle.poly_pair.proofs.StoredLemmas.{kept_constraints}
use Rattle.mapped_systems.specs.Maps.{with_zeros, without, picked}
use Rattle.affine_maps.specs.Posts.{IsStepTo, IsPost, SpanPostIfAny, HasPairOf, AreSuccessors}
use Rattle.row_core.specs.Refusals.{IsOverflowIn}
use Rattle.mapped_systems.specs.Sources.{HasSource}
use Rattle.affine_maps.specs.Shadows.{IsShadow, IsShadowSystem, SpanShadowIfAny, LeavesOnSystem}
use Rattle.affine_maps.proofs.ShadowSets.{shadow_leaves}
use Rattle.mapped_systems.proofs.KeptColumns.{remaining_back, kept_last}
use Rattle.mapped_systems.proofs.PulledSets.{MeetsAt, pulled_holds, holds_pulled}
use Rattle.affine_maps.proofs.MappedPolyhedra.{pulled_kinds}
use Rattle.mapped_systems.proofs.PulledSets.{padded_meets}
use Rattle.affine_maps.specs.PostLists.{IsPairSystem, IsStepSystem, later, LeavesOnSteps, AreOfStepsIfAny, ConvertsSteps, ConvertsFirstSteps}

-- ---- pairs of a state and its successor
module _ (p relation pairs : Constraints) (twice : relation.dim ≡ 2 * p.dim) (s : IsPairSystem p relation pairs) where
  meets : (v : List ℤ) → All (MeetsAt (with_zeros p.dim p.dim) (without p.dim relation.dim) v) p.list
  meets v = subst (λ (n : ℕ). All (MeetsAt (with_zeros p.dim p.dim) (without p.dim n) v) p.list) (omega (arith, twice)) (padded_meets p.dim p.dim p.list v)

  pub pairs_hold : (v : List ℤ) → In pairs v → In p (without p.dim relation.dim v) × In relation v
  pairs_hold v h =
      let all : All (Satisfies v) (s.front ++ relation.list) = subst (All (Satisfies v)) s.joined h in (
        pulled_holds (with_zeros p.dim p.dim) (without p.dim relation.dim) v p.list s.front s.pulled (meets v) (All-left (Satisfies v) s.front relation.list all),
        All-right (Satisfies v) s.front relation.list all,
      )

  pub hold_pairs : (v : List ℤ) → In p (without p.dim relation.dim v) → In relation v → In pairs v
  hold_pairs v h g = subst (All (Satisfies v)) (sym s.joined) (All-append (Satisfies v) s.front relation.list (holds_pulled (with_zeros p.dim p.dim) (without p.dim relation.dim) v p.list s.front s.pulled (meets v) h) g)

  pub step_of_pair : (y : List ℤ) → HasPairOf p.dim pairs y → IsStepTo p relation y
  step_of_pair y h =
      let both = pairs_hold h.pair h.within.holds in
      record { pair = h.pair; related = record { point = subst (λ (n : ℕ). IsPoint n h.pair) s.same_dim h.within.point; holds = both.1 }; source = both.0; target = h.target }

  pub pair_of_step : (y : List ℤ) → IsStepTo p relation y → HasPairOf p.dim pairs y
  pair_of_step y h = record { pair = h.pair; within = record { point = subst (λ (n : ℕ). IsPoint n h.pair) (sym s.same_dim) h.related.point; holds = hold_pairs h.pair h.source h.related.holds }; target = h.target }

pub post_of_successors : (p relation : Polyhedron) (pairs : Constraints) → relation.cons.dim ≡ 2 * p.cons.dim → IsPairSystem p.cons relation.cons pairs → (r : Polyhedron) → AreSuccessors p.cons.dim pairs r → IsPost p relation r
post_of_successors p relation pairs twice s r are = record {
  over = are.over;
  points = λ y pt. (
    (λ h. step_of_pair p.cons relation.cons pairs twice s y ((are.points y pt).0 h)),
    (λ h. (are.points y pt).1 (pair_of_step p.cons relation.cons pairs twice s y h)),
  );
}

pub lent_steps : (p relation lent other steps : Constraints) → lent ≡ p → other ≡ relation → IsStepSystem lent other steps → IsStepSystem p relation steps
lent_steps p relation lent other steps e f s = subst (λ (cs : Constraints). IsStepSystem cs relation steps) e (subst (λ (cs : Constraints). IsStepSystem lent cs steps) f s)

abbrev IsClosed : Constraint → Type 0
IsClosed c = IsClosedKind c.1

pub pairs_closed : (p relation : Polyhedron) (pairs : Constraints) → p.topology ≡ Closed → relation.topology ≡ Closed → IsKept p → IsKept relation → IsPairSystem p.cons relation.cons pairs → AreClosed pairs
pairs_closed p relation pairs e f k l s = subst (All IsClosed) (sym s.joined) (All-append IsClosed s.front relation.cons.list front back)
  where
    front : All IsClosed s.front
    front = pulled_kinds (with_zeros p.cons.dim p.cons.dim) Closed relation.cons.dim p (record { dim = relation.cons.dim; list = s.front }) (sym e) k (record { same_dim = refl; pulled = s.pulled })

    back : All IsClosed relation.cons.list
    back = subst (λ t. AreConstraintsFor t relation.cons) f (kept_constraints relation l)

-- ---- the constraints of the relation first
module _ (p relation steps : Constraints) (s : IsStepSystem p relation steps) where
  -- those of the set first
  abbrev pub turned : Constraints
  turned = record { dim = relation.dim; list = s.front ++ relation.list }

  pub turned_pairs : IsPairSystem p relation turned
  turned_pairs = record { same_dim = refl; front = s.front; pulled = s.pulled; joined = refl }

  turned_within : (v : List ℤ) → IsWithin steps v → IsWithin turned v
  turned_within v w =
      let all : All (Satisfies v) (relation.list ++ s.front) = subst (All (Satisfies v)) s.joined w.holds in
      record {
        point = subst (λ (n : ℕ). IsPoint n v) s.same_dim w.point;
        holds = All-append (Satisfies v) s.front relation.list (All-right (Satisfies v) relation.list s.front all) (All-left (Satisfies v) relation.list s.front all);
      }

  within_turned : (v : List ℤ) → IsWithin turned v → IsWithin steps v
  within_turned v w = record {
    point = subst (λ (n : ℕ). IsPoint n v) (sym s.same_dim) w.point;
    holds = subst (All (Satisfies v)) (sym s.joined) (All-append (Satisfies v) relation.list s.front (All-right (Satisfies v) s.front relation.list w.holds) (All-left (Satisfies v) s.front relation.list w.holds));
  }

  pub turned_pair : (dim : ℕ) (y : List ℤ) → HasPairOf dim steps y → HasPairOf dim turned y
  turned_pair dim y h = record { pair = h.pair; within = turned_within h.pair h.within; target = h.target }

  pub pair_turned : (dim : ℕ) (y : List ℤ) → HasPairOf dim turned y → HasPairOf dim steps y
  pair_turned dim y h = record { pair = h.pair; within = within_turned h.pair h.within; target = h.target }

  pub turned_successors : (dim : ℕ) (r : Polyhedron) → AreSuccessors dim steps r → AreSuccessors dim turned r
  turned_successors dim r are = record { over = are.over; points = λ y pt. ((λ h. turned_pair dim y ((are.points y pt).0 h)), (λ h. (are.points y pt).1 (pair_turned dim y h))) }

  pub steps_closed : AreClosed turned → AreClosed steps
  steps_closed h = subst (All IsClosed) (sym s.joined) (All-append IsClosed relation.list s.front (All-right IsClosed s.front relation.list h) (All-left IsClosed s.front relation.list h))

pub post_of_steps : (p relation : Polyhedron) (steps : Constraints) → relation.cons.dim ≡ 2 * p.cons.dim → IsStepSystem p.cons relation.cons steps → (r : Polyhedron) → AreSuccessors p.cons.dim steps r → IsPost p relation r
post_of_steps p relation steps twice s r are = post_of_successors p relation (turned p.cons relation.cons steps s) twice (turned_pairs p.cons relation.cons steps s) r (turned_successors p.cons relation.cons steps s p.cons.dim r are)

-- ---- the later columns
range_suc : (a n m : ℕ) → m ≡ a + n → range_with_len a (suc n) ≡ range_with_len a n ++ m ∷ []
range_suc a zero m e = ap (λ (x : ℕ). x ∷ []) (omega (arith, e))
range_suc a (suc n) m e = ap (λ (xs : List ℕ). a ∷ xs) (range_suc (a + 1) n m (omega (arith, e)))

by_suc : (n : ℕ) → n + 1 ≡ suc n
by_suc n = omega arith

pub range_more : (a n : ℕ) → range_with_len a (n + 1) ≡ range_with_len a n ++ (a + n) ∷ []
range_more a n = ap (range_with_len a) (by_suc n) ∙ range_suc a n (a + n) refl

pub later_many : (n : ℕ) → length (later n) ≡ n
later_many n = length-range_with_len n n

pub later_below : (n d : ℕ) → d ≡ 2 * n → All (λ (j : ℕ). j < d) (later n)
later_below n d twice = All-from_get_or (λ (j : ℕ). j < d) (later n) 0 (λ i h. let e = get_or-range_with_len n n i 0 (omega (arith, h, later_many n)) in omega (arith, e, h, twice, later_many n))

-- they are what stands behind the first
later_is : (n d : ℕ) (v : List ℤ) → d ≡ 2 * n → length v ≡ d + 1 → picked (later n) d v ≡ drop n v
later_is n d v twice wide =
    let e : n + n ≡ d = omega (arith, twice) in
    subst (λ (k : ℕ). picked (later n) k v ≡ drop n v) e
    (ap (λ (columns : List ℕ). picked columns (n + n) v) (sym (kept_last n n)) ∙ remaining_back n n v (omega (arith, wide, e)))

pair_of_source : (n : ℕ) (cs : Constraints) → cs.dim ≡ 2 * n → (y : List ℤ) → HasSource (picked (later n) cs.dim) cs y → HasPairOf n cs y
pair_of_source n cs twice y h = record { pair = h.source; within = h.within; target = subst (IsSamePoint y) (later_is n cs.dim h.source twice h.within.point.wide) h.same }

source_of_pair : (n : ℕ) (cs : Constraints) → cs.dim ≡ 2 * n → (y : List ℤ) → HasPairOf n cs y → HasSource (picked (later n) cs.dim) cs y
source_of_pair n cs twice y h = record { source = h.pair; within = h.within; same = subst (IsSamePoint y) (sym (later_is n cs.dim h.pair twice h.within.point.wide)) h.target }

pub successors_of_shadow : (n : ℕ) (cs : Constraints) → cs.dim ≡ 2 * n → (r : Polyhedron) → IsShadow Closed (picked (later n) cs.dim) (length (later n)) cs r → AreSuccessors n cs r
successors_of_shadow n cs twice r s = record {
  over = record { same_topology = s.over.same_topology; same_dim = s.over.same_dim ∙ later_many n };
  points = λ y pt. let points = s.points y (subst (λ (d : ℕ). IsPoint d y) (sym (later_many n)) pt) in (
    (λ h. pair_of_source n cs twice y (points.0 h)),
    (λ h. points.1 (source_of_pair n cs twice y h)),
  );
}

-- ---- generators of the successors
module _ (p relation : Polyhedron) (steps : Constraints) (twice : relation.cons.dim ≡ 2 * p.cons.dim) (s : IsStepSystem p.cons relation.cons steps) where
  both : steps.dim ≡ 2 * p.cons.dim
  both = s.same_dim ∙ twice

  step_of_source : (y : List ℤ) → HasSource (picked (later p.cons.dim) steps.dim) steps y → IsStepTo p.cons relation.cons y
  step_of_source y h = step_of_pair p.cons relation.cons (turned p.cons relation.cons steps s) twice (turned_pairs p.cons relation.cons steps s) y (turned_pair p.cons relation.cons steps s p.cons.dim y (pair_of_source p.cons.dim steps both y h))

  pair_of_step_to : (y : List ℤ) → IsStepTo p.cons relation.cons y → HasPairOf p.cons.dim steps y
  pair_of_step_to y h = pair_turned p.cons relation.cons steps s p.cons.dim y (pair_of_step p.cons relation.cons (turned p.cons relation.cons steps s) twice (turned_pairs p.cons relation.cons steps s) y h)

  pub spans_post : (found : Option Generators) → SpanShadowIfAny Closed (picked (later p.cons.dim) steps.dim) (length (later p.cons.dim)) steps found → SpanPostIfAny p relation found
  spans_post None none = λ y h. let pair = pair_of_step_to y h in none pair.pair pair.within
  spans_post (Some gs) span = record {
    same_dim = span.is_system.mapped.same_dim ∙ later_many p.cons.dim;
    kinds = span.kinds;
    point = span.point;
    points = λ y pt. let points = span.points y (subst (λ (d : ℕ). IsPoint d y) (sym (later_many p.cons.dim)) pt) in (
      (λ h. step_of_source y (points.0 h)),
      (λ h. points.1 (source_of_pair p.cons.dim steps both y (pair_of_step_to y h))),
    );
  }

  pub of_steps : (found : Option Generators) → SpanShadowIfAny Closed (picked (later p.cons.dim) steps.dim) (length (later p.cons.dim)) steps found → AreOfStepsIfAny p relation found
  of_steps None none = tt
  of_steps (Some gs) span = record { steps = steps; are_steps = s; is_system = subst (λ (n : ℕ). IsShadowSystem Closed (picked (later p.cons.dim) steps.dim) n steps gs) (later_many p.cons.dim) span.is_system }

-- ---- refusals
pub steps_clause : (p relation : Polyhedron) (old new : ℕ) (r : Result Polyhedron ConvErr) → relation.topology ≡ Closed → ConvertsSteps p relation old new r → IfErr r (IsOverflowIn (LeavesOnSteps p relation))
steps_clause p relation old new (Ok made) closed h = tt
steps_clause p relation old new (Err (conversion.Overflow over)) closed (inl h) = absurd (let never : Some over ≡ None = h.1 in cc)
steps_clause p relation old new (Err (conversion.Overflow over)) closed (inr h) = record {
  steps = h.steps;
  are_steps = h.are_steps;
  leaves =
      subst (λ (t : Topology). Leaves (list_width t h.steps.dim) (constraints_of t h.steps) over ⊎ LeavesOnSystem Closed (picked (later p.cons.dim) h.steps.dim) p.cons.dim h.steps over) closed
      (shadow_leaves (begun_cons relation h.steps) Closed (picked (later p.cons.dim) h.steps.dim) p.cons.dim h.steps old new over h.conversion);
}
steps_clause p relation old new (Err conversion.Memory) closed h = tt

pub first_steps_clause : (p relation : Polyhedron) (old new : ℕ) (r : Result (Option Generators) ConvErr) → relation.topology ≡ Closed → ConvertsFirstSteps p relation old new r → IfErr r (IsOverflowIn (LeavesOnSteps p relation))
first_steps_clause p relation old new (Ok made) closed h = tt
first_steps_clause p relation old new (Err (conversion.Overflow over)) closed (inl h) = absurd (let never : Some over ≡ None = h.1 in cc)
first_steps_clause p relation old new (Err (conversion.Overflow over)) closed (inr h) = record {
  steps = h.steps;
  are_steps = h.are_steps;
  leaves = inl (subst (λ (t : Topology). Leaves (list_width t h.steps.dim) (constraints_of t h.steps) over) closed h.conversion.overflow);
}
first_steps_clause p relation old new (Err conversion.Memory) closed h = tt
