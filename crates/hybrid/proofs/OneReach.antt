-- Posts, turns and the answer are determined.
use Rattle.std.proofs.Common.{◌≡◌, ◌⊎◌, inl, inr, ℕ, suc, List, [], ◌∷◌, length, Some, None, slice_get, refl, sym, ap, ◌∙◌, subst, arith}
use Rattle.std.proofs.lemmas.Option.{slice_get_within}
use Rattle.row_core.specs.Points.{IsPoint}
use Rattle.poly_pair.specs.Polyhedra.{Polyhedron, IsKept, HasNoPoint}
use Rattle.poly_pair.specs.ClosedPolyhedra.{IsClosedOver}
use Rattle.elapse.specs.Elapses.{IsElapse}
use Rattle.lattice_ops.specs.Sets.{IsHull}
use Rattle.widening.specs.WideningLaws.{OneWidening}
use Rattle.widening.specs.Runs.{HasLimit}
use Rattle.widening.specs.RunLaws.{AreSetsOf, JoinOne}
use Rattle.widening.proofs.Places.{same_at, has_at, all_at}
use Rattle.widening.proofs.RoundLemmas.{start_table, rounds_table}
use Rattle.widening.proofs.OneRun.{one_set, one_limit}
use Rattle.hybrid.specs.Systems.{HybridAutomaton, IsKeptHybrid}
use Rattle.affine_maps.specs.Posts.{IsPost}
use Rattle.hybrid.specs.Steps.{IsPartIn, IsFlown, IsTimePost, IsJumpPost}
use Rattle.hybrid.specs.Turns.{Turn, time, jump, IsHullWithPost, Joins, turn_at, turns_of}
use Rattle.hybrid.specs.Reaches.{AreParts, HasOneReach}
use Rattle.hybrid.proofs.Closed.{part_closed, post_closed}
use Rattle.hybrid.proofs.Joined.{hull_above}
use Rattle.hybrid.proofs.HybridTurns.{set_at, proper, initial_sets}
use Rattle.hybrid.proofs.ReachLaws.{one_part}

-- ---- posts
one_elapse : (d : ℕ) (start flow one other : Polyhedron) → IsClosedOver d start → IsElapse start flow one → IsKept one → IsElapse start flow other → IsKept other → one ≡ other
one_elapse d start flow one other c p k q l =
    one_set d one other (closed one p k) (closed other q l)
    (λ v pt. let at = subst (λ (n : ℕ). IsPoint n v) p.over.same_dim pt in ((λ i. (q.points v at).1 ((p.points v at).0 i)), (λ i. (p.points v at).1 ((q.points v at).0 i))))
  where
    closed : (e : Polyhedron) → IsElapse start flow e → IsKept e → IsClosedOver d e
    closed e is kept = record { kept = kept; over = record { same_topology = is.over.same_topology ∙ c.over.same_topology; same_dim = is.over.same_dim ∙ c.over.same_dim } }

one_post : (d : ℕ) (start relation one other : Polyhedron) → IsClosedOver d start → IsPost start relation one → IsKept one → IsPost start relation other → IsKept other → one ≡ other
one_post d start relation one other c p k q l =
    one_set d one other (post_closed d start relation one c k p) (post_closed d start relation other c l q)
    (λ v pt. let at = subst (λ (n : ℕ). IsPoint n v) p.over.same_dim pt in ((λ i. (q.points v at).1 ((p.points v at).0 i)), (λ i. (p.points v at).1 ((q.points v at).0 i))))

one_flown : (d : ℕ) (start inv flow one other : Polyhedron) → IsClosedOver d start → IsClosedOver d inv → IsFlown start inv flow one → IsFlown start inv flow other → one ≡ other
one_flown d start inv flow one other c i f g =
    let same : g.elapsed ≡ f.elapsed = one_elapse d start flow g.elapsed f.elapsed c g.is_elapse g.elapsed_kept f.is_elapse f.elapsed_kept in
    one_part d inv f.elapsed one other i f.is_part (subst (λ (e : Polyhedron). IsPartIn inv e other) same g.is_part)

one_time : (d : ℕ) (set inv flow one other : Polyhedron) → IsClosedOver d set → IsClosedOver d inv → IsTimePost set inv flow one → IsTimePost set inv flow other → one ≡ other
one_time d set inv flow one other c i h k = by h.after k.after
  where
    same : k.start ≡ h.start
    same = one_part d set inv k.start h.start c k.is_start h.is_start

    by : (HasNoPoint flow × (one ≡ h.start)) ⊎ (¬ (HasNoPoint flow) × IsFlown h.start inv flow one) → (HasNoPoint flow × (other ≡ k.start)) ⊎ (¬ (HasNoPoint flow) × IsFlown k.start inv flow other) → one ≡ other
    by (inl (n, e)) (inl (m, f)) = e ∙ sym same ∙ sym f
    by (inl (n, e)) (inr (s, f)) = absurd (s n)
    by (inr (s, f)) (inl (n, e)) = absurd (s n)
    by (inr (s, f)) (inr (r, g)) = one_flown d h.start inv flow one other (part_closed d set inv h.start c h.is_start) i f (subst (λ (p : Polyhedron). IsFlown p inv flow other) same g)

one_jump : (d : ℕ) (set inv relation target_inv one other : Polyhedron) → IsClosedOver d set → IsClosedOver d target_inv → IsJumpPost set inv relation target_inv one → IsJumpPost set inv relation target_inv other → one ≡ other
one_jump d set inv relation target_inv one other c i h k =
    let same : k.start ≡ h.start = one_part d set inv k.start h.start c k.is_start h.is_start in
    let again : k.successors ≡ h.successors = one_post d h.start relation k.successors h.successors (part_closed d set inv h.start c h.is_start) (subst (λ (p : Polyhedron). IsPost p relation k.successors) same k.is_post) k.successors_kept h.is_post h.successors_kept in
    one_part d target_inv h.successors one other i h.is_part (subst (λ (p : Polyhedron). IsPartIn target_inv p other) again k.is_part)

-- ---- turns
one_hull : (IsMade : Polyhedron → Type 0) → ((a b : Polyhedron) → IsMade a → IsMade b → a ≡ b) → (d : ℕ) (old one other : Polyhedron) → IsClosedOver d old → IsHullWithPost IsMade old one → IsHullWithPost IsMade old other → one ≡ other
one_hull IsMade alone d old one other o j k =
    one_set d one other (hull_above IsMade d old o one j).closed (hull_above IsMade d old o other k).closed
    (λ v pt. let at = subst (λ (n : ℕ). IsPoint n v) j.is_hull.over.same_dim pt in ((λ i. (hull.points v at).1 ((j.is_hull.points v at).0 i)), (λ i. (j.is_hull.points v at).1 ((hull.points v at).0 i))))
  where
    hull : IsHull old j.post other
    hull = subst (λ (p : Polyhedron). IsHull old p other) (alone k.post j.post k.is_post j.is_post) k.is_hull

module _ (h : HybridAutomaton) (kept : IsKeptHybrid h) where
  inv_closed : (l : ℕ) (p : Polyhedron) → slice_get h.invariants l ≡ Some p → IsClosedOver h.system.dim p
  inv_closed l p at = all_at (IsClosedOver h.system.dim) h.invariants l p kept.invariants.each at

  one_of_turn : (turn : Turn) (sets : List Polyhedron) (one other : Polyhedron) → AreSetsOf h.system.dim (length h.system.initial) sets → Joins h turn sets one → Joins h turn sets other → one ≡ other
  one_of_turn (time l) sets one other are j k =
      let old : k.old ≡ j.old = same_at sets l k.old j.old k.has_old j.has_old in
      let inv : k.inv ≡ j.inv = same_at h.invariants l k.inv j.inv k.has_inv j.has_inv in
      let flow : k.flow ≡ j.flow = same_at h.flows l k.flow j.flow k.has_flow j.has_flow in
      let closed = set_at h sets l j.old are j.has_old in
      one_hull (IsTimePost j.old j.inv j.flow) (λ a b. one_time h.system.dim j.old j.inv j.flow a b closed (inv_closed l j.inv j.has_inv)) h.system.dim j.old one other closed j.holds
      (subst (λ (p : Polyhedron). IsHullWithPost (IsTimePost j.old j.inv p) j.old other) flow (subst (λ (p : Polyhedron). IsHullWithPost (IsTimePost j.old p k.flow) j.old other) inv (subst (λ (p : Polyhedron). IsHullWithPost (IsTimePost p k.inv k.flow) p other) old k.holds)))
  one_of_turn (jump None) sets one other are j k = absurd j
  one_of_turn (jump (Some t)) sets one other are j k =
      let source : k.source ≡ j.source = same_at sets t.source k.source j.source k.has_source j.has_source in
      let inv : k.inv ≡ j.inv = same_at h.invariants t.source k.inv j.inv k.has_inv j.has_inv in
      let old : k.old ≡ j.old = same_at sets t.target k.old j.old k.has_old j.has_old in
      let target : k.target_inv ≡ j.target_inv = same_at h.invariants t.target k.target_inv j.target_inv k.has_target_inv j.has_target_inv in
      one_hull (IsJumpPost j.source j.inv t.relation j.target_inv) (λ a b. one_jump h.system.dim j.source j.inv t.relation j.target_inv a b (set_at h sets t.source j.source are j.has_source) (inv_closed t.target j.target_inv j.has_target_inv)) h.system.dim j.old one other (set_at h sets t.target j.old are j.has_old) j.holds
      (subst (λ (p : Polyhedron). IsHullWithPost (IsJumpPost j.source j.inv t.relation p) j.old other) target
      (subst (λ (p : Polyhedron). IsHullWithPost (IsJumpPost j.source p t.relation k.target_inv) j.old other) inv
      (subst (λ (p : Polyhedron). IsHullWithPost (IsJumpPost p k.inv t.relation k.target_inv) j.old other) source
      (subst (λ (p : Polyhedron). IsHullWithPost (IsJumpPost k.source k.inv t.relation k.target_inv) p other) old k.holds))))

  join_one : JoinOne (turns_of h)
  join_one k sets one other below are j l = one_of_turn (turn_at h k) sets one other are j l

  -- ---- the answer
  same_lists : (xs ys : List Polyhedron) → length xs ≡ length ys → ((i : ℕ) (a b : Polyhedron) → slice_get xs i ≡ Some a → slice_get ys i ≡ Some b → a ≡ b) → xs ≡ ys
  same_lists [] [] e f = refl
  same_lists [] (y ∷ ys) e f = absurd (omega (arith, e))
  same_lists (x ∷ xs) [] e f = absurd (omega (arith, e))
  same_lists (x ∷ xs) (y ∷ ys) e f = ap (λ (a : Polyhedron). a ∷ xs) (f 0 x y refl refl) ∙ ap (λ (zs : List Polyhedron). y ∷ zs) (same_lists xs ys (omega (arith, e)) (λ i. f (suc i)))

  one_parts : (sets one other : List Polyhedron) → AreSetsOf h.system.dim (length h.system.initial) sets → AreParts h.invariants sets one → AreParts h.invariants sets other → one ≡ other
  one_parts sets one other are p q = same_lists one other (p.as_many ∙ sym q.as_many) each
    where
      each : (i : ℕ) (a b : Polyhedron) → slice_get one i ≡ Some a → slice_get other i ≡ Some b → a ≡ b
      each i a b at_a at_b =
          let set = has_at sets i (omega (arith, slice_get_within one i a at_a, p.as_many)) in
          let inv = has_at h.invariants i (omega (arith, slice_get_within one i a at_a, p.as_many, are.as_many, kept.invariants.as_many)) in
          one_part h.system.dim set.0 inv.0 a b (set_at h sets i set.0 are set.1) (p.each i a at_a inv.0 set.0 inv.1 set.1) (q.each i b at_b inv.0 set.0 inv.1 set.1)

pub one_reach : OneWidening → HasOneReach
one_reach alone h delay one other kept p q =
    let begins = initial_sets h kept in
    let same : q.sets ≡ p.sets = one_limit alone (turns_of h) (proper h kept) (join_one h kept) h.system.initial delay q.sets p.sets begins q.limit p.limit in
    one_parts h kept p.sets one other (limit_sets p.sets p.limit begins) p.of_limit (subst (λ (xs : List Polyhedron). AreParts h.invariants xs other) same q.of_limit)
  where
    limit_sets : (sets : List Polyhedron) → HasLimit (turns_of h) h.system.initial delay sets → AreSetsOf h.system.dim (length h.system.initial) h.system.initial → AreSetsOf h.system.dim (length h.system.initial) sets
    limit_sets sets l begins = (rounds_table (turns_of h) (proper h kept) (start_table (turns_of h) h.system.initial delay begins) l.limit.rounds).sets
