-- Where each turn joins one set, a turn, a round and a run have one outcome.
use Rattle.std.proofs.Common.{◌≡◌, ◌⊎◌, inl, inr, ℕ, zero, suc, ◌+◌, ◌<◌, ◌≤◌, List, Option, Some, None, slice_get, refl, sym, ap, ◌∙◌, subst, arith}
use Rattle.row_core.specs.Points.{IsPoint}
use Rattle.cons_sys.specs.Constraints.{Constraints}
use Rattle.gens_sys.specs.Generators.{Generators}
use Rattle.stored_systems.specs.StoredForms.{IsStored}
use Rattle.stored_systems.proofs.Stored.{stored_is_unique}
use Rattle.poly_pair.specs.declared.topology.Topology.{Topology}
use Rattle.poly_pair.specs.declared.topology.Topology.TheVariants.{Closed}
use Rattle.poly_pair.specs.Polyhedra.{Polyhedron, IsKept, IsStoredAs, IsIncluded, HaveSamePoints}
use Rattle.widening.specs.declared.updates.Updated.{Updated}
use Rattle.widening.specs.Updates.{IsUpdate}
use Rattle.poly_pair.specs.ClosedPolyhedra.{IsClosedOver}
use Rattle.widening.specs.WideningLaws.{OneWidening}
use Rattle.widening.specs.Runs.{RunTable, TurnList, IsMove, IsOutcome, placed, IsTurn, IsRound, begins, takes, AreRounds, none, more, IsStable, IsLimit, HasLimit, start}
use Rattle.widening.specs.RunLaws.{AreSetsOf, IsTableOf, AreProper, IsAbove, JoinOne}
use Rattle.widening.proofs.Places.{same_at, all_at}
use Rattle.widening.proofs.TurnLemmas.{update_closed}
use Rattle.widening.proofs.RoundLemmas.{start_table, round_table, rounds_table}

-- ---- sets
pub closed_stored : (t : Topology) (cs : Constraints) (gs : Generators) → t ≡ Closed → IsStoredAs t cs gs → IsStored cs gs
closed_stored t cs gs e s = subst (λ (u : Topology). IsStoredAs u cs gs) e s

same_polyhedron : (p q : Polyhedron) → p.topology ≡ q.topology → p.cons ≡ q.cons → p.gens ≡ q.gens → p ≡ q
same_polyhedron p q e f g =
    ap (λ (t : Topology). record { topology = t; cons = p.cons; gens = p.gens }) e
    ∙ ap (λ (cs : Constraints). record { topology = q.topology; cons = cs; gens = p.gens }) f
    ∙ ap (λ (gs : Generators). record { topology = q.topology; cons = q.cons; gens = gs }) g

-- two closed polyhedra of the same points are one
pub one_set : (d : ℕ) (p q : Polyhedron) → IsClosedOver d p → IsClosedOver d q → HaveSamePoints p q → p ≡ q
one_set d p q c e h =
    let unique = (stored_is_unique p.cons q.cons p.gens q.gens (c.over.same_dim ∙ sym e.over.same_dim) (closed_stored p.topology p.cons p.gens c.over.same_topology c.kept.stored) (closed_stored q.topology q.cons q.gens e.over.same_topology e.kept.stored)).0 h in
    same_polyhedron p q (c.over.same_topology ∙ sym e.over.same_topology) unique.cons unique.gens

-- what is joined to a set that has all of it is that set
pub joined_is_old : (d : ℕ) (old joined : Polyhedron) → IsClosedOver d old → IsAbove d old joined → IsIncluded joined old → joined ≡ old
joined_is_old d old joined o a within = one_set d joined old a.closed o (λ v pt. (within v pt, a.includes v (subst (λ (n : ℕ). IsPoint n v) (a.closed.over.same_dim ∙ sym o.over.same_dim) pt)))

same_updated : (u v : Updated) → u.set ≡ v.set → u.left ≡ v.left → u ≡ v
same_updated u v e f = ap (λ (p : Polyhedron). record { set = p; left = u.left }) e ∙ ap (λ (n : ℕ). record { set = v.set; left = n }) f

module _ (alone : OneWidening) where
  one_update : (d : ℕ) (old joined one other : Polyhedron) (left n m : ℕ) → IsClosedOver d old → IsClosedOver d joined → IsKept one → IsKept other → IsUpdate left old joined one n → IsUpdate left old joined other m → (one ≡ other) × (n ≡ m)
  one_update d old joined one other left n m o j k l (inl (h, e, f)) (inl (g, r, t)) = (e ∙ sym r, omega (arith, f, t))
  one_update d old joined one other left n m o j k l (inl (h, e, f)) (inr (g, r, w)) = absurd (omega (arith, h, g))
  one_update d old joined one other left n m o j k l (inr (h, e, w)) (inl (g, r, t)) = absurd (omega (arith, h, g))
  one_update d old joined one other left n m o j k l (inr (h, e, w)) (inr (g, r, x)) = (
    one_set d one other (update_closed d old joined one left n o j k (inr (h, e, w))) (update_closed d old joined other left m o j l (inr (g, r, x)))
        (alone old joined one other (subst (λ (i : ℕ). IsClosedOver i old) (sym o.over.same_dim) o) w x),
    e ∙ sym r,
  )

  module _ (turns : TurnList) (proper : AreProper turns) (one_joined : JoinOne turns) where
    -- ---- turns
    module _ (k : ℕ) (below : k < turns.count) (sets : List Polyhedron) (are : AreSetsOf turns.dim turns.places sets) (old : Polyhedron) (has_old : slice_get sets (turns.place k) ≡ Some old) (left : ℕ) where
      moves_or_stays : (joined other : Polyhedron) → turns.Joins k sets joined → turns.Joins k sets other → HaveSamePoints joined old → ¬ (HaveSamePoints other old) → ⊥
      moves_or_stays joined other j l h ne = ne (subst (λ (p : Polyhedron). HaveSamePoints p old) (one_joined k sets joined other below are j l) h)

      one_move : (u v : Updated) → IsMove (turns.Joins k sets) old left u.set u.left → IsMove (turns.Joins k sets) old left v.set v.left → u ≡ v
      one_move u v m n =
          let is : n.joined ≡ m.joined = one_joined k sets n.joined m.joined below are n.is_joined m.is_joined in
          let above = proper.above k sets old m.joined below are has_old m.is_joined in
          let same = one_update turns.dim old m.joined u.set v.set left u.left v.left (all_at (IsClosedOver turns.dim) sets (turns.place k) old are.each has_old) above.closed m.set_kept n.set_kept m.update (subst (λ (j : Polyhedron). IsUpdate left old j v.set v.left) is n.update) in
          same_updated u v same.0 same.1

      one_outcome : (a b : Option Updated) → IsOutcome (turns.Joins k sets) old left a → IsOutcome (turns.Joins k sets) old left b → a ≡ b
      one_outcome None None h g = refl
      one_outcome None (Some u) h g = absurd (moves_or_stays h.joined g.joined h.is_joined g.is_joined h.same g.differs)
      one_outcome (Some u) None h g = absurd (moves_or_stays g.joined h.joined g.is_joined h.is_joined g.same h.differs)
      one_outcome (Some u) (Some v) h g = ap (λ (x : Updated). Some x) (one_move u v h g)

    one_turn : (k : ℕ) → k < turns.count → (before a b : RunTable) → IsTableOf turns before → IsTurn turns k before a → IsTurn turns k before b → a ≡ b
    one_turn k below before a b table u v =
        let old : v.old ≡ u.old = same_at before.sets (turns.place k) v.old u.old v.has_old u.has_old in
        let left : v.left ≡ u.left = same_at before.left (turns.place k) v.left u.left v.has_left u.has_left in
        let is : IsOutcome (turns.Joins k before.sets) u.old u.left v.outcome =
        subst (λ (n : ℕ). IsOutcome (turns.Joins k before.sets) u.old n v.outcome) left
        (subst (λ (p : Polyhedron). IsOutcome (turns.Joins k before.sets) p v.left v.outcome) old v.is_outcome) in
        let same : u.outcome ≡ v.outcome = one_outcome k below before.sets table.sets u.old u.has_old u.left u.outcome v.outcome u.is_outcome is in
        u.is_placed ∙ ap (placed before (turns.place k)) same ∙ sym v.is_placed

    -- ---- rounds
    -- the last turn of a round
    record LastTurn (k : ℕ) (t after : RunTable) : Type 0 where
      number : ℕ
      next : k ≡ number + 1
      between : RunTable
      round : IsRound turns number t between
      below : number < turns.count
      turn : IsTurn turns number between after

    last : {k : ℕ} {t after : RunTable} → IsRound turns k t after → ((k ≡ 0) × (t ≡ after)) ⊎ LastTurn k t after
    last begins = inl (refl, refl)
    last (takes r below turn) = inr (record { number = _; next = refl; between = _; round = r; below = below; turn = turn })

    no_turn : (k : ℕ) (t after : RunTable) → k ≡ 0 → IsRound turns k t after → t ≡ after
    no_turn k t after e r = by (last r)
      where
        by : ((k ≡ 0) × (t ≡ after)) ⊎ LastTurn k t after → t ≡ after
        by (inl same) = same.1
        by (inr l) = absurd (omega (arith, e, l.next))

    one_round : {k : ℕ} {t a : RunTable} (b : RunTable) → IsTableOf turns t → IsRound turns k t a → IsRound turns k t b → a ≡ b
    one_round b table begins other = no_turn 0 _ b refl other
    one_round b table (takes {k} {t} {between} {after} r below turn) other = by (last other) (λ x. one_round x table r)
      where
        by : ((k + 1 ≡ 0) × (t ≡ b)) ⊎ LastTurn (k + 1) t b → ((x : RunTable) → IsRound turns k t x → between ≡ x) → after ≡ b
        by (inl e) rest = absurd (omega (arith, e.0))
        by (inr l) rest =
            let n : l.number ≡ k = omega (arith, l.next) in
            let same : between ≡ l.between = rest l.between (subst (λ (i : ℕ). IsRound turns i t l.between) n l.round) in
            one_turn k below between after b (round_table turns proper table r) turn (subst (λ (x : RunTable). IsTurn turns k x b) (sym same) (subst (λ (i : ℕ). IsTurn turns i l.between b) n l.turn))

    -- the turns of a table that each turn leaves as it is
    stable_round : (t : RunTable) → IsStable turns t → (k : ℕ) → k ≤ turns.count → IsRound turns k t t
    stable_round t stable zero h = begins
    stable_round t stable (suc k) h =
        let below : k < turns.count = omega (arith, h) in
        let r : IsRound turns (k + 1) t t = takes (stable_round t stable k (omega (arith, h))) below (stable k below) in
        subst (λ (n : ℕ). IsRound turns n t t) (omega arith) r

    -- ---- runs
    still : {t after : RunTable} → IsTableOf turns t → IsStable turns t → AreRounds turns t after → t ≡ after
    still table stable none = refl
    still table stable (more {t} {between} {after} rounds r) =
        let same : t ≡ between = still table stable rounds in
        one_round after table (stable_round t stable turns.count (omega arith)) (subst (λ (x : RunTable). IsRound turns turns.count x after) (sym same) r)

    -- the first of some rounds
    record FirstRound (t after : RunTable) : Type 0 where
      between : RunTable
      round : IsRound turns turns.count t between
      rest : AreRounds turns between after

    first : {t after : RunTable} → AreRounds turns t after → (t ≡ after) ⊎ FirstRound t after
    first none = inl refl
    first (more {t} {between} {after} rounds r) = by (first rounds)
      where
        by : (t ≡ between) ⊎ FirstRound t between → (t ≡ after) ⊎ FirstRound t after
        by (inl e) = inr (record { between = after; round = subst (λ (x : RunTable). IsRound turns turns.count x after) (sym e) r; rest = none })
        by (inr f) = inr (record { between = f.between; round = f.round; rest = more f.rest r })

    -- of two runs from one table the one goes on from the other
    ahead : {t a : RunTable} (b : RunTable) → IsTableOf turns t → AreRounds turns t a → AreRounds turns t b → AreRounds turns a b ⊎ AreRounds turns b a
    ahead b table none other = inl other
    ahead b table (more {t} {between} {after} rounds r) other = by (ahead b table rounds other)
      where
        later : (between ≡ b) ⊎ FirstRound between b → AreRounds turns after b ⊎ AreRounds turns b after
        later (inl e) = inr (more none (subst (λ (x : RunTable). IsRound turns turns.count x after) e r))
        later (inr f) = inl (subst (λ (x : RunTable). AreRounds turns x b) (one_round after (rounds_table turns proper table rounds) f.round r) f.rest)

        by : AreRounds turns between b ⊎ AreRounds turns b between → AreRounds turns after b ⊎ AreRounds turns b after
        by (inl on) = later (first on)
        by (inr behind) = inr (more behind r)

    one_end : (t a b : RunTable) → IsTableOf turns t → IsLimit turns t a → IsLimit turns t b → a ≡ b
    one_end t a b table l m = by (ahead b table l.rounds m.rounds)
      where
        by : AreRounds turns a b ⊎ AreRounds turns b a → a ≡ b
        by (inl on) = still (rounds_table turns proper table l.rounds) l.stable on
        by (inr back) = sym (still (rounds_table turns proper table m.rounds) m.stable back)

    pub one_limit : (initial : List Polyhedron) (delay : ℕ) (one other : List Polyhedron) → AreSetsOf turns.dim turns.places initial → HasLimit turns initial delay one → HasLimit turns initial delay other → one ≡ other
    one_limit initial delay one other are l m = ap (λ (t : RunTable). t.sets) (one_end (start initial delay) (record { sets = one; left = l.left }) (record { sets = other; left = m.left }) (start_table turns initial delay are) l.limit m.limit)
