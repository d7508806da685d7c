-- Where the rank of one place falls, so do the sums.
use Rattle.std.proofs.Common.{◌≡◌, ◌⊎◌, inl, inr, ℕ, zero, suc, ◌<◌, List, [], ◌∷◌, Option, Some, None, slice_get, slice_set, sym, subst, arith}
use Rattle.poly_pair.specs.Polyhedra.{Polyhedron}
use Rattle.widening.specs.declared.updates.Updated.{Updated}
use Rattle.widening.specs.Ranks.{Rank, IsBelow, rank_of, added, sums}
use Rattle.poly_pair.specs.ClosedPolyhedra.{IsClosedOver}
use Rattle.widening.specs.WideningLaws.{RankFalls}
use Rattle.widening.specs.Runs.{RunTable, TurnList, IsMove, IsOutcome, placed, IsTurn}
use Rattle.widening.specs.RunLaws.{IsTableOf, AreProper}
use Rattle.widening.proofs.Places.{some_same}
use Rattle.widening.proofs.TurnLemmas.{enlarged, update_closed, old_closed, joined_above}

added_first : (a b c : Rank) → IsBelow a b → IsBelow (added a c) (added b c)
added_first a b c (inl h) = inl (omega (arith, h))
added_first a b c (inr (inl (e, h))) = inr (inl (omega (arith, e), omega (arith, h)))
added_first a b c (inr (inr (e, f, h))) = inr (inr (omega (arith, e), omega (arith, f), omega (arith, h)))

added_rest : (a b c : Rank) → IsBelow b c → IsBelow (added a b) (added a c)
added_rest a b c (inl h) = inl (omega (arith, h))
added_rest a b c (inr (inl (e, h))) = inr (inl (omega (arith, e), omega (arith, h)))
added_rest a b c (inr (inr (e, f, h))) = inr (inr (omega (arith, e), omega (arith, f), omega (arith, h)))

sums_fall : (sets : List Polyhedron) (left : List ℕ) (m : ℕ) (old set : Polyhedron) (was new : ℕ) → slice_get sets m ≡ Some old → slice_get left m ≡ Some was → IsBelow (rank_of set new) (rank_of old was) → IsBelow (sums (slice_set sets m set) (slice_set left m new)) (sums sets left)
sums_fall [] left m old set was new p q h = absurd (let e : None ≡ Some old = p in cc)
sums_fall (s ∷ sets) [] m old set was new p q h = absurd (let e : None ≡ Some was = q in cc)
sums_fall (s ∷ sets) (n ∷ left) zero old set was new p q h =
    let e : s ≡ old = some_same s old p in
    let f : n ≡ was = some_same n was q in
    added_first (rank_of set new) (rank_of s n) (sums sets left) (subst (λ (x : Polyhedron). IsBelow (rank_of set new) (rank_of x n)) (sym e) (subst (λ (k : ℕ). IsBelow (rank_of set new) (rank_of old k)) (sym f) h))
sums_fall (s ∷ sets) (n ∷ left) (suc m) old set was new p q h = added_rest (rank_of s n) (sums (slice_set sets m set) (slice_set left m new)) (sums sets left) (sums_fall sets left m old set was new p q h)

module _ (falls : RankFalls) (turns : TurnList) (proper : AreProper turns) (k : ℕ) (below : k < turns.count) (before after : RunTable) (table : IsTableOf turns before) where
  move_falls : (turn : IsTurn turns k before after) (u : Updated) → IsMove (turns.Joins k before.sets) turn.old turn.left u.set u.left → IsBelow (rank_of u.set u.left) (rank_of turn.old turn.left)
  move_falls turn u m =
      let above = joined_above turns proper k below before after table turn m.joined m.is_joined in
      let closed = old_closed turns proper k below before after table turn in
      falls turn.old m.joined u.set turn.left u.left (enlarged turns.dim turn.old m.joined closed above m.differs)
      (subst (λ (n : ℕ). IsClosedOver n u.set) (sym above.closed.over.same_dim) (update_closed turns.dim turn.old m.joined u.set turn.left u.left closed above.closed m.set_kept m.update)) m.update

  -- a turn leaves the table as it is, or the first of the three sums that changes falls
  pub turn_falls : IsTurn turns k before after → (after ≡ before) ⊎ IsBelow (sums after.sets after.left) (sums before.sets before.left)
  turn_falls turn = by turn.outcome turn.is_outcome turn.is_placed
    where
      by : (outcome : Option Updated) → IsOutcome (turns.Joins k before.sets) turn.old turn.left outcome → after ≡ placed before (turns.place k) outcome → (after ≡ before) ⊎ IsBelow (sums after.sets after.left) (sums before.sets before.left)
      by None h e = inl e
      by (Some u) h e = inr (subst (λ (x : RunTable). IsBelow (sums x.sets x.left) (sums before.sets before.left)) (sym e) (sums_fall before.sets before.left (turns.place k) turn.old u.set turn.left u.left turn.has_old turn.has_left (move_falls turn u h)))
