-- What a turn keeps, and what it includes.
use Rattle.std.proofs.Common.{◌≡◌, ◌≢◌, ◌⊎◌, inl, inr, ℕ, ◌<◌, List, Option, Some, None, slice_get, slice_set, refl, sym, ap, ◌∙◌, subst, arith}
use Rattle.std.proofs.lemmas.Bool.{cases_eq}
use Rattle.std.proofs.lemmas.List.{length-set}
use Rattle.std.proofs.lemmas.List.Elements.{All-set}
use Rattle.std.proofs.lemmas.Option.{slice_get_within}
use Rattle.row_core.specs.Points.{IsPoint}
use Rattle.row_core.specs.declared.errors.Overflow.{Overflow}
use Rattle.row_core.specs.declared.errors.ConvErr.{ConvErr}
use Rattle.row_core.specs.declared.errors.ConvErr.TheVariants as conversion
use Rattle.cons_sys.specs.Constraints.{In}
use Rattle.poly_pair.specs.Polyhedra.{Polyhedron, IsKept, IsIncluded, HaveSamePoints}
use Rattle.widening.specs.declared.updates.Updated.{Updated}
use Rattle.widening.specs.Updates.{IsUpdate, IsUpdateOverflow, IsUpdateConversion}
use Rattle.poly_pair.specs.ClosedPolyhedra.{IsClosedOver}
use Rattle.widening.specs.WideningLaws.{IsEnlarged, WideningIncludes}
use Rattle.widening.specs.Runs.{RunTable, TurnList, IsMove, IsOutcome, placed, IsTurn}
use Rattle.widening.specs.RunLaws.{IsTableOf, AreProper, IsAbove, IsLarger, IsFound, IsTaken}
use Rattle.row_core.specs.Refusals.{IsOverflowIn}
use Rattle.widening.specs.RunOverflows.{LeavesInTurn}
use Rattle.widening.specs.RunConversions.{IsTurnConversion}
use Rattle.widening.proofs.Places.{same_at, has_at, all_at, set_same, set_other}

-- ---- parts of sets
pub part_of_itself : (p q : Polyhedron) → p ≡ q → IsIncluded p q
part_of_itself p q e v pt i = subst (λ (r : Polyhedron). In r.cons v) e i

pub part_of_part : (p q r : Polyhedron) → p.cons.dim ≡ q.cons.dim → IsIncluded p q → IsIncluded q r → IsIncluded p r
part_of_part p q r e f g v pt i = g v (subst (λ (n : ℕ). IsPoint n v) e pt) (f v pt i)

-- ---- updates
pub update_closed : (d : ℕ) (old joined set : Polyhedron) (left new : ℕ) → IsClosedOver d old → IsClosedOver d joined → IsKept set → IsUpdate left old joined set new → IsClosedOver d set
update_closed d old joined set left new o j k (inl (h, e, f)) = subst (IsClosedOver d) (sym e) j
update_closed d old joined set left new o j k (inr (h, e, w)) = record { kept = k; over = record { same_topology = w.over.same_topology; same_dim = w.over.same_dim ∙ o.over.same_dim } }

pub update_includes : (d : ℕ) (old joined set : Polyhedron) (left new : ℕ) → WideningIncludes → IsClosedOver d old → IsClosedOver d joined → IsIncluded old joined → IsUpdate left old joined set new → IsIncluded joined set
update_includes d old joined set left new wider o j part (inl (h, e, f)) = part_of_itself joined set (sym e)
update_includes d old joined set left new wider o j part (inr (h, e, w)) =
    wider old joined set (subst (λ (n : ℕ). IsClosedOver n old) (sym o.over.same_dim) o) (subst (λ (n : ℕ). IsClosedOver n joined) (sym o.over.same_dim) j) part w

-- where the joined set isn't the old one it has more points
pub enlarged : (d : ℕ) (old joined : Polyhedron) → IsClosedOver d old → IsAbove d old joined → ¬ (HaveSamePoints joined old) → IsEnlarged old joined
enlarged d old joined o a differs = record {
  old_closed = subst (λ (n : ℕ). IsClosedOver n old) (sym a.closed.over.same_dim) o;
  joined_closed = subst (λ (n : ℕ). IsClosedOver n joined) (sym a.closed.over.same_dim) a.closed;
  includes = a.includes;
  more = λ back. differs (λ v pt. (back v pt, a.includes v (subst (λ (n : ℕ). IsPoint n v) (a.closed.over.same_dim ∙ sym o.over.same_dim) pt)));
}

-- ---- turns
module _ (turns : TurnList) (proper : AreProper turns) (k : ℕ) (below : k < turns.count) (before after : RunTable) (table : IsTableOf turns before) (turn : IsTurn turns k before after) where
  pub old_closed : IsClosedOver turns.dim turn.old
  old_closed = all_at (IsClosedOver turns.dim) before.sets (turns.place k) turn.old table.sets.each turn.has_old

  pub joined_above : (joined : Polyhedron) → turns.Joins k before.sets joined → IsAbove turns.dim turn.old joined
  joined_above joined j = proper.above k before.sets turn.old joined below table.sets turn.has_old j

  pub turn_table : IsTableOf turns after
  turn_table = by turn.outcome turn.is_outcome turn.is_placed
    where
      by : (outcome : Option Updated) → IsOutcome (turns.Joins k before.sets) turn.old turn.left outcome → after ≡ placed before (turns.place k) outcome → IsTableOf turns after
      by None h e = subst (IsTableOf turns) (sym e) table
      by (Some u) h e = subst (IsTableOf turns) (sym e) (record {
        sets = record {
          as_many = length-set before.sets (turns.place k) u.set ∙ table.sets.as_many;
          each = All-set (IsClosedOver turns.dim) before.sets (turns.place k) u.set (update_closed turns.dim turn.old h.joined u.set turn.left u.left old_closed (joined_above h.joined h.is_joined).closed h.set_kept h.update) table.sets.each;
        };
        left = length-set before.left (turns.place k) u.left ∙ table.left;
      })

  -- ---- what a turn includes
  module _ (wider : WideningIncludes) where
    joined_in_move : (set : Polyhedron) (new : ℕ) → (m : IsMove (turns.Joins k before.sets) turn.old turn.left set new) → IsIncluded m.joined set
    joined_in_move set new m = let a = joined_above m.joined m.is_joined in update_includes turns.dim turn.old m.joined set turn.left new wider old_closed a.closed a.includes m.update

    move_includes : (set : Polyhedron) (new : ℕ) → IsMove (turns.Joins k before.sets) turn.old turn.left set new → IsIncluded turn.old set
    move_includes set new m = let a = joined_above m.joined m.is_joined in part_of_part turn.old m.joined set (old_closed.over.same_dim ∙ sym a.closed.over.same_dim) a.includes (joined_in_move set new m)

    pub turn_includes : (i : ℕ) (p q : Polyhedron) → slice_get before.sets i ≡ Some p → slice_get after.sets i ≡ Some q → IsIncluded p q
    turn_includes i p q has_p has_q = by turn.outcome turn.is_outcome turn.is_placed
      where
        stays : slice_get after.sets i ≡ slice_get before.sets i → IsIncluded p q
        stays e = part_of_itself p q (same_at before.sets i p q has_p (sym e ∙ has_q))

        moved : (u : Updated) → IsMove (turns.Joins k before.sets) turn.old turn.left u.set u.left → after ≡ placed before (turns.place k) (Some u) → (i ≡ turns.place k) ⊎ (i ≢ turns.place k) → IsIncluded p q
        moved u m e (inl f) =
            let is_old : turn.old ≡ p = same_at before.sets (turns.place k) turn.old p turn.has_old (ap (slice_get before.sets) (sym f) ∙ has_p) in
            let at : slice_get after.sets i ≡ Some u.set = ap (λ (x : RunTable). slice_get x.sets i) e ∙ ap (slice_get (slice_set before.sets (turns.place k) u.set)) f ∙ set_same before.sets (turns.place k) u.set (slice_get_within before.sets (turns.place k) turn.old turn.has_old) in
            let is_set : u.set ≡ q = same_at after.sets i u.set q at has_q in
            subst (λ (r : Polyhedron). IsIncluded p r) is_set (subst (λ (r : Polyhedron). IsIncluded r u.set) is_old (move_includes u.set u.left m))
        moved u m e (inr ne) = stays (ap (λ (x : RunTable). slice_get x.sets i) e ∙ set_other before.sets (turns.place k) i u.set ne)

        by : (outcome : Option Updated) → IsOutcome (turns.Joins k before.sets) turn.old turn.left outcome → after ≡ placed before (turns.place k) outcome → IsIncluded p q
        by None h e = stays (ap (λ (x : RunTable). slice_get x.sets i) e)
        by (Some u) h e = moved u h e (cases_eq i (turns.place k))

-- what a turn joins at a table is in the set of its place at another
pub record HasTaken (turns : TurnList) (k : ℕ) (t after : RunTable) : Type 0 where
  pub joined : Polyhedron
  pub is_joined : turns.Joins k t.sets joined
  pub set : Polyhedron
  pub has_set : slice_get after.sets (turns.place k) ≡ Some set
  pub within : IsIncluded joined set

-- as it is at the table that the turn leads to
pub has_taken : (turns : TurnList) → AreProper turns → (k : ℕ) → k < turns.count → (t after : RunTable) → IsTableOf turns t → WideningIncludes → IsTurn turns k t after → HasTaken turns k t after
has_taken turns proper k below t after table wider turn = by turn.outcome turn.is_outcome turn.is_placed
  where
    by : (outcome : Option Updated) → IsOutcome (turns.Joins k t.sets) turn.old turn.left outcome → after ≡ placed t (turns.place k) outcome → HasTaken turns k t after
    by None h e = record { joined = h.joined; is_joined = h.is_joined; set = turn.old; has_set = ap (λ (x : RunTable). slice_get x.sets (turns.place k)) e ∙ turn.has_old; within = λ v pt i. (h.same v pt).0 i }
    by (Some u) h e = record {
      joined = h.joined;
      is_joined = h.is_joined;
      set = u.set;
      has_set = ap (λ (x : RunTable). slice_get x.sets (turns.place k)) e ∙ set_same t.sets (turns.place k) u.set (slice_get_within t.sets (turns.place k) turn.old turn.has_old);
      within = joined_in_move turns proper k below t after table turn wider u.set u.left h;
    }

-- what a turn joins that leaves its table is in the set of its place
pub turn_takes : (turns : TurnList) → AreProper turns → (k : ℕ) → k < turns.count → (t : RunTable) → IsTableOf turns t → WideningIncludes → IsTurn turns k t t → IsTaken turns k t.sets
turn_takes turns proper k below t table wider turn =
    let h = has_taken turns proper k below t t table wider turn in
    record { set = h.set; has_set = h.has_set; joined = h.joined; is_joined = h.is_joined; within = h.within }

-- ---- outcomes of a turn
-- where the joined set has no more points the table stays
pub stays : (turns : TurnList) → AreProper turns → (k : ℕ) → k < turns.count → (t : RunTable) → IsTableOf turns t → (sets : List Polyhedron) → sets ≡ t.sets → (o : Option Polyhedron) → o ≡ None → ((old : Polyhedron) → slice_get sets (turns.place k) ≡ Some old → IsFound (turns.Joins k sets) old o) → IsTurn turns k t t
stays turns proper k below t table sets e o f found =
    let old = has_at t.sets (turns.place k) (omega (arith, proper.place k below, table.sets.as_many)) in
    let left = has_at t.left (turns.place k) (omega (arith, proper.place k below, table.left)) in
    record {
      old = old.0;
      left = left.0;
      has_old = old.1;
      has_left = left.1;
      outcome = None;
      is_outcome = subst (λ (x : Option Polyhedron). IsFound (turns.Joins k t.sets) old.0 x) f (subst (λ (xs : List Polyhedron). (p : Polyhedron) → slice_get xs (turns.place k) ≡ Some p → IsFound (turns.Joins k xs) p o) e found old.0 old.1);
      is_placed = refl;
    }

-- a larger set that is joined to the one of the place
module _ (turns : TurnList) (k : ℕ) (t : RunTable) (sets : List Polyhedron) (same : sets ≡ t.sets) (o : Option Polyhedron) (joined : Polyhedron) (is : o ≡ Some joined) (found : (old : Polyhedron) → slice_get sets (turns.place k) ≡ Some old → IsFound (turns.Joins k sets) old o) (m : ℕ) (at : m ≡ turns.place k) (old : Polyhedron) (left : ℕ) (has_old : slice_get t.sets m ≡ Some old) (has_left : slice_get t.left m ≡ Some left) where
  old_at : slice_get t.sets (turns.place k) ≡ Some old
  old_at = subst (λ (n : ℕ). slice_get t.sets n ≡ Some old) at has_old

  left_at : slice_get t.left (turns.place k) ≡ Some left
  left_at = subst (λ (n : ℕ). slice_get t.left n ≡ Some left) at has_left

  pub is_larger : IsLarger (turns.Joins k t.sets) old joined
  is_larger = subst (λ (x : Option Polyhedron). IsFound (turns.Joins k t.sets) old x) is (subst (λ (xs : List Polyhedron). (p : Polyhedron) → slice_get xs (turns.place k) ≡ Some p → IsFound (turns.Joins k xs) p o) same found old old_at)

  differs : ¬ (HaveSamePoints joined old)
  differs h = is_larger.enlarged.more (λ v pt i. (h v pt).0 i)

  pub moves : (set : Polyhedron) (new : ℕ) (after : RunTable) → IsUpdate left old joined set new → IsKept set → after ≡ record { sets = slice_set t.sets m set; left = slice_set t.left m new } → IsTurn turns k t after
  moves set new after update kept e = record {
    old = old;
    left = left;
    has_old = old_at;
    has_left = left_at;
    outcome = Some (record { set = set; left = new });
    is_outcome = record { joined = joined; is_joined = is_larger.is_joined; differs = differs; update = update; set_kept = kept };
    is_placed = e ∙ ap (λ (n : ℕ). record { sets = slice_set t.sets n set; left = slice_set t.left n new }) at;
  }

  pub move_leaves : (e : ConvErr) → IsUpdateOverflow left old joined e → IsOverflowIn (LeavesInTurn turns k t) e
  move_leaves (conversion.Overflow over) l = inr (record { old = old; has_old = old_at; used_up = subst (λ (n : ℕ). slice_get t.left (turns.place k) ≡ Some n) l.0 left_at; joined = joined; is_joined = is_larger.is_joined; differs = differs; leaves = l.1 })
  move_leaves conversion.Memory l = tt

  pub counts_both : (start between end : ℕ) (over : Option Overflow) → turns.Counts k sets start between None → IsUpdateConversion left old joined between end over → IsTurnConversion turns k t start end over
  counts_both start between end over finding update = inr (record {
    between = between;
    finding = subst (λ (xs : List Polyhedron). turns.Counts k xs start between None) same finding;
    update = record { set = old; left = left; has_set = old_at; has_left = left_at; joined = joined; is_joined = is_larger.is_joined; differs = differs; conversion = update };
  })

-- finding what the turn joins alone
pub counts_finding : (turns : TurnList) (k : ℕ) (t : RunTable) (sets : List Polyhedron) → sets ≡ t.sets → (old new : ℕ) (over : Option Overflow) → turns.Counts k sets old new over → IsTurnConversion turns k t old new over
counts_finding turns k t sets e old new over h = inl (subst (λ (xs : List Polyhedron). turns.Counts k xs old new over) e h)
