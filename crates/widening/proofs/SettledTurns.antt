-- Which turns would leave the next table as it is.
use Rattle.std.proofs.Common.{◌≡◌, ◌≢◌, ◌⊎◌, inl, inr, ℕ, zero, suc, ◌+◌, ◌<◌, ◌≤◌, List, length, Option, Some, None, Bool, true, false, slice_get, slice_set, replicate, refl, sym, ap, ◌∙◌, subst, arith}
use Rattle.std.proofs.lemmas.Bool.{cases_eq, false≢true}
use Rattle.std.proofs.lemmas.List.{length-set, length-replicate}
use Rattle.std.proofs.lemmas.Option.{slice_get_within}
use Rattle.poly_pair.specs.ClosedPolyhedra.{IsClosedOver}
use Rattle.widening.specs.declared.updates.Updated.{Updated}
use Rattle.widening.specs.WideningLaws.{WideningIncludes}
use Rattle.widening.specs.Runs.{RunTable, TurnList, placed, IsTurn}
use Rattle.widening.specs.RunLaws.{IsTableOf, AreProper, ReadsFrom}
use Rattle.widening.specs.SettledTurns.{AreSettled, IsReadElsewhere, AreMadeDue}
use Rattle.widening.proofs.Places.{some_same, has_at, all_at, set_same, set_other}
use Rattle.widening.proofs.TurnLemmas.{part_of_part, turn_table, turn_includes, HasTaken, has_taken}

-- ---- marks
-- where a mark is false in a list that had one changed, it is false there or that one
pub false_after : (due : List Bool) (i k : ℕ) (b : Bool) → i < length due → slice_get (slice_set due i b) k ≡ Some false → ((k ≡ i) × (b ≡ false)) ⊎ ((k ≢ i) × (slice_get due k ≡ Some false))
false_after due i k b below e = by (cases_eq k i)
  where
    by : (k ≡ i) ⊎ (k ≢ i) → ((k ≡ i) × (b ≡ false)) ⊎ ((k ≢ i) × (slice_get due k ≡ Some false))
    by (inl same) = inl (same, some_same b false (sym (set_same due i b below) ∙ ap (slice_get (slice_set due i b)) (sym same) ∙ e))
    by (inr ne) = inr (ne, sym (set_other due i k b ne) ∙ e)

-- all of so many are due
all_due : (n k : ℕ) → ¬ (slice_get (replicate n true) k ≡ Some false)
all_due zero k e = absurd (let f : None ≡ Some false = e in cc)
all_due (suc n) zero e = false≢true (sym (some_same true false e))
all_due (suc n) (suc k) e = all_due n k e

pub due_settled : (turns : TurnList) (t : RunTable) (due : List Bool) (n : ℕ) → n ≡ turns.count → due ≡ replicate n true → AreSettled turns t due
due_settled turns t due n count is = record {
  as_many = ap (λ (xs : List Bool). length xs) is ∙ length-replicate n true ∙ count;
  settled = λ k e. absurd (all_due n k (subst (λ xs. slice_get xs k ≡ Some false) is e));
}

-- ---- turns that become due
-- of the first k turns in order those that read the set of a place are due
pub record IsMadeDueUpto (turns : TurnList) (place k : ℕ) (old new : List Bool) : Type 0 where
  pub as_many : length new ≡ length old
  pub closed : (i : ℕ) → slice_get new i ≡ Some false → slice_get old i ≡ Some false
  pub elsewhere : (i : ℕ) → i < k → slice_get new i ≡ Some false → IsReadElsewhere turns i place

pub none_made_due : (turns : TurnList) (place : ℕ) (due : List Bool) → IsMadeDueUpto turns place 0 due due
none_made_due turns place due = record { as_many = refl; closed = λ i e. e; elsewhere = λ i h e. absurd (omega (arith, h)) }

module _ (turns : TurnList) (place k : ℕ) (old due : List Bool) (r : IsMadeDueUpto turns place k old due) where
  pub made_due : k < length due → IsMadeDueUpto turns place (k + 1) old (slice_set due k true)
  made_due below = record {
    as_many = length-set due k true ∙ r.as_many;
    closed = λ i e. r.closed i (other i e).1;
    elsewhere = λ i h e. let f = other i e in r.elsewhere i (omega (arith, h, f.0)) f.1;
  }
    where
      other : (i : ℕ) → slice_get (slice_set due k true) i ≡ Some false → (i ≢ k) × (slice_get due i ≡ Some false)
      other i e = by (false_after due k i true below e)
        where
          by : ((i ≡ k) × (true ≡ false)) ⊎ ((i ≢ k) × (slice_get due i ≡ Some false)) → (i ≢ k) × (slice_get due i ≡ Some false)
          by (inl p) = absurd (false≢true (sym p.1))
          by (inr p) = p

  pub kept_settled : (source : ℕ) → ReadsFrom turns k source → source ≢ place → IsMadeDueUpto turns place (k + 1) old due
  kept_settled source reads ne = record { as_many = r.as_many; closed = r.closed; elsewhere = λ i h e. by i h e (cases_eq i k) }
    where
      by : (i : ℕ) → i < k + 1 → slice_get due i ≡ Some false → (i ≡ k) ⊎ (i ≢ k) → IsReadElsewhere turns i place
      by i h e (inl same) = subst (λ (n : ℕ). IsReadElsewhere turns n place) (sym same) (record { source = source; reads = reads; elsewhere = ne })
      by i h e (inr other) = r.elsewhere i (omega (arith, h, other)) e

  pub all_made_due : length old ≤ k → AreMadeDue turns place old due
  all_made_due all = record { as_many = r.as_many; closed = r.closed; elsewhere = λ i e. r.elsewhere i (omega (arith, slice_get_within due i false e, r.as_many, all)) e }

-- ---- the next table
module _ (turns : TurnList) (proper : AreProper turns) (wider : WideningIncludes) (k : ℕ) (below : k < turns.count) (before after : RunTable) (table : IsTableOf turns before) (turn : IsTurn turns k before after) where
  later : IsTableOf turns after
  later = turn_table turns proper k below before after table turn

  -- other places have the same sets
  same_elsewhere : (i : ℕ) → i ≢ turns.place k → slice_get after.sets i ≡ slice_get before.sets i
  same_elsewhere i ne = by turn.outcome turn.is_placed
    where
      by : (outcome : Option Updated) → after ≡ placed before (turns.place k) outcome → slice_get after.sets i ≡ slice_get before.sets i
      by None e = ap (λ (x : RunTable). slice_get x.sets i) e
      by (Some u) e = ap (λ (x : RunTable). slice_get x.sets i) e ∙ set_other before.sets (turns.place k) i u.set ne

  -- what a turn has taken stays in the set of its place
  still_taken : (j : ℕ) → j < turns.count → HasTaken turns j before before → HasTaken turns j before after
  still_taken j h t =
      let next = has_at after.sets (turns.place j) (omega (arith, proper.place j h, later.sets.as_many)) in
      let above = proper.above j before.sets t.set t.joined h table.sets t.has_set t.is_joined in
      let closed = all_at (IsClosedOver turns.dim) before.sets (turns.place j) t.set table.sets.each t.has_set in
      record {
        joined = t.joined;
        is_joined = t.is_joined;
        set = next.0;
        has_set = next.1;
        within = part_of_part t.joined t.set next.0 (above.closed.over.same_dim ∙ sym closed.over.same_dim) t.within (turn_includes turns proper k below before after table turn wider (turns.place j) t.set next.0 t.has_set next.1);
      }

  -- a turn that has taken what it joins, and whose source has the same set, leaves the table as it is
  leaves_table : (j : ℕ) → j < turns.count → IsReadElsewhere turns j (turns.place k) → HasTaken turns j before after → IsTurn turns j after after
  leaves_table j h r t =
      let left = has_at after.left (turns.place j) (omega (arith, proper.place j h, later.left)) in
      record {
        old = t.set;
        left = left.0;
        has_old = t.has_set;
        has_left = left.1;
        outcome = None;
        is_outcome = record {
          joined = t.set;
          is_joined = r.reads before.sets after.sets t.joined t.set table.sets later.sets (same_elsewhere r.source r.elsewhere) t.is_joined t.has_set t.within;
          same = λ v pt. ((λ i. i), (λ i. i));
        };
        is_placed = refl;
      }

  module _ (due : List Bool) (s : AreSettled turns before due) where
    -- the turn that was taken, or another that has
    taken_at : (j : ℕ) → slice_get (slice_set due k false) j ≡ Some false → HasTaken turns j before after
    taken_at j e = by (false_after due k j false (omega (arith, below, s.as_many)) e)
      where
        by : ((j ≡ k) × (false ≡ false)) ⊎ ((j ≢ k) × (slice_get due j ≡ Some false)) → HasTaken turns j before after
        by (inl p) = subst (λ (i : ℕ). HasTaken turns i before after) (sym p.0) (has_taken turns proper k below before after table wider turn)
        by (inr p) = let h : j < turns.count = omega (arith, slice_get_within due j false p.1, s.as_many) in still_taken j h (has_taken turns proper j h before before table wider (s.settled j p.1))

    pub settled_after : (new : List Bool) → AreMadeDue turns (turns.place k) (slice_set due k false) new → AreSettled turns after new
    settled_after new r = record {
      as_many = many;
      settled = λ j e. leaves_table j (omega (arith, slice_get_within new j false e, many)) (r.elsewhere j e) (taken_at j (r.closed j e));
    }
      where
        many : length new ≡ turns.count
        many = r.as_many ∙ length-set due k false ∙ s.as_many

    -- where the table stays
    pub settled_same : after ≡ before → AreSettled turns after (slice_set due k false)
    settled_same same = record { as_many = length-set due k false ∙ s.as_many; settled = λ j e. by j (false_after due k j false (omega (arith, below, s.as_many)) e) }
      where
        by : (j : ℕ) → ((j ≡ k) × (false ≡ false)) ⊎ ((j ≢ k) × (slice_get due j ≡ Some false)) → IsTurn turns j after after
        by j (inl p) = subst (λ (i : ℕ). IsTurn turns i after after) (sym p.0) (subst (λ (t : RunTable). IsTurn turns k t after) (sym same) turn)
        by j (inr p) = subst (λ (t : RunTable). IsTurn turns j t t) (sym same) (s.settled j p.1)
