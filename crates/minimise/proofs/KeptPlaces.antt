-- Places of which those are taken out at which a row is true only where one at another is.
use Rattle.std.proofs.Common.{◌≡◌, ◌≢◌, ◌⊎◌, inl, inr, ℕ, zero, suc, ◌+◌, ◌-◌, ◌<◌, ◌≤◌, Bool, true, false, List, [], ◌∷◌, length, slice_index_or, refl, sym, ap, ◌∙◌, subst, arith, below_more}
use Rattle.std.specs.Prelude.{All, remove}
use Rattle.std.specs.List.{range_with_len}
use Rattle.std.proofs.lemmas.Bool.{cases_eq, cases_lt, cases_order}
use Rattle.std.proofs.lemmas.List.{get_or_default}
use Rattle.std.proofs.lemmas.List.Edits.{length-remove, get_or-remove_below, get_or-remove_above}
use Rattle.std.proofs.lemmas.List.Elements.{All-from_get_or}
use Rattle.flat_rows.specs.Flat.{marked}
use Rattle.sat_matrix.specs.Tables.{bits_of, IsWithin, IsWithinSome, IsCoveredAmong}
use Rattle.minimise.specs.Facets.{AreRising, AreKept, AreUneven, IsUneven, AreGreatest}
use Rattle.minimise.proofs.FacetLemmas.{within_self}

-- ---- marked indices rise
least : (marks : List Bool) (a n k : ℕ) → k < length (marked marks (range_with_len a n)) → a ≤ slice_index_or (marked marks (range_with_len a n)) k 0
least [] a n k h = absurd (omega (arith, h))
least (m ∷ marks) a zero k h = absurd (omega (arith, h))
least (true ∷ marks) a (suc n) zero h = omega arith
least (true ∷ marks) a (suc n) (suc k) h = omega (arith, least marks (a + 1) n k (omega (arith, h)))
least (false ∷ marks) a (suc n) k h = omega (arith, least marks (a + 1) n k h)

pub rising_marked : (marks : List Bool) (a n : ℕ) → AreRising (marked marks (range_with_len a n))
rising_marked [] a n k m l h = absurd (omega (arith, h))
rising_marked (b ∷ marks) a zero k m l h = absurd (omega (arith, h))
rising_marked (true ∷ marks) a (suc n) k zero l h = absurd (omega (arith, l))
rising_marked (true ∷ marks) a (suc n) zero (suc m) l h = omega (arith, least marks (a + 1) n m (omega (arith, h)))
rising_marked (true ∷ marks) a (suc n) (suc k) (suc m) l h = rising_marked marks (a + 1) n k m (omega (arith, l)) (omega (arith, h))
rising_marked (false ∷ marks) a (suc n) k m l h = rising_marked marks (a + 1) n k m l h

-- ---- a place that is taken out
-- a place of the shorter list in the longer one
record ComesAfter (xs : List ℕ) (at k : ℕ) : Type 0 where
  place : ℕ
  below : place < length xs
  same : slice_index_or (remove xs at) k 0 ≡ slice_index_or xs place 0
  which : ((k < at) × (place ≡ k)) ⊎ ((at ≤ k) × (place ≡ k + 1))

module _ (xs : List ℕ) (at : ℕ) (h : at < length xs) where
  size : length (remove xs at) + 1 ≡ length xs
  size = length-remove xs at h

  comes : (k : ℕ) → k < length (remove xs at) → ComesAfter xs at k
  comes k b = by_order (cases_lt k at)
    where
      by_order : (k < at) ⊎ (at ≤ k) → ComesAfter xs at k
      by_order (inl l) = record { place = k; below = omega (arith, b, size); same = get_or-remove_below xs at 0 k l h; which = inl (l, refl) }
      by_order (inr l) = record { place = k + 1; below = omega (arith, b, size); same = get_or-remove_above xs at 0 k l h; which = inr (l, refl) }

  pub rising_removed : AreRising xs → AreRising (remove xs at)
  rising_removed rising k m l b =
      let first : ComesAfter xs at k = comes k (omega (arith, l, b)) in
      let second : ComesAfter xs at m = comes m b in
      omega (arith, first.same, second.same, rising first.place second.place (in_order first second) second.below)
    where
      in_order : (first : ComesAfter xs at k) → (second : ComesAfter xs at m) → first.place < second.place
      in_order first second = by_both first.place second.place first.which second.which
        where
          by_both : (p q : ℕ) → ((k < at) × (p ≡ k)) ⊎ ((at ≤ k) × (p ≡ k + 1)) → ((m < at) × (q ≡ m)) ⊎ ((at ≤ m) × (q ≡ m + 1)) → p < q
          by_both p q (inl x) (inl y) = omega (arith, x.1, y.1, l)
          by_both p q (inl x) (inr y) = omega (arith, x.1, y.1, l)
          by_both p q (inr x) (inl y) = omega (arith, x.0, x.1, y.0, y.1, l)
          by_both p q (inr x) (inr y) = omega (arith, x.1, y.1, l)

  -- the place of another element in the shorter list
  pub goes : (r : ℕ) → r < length xs → r ≢ at → (q : ℕ) × (q < length (remove xs at)) × (slice_index_or (remove xs at) q 0 ≡ slice_index_or xs r 0)
  goes r b ne = by_order (cases_order r at)
    where
      one_less : (r : ℕ) → at < r → (r - 1) + 1 ≡ r
      one_less r l = omega (arith, l)

      by_order : (r ≡ at) ⊎ ((r < at) ⊎ (at < r)) → (q : ℕ) × (q < length (remove xs at)) × (slice_index_or (remove xs at) q 0 ≡ slice_index_or xs r 0)
      by_order (inl e) = absurd (ne e)
      by_order (inr (inl l)) = (r, omega (arith, l, h, size), get_or-remove_below xs at 0 r l h)
      by_order (inr (inr l)) = (r - 1, omega (arith, l, b, size), get_or-remove_above xs at 0 (r - 1) (omega (arith, l)) h ∙ ap (λ (n : ℕ). slice_index_or xs n 0) (one_less r l))

  pub uneven_removed : (rows : List (List Bool)) → All (IsUneven rows) xs → All (IsUneven rows) (remove xs at)
  uneven_removed rows all = All-from_get_or (IsUneven rows) (remove xs at) 0 (λ k b. let c : ComesAfter xs at k = comes k b in subst (IsUneven rows) (sym c.same) (all c.place 0 c.below))

  -- what covers among fewer places covers among all
  pub covered_before : (rows : List (List Bool)) (i : ℕ) → IsCoveredAmong rows i (remove xs at) → IsCoveredAmong rows i xs
  covered_before rows i c =
      let p : ComesAfter xs at c.0 = comes c.0 c.1 in
      (p.place, p.below, subst (λ (n : ℕ). n ≢ i) p.same c.2, subst (λ (n : ℕ). IsWithin (bits_of rows i) (bits_of rows n)) p.same c.3)

  -- what the row at the place led, the one that covers it leads
  pub led_removed : (rows : List (List Bool)) (width : ℕ) → ((i : ℕ) → i < length rows → length (bits_of rows i) ≡ width) → All (IsUneven rows) xs → IsCoveredAmong rows (slice_index_or xs at 0) xs → (i : ℕ) → i < length rows → IsWithinSome rows i xs → IsWithinSome rows i (remove xs at)
  led_removed rows width wide all covered i b l = by_place (cases_eq l.0 at)
    where
      P : ℕ → Type 0
      P n = IsWithin (bits_of rows i) (bits_of rows n)

      at_row : slice_index_or xs at 0 < length rows
      at_row = (all at 0 h).0

      other : covered.0 ≢ at
      other e = covered.2 (ap (λ (n : ℕ). slice_index_or xs n 0) e)

      by_place : (l.0 ≡ at) ⊎ (l.0 ≡ at → ⊥) → IsWithinSome rows i (remove xs at)
      by_place (inr ne) = let q = goes l.0 l.1 ne in (q.0, q.1, subst (λ (n : ℕ). IsWithin (bits_of rows i) (bits_of rows n)) (sym q.2) l.2)
      by_place (inl e) =
          let q = goes covered.0 covered.1 other in
          let first : IsWithin (bits_of rows i) (bits_of rows (slice_index_or xs at 0)) = subst (λ (m : ℕ). IsWithin (bits_of rows i) (bits_of rows (slice_index_or xs m 0))) e l.2 in
          let both : IsWithin (bits_of rows i) (bits_of rows (slice_index_or xs covered.0 0)) = λ c k t u. let there = first c k t u in covered.3 c (omega (arith, k, wide i b, wide (slice_index_or xs at 0) at_row)) there there in
          (q.0, q.1, subst (λ (n : ℕ). IsWithin (bits_of rows i) (bits_of rows n)) (sym q.2) both)

-- ---- the whole
pub kept_at_first : (rows : List (List Bool)) (places : List ℕ) → AreUneven rows places → AreRising places → AreKept rows places 0
kept_at_first rows places all rising = record {
  uneven = all.uneven;
  rising = rising;
  led = λ i u.
      let c = all.each i u in
      (c.0, c.1, subst (λ (n : ℕ). IsWithin (bits_of rows i) (bits_of rows n)) (sym (get_or_default places c.0 0 i c.1 ∙ c.2)) (within_self (bits_of rows i)));
  apart = λ k h. absurd (omega (arith, h));
}

pub kept_more : (rows : List (List Bool)) (places : List ℕ) (at : ℕ) → AreKept rows places at → ¬ (IsCoveredAmong rows (slice_index_or places at 0) places) → AreKept rows places (at + 1)
kept_more rows places at kept free = record {
  uneven = kept.uneven;
  rising = kept.rising;
  led = kept.led;
  apart = below_more (λ k. ¬ (IsCoveredAmong rows (slice_index_or places k 0) places)) at kept.apart free;
}

pub kept_removed : (rows : List (List Bool)) (width : ℕ) (places : List ℕ) (at : ℕ) → ((i : ℕ) → i < length rows → length (bits_of rows i) ≡ width) → at < length places → AreKept rows places at → IsCoveredAmong rows (slice_index_or places at 0) places → AreKept rows (remove places at) at
kept_removed rows width places at wide h kept covered = record {
  uneven = uneven_removed places at h rows kept.uneven;
  rising = rising_removed places at h kept.rising;
  led = λ i u. led_removed places at h rows width wide kept.uneven covered i u.0 (kept.led i u);
  apart = λ k l c. kept.apart k l (covered_before places at h rows (slice_index_or places k 0) (subst (λ (n : ℕ). IsCoveredAmong rows n (remove places at)) (get_or-remove_below places at 0 k l h) c));
}

pub greatest_kept : (rows : List (List Bool)) (places : List ℕ) (end : ℕ) → length places ≤ end → AreKept rows places end → AreGreatest rows places
greatest_kept rows places end e kept = record {
  uneven = kept.uneven;
  apart = λ k m hk hm ne w. kept.apart k (omega (arith, hk, e)) (m, hm, distinct k m hk hm ne (cases_order k m), w);
  each = kept.led;
}
  where
    distinct : (k m : ℕ) → k < length places → m < length places → k ≢ m → (k ≡ m) ⊎ ((k < m) ⊎ (m < k)) → slice_index_or places m 0 ≢ slice_index_or places k 0
    distinct k m hk hm ne (inl s) same = ne s
    distinct k m hk hm ne (inr (inl l)) same = omega (arith, kept.rising k m l hm, same)
    distinct k m hk hm ne (inr (inr l)) same = omega (arith, kept.rising m k l hk, same)
