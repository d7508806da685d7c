-- The list of all pairs of adjacent rays on the two sides of a row.
use Rattle.std.proofs.Common.{◌≡◌, ◌≢◌, ◌⊎◌, inl, inr, ℕ, zero, suc, ◌<◌, ◌≤◌, List, [], ◌∷◌, ◌++◌, length, ℤ, pos, ◌<ℤ◌, refl, sym, ◌∙◌, subst, arith, length-append}
use Rattle.std.specs.Prelude.{Contains}
use Rattle.std.proofs.lemmas.Int.{ints}
use Rattle.std.proofs.lemmas.Bool.{cases_lt}
use Rattle.std.proofs.lemmas.List.{get_or_append_left, get_or_push}
use Rattle.std.proofs.lemmas.List.Elements.{Contains-append_left, Contains-push}
use Rattle.row_core.specs.Vectors.{dot}
use Rattle.row_core.specs.Lists.{Row, vector_at}
use Rattle.cone_laws.specs.Steps.{NoThird, IsCrossing}
use Rattle.row_core.specs.Pairs.{pair_at}
use Rattle.cone_laws.specs.SystemLaws.{AreAllCrossings}
use Rattle.row_core.proofs.Ring.{by_sign}
use Rattle.cone_laws.proofs.ThirdRay.{IsThird, third_or_none}

-- ---- whether two rays cross
module _ (rows : List Row) (k : ℕ) (a : List ℤ) (rays : List (List ℤ)) (p n : ℕ) where
  positive_or_not : (x : ℤ) → (pos 0 <ℤ x) ⊎ (¬ (pos 0 <ℤ x))
  positive_or_not x = by_case (by_sign x)
    where
      by_case : (pos 0 <ℤ x) ⊎ ((x <ℤ pos 0) ⊎ (x ≡ pos 0)) → (pos 0 <ℤ x) ⊎ (¬ (pos 0 <ℤ x))
      by_case (inl h) = inl h
      by_case (inr (inl h)) = inr (λ g. omega (arith, ints))
      by_case (inr (inr h)) = inr (λ g. omega (arith, ints))

  negative_or_not : (x : ℤ) → (x <ℤ pos 0) ⊎ (¬ (x <ℤ pos 0))
  negative_or_not x = by_case (by_sign x)
    where
      by_case : (pos 0 <ℤ x) ⊎ ((x <ℤ pos 0) ⊎ (x ≡ pos 0)) → (x <ℤ pos 0) ⊎ (¬ (x <ℤ pos 0))
      by_case (inl h) = inr (λ g. omega (arith, ints))
      by_case (inr (inl h)) = inl h
      by_case (inr (inr h)) = inr (λ g. omega (arith, ints))

  pub crossing_or_not : IsCrossing rows k a rays p n ⊎ (¬ (IsCrossing rows k a rays p n))
  crossing_or_not = by_parts (cases_lt p (length rays)) (cases_lt n (length rays)) (positive_or_not (dot a (vector_at rays p))) (negative_or_not (dot a (vector_at rays n))) (third_or_none rows rays p n k)
    where
      by_parts : (p < length rays) ⊎ (length rays ≤ p) → (n < length rays) ⊎ (length rays ≤ n) → (pos 0 <ℤ dot a (vector_at rays p)) ⊎ (¬ (pos 0 <ℤ dot a (vector_at rays p))) → (dot a (vector_at rays n) <ℤ pos 0) ⊎ (¬ (dot a (vector_at rays n) <ℤ pos 0)) → NoThird rows k rays p n ⊎ IsThird rows k rays p n → IsCrossing rows k a rays p n ⊎ (¬ (IsCrossing rows k a rays p n))
      by_parts (inr h) s u v t = inr (λ c. omega (arith, h, c.opposite.first))
      by_parts (inl h) (inr s) u v t = inr (λ c. omega (arith, s, c.opposite.second))
      by_parts (inl h) (inl s) (inr u) v t = inr (λ c. u c.opposite.above)
      by_parts (inl h) (inl s) (inl u) (inr v) t = inr (λ c. v c.opposite.below)
      by_parts (inl h) (inl s) (inl u) (inl v) (inr t) = inr (λ c. c.adjacent t.index t.below t.not_first t.not_second t.between)
      by_parts (inl h) (inl s) (inl u) (inl v) (inl t) = inl (record { opposite = record { first = h; second = s; above = u; below = v }; adjacent = t })

-- ---- lists of pairs
-- the pairs in the domain that have the property, each once
record IsListing (Q D : ℕ → ℕ → Type 0) : Type 0 where
  pairs : List (ℕ × ℕ)
  each : (i : ℕ) → i < length pairs → Q (pair_at pairs i).0 (pair_at pairs i).1
  within : (i : ℕ) → i < length pairs → D (pair_at pairs i).0 (pair_at pairs i).1
  all : (p n : ℕ) → D p n → Q p n → Contains pairs (p, n)
  distinct : (i j : ℕ) → i < length pairs → j < length pairs → i ≢ j → pair_at pairs i ≢ pair_at pairs j

-- one pair more in the domain
abbrev With : (ℕ → ℕ → Type 0) → ℕ → ℕ → ℕ → ℕ → Type 0
With D p0 n0 p n = D p n ⊎ ((p ≡ p0) × (n ≡ n0))

-- the same domain, as far as the property holds
listing_as : (Q D E : ℕ → ℕ → Type 0) → ((p n : ℕ) → D p n → E p n) → ((p n : ℕ) → E p n → Q p n → D p n) → IsListing Q D → IsListing Q E
listing_as Q D E f g l = record {
  pairs = l.pairs;
  each = l.each;
  within = λ i h. f (pair_at l.pairs i).0 (pair_at l.pairs i).1 (l.within i h);
  all = λ p n e q. l.all p n (g p n e q) q;
  distinct = l.distinct;
}

listing_more : (Q D : ℕ → ℕ → Type 0) (p0 n0 : ℕ) → ¬ (D p0 n0) → Q p0 n0 ⊎ (¬ (Q p0 n0)) → IsListing Q D → IsListing Q (With D p0 n0)
listing_more Q D p0 n0 new (inr none) l = listing_as Q D (With D p0 n0) (λ p n d. inl d) back l
  where
    back : (p n : ℕ) → With D p0 n0 p n → Q p n → D p n
    back p n (inl d) q = d
    back p n (inr (e, f)) q = absurd (none (subst (λ (m : ℕ). Q m n0) e (subst (λ (m : ℕ). Q p m) f q)))
listing_more Q D p0 n0 new (inl some) l = record {
  pairs = pairs;
  each = λ i h. by_place (λ (x : ℕ × ℕ). Q x.0 x.1) i (split i h) (l.each i) some;
  within = λ i h. by_place (λ (x : ℕ × ℕ). With D p0 n0 x.0 x.1) i (split i h) (λ g. inl (l.within i g)) (inr (refl, refl));
  all = all;
  distinct = λ i j h g ne. apart i j (split i h) (split j g) ne;
}
  where
    pairs : List (ℕ × ℕ)
    pairs = l.pairs ++ (p0, n0) ∷ []

    split : (i : ℕ) → i < length pairs → (i < length l.pairs) ⊎ (i ≡ length l.pairs)
    split i h = by_case (cases_lt i (length l.pairs))
      where
        by_case : (i < length l.pairs) ⊎ (length l.pairs ≤ i) → (i < length l.pairs) ⊎ (i ≡ length l.pairs)
        by_case (inl g) = inl g
        by_case (inr g) = inr (omega (arith, h, g, length-append l.pairs ((p0, n0) ∷ [])))

    before : (i : ℕ) → i < length l.pairs → pair_at pairs i ≡ pair_at l.pairs i
    before i h = get_or_append_left l.pairs ((p0, n0) ∷ []) (0, 0) i h

    last : (i : ℕ) → i ≡ length l.pairs → pair_at pairs i ≡ (p0, n0)
    last i e = get_or_push l.pairs (p0, n0) (0, 0) i (sym e)

    by_place : (P : ℕ × ℕ → Type 0) (i : ℕ) → (i < length l.pairs) ⊎ (i ≡ length l.pairs) → (i < length l.pairs → P (pair_at l.pairs i)) → P (p0, n0) → P (pair_at pairs i)
    by_place P i (inl h) old here = subst P (sym (before i h)) (old h)
    by_place P i (inr e) old here = subst P (sym (last i e)) here

    all : (p n : ℕ) → With D p0 n0 p n → Q p n → Contains pairs (p, n)
    all p n (inl d) q = Contains-append_left l.pairs ((p0, n0) ∷ []) (p, n) (l.all p n d q)
    all p n (inr (e, f)) q =
        subst (λ (m : ℕ). Contains pairs (m, n)) (sym e) (subst (λ (m : ℕ). Contains pairs (p0, m)) (sym f) (Contains-push l.pairs (p0, n0)))

    not_last : (i : ℕ) → i < length l.pairs → pair_at l.pairs i ≢ (p0, n0)
    not_last i h e = new (subst (λ (x : ℕ × ℕ). D x.0 x.1) e (l.within i h))

    apart : (i j : ℕ) → (i < length l.pairs) ⊎ (i ≡ length l.pairs) → (j < length l.pairs) ⊎ (j ≡ length l.pairs) → i ≢ j → pair_at pairs i ≢ pair_at pairs j
    apart i j (inl h) (inl g) ne e = l.distinct i j h g ne (sym (before i h) ∙ e ∙ before j g)
    apart i j (inl h) (inr g) ne e = not_last i h (sym (before i h) ∙ e ∙ last j g)
    apart i j (inr h) (inl g) ne e = not_last j g (sym (before j g) ∙ sym e ∙ last i h)
    apart i j (inr h) (inr g) ne e = ne (h ∙ sym g)

-- the first index is below b, or it is b and the second is below c
abbrev IsBefore : ℕ → ℕ → ℕ → ℕ → Type 0
IsBefore b c p n = (p < b) ⊎ ((p ≡ b) × (n < c))

module _ (Q : ℕ → ℕ → Type 0) (bound : ℕ) (first : (p n : ℕ) → Q p n → p < bound) (second : (p n : ℕ) → Q p n → n < bound) (decide : (p n : ℕ) → Q p n ⊎ (¬ (Q p n))) where
  listing_row : (b c : ℕ) → IsListing Q (IsBefore b 0) → IsListing Q (IsBefore b c)
  listing_row b zero l = l
  listing_row b (suc c) l = listing_as Q (With (IsBefore b c) b c) (IsBefore b (suc c)) forth back (listing_more Q (IsBefore b c) b c new (decide b c) (listing_row b c l))
    where
      new : ¬ (IsBefore b c b c)
      new (inl h) = omega arith
      new (inr (e, h)) = omega arith

      forth : (p n : ℕ) → With (IsBefore b c) b c p n → IsBefore b (suc c) p n
      forth p n (inl (inl h)) = inl h
      forth p n (inl (inr (e, h))) = inr (e, omega arith)
      forth p n (inr (e, f)) = inr (e, omega arith)

      by_last : (p n : ℕ) → p ≡ b → (n < c) ⊎ (c ≤ n) → n < suc c → With (IsBefore b c) b c p n
      by_last p n e (inl h) g = inl (inr (e, h))
      by_last p n e (inr h) g = inr (e, omega arith)

      back : (p n : ℕ) → IsBefore b (suc c) p n → Q p n → With (IsBefore b c) b c p n
      back p n (inl h) q = inl (inl h)
      back p n (inr (e, h)) q = by_last p n e (cases_lt n c) h

  listing_none : IsListing Q (IsBefore 0 0)
  listing_none = record {
    pairs = [];
    each = λ i h. absurd (omega arith);
    within = λ i h. absurd (omega arith);
    all = none;
    distinct = λ i j h g ne. absurd (omega arith);
  }
    where
      none : (p n : ℕ) → IsBefore 0 0 p n → Q p n → Contains {X = ℕ × ℕ} [] (p, n)
      none p n (inl h) q = absurd (omega arith)
      none p n (inr (e, h)) q = absurd (omega arith)

  listing_upto : (b : ℕ) → IsListing Q (IsBefore b 0)
  listing_upto zero = listing_none
  listing_upto (suc b) = listing_as Q (IsBefore b bound) (IsBefore (suc b) 0) forth back (listing_row b bound (listing_upto b))
    where
      forth : (p n : ℕ) → IsBefore b bound p n → IsBefore (suc b) 0 p n
      forth p n (inl h) = inl (omega arith)
      forth p n (inr (e, h)) = inl (omega arith)

      by_first : (p n : ℕ) → (p < b) ⊎ (b ≤ p) → p < suc b → Q p n → IsBefore b bound p n
      by_first p n (inl h) g q = inl h
      by_first p n (inr h) g q = inr (omega arith, second p n q)

      back : (p n : ℕ) → IsBefore (suc b) 0 p n → Q p n → IsBefore b bound p n
      back p n (inl h) q = by_first p n (cases_lt p b) h q
      back p n (inr (e, h)) q = absurd (omega arith)

  listing_all : IsListing Q (IsBefore bound 0)
  listing_all = listing_upto bound

-- ---- the pairs of a step
pub record HasCrossings (rows : List Row) (k : ℕ) (a : List ℤ) (rays : List (List ℤ)) : Type 0 where
  pub pairs : List (ℕ × ℕ)
  pub are_all : AreAllCrossings rows k a rays pairs

pub crossings : (rows : List Row) (k : ℕ) (a : List ℤ) (rays : List (List ℤ)) → HasCrossings rows k a rays
crossings rows k a rays = from_listing (listing_all (IsCrossing rows k a rays) (length rays) (λ p n c. c.opposite.first) (λ p n c. c.opposite.second) (crossing_or_not rows k a rays))
  where
    from_listing : IsListing (IsCrossing rows k a rays) (IsBefore (length rays) 0) → HasCrossings rows k a rays
    from_listing l = record {
      pairs = l.pairs;
      are_all = record { cross = l.each; all = λ p n c. l.all p n (inl c.opposite.first) c; distinct = l.distinct };
    }
