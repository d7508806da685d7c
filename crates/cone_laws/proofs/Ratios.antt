-- Numbers x and y of finitely many rays: a multiple of y less a multiple of x that is at least 0 on each ray.
use Rattle.std.proofs.Common.{◌≡◌, ◌⊎◌, inl, inr, ℕ, zero, suc, ◌<◌, ℤ, pos, ◌+ℤ◌, ◌-ℤ◌, ◌*ℤ◌, neg_ℤ, ◌≤ℤ◌, ◌<ℤ◌, ap, ◌∙◌, subst, arith}
use Rattle.std.proofs.lemmas.Int.{ints}
use Rattle.std.proofs.Math.Nat.{eq-or-lt_of_le}
use Rattle.row_core.proofs.Ring.{ring, mul_comm, mul-zero, mul-at_least_zero, at_least_zero_of_mul, by_sign, at_least_zero_or_not}

-- ---- the least ratio of y to x
record Least (count : ℕ) (x y : ℕ → ℤ) : Type 0 where
  index : ℕ
  below : index < count
  positive : pos 0 <ℤ x index
  least : (j : ℕ) → j < count → pos 0 <ℤ x j → pos 0 ≤ℤ (y j *ℤ x index -ℤ y index *ℤ x j)

least_through : (xb yb xc yc xj yj : ℤ) → pos 0 <ℤ xb → pos 0 <ℤ xc → pos 0 <ℤ xj → pos 0 ≤ℤ (yj *ℤ xb -ℤ yb *ℤ xj) → pos 0 ≤ℤ (yb *ℤ xc -ℤ yc *ℤ xb) → pos 0 ≤ℤ (yj *ℤ xc -ℤ yc *ℤ xj)
least_through xb yb xc yc xj yj p q r f g =
    let s : pos 0 ≤ℤ (xc *ℤ (yj *ℤ xb -ℤ yb *ℤ xj)) = mul-at_least_zero xc (yj *ℤ xb -ℤ yb *ℤ xj) (omega (arith, ints, q)) f in
    let t : pos 0 ≤ℤ (xj *ℤ (yb *ℤ xc -ℤ yc *ℤ xb)) = mul-at_least_zero xj (yb *ℤ xc -ℤ yc *ℤ xb) (omega (arith, ints, r)) g in
    let e : xb *ℤ (yj *ℤ xc -ℤ yc *ℤ xj) ≡ xc *ℤ (yj *ℤ xb -ℤ yb *ℤ xj) +ℤ xj *ℤ (yb *ℤ xc -ℤ yc *ℤ xb) = simp ring (omega (arith, ints)) in
    at_least_zero_of_mul xb (yj *ℤ xc -ℤ yc *ℤ xj) p (omega (arith, ints, e, s, t))

same_ratio : (x y : ℤ) → pos 0 ≤ℤ (y *ℤ x -ℤ y *ℤ x)
same_ratio x y = omega (arith, ints)

not_positive : (x : ℤ) → x ≤ℤ pos 0 → pos 0 <ℤ x → ⊥
not_positive x h k = omega (arith, ints)

strict : (x : ℤ) → x <ℤ pos 0 → x ≤ℤ pos 0
strict x h = omega (arith, ints)

zero_at_most : (x : ℤ) → x ≡ pos 0 → x ≤ℤ pos 0
zero_at_most x h = omega (arith, ints)

turned : (x : ℤ) → x <ℤ pos 0 → pos 0 ≤ℤ neg_ℤ x
turned x h = omega (arith, ints)

neg_difference : (u v : ℤ) → pos 0 ≤ℤ neg_ℤ (u -ℤ v) → pos 0 ≤ℤ (v -ℤ u)
neg_difference u v h = omega (arith, ints)

-- the last number is no more than 0, or above 0
not_more : (c : ℕ) (x y : ℕ → ℤ) → x c ≤ℤ pos 0 → ((j : ℕ) → j < c → x j ≤ℤ pos 0) ⊎ Least c x y → ((j : ℕ) → j < suc c → x j ≤ℤ pos 0) ⊎ Least (suc c) x y
not_more c x y h (inl n) = inl (λ j l. by_place j (eq-or-lt_of_le l))
  where
    by_place : (j : ℕ) → (suc j ≡ suc c) ⊎ (suc j < suc c) → x j ≤ℤ pos 0
    by_place j (inl e) = subst (λ (i : ℕ). x i ≤ℤ pos 0) (omega arith) h
    by_place j (inr l) = n j (omega arith)
not_more c x y h (inr b) = inr (record {
  index = b.index;
  below = omega (arith, b.below);
  positive = b.positive;
  least = λ j l p. by_place j p (eq-or-lt_of_le l);
})
  where
    by_place : (j : ℕ) → pos 0 <ℤ x j → (suc j ≡ suc c) ⊎ (suc j < suc c) → pos 0 ≤ℤ (y j *ℤ x b.index -ℤ y b.index *ℤ x j)
    by_place j p (inl e) = absurd (not_positive (x j) (subst (λ (i : ℕ). x i ≤ℤ pos 0) (omega arith) h) p)
    by_place j p (inr l) = b.least j (omega arith) p

one_more : (c : ℕ) (x y : ℕ → ℤ) → pos 0 <ℤ x c → ((j : ℕ) → j < c → x j ≤ℤ pos 0) → Least (suc c) x y
one_more c x y h n = record {
  index = c;
  below = omega arith;
  positive = h;
  least = λ j l p. by_place j p (eq-or-lt_of_le l);
}
  where
    by_place : (j : ℕ) → pos 0 <ℤ x j → (suc j ≡ suc c) ⊎ (suc j < suc c) → pos 0 ≤ℤ (y j *ℤ x c -ℤ y c *ℤ x j)
    by_place j p (inl e) = subst (λ (i : ℕ). pos 0 ≤ℤ (y i *ℤ x c -ℤ y c *ℤ x i)) (omega arith) (same_ratio (x c) (y c))
    by_place j p (inr l) = absurd (not_positive (x j) (n j (omega arith)) p)

better : (c : ℕ) (x y : ℕ → ℤ) → pos 0 <ℤ x c → (b : Least c x y) → (pos 0 ≤ℤ (y c *ℤ x b.index -ℤ y b.index *ℤ x c)) ⊎ ((y c *ℤ x b.index -ℤ y b.index *ℤ x c) <ℤ pos 0) → Least (suc c) x y
better c x y h b (inl d) = record {
  index = b.index;
  below = omega (arith, b.below);
  positive = b.positive;
  least = λ j l p. by_place j p (eq-or-lt_of_le l);
}
  where
    by_place : (j : ℕ) → pos 0 <ℤ x j → (suc j ≡ suc c) ⊎ (suc j < suc c) → pos 0 ≤ℤ (y j *ℤ x b.index -ℤ y b.index *ℤ x j)
    by_place j p (inl e) = subst (λ (i : ℕ). pos 0 ≤ℤ (y i *ℤ x b.index -ℤ y b.index *ℤ x i)) (omega arith) d
    by_place j p (inr l) = b.least j (omega arith) p
better c x y h b (inr d) = record {
  index = c;
  below = omega arith;
  positive = h;
  least = λ j l p. by_place j p (eq-or-lt_of_le l);
}
  where
    by_place : (j : ℕ) → pos 0 <ℤ x j → (suc j ≡ suc c) ⊎ (suc j < suc c) → pos 0 ≤ℤ (y j *ℤ x c -ℤ y c *ℤ x j)
    by_place j p (inl e) = subst (λ (i : ℕ). pos 0 ≤ℤ (y i *ℤ x c -ℤ y c *ℤ x i)) (omega arith) (same_ratio (x c) (y c))
    by_place j p (inr l) = least_through (x b.index) (y b.index) (x c) (y c) (x j) (y j) b.positive h p (b.least j (omega arith) p)
        (neg_difference (y c *ℤ x b.index) (y b.index *ℤ x c) (turned (y c *ℤ x b.index -ℤ y b.index *ℤ x c) d))

positive_last : (c : ℕ) (x y : ℕ → ℤ) → pos 0 <ℤ x c → ((j : ℕ) → j < c → x j ≤ℤ pos 0) ⊎ Least c x y → Least (suc c) x y
positive_last c x y h (inl n) = one_more c x y h n
positive_last c x y h (inr b) = better c x y h b (at_least_zero_or_not (y c *ℤ x b.index -ℤ y b.index *ℤ x c))

by_last : (c : ℕ) (x y : ℕ → ℤ) → ((j : ℕ) → j < c → x j ≤ℤ pos 0) ⊎ Least c x y → (pos 0 <ℤ x c) ⊎ ((x c <ℤ pos 0) ⊎ (x c ≡ pos 0)) → ((j : ℕ) → j < suc c → x j ≤ℤ pos 0) ⊎ Least (suc c) x y
by_last c x y i (inl s) = inr (positive_last c x y s i)
by_last c x y i (inr (inl s)) = not_more c x y (strict (x c) s) i
by_last c x y i (inr (inr s)) = not_more c x y (zero_at_most (x c) s) i

-- no x is above 0, or there is a least ratio
least_ratio : (count : ℕ) (x y : ℕ → ℤ) → ((j : ℕ) → j < count → x j ≤ℤ pos 0) ⊎ Least count x y
least_ratio zero x y = inl (λ j l. absurd (omega arith))
least_ratio (suc c) x y = by_last c x y (least_ratio c x y) (by_sign (x c))

-- ---- the shift
-- times y less part times x is at least 0 throughout, and part is at least 0 where y is where x is above 0
pub record IsShift (count : ℕ) (x y : ℕ → ℤ) : Type 0 where
  pub times : ℤ
  pub positive : pos 0 <ℤ times
  pub part : ℤ
  pub shifted : (j : ℕ) → j < count → pos 0 ≤ℤ (times *ℤ y j -ℤ part *ℤ x j)
  pub upward : ((j : ℕ) → j < count → pos 0 <ℤ x j → pos 0 ≤ℤ y j) → pos 0 ≤ℤ part

shift_swap : (t y p x : ℤ) → pos 0 ≤ℤ (y *ℤ t -ℤ p *ℤ x) → pos 0 ≤ℤ (t *ℤ y -ℤ p *ℤ x)
shift_swap t y p x h = let e : y *ℤ t ≡ t *ℤ y = mul_comm y t in omega (arith, ints, h, e)

shift_zero : (t y p x : ℤ) → pos 0 <ℤ t → x ≡ pos 0 → pos 0 ≤ℤ y → pos 0 ≤ℤ (t *ℤ y -ℤ p *ℤ x)
shift_zero t y p x h e k =
    let f = ap (λ (z : ℤ). p *ℤ z) e ∙ mul-zero p in
    let g : pos 0 ≤ℤ (t *ℤ y) = mul-at_least_zero t y (omega (arith, ints)) k in
    omega (arith, ints, f, g)

shift_pair : (xb yb xj yj : ℤ) → pos 0 ≤ℤ (xb *ℤ yj -ℤ xj *ℤ yb) → pos 0 ≤ℤ (xb *ℤ yj -ℤ yb *ℤ xj)
shift_pair xb yb xj yj h = let e : xj *ℤ yb ≡ yb *ℤ xj = mul_comm xj yb in omega (arith, ints, h, e)

once_shift : (y x : ℤ) → pos 0 ≤ℤ y → pos 0 ≤ℤ (pos 1 *ℤ y -ℤ pos 0 *ℤ x)
once_shift y x h = omega (arith, ints)

-- among rays beneath: the ratio of one at least 0 makes all y at least 0
beneath_least : (xn yn xj yj : ℤ) → pos 0 <ℤ neg_ℤ xn → pos 0 <ℤ neg_ℤ xj → pos 0 ≤ℤ yn → pos 0 ≤ℤ (yj *ℤ neg_ℤ xn -ℤ yn *ℤ neg_ℤ xj) → pos 0 ≤ℤ yj
beneath_least xn yn xj yj p q r h =
    let s : pos 0 ≤ℤ (yn *ℤ neg_ℤ xj) = mul-at_least_zero yn (neg_ℤ xj) r (omega (arith, ints)) in
    let e : neg_ℤ xn *ℤ yj ≡ yj *ℤ neg_ℤ xn = mul_comm (neg_ℤ xn) yj in
    at_least_zero_of_mul (neg_ℤ xn) yj p (omega (arith, ints, h, s, e))

beneath_shift : (xn yn xj yj : ℤ) → pos 0 ≤ℤ (yj *ℤ neg_ℤ xn -ℤ yn *ℤ neg_ℤ xj) → pos 0 ≤ℤ (neg_ℤ xn *ℤ yj -ℤ neg_ℤ yn *ℤ xj)
beneath_shift xn yn xj yj h =
    let e : neg_ℤ xn *ℤ yj -ℤ neg_ℤ yn *ℤ xj ≡ yj *ℤ neg_ℤ xn -ℤ yn *ℤ neg_ℤ xj = simp ring (omega (arith, ints)) in
    omega (arith, ints, e, h)

neg_positive : (x : ℤ) → x <ℤ pos 0 → pos 0 <ℤ neg_ℤ x
neg_positive x h = omega (arith, ints)

neg_not_more : (x : ℤ) → neg_ℤ x ≤ℤ pos 0 → x ≤ℤ pos 0 → x ≡ pos 0
neg_not_more x h k = omega (arith, ints)

module _ (count : ℕ) (x y : ℕ → ℤ) (level : (j : ℕ) → j < count → x j ≡ pos 0 → pos 0 ≤ℤ y j) (pairs : (p n : ℕ) → p < count → n < count → pos 0 <ℤ x p → x n <ℤ pos 0 → pos 0 ≤ℤ (x p *ℤ y n -ℤ x n *ℤ y p)) where
  shift_by_least : Least count x y → IsShift count x y
  shift_by_least b = record {
    times = x b.index;
    positive = b.positive;
    part = y b.index;
    shifted = λ j l. by_value j l (by_sign (x j));
    upward = λ h. h b.index b.below b.positive;
  }
    where
      by_value : (j : ℕ) → j < count → (pos 0 <ℤ x j) ⊎ ((x j <ℤ pos 0) ⊎ (x j ≡ pos 0)) → pos 0 ≤ℤ (x b.index *ℤ y j -ℤ y b.index *ℤ x j)
      by_value j l (inl s) = shift_swap (x b.index) (y j) (y b.index) (x j) (b.least j l s)
      by_value j l (inr (inl s)) = shift_pair (x b.index) (y b.index) (x j) (y j) (pairs b.index j b.below l b.positive s)
      by_value j l (inr (inr s)) = shift_zero (x b.index) (y j) (y b.index) (x j) b.positive s (level j l s)

  -- no x is above 0
  shift_none : ((j : ℕ) → j < count → pos 0 ≤ℤ y j) → IsShift count x y
  shift_none h = record {
    times = pos 1;
    positive = omega (arith, ints);
    part = pos 0;
    shifted = λ j l. once_shift (y j) (x j) (h j l);
    upward = λ k. omega (arith, ints);
  }

  shift_beneath : ((j : ℕ) → j < count → x j ≤ℤ pos 0) → (b : Least count (λ j. neg_ℤ (x j)) y) → (pos 0 ≤ℤ y b.index) ⊎ (y b.index <ℤ pos 0) → IsShift count x y
  shift_beneath n b (inl h) = shift_none (λ j l. by_value j l (by_sign (x j)))
    where
      by_value : (j : ℕ) → j < count → (pos 0 <ℤ x j) ⊎ ((x j <ℤ pos 0) ⊎ (x j ≡ pos 0)) → pos 0 ≤ℤ y j
      by_value j l (inl s) = absurd (not_positive (x j) (n j l) s)
      by_value j l (inr (inl s)) = beneath_least (x b.index) (y b.index) (x j) (y j) b.positive (neg_positive (x j) s) h (b.least j l (neg_positive (x j) s))
      by_value j l (inr (inr s)) = level j l s
  shift_beneath n b (inr h) = record {
    times = neg_ℤ (x b.index);
    positive = b.positive;
    part = neg_ℤ (y b.index);
    shifted = λ j l. by_value j l (by_sign (x j));
    upward = λ k. turned (y b.index) h;
  }
    where
      by_value : (j : ℕ) → j < count → (pos 0 <ℤ x j) ⊎ ((x j <ℤ pos 0) ⊎ (x j ≡ pos 0)) → pos 0 ≤ℤ (neg_ℤ (x b.index) *ℤ y j -ℤ neg_ℤ (y b.index) *ℤ x j)
      by_value j l (inl s) = absurd (not_positive (x j) (n j l) s)
      by_value j l (inr (inl s)) = beneath_shift (x b.index) (y b.index) (x j) (y j) (b.least j l (neg_positive (x j) s))
      by_value j l (inr (inr s)) = shift_zero (neg_ℤ (x b.index)) (y j) (neg_ℤ (y b.index)) (x j) b.positive s (level j l s)

  shift_not_above : ((j : ℕ) → j < count → x j ≤ℤ pos 0) → ((j : ℕ) → j < count → neg_ℤ (x j) ≤ℤ pos 0) ⊎ Least count (λ j. neg_ℤ (x j)) y → IsShift count x y
  shift_not_above n (inl m) = shift_none (λ j l. level j l (neg_not_more (x j) (m j l) (n j l)))
  shift_not_above n (inr b) = shift_beneath n b (at_least_zero_or_not (y b.index))

  shift_by : ((j : ℕ) → j < count → x j ≤ℤ pos 0) ⊎ Least count x y → IsShift count x y
  shift_by (inl n) = shift_not_above n (least_ratio count (λ j. neg_ℤ (x j)) y)
  shift_by (inr b) = shift_by_least b

  -- where y is at least 0 at each x of 0, and on the pair of any x above and any below 0
  pub shift : IsShift count x y
  shift = shift_by (least_ratio count x y)
