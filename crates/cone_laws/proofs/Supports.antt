use Rattle.std.specs.Prelude.{◌≡◌, ℕ, zero, suc, ℤ, pos, ◌+ℤ◌, ◌-ℤ◌, ◌≤ℤ◌, ◌<ℤ◌, ◌+◌, ◌<◌, ◌≤◌, ◌⊎◌}
use Rattle.std.proofs.Common.{arith, refl, inl, inr}
use Rattle.std.proofs.Math.IntN.{◌*ℤ◌, negsuc}
use Rattle.std.proofs.lemmas.Int.{ints}
use Rattle.row_core.proofs.Ring.{ring, mul-at_least_zero, at_least_zero_of_mul}

-- 1 for a number that isn't 0
abbrev pub one_unless_zero : ℤ → ℕ
one_unless_zero (pos zero) = 0
one_unless_zero (pos (suc n)) = 1
one_unless_zero (negsuc n) = 1

-- how many of the first k numbers aren't 0
abbrev pub support : ℕ → (ℕ → ℤ) → ℕ
support zero c = 0
support (suc k) c = one_unless_zero (c k) + support k c

-- where the one is 0, the other is too
abbrev pub IsZeroWith : ℕ → (ℕ → ℤ) → (ℕ → ℤ) → Type 0
IsZeroWith k c d = (i : ℕ) → i < k → c i ≡ pos 0 → d i ≡ pos 0

one_unless_zero-le : (a b : ℤ) → (a ≡ pos 0 → b ≡ pos 0) → one_unless_zero b ≤ one_unless_zero a
one_unless_zero-le (pos zero) b h = rw (h refl) (omega arith)
one_unless_zero-le (pos (suc a)) (pos zero) h = omega arith
one_unless_zero-le (pos (suc a)) (pos (suc b)) h = omega arith
one_unless_zero-le (pos (suc a)) (negsuc b) h = omega arith
one_unless_zero-le (negsuc a) (pos zero) h = omega arith
one_unless_zero-le (negsuc a) (pos (suc b)) h = omega arith
one_unless_zero-le (negsuc a) (negsuc b) h = omega arith

one_unless_zero-lt : (a b : ℤ) → ¬ (a ≡ pos 0) → b ≡ pos 0 → one_unless_zero b < one_unless_zero a
one_unless_zero-lt (pos zero) b n e = absurd (n refl)
one_unless_zero-lt (pos (suc a)) b n e = rw e (omega arith)
one_unless_zero-lt (negsuc a) b n e = rw e (omega arith)

pub support-le : (k : ℕ) (c d : ℕ → ℤ) → IsZeroWith k c d → support k d ≤ support k c
support-le zero c d h = omega arith
support-le (suc k) c d h = omega (arith, one_unless_zero-le (c k) (d k) (h k (omega arith)), support-le k c d (λ i b. h i (omega arith)))

-- at row t the one is 0, and the other isn't
pub support-lt : (k : ℕ) (c d : ℕ → ℤ) → IsZeroWith k c d → (t : ℕ) → t < k → ¬ (c t ≡ pos 0) → d t ≡ pos 0 → support k d < support k c
support-lt zero c d h t b n e = absurd (omega arith)
support-lt (suc k) c d h t b n e = last_or_before (grind arith) (λ before. support-lt k c d (λ i b. h i (omega arith)) t before n e)
  where
    last_or_before : (t ≡ k) ⊎ (t < k) → (t < k → support k d < support k c) → support (suc k) d < support (suc k) c
    last_or_before (inl same) less = omega (arith, one_unless_zero-lt (c k) (d k) (rw same at n) (rw same at e), support-le k c d (λ i b. h i (omega arith)))
    last_or_before (inr before) less = omega (arith, one_unless_zero-le (c k) (d k) (h k (omega arith)), less before)

-- ---- the row of greatest ratio

-- at row t the one is above 0, and the ratio of the other to it is greatest
pub record IsGreatest (k : ℕ) (c d : ℕ → ℤ) : Type 0 where
  pub at : ℕ
  pub below : at < k
  pub above : pos 0 <ℤ c at
  pub most : (i : ℕ) → i < k → (d i *ℤ c at) ≤ℤ (d at *ℤ c i)

-- the number is above 0, or else is 0
abbrev above_or_zero : (a : ℤ) → pos 0 ≤ℤ a → (pos 0 <ℤ a) ⊎ (a ≡ pos 0)
above_or_zero (pos zero) h = inr refl
above_or_zero (pos (suc a)) h = inl (omega (arith, ints))
above_or_zero (negsuc a) h = absurd (omega (arith, ints))

by_order : (a b : ℤ) → (a ≤ℤ b) ⊎ (b ≤ℤ a)
by_order (pos a) (pos b) = by_size (grind arith)
  where
    by_size : (a ≤ b) ⊎ (b ≤ a) → (pos a ≤ℤ pos b) ⊎ (pos b ≤ℤ pos a)
    by_size (inl h) = inl (omega (arith, ints))
    by_size (inr h) = inr (omega (arith, ints))
by_order (pos a) (negsuc b) = inr (omega (arith, ints))
by_order (negsuc a) (pos b) = inl (omega (arith, ints))
by_order (negsuc a) (negsuc b) = by_size (grind arith)
  where
    by_size : (a ≤ b) ⊎ (b ≤ a) → (negsuc a ≤ℤ negsuc b) ⊎ (negsuc b ≤ℤ negsuc a)
    by_size (inl h) = inr (omega (arith, ints))
    by_size (inr h) = inl (omega (arith, ints))

-- where d to c at i is at most that at t, and that at t at most that at k
ratio-trans : (ci ck ct di dk dt : ℤ) → pos 0 ≤ℤ ci → pos 0 ≤ℤ ck → pos 0 <ℤ ct → (di *ℤ ct) ≤ℤ (dt *ℤ ci) → (dt *ℤ ck) ≤ℤ (dk *ℤ ct) → (di *ℤ ck) ≤ℤ (dk *ℤ ci)
ratio-trans ci ck ct di dk dt p q r left right =
    let most : pos 0 ≤ℤ (ck *ℤ (dt *ℤ ci -ℤ di *ℤ ct) +ℤ ci *ℤ (dk *ℤ ct -ℤ dt *ℤ ck)) = omega (arith, ints, mul-at_least_zero ck (dt *ℤ ci -ℤ di *ℤ ct) q (omega (arith, ints)), mul-at_least_zero ci (dk *ℤ ct -ℤ dt *ℤ ck) p (omega (arith, ints))) in
    let same : ck *ℤ (dt *ℤ ci -ℤ di *ℤ ct) +ℤ ci *ℤ (dk *ℤ ct -ℤ dt *ℤ ck) ≡ ct *ℤ (dk *ℤ ci -ℤ di *ℤ ck) = simp ring (omega (arith, ints)) in
    let rest : pos 0 ≤ℤ (dk *ℤ ci -ℤ di *ℤ ck) = at_least_zero_of_mul ct (dk *ℤ ci -ℤ di *ℤ ck) r (rw same at most) in
    omega (arith, ints)

-- the first k numbers of the one are 0, or a row has the greatest ratio
abbrev pub HasGreatest : ℕ → (ℕ → ℤ) → (ℕ → ℤ) → Type 0
HasGreatest k c d = ((i : ℕ) → i < k → c i ≡ pos 0) ⊎ IsGreatest k c d

zero_products : (ck dk ct dt : ℤ) → ck ≡ pos 0 → dk ≡ pos 0 → (dk *ℤ ct) ≤ℤ (dt *ℤ ck)
zero_products ck dk ct dt e f = rw (e, f) (omega (arith, ints))

same_products : (c d : ℤ) → (d *ℤ c) ≤ℤ (d *ℤ c)
same_products c d = omega (arith, ints)

module _ (c d : ℕ → ℤ) where
  still_greatest : (k : ℕ) (t : ℕ) → t < k → pos 0 <ℤ c t → ((i : ℕ) → i < k → (d i *ℤ c t) ≤ℤ (d t *ℤ c i)) → (d k *ℤ c t) ≤ℤ (d t *ℤ c k) → IsGreatest (suc k) c d
  still_greatest k t b a m here = record { at = t; below = omega arith; above = a; most = λ i h. by_place i (grind arith) }
    where
      by_place : (i : ℕ) → (i ≡ k) ⊎ (i < k) → (d i *ℤ c t) ≤ℤ (d t *ℤ c i)
      by_place i (inl same) = rw same here
      by_place i (inr before) = m i before

  first_above : (k : ℕ) → ((i : ℕ) → i < k → c i ≡ pos 0) → ((i : ℕ) → i < suc k → c i ≡ pos 0 → d i ≡ pos 0) → pos 0 <ℤ c k → IsGreatest (suc k) c d
  first_above k none zeros a = record { at = k; below = omega arith; above = a; most = λ i h. by_place i (grind arith) }
    where
      by_place : (i : ℕ) → (i ≡ k) ⊎ (i < k) → (d i *ℤ c k) ≤ℤ (d k *ℤ c i)
      by_place i (inl same) = rw same (same_products (c k) (d k))
      by_place i (inr before) = zero_products (c i) (d i) (c k) (d k) (none i before) (zeros i (omega arith) (none i before))

  now_greatest : (k : ℕ) (t : ℕ) → ((i : ℕ) → i < k → pos 0 ≤ℤ c i) → pos 0 <ℤ c k → pos 0 <ℤ c t → ((i : ℕ) → i < k → (d i *ℤ c t) ≤ℤ (d t *ℤ c i)) → (d t *ℤ c k) ≤ℤ (d k *ℤ c t) → IsGreatest (suc k) c d
  now_greatest k t least a b m here = record { at = k; below = omega arith; above = a; most = λ i h. by_place i (grind arith) }
    where
      by_place : (i : ℕ) → (i ≡ k) ⊎ (i < k) → (d i *ℤ c k) ≤ℤ (d k *ℤ c i)
      by_place i (inl same) = rw same (same_products (c k) (d k))
      by_place i (inr before) = ratio-trans (c i) (c k) (c t) (d i) (d k) (d t) (least i before) (omega (arith, ints)) b (m i before) here

  -- where each c is at least 0, and d is 0 where c is: c is 0 everywhere, or some row has the greatest ratio
  pub greatest_ratio : (k : ℕ) → ((i : ℕ) → i < k → pos 0 ≤ℤ c i) → IsZeroWith k c d → HasGreatest k c d
  greatest_ratio zero least zeros = inl (λ i h. absurd (omega arith))
  greatest_ratio (suc k) least zeros = by_last (above_or_zero (c k) (least k (omega arith))) (greatest_ratio k (λ i h. least i (omega arith)) (λ i h. zeros i (omega arith)))
    where
      none_or_last : c k ≡ pos 0 → ((i : ℕ) → i < k → c i ≡ pos 0) → (i : ℕ) → (i ≡ k) ⊎ (i < k) → c i ≡ pos 0
      none_or_last e none i (inl same) = rw same e
      none_or_last e none i (inr before) = none i before

      by_last : (pos 0 <ℤ c k) ⊎ (c k ≡ pos 0) → HasGreatest k c d → HasGreatest (suc k) c d
      by_last (inl a) (inl none) = inr (first_above k none zeros a)
      by_last (inl a) (inr g) = by_ratio (by_order (d k *ℤ c g.at) (d g.at *ℤ c k))
        where
          by_ratio : ((d k *ℤ c g.at) ≤ℤ (d g.at *ℤ c k)) ⊎ ((d g.at *ℤ c k) ≤ℤ (d k *ℤ c g.at)) → HasGreatest (suc k) c d
          by_ratio (inl h) = inr (still_greatest k g.at g.below g.above g.most h)
          by_ratio (inr h) = inr (now_greatest k g.at (λ i b. least i (omega arith)) a g.above g.most h)
      by_last (inr e) (inl none) = inl (λ i h. none_or_last e none i (grind arith))
      by_last (inr e) (inr g) = inr (still_greatest k g.at g.below g.above g.most (zero_products (c k) (d k) (c g.at) (d g.at) e (zeros k (omega arith) e)))
