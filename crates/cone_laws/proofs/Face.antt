-- The rays of a sum, where maps that are at least 0 on all rays are 0 on the sum.
use Rattle.std.proofs.Common.{◌≡◌, ◌⊎◌, inl, inr, ℕ, zero, suc, ℤ, pos, negsuc, ◌+ℤ◌, ◌*ℤ◌, ◌≤ℤ◌, ◌<ℤ◌, refl, sym, ap, ◌∙◌, arith}
use Rattle.std.proofs.lemmas.Int.{ints}
use Rattle.row_core.proofs.Ring.{mul-at_least_zero, zero_of_mul, zero-mul, mul-zero}
use Rattle.cone_laws.proofs.Sums.{V, IsMore, Sums, none, line, ray, IsLinear, sums_same, sums_at_least_zero}

-- a sum of two that are at least 0 is 0
pub rest_zero : (x k r u : ℤ) → x ≡ k *ℤ r +ℤ u → x ≡ pos 0 → pos 0 ≤ℤ k → pos 0 ≤ℤ r → pos 0 ≤ℤ u → u ≡ pos 0
rest_zero x k r u e z p q s = let t : pos 0 ≤ℤ (k *ℤ r) = mul-at_least_zero k r p q in omega (arith, ints)

pub first_zero : (x k r u : ℤ) → x ≡ k *ℤ r +ℤ u → x ≡ pos 0 → pos 0 <ℤ k → pos 0 ≤ℤ r → pos 0 ≤ℤ u → r ≡ pos 0
first_zero x k r u e z p q s =
    let t : pos 0 ≤ℤ (k *ℤ r) = mul-at_least_zero k r (omega (arith, ints)) q in
    zero_of_mul k r p (omega (arith, ints))

pub zero_or_positive : (k : ℤ) → pos 0 ≤ℤ k → (k ≡ pos 0) ⊎ (pos 0 <ℤ k)
zero_or_positive (pos zero) p = inl refl
zero_or_positive (pos (suc k)) p = inr (omega (arith, ints))
zero_or_positive (negsuc k) p = absurd (omega (arith, ints))

-- a term with the factor 0 adds nothing
pub same_without : (v k r u : ℤ) → v ≡ k *ℤ r +ℤ u → k ≡ pos 0 → v ≡ u
same_without v k r u e z = let t = ap (λ (y : ℤ). y *ℤ r) z in omega (arith, ints, t, zero-mul r)

-- a multiple of 0 adds nothing
pub same_beside : (v k l u : ℤ) → v ≡ k *ℤ l +ℤ u → l ≡ pos 0 → v ≡ u
same_beside v k l u e z = let t = ap (λ (y : ℤ). k *ℤ y) z in omega (arith, ints, t, mul-zero k)

-- a ray on which the rows are 0
abbrev pub OnFace : (V → Type 0) → (ℕ → V → ℤ) → (ℕ → Type 0) → V → Type 0
OnFace R rows On r = R r × ((i : ℕ) → On i → rows i r ≡ pos 0)

module _ (L R : V → Type 0) (rows : ℕ → V → ℤ) (On : ℕ → Type 0) (linear : (i : ℕ) → IsLinear (rows i)) (flat : (i : ℕ) → On i → (l : V) → L l → rows i l ≡ pos 0) (side : (i : ℕ) → On i → (r : V) → R r → pos 0 ≤ℤ rows i r) where
  add_ray : (k : ℤ) (r u v : V) → R r → pos 0 ≤ℤ k → IsMore v k r u → ((i : ℕ) → On i → rows i v ≡ pos 0) → ((i : ℕ) → On i → pos 0 ≤ℤ rows i u) → Sums L (OnFace R rows On) u → Sums L (OnFace R rows On) v
  add_ray k r u v m p h z least s = by_factor (zero_or_positive k p)
    where
      by_factor : (k ≡ pos 0) ⊎ (pos 0 <ℤ k) → Sums L (OnFace R rows On) v
      by_factor (inl e) = sums_same u v s (λ j. same_without (v j) k (r j) (u j) (h j) e)
      by_factor (inr a) = ray k r u p (m, λ i o. first_zero (rows i v) k (rows i r) (rows i u) ((linear i).more v r u k h) (z i o) a (side i o r m) (least i o)) s h

  -- only rays on which the rows are 0 occur in a sum on which they are 0
  pub face : (v : V) → Sums L R v → ((i : ℕ) → On i → rows i v ≡ pos 0) → Sums L (OnFace R rows On) v
  face v (none h) z = none h
  face v (line k l u m s h) z = line k l u m (face u s (λ i o. sym (same_beside (rows i v) k (rows i l) (rows i u) ((linear i).more v l u k h) (flat i o l m)) ∙ z i o)) h
  face v (ray k r u p m s h) z =
      let least = λ (i : ℕ) (o : On i). sums_at_least_zero (rows i) (linear i) (flat i o) (side i o) u s in
      add_ray k r u v m p h z least (face u s (λ i o. rest_zero (rows i v) k (rows i r) (rows i u) ((linear i).more v r u k h) (z i o) p (side i o r m) (least i o)))
