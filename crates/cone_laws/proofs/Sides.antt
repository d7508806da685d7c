-- Two rays on the two sides of a map, and their combination on which it is 0.
use Rattle.std.proofs.Common.{◌≡◌, ◌≢◌, ℕ, ◌<◌, ℤ, pos, ◌+ℤ◌, ◌*ℤ◌, neg_ℤ, ◌≤ℤ◌, ◌<ℤ◌, refl, ap, ◌∙◌, arith}
use Rattle.std.proofs.lemmas.Int.{ints}
use Rattle.row_core.proofs.Ring.{ring, mul-at_least_zero, mul-zero}
use Rattle.cone_laws.proofs.Sums.{V, IsLinear}
use Rattle.cone_laws.proofs.Columns.{value_both}
use Rattle.cone_laws.proofs.Face.{first_zero}
use Rattle.cone_laws.proofs.Systems.{System, IsFlat, ray_not_flat, within_sum}

-- of two vectors the combination on which the map is 0
abbrev pub pairing : (V → ℤ) → V → V → V
pairing a p n j = a p *ℤ n j +ℤ neg_ℤ (a n) *ℤ p j

-- the map is above 0 on ray p, and below 0 on ray n
pub record IsCrossed (r : ℕ → V) (count : ℕ) (a : V → ℤ) (p n : ℕ) : Type 0 where
  pub first : p < count
  pub second : n < count
  pub above : pos 0 <ℤ a (r p)
  pub below : a (r n) <ℤ pos 0

pub zero_sum : (s t c d : ℤ) → c ≡ pos 0 → d ≡ pos 0 → s *ℤ c +ℤ t *ℤ d ≡ pos 0
zero_sum s t c d e f = rw (e, f) (omega (arith, ints, mul-zero s, mul-zero t))

second_zero : (e s c t d : ℤ) → e ≡ s *ℤ c +ℤ t *ℤ d → e ≡ pos 0 → pos 0 ≤ℤ s → pos 0 <ℤ t → pos 0 ≤ℤ c → pos 0 ≤ℤ d → d ≡ pos 0
second_zero e s c t d h z p q m n = first_zero e t d (s *ℤ c) (omega (arith, ints)) z q n (mul-at_least_zero s c p m)

cross_is_zero : (x y : ℤ) → x *ℤ y +ℤ neg_ℤ y *ℤ x ≡ pos 0
cross_is_zero x y = simp ring (omega (arith, ints))

pub pairing_is_zero : (a : V → ℤ) → IsLinear a → (p n : V) → a (pairing a p n) ≡ pos 0
pairing_is_zero a lin p n = value_both a lin (pairing a p n) n p (a p) (neg_ℤ (a n)) (λ j. refl) ∙ cross_is_zero (a p) (a n)

module _ (L : V → Type 0) (r : ℕ → V) (count : ℕ) (rows : ℕ → V → ℤ) (k : ℕ) (C : V → Type 0) (sys : System L r count rows k C) (a : V → ℤ) where
  pub crossing_within : (p n : ℕ) → IsCrossed r count a p n → C (pairing a (r p) (r n))
  crossing_within p n h = within_sum L r count rows k C sys (pairing a (r p) (r n)) (r n) (r p) (a (r p)) (neg_ℤ (a (r n))) (sys.rays n h.second) (sys.rays p h.first) (omega (arith, ints, h.above)) (omega (arith, ints, h.below)) (λ j. refl)

  pub crossing_value : (p n i : ℕ) → rows i (pairing a (r p) (r n)) ≡ a (r p) *ℤ rows i (r n) +ℤ neg_ℤ (a (r n)) *ℤ rows i (r p)
  crossing_value p n i = value_both (rows i) (sys.linear i) (pairing a (r p) (r n)) (r n) (r p) (a (r p)) (neg_ℤ (a (r n))) (λ j. refl)

  pub crossing_first : (p n : ℕ) → IsCrossed r count a p n → (i : ℕ) → i < k → rows i (pairing a (r p) (r n)) ≡ pos 0 → rows i (r p) ≡ pos 0
  crossing_first p n h i b z = second_zero (rows i (pairing a (r p) (r n))) (a (r p)) (rows i (r n)) (neg_ℤ (a (r n))) (rows i (r p)) (crossing_value p n i) z (omega (arith, ints, h.above)) (omega (arith, ints, h.below)) (sys.side i b (r n) (sys.rays n h.second)) (sys.side i b (r p) (sys.rays p h.first))

  pub crossing_second : (p n : ℕ) → IsCrossed r count a p n → (i : ℕ) → i < k → rows i (pairing a (r p) (r n)) ≡ pos 0 → rows i (r n) ≡ pos 0
  crossing_second p n h i b z = first_zero (rows i (pairing a (r p) (r n))) (a (r p)) (rows i (r n)) (neg_ℤ (a (r n)) *ℤ rows i (r p)) (crossing_value p n i) z h.above (sys.side i b (r n) (sys.rays n h.second)) (mul-at_least_zero (neg_ℤ (a (r n))) (rows i (r p)) (omega (arith, ints, h.below)) (sys.side i b (r p) (sys.rays p h.first)))

  pub crossing_zero : (p n i : ℕ) → rows i (r p) ≡ pos 0 → rows i (r n) ≡ pos 0 → rows i (pairing a (r p) (r n)) ≡ pos 0
  crossing_zero p n i y z = crossing_value p n i ∙ zero_sum (a (r p)) (neg_ℤ (a (r n))) (rows i (r n)) (rows i (r p)) z y

  pub crossing_bent : (p n : ℕ) → IsCrossed r count a p n → ¬ (IsFlat rows k (pairing a (r p) (r n)))
  crossing_bent p n h z = ray_not_flat L r count rows k C sys p h.first (λ i b. crossing_first p n h i b (z i b))

  pub sides_differ : (p n : ℕ) → IsCrossed r count a p n → p ≢ n
  sides_differ p n h e = omega (arith, ints, h.above, h.below, ap (λ (i : ℕ). a (r i)) e)
