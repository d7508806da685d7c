-- A system of lines and numbered rays of a cone, none of the rays to spare.
use Rattle.std.proofs.Common.{◌≡◌, ◌≢◌, ◌⊎◌, inl, inr, ℕ, ◌<◌, ℤ, pos, ◌+ℤ◌, ◌*ℤ◌, neg_ℤ, ◌≤ℤ◌, ◌<ℤ◌, refl, sym, arith}
use Rattle.std.proofs.lemmas.Int.{ints}
use Rattle.row_core.proofs.Ring.{mul-at_least_zero, neg-mul, at_least_zero_or_not}
use Rattle.cone_laws.proofs.Sums.{V, Among, Nothing, SpansBy, IsLinear, sums_add, sums_one_ray, spans_sums, spans_of_multiple, spans_add, lines_spans_scale, spans_from_lines}
use Rattle.cone_laws.proofs.Columns.{value_both}
use Rattle.cone_laws.proofs.Bridge.{Below}

-- the numbers below the count, but for one
abbrev pub Others : ℕ → ℕ → ℕ → Type 0
Others count j i = (i < count) × (i ≢ j)

-- e is s times c plus t times d
abbrev pub Combines : V → ℤ → V → ℤ → V → Type 0
Combines e s c t d = (j : ℕ) → e j ≡ s *ℤ c j +ℤ t *ℤ d j

-- the first k rows are 0 on the vector
abbrev pub IsFlat : (ℕ → V → ℤ) → ℕ → V → Type 0
IsFlat rows k v = (i : ℕ) → i < k → rows i v ≡ pos 0

-- lines and rays that generate the cone on which the first k rows are at least 0, lineality by the lines alone, and no ray to spare
pub record System (L : V → Type 0) (r : ℕ → V) (count : ℕ) (rows : ℕ → V → ℤ) (k : ℕ) (C : V → Type 0) : Type 0 where
  pub linear : (i : ℕ) → IsLinear (rows i)
  pub flat : (i : ℕ) → i < k → (l : V) → L l → rows i l ≡ pos 0
  pub rays : (j : ℕ) → j < count → C (r j)
  pub side : (i : ℕ) → i < k → (v : V) → C v → pos 0 ≤ℤ rows i v
  pub combine : (e c d : V) (s t : ℤ) → C c → C d → Combines e s c t d → ((i : ℕ) → i < k → pos 0 ≤ℤ rows i e) → C e
  pub spans : (v : V) → C v → SpansBy L (Among r (Below count)) v
  pub lineal : (v : V) → C v → IsFlat rows k v → SpansBy L Nothing v
  pub irredundant : (j : ℕ) → j < count → ¬ (SpansBy L (Among r (Others count j)) (r j))

pub sum_at_least_zero : (s c t d e : ℤ) → e ≡ s *ℤ c +ℤ t *ℤ d → pos 0 ≤ℤ s → pos 0 ≤ℤ c → pos 0 ≤ℤ t → pos 0 ≤ℤ d → pos 0 ≤ℤ e
sum_at_least_zero s c t d e h p q u w =
    let x : pos 0 ≤ℤ (s *ℤ c) = mul-at_least_zero s c p q in
    let y : pos 0 ≤ℤ (t *ℤ d) = mul-at_least_zero t d u w in
    omega (arith, ints)

module _ (L : V → Type 0) (r : ℕ → V) (count : ℕ) (rows : ℕ → V → ℤ) (k : ℕ) (C : V → Type 0) (sys : System L r count rows k C) where
  pub ray_not_flat : (j : ℕ) → j < count → ¬ (IsFlat rows k (r j))
  ray_not_flat j b z = sys.irredundant j b (spans_from_lines (r j) (sys.lineal (r j) (sys.rays j b) z))

  -- sums of two with factors of at least 0 stay in the cone
  pub within_sum : (e c d : V) (s t : ℤ) → C c → C d → pos 0 ≤ℤ s → pos 0 ≤ℤ t → Combines e s c t d → C e
  within_sum e c d s t m n p q h = sys.combine e c d s t m n h (λ i b. sum_at_least_zero s (rows i c) t (rows i d) (rows i e) (value_both (rows i) (sys.linear i) e c d s t h) p (sys.side i b c m) q (sys.side i b d n))

  -- no ray is spanned by the lines and two others
  not_by_two : (i p n : ℕ) (c s t : ℤ) (v : V) → i < count → p < count → n < count → p ≢ i → n ≢ i → pos 0 <ℤ c → pos 0 ≤ℤ s → pos 0 ≤ℤ t → SpansBy L Nothing v → ((j : ℕ) → c *ℤ r i j ≡ (s *ℤ r p j +ℤ t *ℤ r n j) +ℤ v j) → ⊥
  not_by_two i p n c s t v b bp bn ep en above ps pt lines h = sys.irredundant i b (spans_of_multiple c (r i) (λ j. c *ℤ r i j) above whole (λ j. refl))
    where
      other_p : Among r (Others count i) (r p)
      other_p = record { index = p; is = (bp, ep); same = λ j. refl }

      other_n : Among r (Others count i) (r n)
      other_n = record { index = n; is = (bn, en); same = λ j. refl }

      two : SpansBy L (Among r (Others count i)) (λ j. s *ℤ r p j +ℤ t *ℤ r n j)
      two = spans_sums (λ j. s *ℤ r p j +ℤ t *ℤ r n j) (sums_add (λ j. s *ℤ r p j) (λ j. t *ℤ r n j) (λ j. s *ℤ r p j +ℤ t *ℤ r n j) (sums_one_ray s (r p) (λ j. s *ℤ r p j) ps other_p (λ j. refl)) (sums_one_ray t (r n) (λ j. t *ℤ r n j) pt other_n (λ j. refl)) (λ j. refl))

      whole : SpansBy L (Among r (Others count i)) (λ j. c *ℤ r i j)
      whole = spans_add (pos 1) (pos 1) (λ j. s *ℤ r p j +ℤ t *ℤ r n j) v (λ j. c *ℤ r i j) (omega (arith, ints)) (omega (arith, ints)) two (spans_from_lines v lines) (λ j. omega (arith, ints, h j))

  -- a combination of three rays with a positive and a negative factor isn't lineality
  pub unspanned : (p n q : ℕ) (x y z : ℤ) (v : V) → p < count → n < count → q < count → p ≢ n → q ≢ p → q ≢ n → pos 0 <ℤ y → pos 0 <ℤ z → SpansBy L Nothing v → ((j : ℕ) → v j ≡ (x *ℤ r n j +ℤ y *ℤ r p j) +ℤ neg_ℤ z *ℤ r q j) → ⊥
  unspanned p n q x y z v bp bn bq pn qp qn py pz lines h = by_third (at_least_zero_or_not x)
    where
      to_other : (x y z p n q v : ℤ) → v ≡ (x *ℤ n +ℤ y *ℤ p) +ℤ neg_ℤ z *ℤ q → z *ℤ q ≡ (x *ℤ n +ℤ y *ℤ p) +ℤ neg_ℤ (pos 1) *ℤ v
      to_other x y z p n q v e = omega (arith, ints, neg-mul z q, e)

      to_first : (x y z p n q v : ℤ) → v ≡ (x *ℤ n +ℤ y *ℤ p) +ℤ neg_ℤ z *ℤ q → y *ℤ p ≡ (z *ℤ q +ℤ neg_ℤ x *ℤ n) +ℤ v
      to_first x y z p n q v e = omega (arith, ints, neg-mul z q, neg-mul x n, e)

      by_third : (pos 0 ≤ℤ x) ⊎ (x <ℤ pos 0) → ⊥
      by_third (inl least) = not_by_two q n p z x y (λ j. neg_ℤ (pos 1) *ℤ v j) bq bn bp (λ e. qn (sym e)) (λ e. qp (sym e)) pz least (omega (arith, ints)) (lines_spans_scale (neg_ℤ (pos 1)) v (λ j. neg_ℤ (pos 1) *ℤ v j) lines (λ j. refl)) (λ j. to_other x y z (r p j) (r n j) (r q j) (v j) (h j))
      by_third (inr less) = not_by_two p q n y z (neg_ℤ x) v bp bq bn qp (λ e. pn (sym e)) py (omega (arith, ints)) (omega (arith, ints)) lines (λ j. to_first x y z (r p j) (r n j) (r q j) (v j) (h j))
