-- Lines on which a map is 0 and rays on both sides of it: what is spanned and on which the map is 0 is spanned by the lines, the rays on which it is 0 and the pairs of rays from the two sides.
use Rattle.std.proofs.Common.{◌≡◌, ◌⊎◌, inl, inr, ℕ, ℤ, pos, ◌+ℤ◌, ◌-ℤ◌, ◌*ℤ◌, neg_ℤ, ◌≤ℤ◌, ◌<ℤ◌, refl, sym, ap, ◌∙◌, arith}
use Rattle.std.proofs.lemmas.Int.{ints}
use Rattle.row_core.proofs.Ring.{ring, mul_assoc, mul-zero, mul_comm, mul-at_least_zero, mul-positive, zero_of_mul, by_sign}
use Rattle.cone_laws.proofs.Sums.{V, IsMore, Same, Nothing, Sums, none, line, ray, SpansBy, IsLinear, sums_same, sums_add, sums_scale, sums_more, sums_at_least_zero, sums_zero}

-- the combination of two vectors on which the map is 0
abbrev pub pairing : (V → ℤ) → V → V → V
pairing a p n j = a p *ℤ n j -ℤ a n *ℤ p j

-- the rays on which the map is 0, and those on which it is above or below 0
pub record At (R : V → Type 0) (a : V → ℤ) (r : V) : Type 0 where
  pub is : R r
  pub zero : a r ≡ pos 0

pub record Above (R : V → Type 0) (a : V → ℤ) (r : V) : Type 0 where
  pub is : R r
  pub positive : pos 0 <ℤ a r

pub record Beneath (R : V → Type 0) (a : V → ℤ) (r : V) : Type 0 where
  pub is : R r
  pub negative : a r <ℤ pos 0

-- the combination of a ray above and one below the map
pub record PairOf (R : V → Type 0) (a : V → ℤ) (r : V) : Type 0 where
  pub first : V
  pub second : V
  pub above : Above R a first
  pub below : Beneath R a second
  pub same : Same r (pairing a first second)

-- the rays of the cut: those on which the map is 0, and the pairs
abbrev pub Cut : (V → Type 0) → (V → ℤ) → V → Type 0
Cut R a r = At R a r ⊎ PairOf R a r

-- the rays of the half: the cut's, and those above
abbrev pub Half : (V → Type 0) → (V → ℤ) → V → Type 0
Half R a r = Cut R a r ⊎ Above R a r

-- ---- numbers
pair_zero : (ax y ay p w : ℤ) → y ≡ pos 0 → ay ≡ pos 0 → w ≡ ax *ℤ y -ℤ ay *ℤ p → w ≡ pos 0
pair_zero ax y ay p w h i f =
    let g = ap (λ (z : ℤ). ax *ℤ z) h in
    let k = ap (λ (z : ℤ). z *ℤ p) i in
    omega (arith, ints, g, k)

pair_more_second : (ax x w y k n u ay an au : ℤ) → y ≡ k *ℤ n +ℤ u → ay ≡ k *ℤ an +ℤ au → w ≡ ax *ℤ y -ℤ ay *ℤ x → w ≡ k *ℤ (ax *ℤ n -ℤ an *ℤ x) +ℤ (ax *ℤ u -ℤ au *ℤ x)
pair_more_second ax x w y k n u ay an au h i f =
    let g = ap (λ (z : ℤ). ax *ℤ z) h in
    let m = ap (λ (z : ℤ). z *ℤ x) i in
    let o : ax *ℤ (k *ℤ n +ℤ u) -ℤ (k *ℤ an +ℤ au) *ℤ x ≡ k *ℤ (ax *ℤ n -ℤ an *ℤ x) +ℤ (ax *ℤ u -ℤ au *ℤ x) = simp ring (omega (arith, ints)) in
    omega (arith, ints, g, m, o)

pair_more_first : (ay y w x k p u ax a_p au : ℤ) → x ≡ k *ℤ p +ℤ u → ax ≡ k *ℤ a_p +ℤ au → w ≡ ax *ℤ y -ℤ ay *ℤ x → w ≡ k *ℤ (a_p *ℤ y -ℤ ay *ℤ p) +ℤ (au *ℤ y -ℤ ay *ℤ u)
pair_more_first ay y w x k p u ax a_p au h i f =
    let g = ap (λ (z : ℤ). ay *ℤ z) h in
    let m = ap (λ (z : ℤ). z *ℤ y) i in
    let o : (k *ℤ a_p +ℤ au) *ℤ y -ℤ ay *ℤ (k *ℤ p +ℤ u) ≡ k *ℤ (a_p *ℤ y -ℤ ay *ℤ p) +ℤ (au *ℤ y -ℤ ay *ℤ u) = simp ring (omega (arith, ints)) in
    omega (arith, ints, g, m, o)

one_times : (x k v : ℤ) → x ≡ k *ℤ v → x ≡ k *ℤ v +ℤ pos 0
one_times x k v e = omega (arith, ints)

factor_zero : (k ar au : ℤ) → k *ℤ ar +ℤ au ≡ pos 0 → pos 0 ≤ℤ k → pos 0 <ℤ ar → pos 0 ≤ℤ au → (k ≡ pos 0) × (au ≡ pos 0)
factor_zero k ar au e p q r =
    let s : pos 0 ≤ℤ ar = omega (arith, ints) in
    let t : pos 0 ≤ℤ (k *ℤ ar) = mul-at_least_zero k ar p s in
    let z : ar *ℤ k ≡ pos 0 = mul_comm ar k ∙ omega (arith, ints) in
    (zero_of_mul ar k q z, omega (arith, ints))

no_more : (v k r u : ℤ) → v ≡ k *ℤ r +ℤ u → k ≡ pos 0 → u ≡ pos 0 → v ≡ pos 0
no_more v k r u e f g = let h = ap (λ (z : ℤ). z *ℤ r) f in omega (arith, ints, h)

-- ---- a sum of rays on one side, on which the map is 0, is 0
at_least : (m : ℤ) → pos 0 <ℤ m → pos 0 ≤ℤ m
at_least m h = omega (arith, ints)

pub one_sided_zero : (R : V → Type 0) (a : V → ℤ) → IsLinear a → ((r : V) → R r → pos 0 <ℤ a r) → (v : V) → Sums Nothing R v → a v ≡ pos 0 → (j : ℕ) → v j ≡ pos 0
one_sided_zero R a lin above v (none h) e j = h j
one_sided_zero R a lin above v (line k l u m s h) e j = elim m [ ]
one_sided_zero R a lin above v (ray k r u p m s h) e j =
    let q : pos 0 ≤ℤ a u = sums_at_least_zero a lin (λ l n. elim n [ ]) (λ x n. at_least (a x) (above x n)) u s in
    let f = factor_zero k (a r) (a u) (sym (lin.more v r u k h) ∙ e) p (above r m) q in
    no_more (v j) k (r j) (u j) (h j) f.0 (one_sided_zero R a lin above u s f.1 j)

negative_of : (m : ℤ) → m <ℤ pos 0 → pos 0 <ℤ neg_ℤ m
negative_of m h = omega (arith, ints)

neg_more : (w k u v : ℤ) → w ≡ k *ℤ u +ℤ v → neg_ℤ w ≡ k *ℤ neg_ℤ u +ℤ neg_ℤ v
neg_more w k u v e = simp ring (omega (arith, ints))

neg_multiple : (w k u : ℤ) → w ≡ k *ℤ u → neg_ℤ w ≡ k *ℤ neg_ℤ u
neg_multiple w k u e = simp ring (omega (arith, ints))

pub negated_linear : (a : V → ℤ) → IsLinear a → IsLinear (λ v. neg_ℤ (a v))
negated_linear a lin = record {
  zero = λ v h. ap neg_ℤ (lin.zero v h);
  more = λ w u v k h. neg_more (a w) k (a u) (a v) (lin.more w u v k h);
  multiple = λ w u k h. neg_multiple (a w) k (a u) (lin.multiple w u k h);
}

-- ---- a sum as its parts on the two sides
record Parts (L R : V → Type 0) (a : V → ℤ) (v : V) : Type 0 where
  level : V
  upper : V
  lower : V
  level_sum : Sums L (At R a) level
  upper_sum : Sums Nothing (Above R a) upper
  lower_sum : Sums Nothing (Beneath R a) lower
  same : (j : ℕ) → v j ≡ level j +ℤ (upper j +ℤ lower j)

no_parts : (v : ℤ) → v ≡ pos 0 → v ≡ pos 0 +ℤ (pos 0 +ℤ pos 0)
no_parts v e = omega (arith, ints)

level_part : (v k l u x y z : ℤ) → v ≡ k *ℤ l +ℤ u → u ≡ x +ℤ (y +ℤ z) → v ≡ (k *ℤ l +ℤ x) +ℤ (y +ℤ z)
level_part v k l u x y z e f = omega (arith, ints)

upper_part : (v k l u x y z : ℤ) → v ≡ k *ℤ l +ℤ u → u ≡ x +ℤ (y +ℤ z) → v ≡ x +ℤ ((k *ℤ l +ℤ y) +ℤ z)
upper_part v k l u x y z e f = omega (arith, ints)

lower_part : (v k l u x y z : ℤ) → v ≡ k *ℤ l +ℤ u → u ≡ x +ℤ (y +ℤ z) → v ≡ x +ℤ (y +ℤ (k *ℤ l +ℤ z))
lower_part v k l u x y z e f = omega (arith, ints)

with_ray : {L R : V → Type 0} (a : V → ℤ) (v : V) (k : ℤ) (r u : V) → pos 0 ≤ℤ k → R r → Parts L R a u → IsMore v k r u → (pos 0 <ℤ a r) ⊎ ((a r <ℤ pos 0) ⊎ (a r ≡ pos 0)) → Parts L R a v
with_ray a v k r u p m t h (inl s) = record {
  level = t.level;
  upper = λ j. k *ℤ r j +ℤ t.upper j;
  lower = t.lower;
  level_sum = t.level_sum;
  lower_sum = t.lower_sum;
  upper_sum = ray k r t.upper p (record { is = m; positive = s }) t.upper_sum (λ j. refl);
  same = λ j. upper_part (v j) k (r j) (u j) (t.level j) (t.upper j) (t.lower j) (h j) (t.same j);
}
with_ray a v k r u p m t h (inr (inl s)) = record {
  level = t.level;
  upper = t.upper;
  lower = λ j. k *ℤ r j +ℤ t.lower j;
  level_sum = t.level_sum;
  upper_sum = t.upper_sum;
  lower_sum = ray k r t.lower p (record { is = m; negative = s }) t.lower_sum (λ j. refl);
  same = λ j. lower_part (v j) k (r j) (u j) (t.level j) (t.upper j) (t.lower j) (h j) (t.same j);
}
with_ray a v k r u p m t h (inr (inr s)) = record {
  level = λ j. k *ℤ r j +ℤ t.level j;
  upper = t.upper;
  lower = t.lower;
  upper_sum = t.upper_sum;
  lower_sum = t.lower_sum;
  level_sum = ray k r t.level p (record { is = m; zero = s }) t.level_sum (λ j. refl);
  same = λ j. level_part (v j) k (r j) (u j) (t.level j) (t.upper j) (t.lower j) (h j) (t.same j);
}

parts : {L R : V → Type 0} (a : V → ℤ) (v : V) → Sums L R v → Parts L R a v
parts a v (none h) = record {
  level = λ j. pos 0;
  upper = λ j. pos 0;
  lower = λ j. pos 0;
  level_sum = none (λ j. refl);
  upper_sum = none (λ j. refl);
  lower_sum = none (λ j. refl);
  same = λ j. no_parts (v j) (h j);
}
parts a v (line k l u m s h) =
    let t = parts a u s in
    record {
      level = λ j. k *ℤ l j +ℤ t.level j;
      upper = t.upper;
      lower = t.lower;
      upper_sum = t.upper_sum;
      lower_sum = t.lower_sum;
      level_sum = line k l t.level m t.level_sum (λ j. refl);
      same = λ j. level_part (v j) k (l j) (u j) (t.level j) (t.upper j) (t.lower j) (h j) (t.same j);
    }
parts a v (ray k r u p m s h) = with_ray a v k r u p m (parts a u s) h (by_sign (a r))

-- ---- one ray above against all below, and all above against all below
against : (R : V → Type 0) (a : V → ℤ) → IsLinear a → (p y w : V) → Above R a p → Sums Nothing (Beneath R a) y → Same w (pairing a p y) → Sums Nothing (PairOf R a) w
against R a lin p y w above (none h) e = none (λ j. pair_zero (a p) (y j) (a y) (p j) (w j) (h j) (lin.zero y h) (e j))
against R a lin p y w above (line k l u m s h) e = elim m [ ]
against R a lin p y w above (ray k n u q m s h) e =
    ray k (pairing a p n) (pairing a p u) q (record { first = p; second = n; above = above; below = m; same = λ j. refl })
    (against R a lin p u (pairing a p u) above s (λ j. refl))
    (λ j. pair_more_second (a p) (p j) (w j) (y j) k (n j) (u j) (a y) (a n) (a u) (h j) (lin.more y n u k h) (e j))

swap_zero : (ax y ay x w : ℤ) → x ≡ pos 0 → ax ≡ pos 0 → w ≡ ax *ℤ y -ℤ ay *ℤ x → w ≡ pos 0
swap_zero ax y ay x w h i f =
    let g = ap (λ (z : ℤ). ay *ℤ z) h in
    let k = ap (λ (z : ℤ). z *ℤ y) i in
    omega (arith, ints, g, k, mul-zero ay)

crossed : (R : V → Type 0) (a : V → ℤ) → IsLinear a → (x y w : V) → Sums Nothing (Above R a) x → Sums Nothing (Beneath R a) y → Same w (pairing a x y) → Sums Nothing (PairOf R a) w
crossed R a lin x y w (none h) t e = none (λ j. swap_zero (a x) (y j) (a y) (x j) (w j) (h j) (lin.zero x h) (e j))
crossed R a lin x y w (line k l u m s h) t e = elim m [ ]
crossed R a lin x y w (ray k p u q m s h) t e =
    sums_add (λ j. k *ℤ pairing a p y j) (pairing a u y) w
    (sums_scale k (pairing a p y) (λ j. k *ℤ pairing a p y j) q (against R a lin p y (pairing a p y) m t (λ j. refl)) (λ j. refl))
    (crossed R a lin u y (pairing a u y) s t (λ j. refl))
    (λ j. pair_more_first (a y) (y j) (w j) (x j) k (p j) (u j) (a x) (a p) (a u) (h j) (lin.more x p u k h) (e j))

-- ---- what is spanned

half_times : (s t m v w x y z : ℤ) → w ≡ m *ℤ v → w ≡ x +ℤ (y +ℤ z) → (s *ℤ m) *ℤ v ≡ s *ℤ x +ℤ ((s *ℤ z -ℤ t *ℤ y) +ℤ (s +ℤ t) *ℤ y)
half_times s t m v w x y z e f =
    let h : (s *ℤ m) *ℤ v ≡ s *ℤ (m *ℤ v) = mul_assoc s m v in
    let i = ap (λ (n : ℤ). s *ℤ n) (sym e ∙ f) in
    let k : s *ℤ (x +ℤ (y +ℤ z)) ≡ s *ℤ x +ℤ ((s *ℤ z -ℤ t *ℤ y) +ℤ (s +ℤ t) *ℤ y) = simp ring (omega (arith, ints)) in
    omega (arith, ints, h, i, k)

level_alone : (w x y z : ℤ) → w ≡ x +ℤ (y +ℤ z) → y ≡ pos 0 → z ≡ pos 0 → w ≡ x
level_alone w x y z e f g = omega (arith, ints)

module _ (L R : V → Type 0) (a : V → ℤ) (lin : IsLinear a) (flat : (l : V) → L l → a l ≡ pos 0) where
  parts_sum : (v : V) (t : Parts L R a v) → a v ≡ a t.upper +ℤ a t.lower
  parts_sum v t =
      let rest : V = λ j. t.upper j +ℤ t.lower j in
      let e : a rest ≡ pos 1 *ℤ a t.upper +ℤ a t.lower = lin.more rest t.upper t.lower (pos 1) (λ j. omega (arith, ints)) in
      let f : a v ≡ pos 1 *ℤ a t.level +ℤ a rest = lin.more v t.level rest (pos 1) (λ j. omega (arith, ints, t.same j)) in
      let g : a t.level ≡ pos 0 = sums_zero a lin flat (λ r m. m.zero) t.level t.level_sum in
      omega (arith, ints)

  upper_least : (v : V) (t : Parts L R a v) → pos 0 ≤ℤ a t.upper
  upper_least v t = sums_at_least_zero a lin (λ l m. elim m [ ]) (λ r m. at_least (a r) m.positive) t.upper t.upper_sum

  upper_zero : (v : V) (t : Parts L R a v) → a t.upper ≡ pos 0 → (j : ℕ) → t.upper j ≡ pos 0
  upper_zero v t e = one_sided_zero (Above R a) a lin (λ r m. m.positive) t.upper t.upper_sum e

  lower_zero : (v : V) (t : Parts L R a v) → a t.lower ≡ pos 0 → (j : ℕ) → t.lower j ≡ pos 0
  lower_zero v t e = one_sided_zero (Beneath R a) (λ u. neg_ℤ (a u)) (negated_linear a lin) (λ r m. negative_of (a r) m.negative) t.lower t.lower_sum (ap neg_ℤ e)

  lower_least : (v : V) (t : Parts L R a v) → pos 0 ≤ℤ neg_ℤ (a t.lower)
  lower_least v t = sums_at_least_zero (λ u. neg_ℤ (a u)) (negated_linear a lin) (λ l m. elim m [ ]) (λ r m. at_least (neg_ℤ (a r)) (negative_of (a r) m.negative)) t.lower t.lower_sum

  -- the parts at 0 are in the cut
  level_cut : (v w : V) (t : Parts L R a v) (s : ℤ) → pos 0 ≤ℤ s → ((j : ℕ) → w j ≡ s *ℤ t.level j) → Sums L (Cut R a) w
  level_cut v w t s p e = sums_scale s t.level w p (sums_more (λ l m. m) (λ r m. inl m) t.level t.level_sum) e

  pairs_cut : (v : V) (t : Parts L R a v) → Sums L (Cut R a) (pairing a t.upper t.lower)
  pairs_cut v t = sums_more (λ l m. elim m [ ]) (λ r m. inr m) (pairing a t.upper t.lower) (crossed R a lin t.upper t.lower (pairing a t.upper t.lower) t.upper_sum t.lower_sum (λ j. refl))

  half_by_parts : (v : V) (m : ℤ) → pos 0 <ℤ m → (t : Parts L R a (λ j. m *ℤ v j)) → pos 0 ≤ℤ (a t.upper +ℤ a t.lower) → (pos 0 <ℤ a t.upper) ⊎ ((a t.upper <ℤ pos 0) ⊎ (a t.upper ≡ pos 0)) → SpansBy L (Half R a) v
  half_by_parts v m p t e (inl s) = record {
    times = a t.upper *ℤ m;
    positive = mul-positive (a t.upper) m s p;
    sums = sums_add (λ j. a t.upper *ℤ t.level j) (λ j. pairing a t.upper t.lower j +ℤ (a t.upper +ℤ a t.lower) *ℤ t.upper j) (λ j. (a t.upper *ℤ m) *ℤ v j)
        (sums_more (λ l n. n) (λ r n. inl n) (λ j. a t.upper *ℤ t.level j) (level_cut (λ j. m *ℤ v j) (λ j. a t.upper *ℤ t.level j) t (a t.upper) (at_least (a t.upper) s) (λ j. refl)))
        (sums_add (pairing a t.upper t.lower) (λ j. (a t.upper +ℤ a t.lower) *ℤ t.upper j) (λ j. pairing a t.upper t.lower j +ℤ (a t.upper +ℤ a t.lower) *ℤ t.upper j)
        (sums_more (λ l n. n) (λ r n. inl n) (pairing a t.upper t.lower) (pairs_cut (λ j. m *ℤ v j) t))
        (sums_scale (a t.upper +ℤ a t.lower) t.upper (λ j. (a t.upper +ℤ a t.lower) *ℤ t.upper j) e (sums_more (λ l n. elim n [ ]) (λ r n. inr n) t.upper t.upper_sum) (λ j. refl))
        (λ j. refl))
        (λ j. half_times (a t.upper) (a t.lower) m (v j) (m *ℤ v j) (t.level j) (t.upper j) (t.lower j) refl (t.same j));
  }
  half_by_parts v m p t e (inr (inl s)) = absurd (below_zero (a t.upper) (upper_least (λ j. m *ℤ v j) t) s)
    where
      below_zero : (s : ℤ) → pos 0 ≤ℤ s → s <ℤ pos 0 → ⊥
      below_zero s h k = omega (arith, ints)
  half_by_parts v m p t e (inr (inr s)) = record {
    times = m;
    positive = p;
    sums = sums_same t.level (λ j. m *ℤ v j) (sums_more (λ l n. n) (λ r n. inl (inl n)) t.level t.level_sum)
        (λ j. level_alone (m *ℤ v j) (t.level j) (t.upper j) (t.lower j) (t.same j) (upper_zero (λ i. m *ℤ v i) t s j) (lower_zero (λ i. m *ℤ v i) t (other_zero (a t.upper) (a t.lower) e s (lower_least (λ i. m *ℤ v i) t)) j));
  }
    where
      other_zero : (s t : ℤ) → pos 0 ≤ℤ (s +ℤ t) → s ≡ pos 0 → pos 0 ≤ℤ neg_ℤ t → t ≡ pos 0
      other_zero s t e f g = omega (arith, ints)

  -- where the map is at least 0, the lines, the cut and the rays above span
  pub half_spans : (v : V) → SpansBy L R v → pos 0 ≤ℤ a v → SpansBy L (Half R a) v
  half_spans v s z =
      let w : V = λ j. s.times *ℤ v j in
      let t = parts a w s.sums in
      let e : a w ≡ s.times *ℤ a v = lin.multiple w v s.times (λ j. refl) in
      let f : pos 0 ≤ℤ (s.times *ℤ a v) = mul-at_least_zero s.times (a v) (at_least s.times s.positive) z in
      half_by_parts v s.times s.positive t (moved (a w) (s.times *ℤ a v) (a t.upper +ℤ a t.lower) e (parts_sum w t) f) (by_sign (a t.upper))
    where
      moved : (x y z : ℤ) → x ≡ y → x ≡ z → pos 0 ≤ℤ y → pos 0 ≤ℤ z
      moved x y z e f h = omega (arith, ints)
