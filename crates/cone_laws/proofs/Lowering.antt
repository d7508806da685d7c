-- A line on which a map is positive lowers all vectors onto the map's zeros: what is spanned and on which the map is 0 is spanned by the lowered lines and rays.
use Rattle.std.proofs.Common.{◌≡◌, ◌⊎◌, inl, inr, ℕ, ℤ, pos, ◌+ℤ◌, ◌-ℤ◌, ◌*ℤ◌, ◌≤ℤ◌, ◌<ℤ◌, refl, ap, ◌∙◌, arith}
use Rattle.std.proofs.lemmas.Int.{ints}
use Rattle.row_core.proofs.Ring.{ring, mul-zero, mul-at_least_zero, mul-positive}
use Rattle.cone_laws.proofs.Sums.{V, IsMore, Same, Sums, none, line, ray, SpansBy, IsLinear, sums_same, sums_add, sums_more, sums_one_ray}

-- so much of e is taken from v that the map is 0 on the rest
abbrev pub lowered : (V → ℤ) → V → V → V
lowered a e v j = a e *ℤ v j -ℤ a v *ℤ e j

-- w is a lowered vector of the set
pub record Lowered (O : V → Type 0) (a : V → ℤ) (e w : V) : Type 0 where
  pub of : V
  pub is : O of
  pub same : Same w (lowered a e of)

-- v is a multiple of e
pub record IsTimes (e v : V) : Type 0 where
  pub times : ℤ
  pub same : (j : ℕ) → v j ≡ times *ℤ e j

-- ---- numbers
low_zero : (ae v av e w : ℤ) → v ≡ pos 0 → av ≡ pos 0 → w ≡ ae *ℤ v -ℤ av *ℤ e → w ≡ pos 0
low_zero ae v av e w h i f =
    let g = ap (λ (z : ℤ). ae *ℤ z) h in
    let k = ap (λ (z : ℤ). z *ℤ e) i in
    omega (arith, ints, g, k)

low_more : (ae e w v k l u av al au : ℤ) → v ≡ k *ℤ l +ℤ u → av ≡ k *ℤ al +ℤ au → w ≡ ae *ℤ v -ℤ av *ℤ e → w ≡ k *ℤ (ae *ℤ l -ℤ al *ℤ e) +ℤ (ae *ℤ u -ℤ au *ℤ e)
low_more ae e w v k l u av al au h i f =
    let g = ap (λ (z : ℤ). ae *ℤ z) h in
    let m = ap (λ (z : ℤ). z *ℤ e) i in
    let n : ae *ℤ (k *ℤ l +ℤ u) -ℤ (k *ℤ al +ℤ au) *ℤ e ≡ k *ℤ (ae *ℤ l -ℤ al *ℤ e) +ℤ (ae *ℤ u -ℤ au *ℤ e) = simp ring (omega (arith, ints)) in
    omega (arith, ints, g, m, n)

low_same : (ae e w v k l u av al au c : ℤ) → v ≡ k *ℤ l +ℤ u → av ≡ k *ℤ al +ℤ au → l ≡ c *ℤ e → al ≡ c *ℤ ae → w ≡ ae *ℤ v -ℤ av *ℤ e → w ≡ ae *ℤ u -ℤ au *ℤ e
low_same ae e w v k l u av al au c h i p q f =
    let g = low_more ae e w v k l u av al au h i f in
    let m = ap (λ (z : ℤ). k *ℤ (ae *ℤ z -ℤ al *ℤ e)) p in
    let n = ap (λ (z : ℤ). k *ℤ (ae *ℤ (c *ℤ e) -ℤ z *ℤ e)) q in
    let o : k *ℤ (ae *ℤ (c *ℤ e) -ℤ (c *ℤ ae) *ℤ e) ≡ pos 0 = simp ring (omega (arith, ints)) in
    omega (arith, ints, g, m, n, o)

low_zero_times : (ae m v w av aw e : ℤ) → w ≡ m *ℤ v → aw ≡ m *ℤ av → av ≡ pos 0 → (ae *ℤ m) *ℤ v ≡ ae *ℤ w -ℤ aw *ℤ e
low_zero_times ae m v w av aw e f g h =
    let i = ap (λ (z : ℤ). ae *ℤ z) f in
    let n = ap (λ (z : ℤ). z *ℤ e) (g ∙ ap (λ (z : ℤ). m *ℤ z) h ∙ mul-zero m) in
    let o : (ae *ℤ m) *ℤ v ≡ ae *ℤ (m *ℤ v) = simp ring in
    omega (arith, ints, i, n, o)

low_above_times : (ae m v w aw e : ℤ) → w ≡ m *ℤ v → (ae *ℤ m) *ℤ v ≡ (ae *ℤ w -ℤ aw *ℤ e) +ℤ aw *ℤ e
low_above_times ae m v w aw e f =
    let i = ap (λ (z : ℤ). ae *ℤ z) f in
    let o : (ae *ℤ m) *ℤ v ≡ ae *ℤ (m *ℤ v) = simp ring in
    omega (arith, ints, i, o)

positive_at_least : (m : ℤ) → pos 0 <ℤ m → pos 0 ≤ℤ m
positive_at_least m h = omega (arith, ints)

-- ---- sums
-- a lowered vector of the set, or e itself
abbrev pub LoweredOrLine : (V → Type 0) → (V → ℤ) → V → V → Type 0
LoweredOrLine R a e w = Lowered R a e w ⊎ Same w e

module _ (L R O : V → Type 0) (a : V → ℤ) (lin : IsLinear a) (e : V) (lines : (l : V) → L l → O l ⊎ IsTimes e l) where
  lowered_line : (v w : V) (k : ℤ) (l u : V) → O l ⊎ IsTimes e l → Sums (Lowered O a e) (Lowered R a e) (lowered a e u) → IsMore v k l u → Same w (lowered a e v) → Sums (Lowered O a e) (Lowered R a e) w
  lowered_line v w k l u (inl o) s h f =
      line k (lowered a e l) (lowered a e u) (record { of = l; is = o; same = λ j. refl }) s
      (λ j. low_more (a e) (e j) (w j) (v j) k (l j) (u j) (a v) (a l) (a u) (h j) (lin.more v l u k h) (f j))
  lowered_line v w k l u (inr t) s h f =
      sums_same (lowered a e u) w s
      (λ j. low_same (a e) (e j) (w j) (v j) k (l j) (u j) (a v) (a l) (a u) t.times (h j) (lin.more v l u k h) (t.same j) (lin.multiple l e t.times t.same) (f j))

  lowered_sums : (v w : V) → Sums L R v → Same w (lowered a e v) → Sums (Lowered O a e) (Lowered R a e) w
  lowered_sums v w (none z) f = none (λ j. low_zero (a e) (v j) (a v) (e j) (w j) (z j) (lin.zero v z) (f j))
  lowered_sums v w (line k l u m s h) f = lowered_line v w k l u (lines l m) (lowered_sums u (lowered a e u) s (λ j. refl)) h f
  lowered_sums v w (ray k r u p m s h) f =
      ray k (lowered a e r) (lowered a e u) p (record { of = r; is = m; same = λ j. refl }) (lowered_sums u (lowered a e u) s (λ j. refl))
      (λ j. low_more (a e) (e j) (w j) (v j) k (r j) (u j) (a v) (a r) (a u) (h j) (lin.more v r u k h) (f j))

  -- where the map is 0, the lowered lines and rays span; e is no more needed
  pub lowered_spans_zero : (v : V) → pos 0 <ℤ a e → SpansBy L R v → a v ≡ pos 0 → SpansBy (Lowered O a e) (Lowered R a e) v
  lowered_spans_zero v above s z = record {
    times = a e *ℤ s.times;
    positive = mul-positive (a e) s.times above s.positive;
    sums = lowered_sums (λ j. s.times *ℤ v j) (λ j. (a e *ℤ s.times) *ℤ v j) s.sums
        (λ j. low_zero_times (a e) s.times (v j) (s.times *ℤ v j) (a v) (a (λ i. s.times *ℤ v i)) (e j) refl (lin.multiple (λ i. s.times *ℤ v i) v s.times (λ i. refl)) z);
  }

  -- where the map is at least 0, the lowered lines and rays and e as a ray span
  pub lowered_spans_above : (v : V) → pos 0 <ℤ a e → SpansBy L R v → pos 0 ≤ℤ a v → SpansBy (Lowered O a e) (LoweredOrLine R a e) v
  lowered_spans_above v above s p =
      let w : V = λ j. s.times *ℤ v j in
      let i : a w ≡ s.times *ℤ a v = lin.multiple w v s.times (λ j. refl) in
      let q : pos 0 ≤ℤ (s.times *ℤ a v) = mul-at_least_zero s.times (a v) (positive_at_least s.times s.positive) p in
      let t : Sums (Lowered O a e) (LoweredOrLine R a e) (lowered a e w) = sums_more (λ l m. m) (λ r m. inl m) (lowered a e w) (lowered_sums w (lowered a e w) s.sums (λ j. refl)) in
      let u : Sums (Lowered O a e) (LoweredOrLine R a e) (λ j. a w *ℤ e j) = sums_one_ray (a w) e (λ j. a w *ℤ e j) (omega (arith, ints)) (inr (λ j. refl)) (λ j. refl) in
      record {
        times = a e *ℤ s.times;
        positive = mul-positive (a e) s.times above s.positive;
        sums = sums_add (lowered a e w) (λ j. a w *ℤ e j) (λ j. (a e *ℤ s.times) *ℤ v j) t u (λ j. low_above_times (a e) s.times (v j) (w j) (a w) (e j) refl);
      }
