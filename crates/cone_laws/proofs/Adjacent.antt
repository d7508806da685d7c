-- The rays on which a map is 0, and the combinations of adjacent rays on its two sides, span all of the cone on which it is 0.
use Rattle.std.proofs.Common.{◌≡◌, ◌≢◌, ◌⊎◌, inl, inr, ℕ, zero, suc, ◌<◌, ◌≤◌, ℤ, pos, ◌+ℤ◌, ◌-ℤ◌, ◌*ℤ◌, neg_ℤ, ◌≤ℤ◌, ◌<ℤ◌, refl, sym, ap, ◌∙◌, arith}
use Rattle.std.proofs.lemmas.Int.{ints}
use Rattle.row_core.proofs.Ring.{ring, mul_comm, mul-at_least_zero, mul-positive, neg-mul, mul-neg, mul-zero, zero-mul, zero_of_mul, by_sign}
use Rattle.cone_laws.proofs.Sums.{V, IsMore, Same, Among, Sums, none, line, ray, Nothing, SpansBy, IsLinear, same_value, sums_same, sums_zero, sums_one_ray, spans_sums, spans_of_multiple, spans_add, spans_from_lines}
use Rattle.cone_laws.proofs.Supports.{support, IsZeroWith, support-le, support-lt, IsGreatest, HasGreatest, greatest_ratio}
use Rattle.cone_laws.proofs.Face.{face, OnFace, zero_or_positive, same_without, same_beside}
use Rattle.cone_laws.proofs.Systems.{Combines, System, IsFlat, ray_not_flat, unspanned}
use Rattle.cone_laws.proofs.Sides.{pairing, IsCrossed, zero_sum, pairing_is_zero, crossing_within, crossing_first, crossing_second, crossing_zero, crossing_bent, sides_differ}
use Rattle.cone_laws.proofs.Columns.{value_both}
use Rattle.cone_laws.proofs.Bridge.{Below}

-- ---- the signs of a map on the rays of a sum

-- what the rays of a sum with factors above 0 show: none, one on which the map is 0, only such above 0 or below it, or one on each side
data Signs (L R : V → Type 0) (a : V → ℤ) (v : V) : Type 0 where
  no_ray : Sums L Nothing v → Signs L R a v
  on_it : (z : V) → R z → a z ≡ pos 0 → Signs L R a v
  all_above : (p : V) → R p → pos 0 <ℤ a p → pos 0 <ℤ a v → Signs L R a v
  all_below : (n : V) → R n → a n <ℤ pos 0 → a v <ℤ pos 0 → Signs L R a v
  two_sides : (p n : V) → R p → R n → pos 0 <ℤ a p → a n <ℤ pos 0 → Signs L R a v

more_above : (x k r u : ℤ) → x ≡ k *ℤ r +ℤ u → pos 0 <ℤ k → pos 0 <ℤ r → pos 0 ≤ℤ u → pos 0 <ℤ x
more_above x k r u e p q s = let t : pos 0 <ℤ (k *ℤ r) = mul-positive k r p q in omega (arith, ints)

more_below : (x k r u : ℤ) → x ≡ k *ℤ r +ℤ u → pos 0 <ℤ k → r <ℤ pos 0 → u ≤ℤ pos 0 → x <ℤ pos 0
more_below x k r u e p q s = let t : pos 0 <ℤ (k *ℤ neg_ℤ r) = mul-positive k (neg_ℤ r) p (omega (arith, ints)) in omega (arith, ints, mul-neg k r)

module _ (L R : V → Type 0) (a : V → ℤ) (lin : IsLinear a) (flat : (l : V) → L l → a l ≡ pos 0) where
  lines_value : (v : V) → Sums L Nothing v → a v ≡ pos 0
  lines_value v s = sums_zero a lin flat (λ r m. elim m [ ]) v s

  signs_same : (u v : V) → Same v u → Signs L R a u → Signs L R a v
  signs_same u v e (no_ray s) = no_ray (sums_same u v s e)
  signs_same u v e (on_it z m h) = on_it z m h
  signs_same u v e (all_above p m h g) = all_above p m h (rw (same_value a lin v u e) g)
  signs_same u v e (all_below n m h g) = all_below n m h (rw (same_value a lin v u e) g)
  signs_same u v e (two_sides p n m o h g) = two_sides p n m o h g

  signs_line : (k : ℤ) (l u v : V) → L l → IsMore v k l u → Signs L R a u → Signs L R a v
  signs_line k l u v m h (no_ray s) = no_ray (line k l u m s h)
  signs_line k l u v m h (on_it z o e) = on_it z o e
  signs_line k l u v m h (all_above p o e g) = all_above p o e (rw (same_beside (a v) k (a l) (a u) (lin.more v l u k h) (flat l m)) g)
  signs_line k l u v m h (all_below n o e g) = all_below n o e (rw (same_beside (a v) k (a l) (a u) (lin.more v l u k h) (flat l m)) g)
  signs_line k l u v m h (two_sides p n o q e g) = two_sides p n o q e g

  signs_above : (k : ℤ) (r u v : V) → R r → pos 0 <ℤ k → IsMore v k r u → pos 0 <ℤ a r → Signs L R a u → Signs L R a v
  signs_above k r u v m b h x (no_ray s) = all_above r m x (more_above (a v) k (a r) (a u) (lin.more v r u k h) b x (omega (arith, ints, lines_value u s)))
  signs_above k r u v m b h x (on_it z o e) = on_it z o e
  signs_above k r u v m b h x (all_above p o e g) = all_above r m x (more_above (a v) k (a r) (a u) (lin.more v r u k h) b x (omega (arith, ints)))
  signs_above k r u v m b h x (all_below n o e g) = two_sides r n m o x e
  signs_above k r u v m b h x (two_sides p n o q e g) = two_sides p n o q e g

  signs_below : (k : ℤ) (r u v : V) → R r → pos 0 <ℤ k → IsMore v k r u → a r <ℤ pos 0 → Signs L R a u → Signs L R a v
  signs_below k r u v m b h x (no_ray s) = all_below r m x (more_below (a v) k (a r) (a u) (lin.more v r u k h) b x (omega (arith, ints, lines_value u s)))
  signs_below k r u v m b h x (on_it z o e) = on_it z o e
  signs_below k r u v m b h x (all_above p o e g) = two_sides p r o m e x
  signs_below k r u v m b h x (all_below n o e g) = all_below r m x (more_below (a v) k (a r) (a u) (lin.more v r u k h) b x (omega (arith, ints)))
  signs_below k r u v m b h x (two_sides p n o q e g) = two_sides p n o q e g

  signs_ray : (k : ℤ) (r u v : V) → R r → (k ≡ pos 0) ⊎ (pos 0 <ℤ k) → IsMore v k r u → (pos 0 <ℤ a r) ⊎ ((a r <ℤ pos 0) ⊎ (a r ≡ pos 0)) → Signs L R a u → Signs L R a v
  signs_ray k r u v m (inl e) h x s = signs_same u v (λ j. same_without (v j) k (r j) (u j) (h j) e) s
  signs_ray k r u v m (inr b) h (inl x) s = signs_above k r u v m b h x s
  signs_ray k r u v m (inr b) h (inr (inl x)) s = signs_below k r u v m b h x s
  signs_ray k r u v m (inr b) h (inr (inr x)) s = on_it r m x

  signs : (v : V) → Sums L R v → Signs L R a v
  signs v (none h) = no_ray (none h)
  signs v (line k l u m s h) = signs_line k l u v m h (signs u s)
  signs v (ray k r u p m s h) = signs_ray k r u v m (zero_or_positive k p) h (by_sign (a r)) (signs u s)

-- ---- one more row taken to 0

-- the ray of the number is 0 on each of the first k rows on which the two rays are
pub record Third (r : ℕ → V) (count : ℕ) (rows : ℕ → V → ℤ) (k : ℕ) (p n : ℕ) : Type 0 where
  pub index : ℕ
  pub below : index < count
  pub not_first : index ≢ p
  pub not_second : index ≢ n
  pub between : (i : ℕ) → i < k → rows i (r p) ≡ pos 0 → rows i (r n) ≡ pos 0 → rows i (r index) ≡ pos 0

-- a ray on which the map is 0, or the combination of two adjacent rays on which it is
pub data Reduced (r : ℕ → V) (count : ℕ) (a : V → ℤ) (Adj : ℕ → ℕ → Type 0) (v : V) : Type 0 where
  level : (j : ℕ) → j < count → a (r j) ≡ pos 0 → Same v (r j) → Reduced r count a Adj v
  crossed : (p n : ℕ) → IsCrossed r count a p n → Adj p n → Same v (pairing a (r p) (r n)) → Reduced r count a Adj v

pub ratio_above : (di ct dt ci : ℤ) → (di *ℤ ct) ≤ℤ (dt *ℤ ci) → dt ≡ pos 0 → pos 0 ≤ℤ di → pos 0 <ℤ ct → di ≡ pos 0
ratio_above di ct dt ci h z p q =
    let e : dt *ℤ ci ≡ pos 0 = ap (λ (y : ℤ). y *ℤ ci) z ∙ zero-mul ci in
    let f : pos 0 ≤ℤ (di *ℤ ct) = mul-at_least_zero di ct p (omega (arith, ints)) in
    let g : di *ℤ ct ≡ pos 0 = omega (arith, ints) in
    zero_of_mul ct di q (mul_comm ct di ∙ g)

pub not_zero : (x : ℤ) → pos 0 <ℤ x → x ≢ pos 0
not_zero x h e = omega (arith, ints)

-- d times c, less c times d
pub taken_least : (ci ct di dt : ℤ) → (di *ℤ ct) ≤ℤ (dt *ℤ ci) → pos 0 ≤ℤ (dt *ℤ ci +ℤ neg_ℤ ct *ℤ di)
taken_least ci ct di dt h = omega (arith, ints, neg-mul ct di, mul_comm ct di)

pub taken_zero : (c d : ℤ) → d *ℤ c +ℤ neg_ℤ c *ℤ d ≡ pos 0
taken_zero c d = simp ring (omega (arith, ints))

-- the same at the least ratio
pub left_least : (ci ct di dt : ℤ) → (neg_ℤ di *ℤ ct) ≤ℤ (neg_ℤ dt *ℤ ci) → pos 0 ≤ℤ (neg_ℤ dt *ℤ ci +ℤ ct *ℤ di)
left_least ci ct di dt h = omega (arith, ints, neg-mul di ct, mul_comm ct di)

left_zero : (c d : ℤ) → neg_ℤ d *ℤ c +ℤ c *ℤ d ≡ pos 0
left_zero c d = simp ring (omega (arith, ints))

-- what was taken, put back
pub put_back : (v w c d : ℤ) → d *ℤ v ≡ pos 1 *ℤ (d *ℤ v +ℤ neg_ℤ c *ℤ w) +ℤ c *ℤ w
put_back v w c d = omega (arith, ints, neg-mul c w)

-- the two combinations of c and d, added so that d goes
span_factor : (c d c0 d0 c1 d1 : ℤ) → (c0 *ℤ d1 -ℤ c1 *ℤ d0) *ℤ c ≡ c0 *ℤ (d1 *ℤ c +ℤ neg_ℤ c1 *ℤ d) +ℤ c1 *ℤ (neg_ℤ d0 *ℤ c +ℤ c0 *ℤ d)
span_factor c d c0 d0 c1 d1 = simp ring (omega (arith, ints))

-- where the factor is 0, the parts are
no_factor : (c0 c1 f e : ℤ) → pos 0 <ℤ c0 → pos 0 <ℤ c1 → pos 0 ≤ℤ f → pos 0 ≤ℤ e → c0 *ℤ f +ℤ c1 *ℤ e ≡ pos 0 → f ≡ pos 0
no_factor c0 c1 f e p q s t h =
    let g : pos 0 ≤ℤ (c0 *ℤ f) = mul-at_least_zero c0 f (omega (arith, ints)) s in
    let i : pos 0 ≤ℤ (c1 *ℤ e) = mul-at_least_zero c1 e (omega (arith, ints)) t in
    zero_of_mul c0 f p (omega (arith, ints))

factor_least : (c0 d0 c1 d1 : ℤ) → (d0 *ℤ c1) ≤ℤ (d1 *ℤ c0) → pos 0 ≤ℤ (c0 *ℤ d1 -ℤ c1 *ℤ d0)
factor_least c0 d0 c1 d1 h = omega (arith, ints, mul_comm c0 d1, mul_comm c1 d0)

by_values : (s t x y f e : ℤ) → x ≡ f → y ≡ e → s *ℤ f +ℤ t *ℤ e ≡ pos 0 → s *ℤ x +ℤ t *ℤ y ≡ pos 0
by_values s t x y f e g h z = rw (g, h) z

regroup_above : (s u ap an aq p n q : ℤ) → s *ℤ (ap *ℤ n +ℤ neg_ℤ an *ℤ p) +ℤ neg_ℤ u *ℤ (aq *ℤ n +ℤ neg_ℤ an *ℤ q) ≡ ((s *ℤ ap -ℤ u *ℤ aq) *ℤ n +ℤ (s *ℤ neg_ℤ an) *ℤ p) +ℤ neg_ℤ (u *ℤ neg_ℤ an) *ℤ q
regroup_above s u ap an aq p n q = simp ring (omega (arith, ints))

regroup_below : (s u ap an aq p n q : ℤ) → s *ℤ (ap *ℤ n +ℤ neg_ℤ an *ℤ p) +ℤ neg_ℤ u *ℤ (ap *ℤ q +ℤ neg_ℤ aq *ℤ p) ≡ ((s *ℤ neg_ℤ an -ℤ u *ℤ neg_ℤ aq) *ℤ p +ℤ (s *ℤ ap) *ℤ n) +ℤ neg_ℤ (u *ℤ ap) *ℤ q
regroup_below s u ap an aq p n q = simp ring (omega (arith, ints))

module _ (L : V → Type 0) (r : ℕ → V) (count : ℕ) (rows : ℕ → V → ℤ) (k : ℕ) (C : V → Type 0) (sys : System L r count rows k C) (a : V → ℤ) (lin : IsLinear a) (flat : (l : V) → L l → a l ≡ pos 0) (Adj : ℕ → ℕ → Type 0) (third : (p n : ℕ) → IsCrossed r count a p n → Adj p n ⊎ Third r count rows k p n) where
  -- the values of the first rows on a vector
  abbrev values : V → ℕ → ℤ
  values v i = rows i v

  abbrev Spanned : V → Type 0
  Spanned v = SpansBy L (Reduced r count a Adj) v

  abbrev IsBent : V → Type 0
  IsBent v = ¬ (IsFlat rows k v)

  -- in the cone, with fewer rows that aren't 0
  record IsLess (c e : V) : Type 0 where
    within : C e
    zero : a e ≡ pos 0
    less : support k (values e) < support k (values c)

  -- all with fewer rows that aren't 0 than c are spanned
  abbrev LessSpanned : V → Type 0
  LessSpanned c = (f : V) → IsLess c f → Spanned f

  value : (e c d : V) (s t : ℤ) → Combines e s c t d → (i : ℕ) → rows i e ≡ s *ℤ rows i c +ℤ t *ℤ rows i d
  value e c d s t h i = value_both (rows i) (sys.linear i) e c d s t h

  lowered : (c d e : V) (s t : ℤ) → C c → C d → a c ≡ pos 0 → a d ≡ pos 0 → Combines e s c t d → ((i : ℕ) → i < k → pos 0 ≤ℤ (s *ℤ rows i c +ℤ t *ℤ rows i d)) → IsZeroWith k (values c) (values d) → (at : ℕ) → at < k → pos 0 <ℤ rows at c → s *ℤ rows at c +ℤ t *ℤ rows at d ≡ pos 0 → IsLess c e
  lowered c d e s t m n ac ad h least zeros at below above gone = record {
    within = sys.combine e c d s t m n h (λ i b. rw (value e c d s t h i) (least i b));
    zero = value_both a lin e c d s t h ∙ zero_sum s t (a c) (a d) ac ad;
    less = support-lt k (values c) (values e) (λ i b z. value e c d s t h i ∙ zero_sum s t (rows i c) (rows i d) z (zeros i b z)) at below (not_zero (rows at c) above) (value e c d s t h at ∙ gone);
  }

  -- the greatest ratio to c of a vector that isn't flat is above 0
  ratio_positive : (c d : V) → C d → IsBent d → (g : IsGreatest k (values c) (values d)) → pos 0 <ℤ rows g.at d
  ratio_positive c d n bent g = by_ratio (zero_or_positive (rows g.at d) (sys.side g.at g.below d n))
    where
      by_ratio : (rows g.at d ≡ pos 0) ⊎ (pos 0 <ℤ rows g.at d) → pos 0 <ℤ rows g.at d
      by_ratio (inl z) = absurd (bent (λ i b. ratio_above (rows i d) (rows g.at c) (rows g.at d) (rows i c) (g.most i b) z (sys.side i b d n) g.above))
      by_ratio (inr p) = p

  -- v less so much of w that one more row is 0
  ratio_step : (v w : V) → C v → C w → a v ≡ pos 0 → a w ≡ pos 0 → IsZeroWith k (values v) (values w) → IsBent w → Spanned w → LessSpanned v → Spanned v
  ratio_step v w m n av aw zeros bent spanned less = by_ratio (greatest_ratio (values v) (values w) k (λ i b. sys.side i b v m) zeros)
    where
      by_ratio : HasGreatest k (values v) (values w) → Spanned v
      by_ratio (inl z) = spans_from_lines v (sys.lineal v m z)
      by_ratio (inr g) = spans_of_multiple d v (λ j. d *ℤ v j) (ratio_positive v w n bent g) (spans_add (pos 1) c rest w (λ j. d *ℤ v j) (omega (arith, ints)) (omega (arith, ints, g.above)) (less rest is_less) spanned (λ j. put_back (v j) (w j) c d)) (λ j. refl)
        where
          c : ℤ
          c = rows g.at v

          d : ℤ
          d = rows g.at w

          rest : V
          rest j = d *ℤ v j +ℤ neg_ℤ c *ℤ w j

          is_less : IsLess v rest
          is_less = lowered v w rest d (neg_ℤ c) m n av aw (λ j. refl) (λ i b. taken_least (rows i v) c (rows i w) d (g.most i b)) zeros g.at g.below g.above (taken_zero c d)

  -- where no difference of multiples of c and d is lineality, the greatest and the least ratio of d to c leave two vectors that span c
  exchange : (c d : V) → C c → C d → a c ≡ pos 0 → a d ≡ pos 0 → IsZeroWith k (values c) (values d) → IsBent c → IsBent d → ((x y : ℤ) (e : V) → pos 0 <ℤ x → pos 0 <ℤ y → Combines e x c (neg_ℤ y) d → SpansBy L Nothing e → ⊥) → LessSpanned c → Spanned c
  exchange c d m n ac ad zeros bent_c bent_d apart less = by_greatest (greatest_ratio (values c) (values d) k (λ i b. sys.side i b c m) zeros) (greatest_ratio (values c) (λ i. neg_ℤ (rows i d)) k (λ i b. sys.side i b c m) (λ i b z. omega (arith, ints, zeros i b z)))
    where
      by_ratios : IsGreatest k (values c) (values d) → IsGreatest k (values c) (λ i. neg_ℤ (rows i d)) → Spanned c
      by_ratios g h = by_factor (zero_or_positive factor (factor_least c0 d0 c1 d1 (g.most h.at h.below)))
        where
          c1 : ℤ
          c1 = rows g.at c

          d1 : ℤ
          d1 = rows g.at d

          c0 : ℤ
          c0 = rows h.at c

          d0 : ℤ
          d0 = rows h.at d

          factor : ℤ
          factor = c0 *ℤ d1 -ℤ c1 *ℤ d0

          top : V
          top j = d1 *ℤ c j +ℤ neg_ℤ c1 *ℤ d j

          bottom : V
          bottom j = neg_ℤ d0 *ℤ c j +ℤ c0 *ℤ d j

          top_less : IsLess c top
          top_less = lowered c d top d1 (neg_ℤ c1) m n ac ad (λ j. refl) (λ i b. taken_least (rows i c) c1 (rows i d) d1 (g.most i b)) zeros g.at g.below g.above (taken_zero c1 d1)

          bottom_less : IsLess c bottom
          bottom_less = lowered c d bottom (neg_ℤ d0) c0 m n ac ad (λ j. refl) (λ i b. left_least (rows i c) c0 (rows i d) d0 (h.most i b)) zeros h.at h.below h.above (left_zero c0 d0)

          parts_zero : factor ≡ pos 0 → (i : ℕ) → c0 *ℤ rows i top +ℤ c1 *ℤ rows i bottom ≡ pos 0
          parts_zero z i = by_values c0 c1 (rows i top) (rows i bottom) (d1 *ℤ rows i c +ℤ neg_ℤ c1 *ℤ rows i d) (neg_ℤ d0 *ℤ rows i c +ℤ c0 *ℤ rows i d) (value top c d d1 (neg_ℤ c1) (λ j. refl) i) (value bottom c d (neg_ℤ d0) c0 (λ j. refl) i) (sym (span_factor (rows i c) (rows i d) c0 d0 c1 d1) ∙ ap (λ (y : ℤ). y *ℤ rows i c) z ∙ zero-mul (rows i c))

          by_factor : (factor ≡ pos 0) ⊎ (pos 0 <ℤ factor) → Spanned c
          by_factor (inl z) = absurd (apart d1 c1 top (ratio_positive c d n bent_d g) g.above (λ j. refl) (sys.lineal top top_less.within (λ i b. no_factor c0 c1 (rows i top) (rows i bottom) h.above g.above (sys.side i b top top_less.within) (sys.side i b bottom bottom_less.within) (parts_zero z i))))
          by_factor (inr p) = spans_of_multiple factor c (λ j. factor *ℤ c j) p (spans_add c0 c1 top bottom (λ j. factor *ℤ c j) (omega (arith, ints, h.above)) (omega (arith, ints, g.above)) (less top top_less) (less bottom bottom_less) (λ j. span_factor (c j) (d j) c0 d0 c1 d1)) (λ j. refl)

      by_greatest : HasGreatest k (values c) (values d) → HasGreatest k (values c) (λ i. neg_ℤ (rows i d)) → Spanned c
      by_greatest (inl z) h = absurd (bent_c z)
      by_greatest (inr g) (inl z) = absurd (bent_c z)
      by_greatest (inr g) (inr h) = by_ratios g h

  -- a third ray above 0 takes the place of the first, one below 0 that of the second
  by_third_above : (p n : ℕ) → IsCrossed r count a p n → (t : Third r count rows k p n) → pos 0 <ℤ a (r t.index) → LessSpanned (pairing a (r p) (r n)) → Spanned (pairing a (r p) (r n))
  by_third_above p n h t x less = exchange (pairing a (r p) (r n)) (pairing a (r t.index) (r n)) (crossing_within L r count rows k C sys a p n h) (crossing_within L r count rows k C sys a t.index n crossed) (pairing_is_zero a lin (r p) (r n)) (pairing_is_zero a lin (r t.index) (r n)) (λ i b z. crossing_zero L r count rows k C sys a t.index n i (t.between i b (crossing_first L r count rows k C sys a p n h i b z) (crossing_second L r count rows k C sys a p n h i b z)) (crossing_second L r count rows k C sys a p n h i b z)) (crossing_bent L r count rows k C sys a p n h) (crossing_bent L r count rows k C sys a t.index n crossed) apart less
    where
      crossed : IsCrossed r count a t.index n
      crossed = record { first = t.below; second = h.second; above = x; below = h.below }

      apart : (s u : ℤ) (e : V) → pos 0 <ℤ s → pos 0 <ℤ u → Combines e s (pairing a (r p) (r n)) (neg_ℤ u) (pairing a (r t.index) (r n)) → SpansBy L Nothing e → ⊥
      apart s u e ps pu f lines = unspanned L r count rows k C sys p n t.index (s *ℤ a (r p) -ℤ u *ℤ a (r t.index)) (s *ℤ neg_ℤ (a (r n))) (u *ℤ neg_ℤ (a (r n))) e h.first h.second t.below (sides_differ L r count rows k C sys a p n h) t.not_first t.not_second (mul-positive s (neg_ℤ (a (r n))) ps (omega (arith, ints, h.below))) (mul-positive u (neg_ℤ (a (r n))) pu (omega (arith, ints, h.below))) lines (λ j. f j ∙ regroup_above s u (a (r p)) (a (r n)) (a (r t.index)) (r p j) (r n j) (r t.index j))

  by_third_below : (p n : ℕ) → IsCrossed r count a p n → (t : Third r count rows k p n) → a (r t.index) <ℤ pos 0 → LessSpanned (pairing a (r p) (r n)) → Spanned (pairing a (r p) (r n))
  by_third_below p n h t x less = exchange (pairing a (r p) (r n)) (pairing a (r p) (r t.index)) (crossing_within L r count rows k C sys a p n h) (crossing_within L r count rows k C sys a p t.index crossed) (pairing_is_zero a lin (r p) (r n)) (pairing_is_zero a lin (r p) (r t.index)) (λ i b z. crossing_zero L r count rows k C sys a p t.index i (crossing_first L r count rows k C sys a p n h i b z) (t.between i b (crossing_first L r count rows k C sys a p n h i b z) (crossing_second L r count rows k C sys a p n h i b z))) (crossing_bent L r count rows k C sys a p n h) (crossing_bent L r count rows k C sys a p t.index crossed) apart less
    where
      crossed : IsCrossed r count a p t.index
      crossed = record { first = h.first; second = t.below; above = h.above; below = x }

      apart : (s u : ℤ) (e : V) → pos 0 <ℤ s → pos 0 <ℤ u → Combines e s (pairing a (r p) (r n)) (neg_ℤ u) (pairing a (r p) (r t.index)) → SpansBy L Nothing e → ⊥
      apart s u e ps pu f lines = unspanned L r count rows k C sys n p t.index (s *ℤ neg_ℤ (a (r n)) -ℤ u *ℤ neg_ℤ (a (r t.index))) (s *ℤ a (r p)) (u *ℤ a (r p)) e h.second h.first t.below (λ e. sides_differ L r count rows k C sys a p n h (sym e)) t.not_second t.not_first (mul-positive s (a (r p)) ps h.above) (mul-positive u (a (r p)) pu h.above) lines (λ j. f j ∙ regroup_below s u (a (r p)) (a (r n)) (a (r t.index)) (r p j) (r n j) (r t.index j))

  crossing_spanned : (p n : ℕ) → IsCrossed r count a p n → Adj p n → Spanned (pairing a (r p) (r n))
  crossing_spanned p n h adjacent = spans_sums (pairing a (r p) (r n)) (sums_one_ray (pos 1) (pairing a (r p) (r n)) (pairing a (r p) (r n)) (omega (arith, ints)) (crossed p n h adjacent (λ j. refl)) (λ j. omega (arith, ints)))

  level_spanned : (j : ℕ) → j < count → a (r j) ≡ pos 0 → Spanned (r j)
  level_spanned j b z = spans_sums (r j) (sums_one_ray (pos 1) (r j) (r j) (omega (arith, ints)) (level j b z (λ i. refl)) (λ i. omega (arith, ints)))

  -- fewer rows of c aren't 0 than of v
  less_more : (v c f : V) → IsZeroWith k (values v) (values c) → IsLess c f → IsLess v f
  less_more v c f zeros h = record { within = h.within; zero = h.zero; less = omega (arith, support-le k (values v) (values c) zeros, h.less) }

  -- a ray of the face of v on which the map is 0
  by_level : (v : V) → C v → a v ≡ pos 0 → LessSpanned v → (j : ℕ) → j < count → a (r j) ≡ pos 0 → IsZeroWith k (values v) (values (r j)) → Spanned v
  by_level v m av less j b z zeros = ratio_step v (r j) m (sys.rays j b) av z zeros (ray_not_flat L r count rows k C sys j b) (level_spanned j b z) less

  -- rays of the face of v on the two sides
  by_crossing : (v : V) → C v → a v ≡ pos 0 → LessSpanned v → (p n : ℕ) → IsCrossed r count a p n → IsZeroWith k (values v) (values (r p)) → IsZeroWith k (values v) (values (r n)) → Spanned v
  by_crossing v m av less p n h zeros_p zeros_n = by_adjacency (third p n h)
    where
      zeros : IsZeroWith k (values v) (values (pairing a (r p) (r n)))
      zeros i b z = crossing_zero L r count rows k C sys a p n i (zeros_p i b z) (zeros_n i b z)

      less_c : LessSpanned (pairing a (r p) (r n))
      less_c f g = less f (less_more v (pairing a (r p) (r n)) f zeros g)

      take_off : Spanned (pairing a (r p) (r n)) → Spanned v
      take_off spanned = ratio_step v (pairing a (r p) (r n)) m (crossing_within L r count rows k C sys a p n h) av (pairing_is_zero a lin (r p) (r n)) zeros (crossing_bent L r count rows k C sys a p n h) spanned less

      by_third : (t : Third r count rows k p n) → (pos 0 <ℤ a (r t.index)) ⊎ ((a (r t.index) <ℤ pos 0) ⊎ (a (r t.index) ≡ pos 0)) → Spanned v
      by_third t (inl x) = take_off (by_third_above p n h t x less_c)
      by_third t (inr (inl x)) = take_off (by_third_below p n h t x less_c)
      by_third t (inr (inr z)) = by_level v m av less t.index t.below z (λ i b e. t.between i b (zeros_p i b e) (zeros_n i b e))

      by_adjacency : Adj p n ⊎ Third r count rows k p n → Spanned v
      by_adjacency (inl adjacent) = take_off (crossing_spanned p n h adjacent)
      by_adjacency (inr t) = by_third t (by_sign (a (r t.index)))

  -- the numbers of the rows that are 0 on v
  abbrev ZeroOn : V → ℕ → Type 0
  ZeroOn v i = (i < k) × (rows i v ≡ pos 0)

  abbrev FaceRay : V → V → Type 0
  FaceRay v = OnFace (Among r (Below count)) rows (ZeroOn v)

  among_value : (i : ℕ) (u : V) → (m : Among r (Below count) u) → rows i u ≡ rows i (r m.index)
  among_value i u m = same_value (rows i) (sys.linear i) u (r m.index) m.same

  a_value : (u : V) → (m : Among r (Below count) u) → a u ≡ a (r m.index)
  a_value u m = same_value a lin u (r m.index) m.same

  face_zeros : (v u : V) → (f : FaceRay v u) → IsZeroWith k (values v) (values (r f.0.index))
  face_zeros v u f i b z = sym (among_value i u f.0) ∙ f.1 i (b, z)

  crossed_by : (v p n : V) → (f : FaceRay v p) → (g : FaceRay v n) → pos 0 <ℤ a p → a n <ℤ pos 0 → IsCrossed r count a f.0.index g.0.index
  crossed_by v p n f g x y = record { first = f.0.is; second = g.0.is; above = rw (a_value p f.0) at x; below = rw (a_value n g.0) at y }

  by_signs : (v : V) → C v → a v ≡ pos 0 → LessSpanned v → (t : ℤ) → pos 0 <ℤ t → a (λ j. t *ℤ v j) ≡ pos 0 → Signs L (FaceRay v) a (λ j. t *ℤ v j) → Spanned v
  by_signs v m av less t pt z (no_ray s) = spans_from_lines v (record { times = t; positive = pt; sums = s })
  by_signs v m av less t pt z (on_it u f e) = by_level v m av less f.0.index f.0.is (sym (a_value u f.0) ∙ e) (face_zeros v u f)
  by_signs v m av less t pt z (all_above p f x y) = absurd (omega (arith, ints))
  by_signs v m av less t pt z (all_below n f x y) = absurd (omega (arith, ints))
  by_signs v m av less t pt z (two_sides p n f g x y) = by_crossing v m av less f.0.index g.0.index (crossed_by v p n f g x y) (face_zeros v p f) (face_zeros v n g)

  multiple_zero : (b : V → ℤ) → IsLinear b → (t : ℤ) (v : V) → b v ≡ pos 0 → b (λ j. t *ℤ v j) ≡ pos 0
  multiple_zero b blin t v z = blin.multiple (λ j. t *ℤ v j) v t (λ j. refl) ∙ ap (λ (y : ℤ). t *ℤ y) z ∙ mul-zero t

  reduced_step : (v : V) → C v → a v ≡ pos 0 → LessSpanned v → Spanned v
  reduced_step v m av less = by_signs v m av less s.times s.positive (multiple_zero a lin s.times v av) (signs L (FaceRay v) a lin flat (λ j. s.times *ℤ v j) on_face)
    where
      s : SpansBy L (Among r (Below count)) v
      s = sys.spans v m

      side_of : (i : ℕ) → ZeroOn v i → (u : V) → Among r (Below count) u → pos 0 ≤ℤ rows i u
      side_of i z u n = rw (among_value i u n) (sys.side i z.0 (r n.index) (sys.rays n.index n.is))

      on_face : Sums L (FaceRay v) (λ j. s.times *ℤ v j)
      on_face = face L (Among r (Below count)) rows (ZeroOn v) sys.linear (λ i z l n. sys.flat i z.0 l n) side_of (λ j. s.times *ℤ v j) s.sums (λ i z. multiple_zero (rows i) (sys.linear i) s.times v z.1)

  -- the rays on which the map is 0, and the combinations of adjacent rays, span with the lines each vector of the cone on which it is 0
  reduced_upto : (m : ℕ) (v : V) → C v → a v ≡ pos 0 → support k (values v) ≤ m → Spanned v
  reduced_upto zero v c z h = reduced_step v c z (λ f g. absurd (omega (arith, g.less)))
  reduced_upto (suc m) v c z h = reduced_step v c z (λ f g. reduced_upto m f g.within g.zero (omega (arith, g.less)))

  pub reduced : (v : V) → C v → a v ≡ pos 0 → SpansBy L (Reduced r count a Adj) v
  reduced v c z = reduced_upto (support k (values v)) v c z (omega arith)
