-- Two rays of which the one is 0 on just one row more than on those on which both are: no third ray stands between them.
use Rattle.std.proofs.Common.{◌≡◌, ◌≢◌, ◌⊎◌, inl, inr, ℕ, ◌<◌, length, ℤ, pos, ◌+ℤ◌, ◌*ℤ◌, neg_ℤ, ◌≤ℤ◌, ◌<ℤ◌, refl, sym, ap, ◌∙◌, arith}
use Rattle.std.proofs.lemmas.Int.{ints}
use Rattle.row_core.specs.Vectors.{dot}
use Rattle.row_core.specs.Lists.{row_at, vector_at}
use Rattle.cone_laws.specs.AdjacencyLaws.{OneMoreLaw}
use Rattle.row_core.proofs.Ring.{ring, mul-positive, mul-at_least_zero, mul-zero, at_least_zero_or_not}
use Rattle.cone_laws.proofs.Sums.{V, Among, Nothing, SpansBy, same_value, sums_one_ray, spans_sums, spans_more, spans_of_multiple, spans_add}
use Rattle.cone_laws.proofs.Supports.{IsZeroWith, IsGreatest, HasGreatest, greatest_ratio}
use Rattle.cone_laws.proofs.Face.{face, OnFace, zero_or_positive}
use Rattle.cone_laws.proofs.Systems.{Combines, System, Others, ray_not_flat, within_sum, unspanned}
use Rattle.cone_laws.proofs.Sides.{zero_sum}
use Rattle.cone_laws.proofs.Columns.{value_both}
use Rattle.cone_laws.proofs.Bridge.{Below, In, columns}
use Rattle.cone_laws.proofs.Adjacent.{ratio_above, not_zero, taken_least, taken_zero, put_back}
use Rattle.cone_laws.proofs.Instance.{InCone, map_at, system, column_value}
use Rattle.cone_laws.proofs.ThirdRay.{same_number}

three_rays : (d c s u p q n : ℤ) → d *ℤ p +ℤ neg_ℤ c *ℤ (s *ℤ q +ℤ neg_ℤ u *ℤ n) ≡ (d *ℤ p +ℤ (c *ℤ u) *ℤ n) +ℤ neg_ℤ (c *ℤ s) *ℤ q
three_rays d c s u p q n = simp ring (omega (arith, ints))

one_times : (x : ℤ) → x ≡ pos 1 *ℤ x
one_times x = omega (arith, ints)

minus_times : (x : ℤ) → neg_ℤ x ≡ neg_ℤ (pos 1) *ℤ x
minus_times x = omega (arith, ints)

swing_up : (d c s u p q n : ℤ) → d *ℤ p +ℤ neg_ℤ c *ℤ (s *ℤ q +ℤ neg_ℤ u *ℤ n) ≡ pos 1 *ℤ (d *ℤ p +ℤ (c *ℤ u) *ℤ n) +ℤ neg_ℤ (c *ℤ s) *ℤ q
swing_up d c s u p q n = three_rays d c s u p q n ∙ ap (λ (z : ℤ). z +ℤ neg_ℤ (c *ℤ s) *ℤ q) (one_times (d *ℤ p +ℤ (c *ℤ u) *ℤ n))

turned_over : (d c s u p q n : ℤ) → d *ℤ p +ℤ neg_ℤ c *ℤ (s *ℤ q +ℤ neg_ℤ u *ℤ n) ≡ (c *ℤ u) *ℤ n +ℤ neg_ℤ (neg_ℤ d *ℤ p +ℤ (c *ℤ s) *ℤ q)
turned_over d c s u p q n = simp ring (omega (arith, ints))

swing_down : (d c s u p q n : ℤ) → d *ℤ p +ℤ neg_ℤ c *ℤ (s *ℤ q +ℤ neg_ℤ u *ℤ n) ≡ (c *ℤ u) *ℤ n +ℤ neg_ℤ (pos 1) *ℤ (neg_ℤ d *ℤ p +ℤ (c *ℤ s) *ℤ q)
swing_down d c s u p q n = turned_over d c s u p q n ∙ ap (λ (z : ℤ). (c *ℤ u) *ℤ n +ℤ z) (minus_times (neg_ℤ d *ℤ p +ℤ (c *ℤ s) *ℤ q))

least_of : (x : ℤ) → pos 0 <ℤ x → pos 0 ≤ℤ x
least_of x h = omega (arith, ints)

turned : (x : ℤ) → x <ℤ pos 0 → pos 0 ≤ℤ neg_ℤ x
turned x h = omega (arith, ints)

module _ (L : V → Type 0) (r : ℕ → V) (count : ℕ) (rows : ℕ → V → ℤ) (k : ℕ) (C : V → Type 0) (sys : System L r count rows k C) where
  -- the values of the first rows on a vector
  abbrev values : V → ℕ → ℤ
  values v i = rows i v

  value : (e c d : V) (s t : ℤ) → Combines e s c t d → (i : ℕ) → rows i e ≡ s *ℤ rows i c +ℤ t *ℤ rows i d
  value e c d s t h i = value_both (rows i) (sys.linear i) e c d s t h

  -- the numbers of the rows that are 0 on v
  abbrev ZeroOn : V → ℕ → Type 0
  ZeroOn v i = (i < k) × (rows i v ≡ pos 0)

  abbrev FaceRay : V → V → Type 0
  FaceRay v = OnFace (Among r (Below count)) rows (ZeroOn v)

  among_value : (i : ℕ) (u : V) → (m : Among r (Below count) u) → rows i u ≡ rows i (r m.index)
  among_value i u m = same_value (rows i) (sys.linear i) u (r m.index) m.same

  side_of : (v : V) (i : ℕ) → ZeroOn v i → (u : V) → Among r (Below count) u → pos 0 ≤ℤ rows i u
  side_of v i z u n = rw (among_value i u n) (sys.side i z.0 (r n.index) (sys.rays n.index n.is))

  multiple_zero : (t : ℤ) (v : V) (i : ℕ) → rows i v ≡ pos 0 → rows i (λ j. t *ℤ v j) ≡ pos 0
  multiple_zero t v i z = (sys.linear i).multiple (λ j. t *ℤ v j) v t (λ j. refl) ∙ ap (λ (y : ℤ). t *ℤ y) z ∙ mul-zero t

  -- a vector of the cone is spanned by the lines and the rays of its face
  face_spans : (v : V) → C v → SpansBy L (FaceRay v) v
  face_spans v m = record { times = s.times; positive = s.positive; sums = face L (Among r (Below count)) rows (ZeroOn v) sys.linear (λ i z l n. sys.flat i z.0 l n) (side_of v) (λ j. s.times *ℤ v j) s.sums (λ i z. multiple_zero s.times v i z.1) }
    where
      s : SpansBy L (Among r (Below count)) v
      s = sys.spans v m

  -- no other ray is 0 on all rows on which a ray is
  no_wider : (p q : ℕ) → p < count → q < count → q ≢ p → IsZeroWith k (values (r p)) (values (r q)) → ⊥
  no_wider p q bp bq other zeros = by_ratio (greatest_ratio (values (r p)) (values (r q)) k (λ i b. sys.side i b (r p) (sys.rays p bp)) zeros)
    where
      by_greatest : IsGreatest k (values (r p)) (values (r q)) → ⊥
      by_greatest g = by_factor (zero_or_positive d (sys.side g.at g.below (r q) (sys.rays q bq)))
        where
          c : ℤ
          c = rows g.at (r p)

          d : ℤ
          d = rows g.at (r q)

          rest : V
          rest j = d *ℤ r p j +ℤ neg_ℤ c *ℤ r q j

          rest_value : (i : ℕ) → rows i rest ≡ d *ℤ rows i (r p) +ℤ neg_ℤ c *ℤ rows i (r q)
          rest_value i = value rest (r p) (r q) d (neg_ℤ c) (λ j. refl) i

          rest_within : C rest
          rest_within = sys.combine rest (r p) (r q) d (neg_ℤ c) (sys.rays p bp) (sys.rays q bq) (λ j. refl) (λ i b. rw (rest_value i) (taken_least (rows i (r p)) c (rows i (r q)) d (g.most i b)))

          beside : (u : V) → FaceRay rest u → Among r (Others count p) u
          beside u f = record { index = f.0.index; is = (f.0.is, λ e. not_zero c g.above (ap (λ (i : ℕ). rows g.at (r i)) (sym e) ∙ sym (among_value g.at u f.0) ∙ f.1 g.at (g.below, rest_value g.at ∙ taken_zero c d))); same = f.0.same }

          other_q : Among r (Others count p) (r q)
          other_q = record { index = q; is = (bq, other); same = λ j. refl }

          ray_spanned : SpansBy L (Among r (Others count p)) (r q)
          ray_spanned = spans_sums (r q) (sums_one_ray (pos 1) (r q) (r q) (omega (arith, ints)) other_q (λ j. omega (arith, ints)))

          by_factor : (d ≡ pos 0) ⊎ (pos 0 <ℤ d) → ⊥
          by_factor (inl z) = ray_not_flat L r count rows k C sys q bq (λ i b. ratio_above (rows i (r q)) c d (rows i (r p)) (g.most i b) z (sys.side i b (r q) (sys.rays q bq)) g.above)
          by_factor (inr a) = sys.irredundant p bp (spans_of_multiple d (r p) (λ j. d *ℤ r p j) a (spans_add (pos 1) c rest (r q) (λ j. d *ℤ r p j) (omega (arith, ints)) (least_of c g.above) (spans_more (λ l m. m) beside rest (face_spans rest rest_within)) ray_spanned (λ j. put_back (r p j) (r q j) c d)) (λ j. refl))

      by_ratio : HasGreatest k (values (r p)) (values (r q)) → ⊥
      by_ratio (inl z) = ray_not_flat L r count rows k C sys p bp z
      by_ratio (inr g) = by_greatest g

  -- row m is 0 on ray p alone, and each other row that is 0 on p is 0 on n: no third ray is 0 wherever both are
  no_third : (p n q m : ℕ) → p < count → n < count → q < count → p ≢ n → q ≢ p → q ≢ n → m < k → rows m (r p) ≡ pos 0 → rows m (r n) ≢ pos 0 → ((i : ℕ) → i < k → i ≢ m → rows i (r p) ≡ pos 0 → rows i (r n) ≡ pos 0) → ((i : ℕ) → i < k → rows i (r p) ≡ pos 0 → rows i (r n) ≡ pos 0 → rows i (r q) ≡ pos 0) → ⊥
  no_third p n q m bp bn bq pn qp qn bm zp zn others between = by_signs (zero_or_positive s (sys.side m bm (r n) (sys.rays n bn))) (zero_or_positive u (sys.side m bm (r q) (sys.rays q bq)))
    where
      s : ℤ
      s = rows m (r n)

      u : ℤ
      u = rows m (r q)

      wider : u ≡ pos 0 → (i : ℕ) → i < k → rows i (r p) ≡ pos 0 → (i ≡ m) ⊎ (i ≢ m) → rows i (r q) ≡ pos 0
      wider z i b e (inl f) = ap (λ (j : ℕ). rows j (r q)) f ∙ z
      wider z i b e (inr f) = between i b e (others i b f e)

      -- q swung round p, onto row m
      swung : V
      swung j = s *ℤ r q j +ℤ neg_ℤ u *ℤ r n j

      swung_at : (i : ℕ) → i < k → rows i (r p) ≡ pos 0 → (i ≡ m) ⊎ (i ≢ m) → s *ℤ rows i (r q) +ℤ neg_ℤ u *ℤ rows i (r n) ≡ pos 0
      swung_at i b e (inl f) = ap (λ (j : ℕ). s *ℤ rows j (r q) +ℤ neg_ℤ u *ℤ rows j (r n)) f ∙ taken_zero u s
      swung_at i b e (inr f) = zero_sum s (neg_ℤ u) (rows i (r q)) (rows i (r n)) (between i b e (others i b f e)) (others i b f e)

      swung_zero : IsZeroWith k (values (r p)) (values swung)
      swung_zero i b e = value swung (r q) (r n) s (neg_ℤ u) (λ j. refl) i ∙ swung_at i b e (same_number i m)

      by_greatest : pos 0 <ℤ s → pos 0 <ℤ u → IsGreatest k (values (r p)) (values swung) → ⊥
      by_greatest ps pu g = unspanned L r count rows k C sys n p q d (c *ℤ u) (c *ℤ s) rest bn bp bq (λ e. pn (sym e)) qn qp (mul-positive c u g.above pu) (mul-positive c s g.above ps) (spans_more (λ l h. h) nobody rest (face_spans rest (rest_within (at_least_zero_or_not d)))) (λ j. three_rays d c s u (r p j) (r q j) (r n j))
        where
          c : ℤ
          c = rows g.at (r p)

          d : ℤ
          d = rows g.at swung

          rest : V
          rest j = d *ℤ r p j +ℤ neg_ℤ c *ℤ swung j

          rest_value : (i : ℕ) → rows i rest ≡ d *ℤ rows i (r p) +ℤ neg_ℤ c *ℤ rows i swung
          rest_value i = value rest (r p) swung d (neg_ℤ c) (λ j. refl) i

          rest_least : (i : ℕ) → i < k → pos 0 ≤ℤ rows i rest
          rest_least i b = rw (rest_value i) (taken_least (rows i (r p)) c (rows i swung) d (g.most i b))

          up : V
          up j = d *ℤ r p j +ℤ (c *ℤ u) *ℤ r n j

          down : V
          down j = neg_ℤ d *ℤ r p j +ℤ (c *ℤ s) *ℤ r q j

          at_least : (x : ℤ) → pos 0 <ℤ x → pos 0 ≤ℤ (c *ℤ x)
          at_least x h = mul-at_least_zero c x (least_of c g.above) (least_of x h)

          rest_within : (pos 0 ≤ℤ d) ⊎ (d <ℤ pos 0) → C rest
          rest_within (inl h) = sys.combine rest up (r q) (pos 1) (neg_ℤ (c *ℤ s)) (within_sum L r count rows k C sys up (r p) (r n) d (c *ℤ u) (sys.rays p bp) (sys.rays n bn) h (at_least u pu) (λ j. refl)) (sys.rays q bq) (λ j. swing_up d c s u (r p j) (r q j) (r n j)) rest_least
          rest_within (inr h) = sys.combine rest (r n) down (c *ℤ u) (neg_ℤ (pos 1)) (sys.rays n bn) (within_sum L r count rows k C sys down (r p) (r q) (neg_ℤ d) (c *ℤ s) (sys.rays p bp) (sys.rays q bq) (turned d h) (at_least s ps) (λ j. refl)) (λ j. swing_down d c s u (r p j) (r q j) (r n j)) rest_least

          nobody : (w : V) → FaceRay rest w → Nothing w
          nobody w f = absurd (by_number (same_number f.0.index p))
            where
              by_number : (f.0.index ≡ p) ⊎ (f.0.index ≢ p) → ⊥
              by_number (inl e) = not_zero c g.above (ap (λ (i : ℕ). rows g.at (r i)) (sym e) ∙ sym (among_value g.at w f.0) ∙ f.1 g.at (g.below, rest_value g.at ∙ taken_zero c d))
              by_number (inr e) = no_wider p f.0.index bp f.0.is e (λ i b z. sym (among_value i w f.0) ∙ f.1 i (b, rest_value i ∙ zero_sum d (neg_ℤ c) (rows i (r p)) (rows i swung) z (swung_zero i b z)))

      by_ratio : pos 0 <ℤ s → pos 0 <ℤ u → HasGreatest k (values (r p)) (values swung) → ⊥
      by_ratio ps pu (inl z) = ray_not_flat L r count rows k C sys p bp z
      by_ratio ps pu (inr g) = by_greatest ps pu g

      by_signs : (s ≡ pos 0) ⊎ (pos 0 <ℤ s) → (u ≡ pos 0) ⊎ (pos 0 <ℤ u) → ⊥
      by_signs (inl z) h = zn z
      by_signs (inr a) (inl z) = no_wider p q bp bq qp (λ i b e. wider z i b e (same_number i m))
      by_signs (inr a) (inr b) = by_ratio a b (greatest_ratio (values (r p)) (values swung) k (λ i h. sys.side i h (r p) (sys.rays p bp)) swung_zero)

pub one_more_law : OneMoreLaw
one_more_law width rows k lines rays p n m fits minimal bp bn h q bq qp qn between = no_third (In lines) (columns rays) (length rays) (map_at width rows k fits) k (InCone width rows k) (system width rows k fits lines rays minimal.generates minimal.lineality minimal.irredundant) p n q m bp bn bq (λ e. h.not_zero (ap (λ (j : ℕ). dot (row_at rows m) (vector_at rays j)) (sym e) ∙ h.is_zero)) qp qn h.below (column_value rows m (vector_at rays p) ∙ h.is_zero) (λ e. h.not_zero (sym (column_value rows m (vector_at rays n)) ∙ e)) (λ i b f e. column_value rows i (vector_at rays n) ∙ h.others i b f (sym (column_value rows i (vector_at rays p)) ∙ e)) (λ i b e f. column_value rows i (vector_at rays q) ∙ between i b (sym (column_value rows i (vector_at rays p)) ∙ e) (sym (column_value rows i (vector_at rays n)) ∙ f))
