-- After a step with a map, none of the rays that stay or are made of adjacent rays is spanned by the lines and the others.
use Rattle.std.proofs.Common.{◌≡◌, ◌≢◌, ◌⊎◌, inl, inr, ℕ, zero, suc, ◌<◌, ℤ, pos, ◌+ℤ◌, ◌-ℤ◌, ◌*ℤ◌, neg_ℤ, ◌≤ℤ◌, ◌<ℤ◌, refl, sym, ap, ◌∙◌, arith}
use Rattle.std.proofs.lemmas.Int.{ints}
use Rattle.row_core.proofs.Ring.{ring, mul_comm, add-mul, mul-at_least_zero, mul-positive, mul-zero, zero-mul, zero_of_mul, at_least_zero_or_not}
use Rattle.cone_laws.proofs.Sums.{V, IsMore, Same, Among, Sums, none, line, ray, Nothing, SpansBy, IsLinear, same_value, sums_same, sums_more, sums_zero, sums_at_least_zero}
use Rattle.cone_laws.proofs.Face.{face, zero_or_positive, same_without, same_beside, first_zero, rest_zero}
use Rattle.cone_laws.proofs.Systems.{Others, System, IsFlat, ray_not_flat}
use Rattle.cone_laws.proofs.Sides.{pairing, IsCrossed, pairing_is_zero, crossing_first, crossing_second, crossing_zero, crossing_bent, crossing_within}
use Rattle.cone_laws.proofs.ThirdRay.{same_number}

-- a ray that stays, of those in Keep, or the combination of two adjacent rays on the two sides, of those in Make
pub data Stepped (r : ℕ → V) (count : ℕ) (a : V → ℤ) (Adj : ℕ → ℕ → Type 0) (Keep : ℕ → Type 0) (Make : ℕ → ℕ → Type 0) (v : V) : Type 0 where
  stayed : (j : ℕ) → j < count → pos 0 ≤ℤ a (r j) → Keep j → Same v (r j) → Stepped r count a Adj Keep Make v
  made : (p n : ℕ) → IsCrossed r count a p n → Adj p n → Make p n → Same v (pairing a (r p) (r n)) → Stepped r count a Adj Keep Make v

-- all new rays but the one of pair p, n
abbrev pub BesideMade : (r : ℕ → V) (count : ℕ) (a : V → ℤ) (Adj : ℕ → ℕ → Type 0) → ℕ → ℕ → V → Type 0
BesideMade r count a Adj p n = Stepped r count a Adj (λ j. Unit {0}) (λ q m. ¬ ((q ≡ p) × (m ≡ n)))

-- all new rays but ray j
abbrev pub BesideKept : (r : ℕ → V) (count : ℕ) (a : V → ℤ) (Adj : ℕ → ℕ → Type 0) → ℕ → V → Type 0
BesideKept r count a Adj j = Stepped r count a Adj (λ i. i ≢ j) (λ q m. Unit {0})

-- the whole factor of ray j, less that of the others
difference_is : (t m x u : ℤ) → t *ℤ x ≡ m *ℤ x +ℤ u → (t -ℤ m) *ℤ x ≡ u
difference_is t m x u e = simp ring (omega (arith, ints, e, mul_comm t x, mul_comm m x))

excess_is : (t m x u : ℤ) → t *ℤ x ≡ m *ℤ x +ℤ u → (m -ℤ t) *ℤ x +ℤ u ≡ pos 0
excess_is t m x u e = simp ring (omega (arith, ints, e, mul_comm t x, mul_comm m x))

excess_zero : (s x u : ℤ) → pos 0 ≤ℤ s → pos 0 ≤ℤ x → pos 0 ≤ℤ u → s *ℤ x +ℤ u ≡ pos 0 → u ≡ pos 0
excess_zero s x u p q w e = let t : pos 0 ≤ℤ (s *ℤ x) = mul-at_least_zero s x p q in omega (arith, ints)

beside_factor : (w m l u f x t : ℤ) → w ≡ m *ℤ l +ℤ u → u ≡ f *ℤ x +ℤ t → w ≡ f *ℤ x +ℤ (m *ℤ l +ℤ t)
beside_factor w m l u f x t e h = omega (arith, ints)

beside_both : (w m l s x u f t : ℤ) → w ≡ (m *ℤ l +ℤ s *ℤ x) +ℤ u → u ≡ f *ℤ x +ℤ t → w ≡ (s +ℤ f) *ℤ x +ℤ (m *ℤ l +ℤ t)
beside_both w m l s x u f t e h = omega (arith, ints, add-mul s f x)

no_factor_more : (x u : ℤ) → u ≡ pos 0 *ℤ x +ℤ u
no_factor_more x u = omega (arith, ints, zero-mul x)

replaced : (w m v l u : ℤ) → w ≡ m *ℤ v +ℤ u → v ≡ l → w ≡ m *ℤ l +ℤ u
replaced w m v l u e f = e ∙ ap (λ (z : ℤ). m *ℤ z +ℤ u) f

split_both : (w m v s n t q x u : ℤ) → w ≡ m *ℤ v +ℤ u → v ≡ s *ℤ n +ℤ neg_ℤ t *ℤ q → q ≡ x → w ≡ ((m *ℤ s) *ℤ n +ℤ (m *ℤ neg_ℤ t) *ℤ x) +ℤ u
split_both w m v s n t q x u e f g = e ∙ ap (λ (z : ℤ). m *ℤ z +ℤ u) (f ∙ ap (λ (z : ℤ). s *ℤ n +ℤ neg_ℤ t *ℤ z) g) ∙ simp ring (omega (arith, ints))

split_first : (w m v s n t q u : ℤ) → w ≡ m *ℤ v +ℤ u → v ≡ s *ℤ n +ℤ neg_ℤ t *ℤ q → w ≡ (m *ℤ neg_ℤ t) *ℤ q +ℤ ((m *ℤ s) *ℤ n +ℤ u)
split_first w m v s n t q u e f = e ∙ ap (λ (z : ℤ). m *ℤ z +ℤ u) f ∙ simp ring (omega (arith, ints))

module _ (L : V → Type 0) (r : ℕ → V) (count : ℕ) (rows : ℕ → V → ℤ) (k : ℕ) (C : V → Type 0) (sys : System L r count rows k C) (a : V → ℤ) (lin : IsLinear a) (flat : (l : V) → L l → a l ≡ pos 0) (Adj : ℕ → ℕ → Type 0) (no_third : (p n q : ℕ) → Adj p n → q < count → q ≢ p → q ≢ n → ¬ ((i : ℕ) → i < k → rows i (r p) ≡ pos 0 → rows i (r n) ≡ pos 0 → rows i (r q) ≡ pos 0)) where
  -- ---- rays that are made

  -- the map, and then the rows
  abbrev with_map : ℕ → V → ℤ
  with_map zero v = a v
  with_map (suc i) v = rows i v

  with_map_linear : (i : ℕ) → IsLinear (with_map i)
  with_map_linear zero = lin
  with_map_linear (suc i) = sys.linear i

  -- the map, and the rows that are 0 on v
  abbrev On : V → ℕ → Type 0
  On v zero = Unit {0}
  On v (suc i) = (i < k) × (rows i v ≡ pos 0)

  on_lines : (v : V) (i : ℕ) → On v i → (l : V) → L l → with_map i l ≡ pos 0
  on_lines v zero o l m = flat l m
  on_lines v (suc i) o l m = sys.flat i o.0 l m

  module _ (Keep : ℕ → Type 0) (Make : ℕ → ℕ → Type 0) where
    new_within : (u : V) → Stepped r count a Adj Keep Make u → (i : ℕ) → i < k → pos 0 ≤ℤ rows i u
    new_within u (stayed j b least o e) i l = rw (same_value (rows i) (sys.linear i) u (r j) e) (sys.side i l (r j) (sys.rays j b))
    new_within u (made p n h adjacent o e) i l = rw (same_value (rows i) (sys.linear i) u (pairing a (r p) (r n)) e) (sys.side i l (pairing a (r p) (r n)) (crossing_within L r count rows k C sys a p n h))

    new_at_least_zero : (u : V) → Stepped r count a Adj Keep Make u → pos 0 ≤ℤ a u
    new_at_least_zero u (stayed j b least o e) = rw (same_value a lin u (r j) e) least
    new_at_least_zero u (made p n h adjacent o e) = omega (arith, ints, same_value a lin u (pairing a (r p) (r n)) e, pairing_is_zero a lin (r p) (r n))

    on_side : (v : V) (i : ℕ) → On v i → (u : V) → Stepped r count a Adj Keep Make u → pos 0 ≤ℤ with_map i u
    on_side v zero o u m = new_at_least_zero u m
    on_side v (suc i) o u m = new_within u m i o.0

  module _ (p n : ℕ) (crossed : IsCrossed r count a p n) (adjacent : Adj p n) where
    abbrev combination : V
    combination = pairing a (r p) (r n)

    -- a ray that is 0 on each row on which both are is one of the two
    first_or_second : (q : ℕ) → q < count → ((i : ℕ) → i < k → rows i (r p) ≡ pos 0 → rows i (r n) ≡ pos 0 → rows i (r q) ≡ pos 0) → (q ≡ p) ⊎ (q ≡ n)
    first_or_second q b between = by_first (same_number q p) (same_number q n)
      where
        by_first : (q ≡ p) ⊎ (q ≢ p) → (q ≡ n) ⊎ (q ≢ n) → (q ≡ p) ⊎ (q ≡ n)
        by_first (inl e) o = inl e
        by_first (inr f) (inl e) = inr e
        by_first (inr f) (inr g) = absurd (no_third p n q adjacent b f g between)

    zero_together : (u : V) → ((i : ℕ) → On combination i → with_map i u ≡ pos 0) → (i : ℕ) → i < k → rows i (r p) ≡ pos 0 → rows i (r n) ≡ pos 0 → rows i u ≡ pos 0
    zero_together u f i b y z = f (suc i) (b, crossing_zero L r count rows k C sys a p n i y z)

    -- no other new ray is 0 where the combination is
    no_other : (u : V) → BesideMade r count a Adj p n u → ((i : ℕ) → On combination i → with_map i u ≡ pos 0) → ⊥
    no_other u (stayed j b least o e) f = by_ray (first_or_second j b (λ i l y z. sym (same_value (rows i) (sys.linear i) u (r j) e) ∙ zero_together u f i l y z))
      where
        level : a (r j) ≡ pos 0
        level = sym (same_value a lin u (r j) e) ∙ f 0 tt

        by_ray : (j ≡ p) ⊎ (j ≡ n) → ⊥
        by_ray (inl same) = omega (arith, ints, crossed.above, ap (λ (i : ℕ). a (r i)) same, level)
        by_ray (inr same) = omega (arith, ints, crossed.below, ap (λ (i : ℕ). a (r i)) same, level)
    no_other u (made q m other o differ e) f = by_rays (first_or_second q other.first zero_first) (first_or_second m other.second zero_second)
      where
        zero_both : (i : ℕ) → i < k → rows i (r p) ≡ pos 0 → rows i (r n) ≡ pos 0 → rows i (pairing a (r q) (r m)) ≡ pos 0
        zero_both i l y z = sym (same_value (rows i) (sys.linear i) u (pairing a (r q) (r m)) e) ∙ zero_together u f i l y z

        zero_first : (i : ℕ) → i < k → rows i (r p) ≡ pos 0 → rows i (r n) ≡ pos 0 → rows i (r q) ≡ pos 0
        zero_first i l y z = crossing_first L r count rows k C sys a q m other i l (zero_both i l y z)

        zero_second : (i : ℕ) → i < k → rows i (r p) ≡ pos 0 → rows i (r n) ≡ pos 0 → rows i (r m) ≡ pos 0
        zero_second i l y z = crossing_second L r count rows k C sys a q m other i l (zero_both i l y z)

        by_rays : (q ≡ p) ⊎ (q ≡ n) → (m ≡ p) ⊎ (m ≡ n) → ⊥
        by_rays (inl x) (inr y) = differ (x, y)
        by_rays (inl x) (inl y) = omega (arith, ints, crossed.above, other.below, ap (λ (i : ℕ). a (r i)) y)
        by_rays (inr x) y = omega (arith, ints, crossed.below, other.above, ap (λ (i : ℕ). a (r i)) x)

    -- the combination isn't spanned by the lines and the other new rays
    pub made_needed : ¬ (SpansBy L (BesideMade r count a Adj p n) combination)
    made_needed s = crossing_bent L r count rows k C sys a p n crossed (λ i b. zero_of_mul s.times (rows i combination) s.positive (sym ((sys.linear i).multiple (λ j. s.times *ℤ combination j) combination s.times (λ j. refl)) ∙ sums_zero (rows i) (sys.linear i) (sys.flat i b) (λ u m. elim m [ ]) (λ j. s.times *ℤ combination j) lines_alone))
      where
        multiple_zero : (i : ℕ) → On combination i → with_map i (λ j. s.times *ℤ combination j) ≡ pos 0
        multiple_zero zero o = lin.multiple (λ j. s.times *ℤ combination j) combination s.times (λ j. refl) ∙ ap (λ (y : ℤ). s.times *ℤ y) (pairing_is_zero a lin (r p) (r n)) ∙ mul-zero s.times
        multiple_zero (suc i) o = (sys.linear i).multiple (λ j. s.times *ℤ combination j) combination s.times (λ j. refl) ∙ ap (λ (y : ℤ). s.times *ℤ y) o.1 ∙ mul-zero s.times

        lines_alone : Sums L Nothing (λ j. s.times *ℤ combination j)
        lines_alone = sums_more (λ l m. m) (λ u m. absurd (no_other u m.0 m.1)) (λ j. s.times *ℤ combination j) (face L (BesideMade r count a Adj p n) with_map (On combination) with_map_linear (on_lines combination) (on_side (λ j. Unit {0}) (λ q m. ¬ ((q ≡ p) × (m ≡ n))) combination) (λ j. s.times *ℤ combination j) s.sums multiple_zero)

  -- ---- rays that stay

  module _ (j : ℕ) (b : j < count) (least : pos 0 ≤ℤ a (r j)) where
    -- a sum of new rays but ray j, by the old rays: what there is of ray j comes from combinations, so with a part that isn't lineality
    record Expanded (u : V) : Type 0 where
      factor : ℤ
      factor_least : pos 0 ≤ℤ factor
      rest : V
      sums : Sums L (Among r (Others count j)) rest
      is : (i : ℕ) → u i ≡ factor *ℤ r j i +ℤ rest i
      bent : (factor ≡ pos 0) ⊎ (¬ (IsFlat rows k rest))

    rest_least : (v : V) → Sums L (Among r (Others count j)) v → (i : ℕ) → i < k → pos 0 ≤ℤ rows i v
    rest_least v s i l = sums_at_least_zero (rows i) (sys.linear i) (sys.flat i l) (λ u m. rw (same_value (rows i) (sys.linear i) u (r m.index) m.same) (sys.side i l (r m.index) (sys.rays m.index m.is.0))) v s

    -- more of the others doesn't make it lineality
    still_bent : (m : ℤ) (q : ℕ) (v w : V) → q < count → pos 0 ≤ℤ m → Sums L (Among r (Others count j)) v → IsMore w m (r q) v → ¬ (IsFlat rows k v) → ¬ (IsFlat rows k w)
    still_bent m q v w bq p s h bent z = bent (λ i l. rest_zero (rows i w) m (rows i (r q)) (rows i v) ((sys.linear i).more w (r q) v m h) (z i l) p (sys.side i l (r q) (sys.rays q bq)) (rest_least v s i l))

    now_bent : (m : ℤ) (q : ℕ) (v w : V) → q < count → pos 0 <ℤ m → Sums L (Among r (Others count j)) v → IsMore w m (r q) v → ¬ (IsFlat rows k w)
    now_bent m q v w bq p s h z = ray_not_flat L r count rows k C sys q bq (λ i l. first_zero (rows i w) m (rows i (r q)) (rows i v) ((sys.linear i).more w (r q) v m h) (z i l) p (sys.side i l (r q) (sys.rays q bq)) (rest_least v s i l))

    add_other : (m : ℤ) (q : ℕ) (u w : V) → q < count → q ≢ j → pos 0 ≤ℤ m → IsMore w m (r q) u → Expanded u → Expanded w
    add_other m q u w bq o p h x = record {
      factor = x.factor;
      factor_least = x.factor_least;
      rest = more;
      sums = ray m (r q) x.rest p (record { index = q; is = (bq, o); same = λ i. refl }) x.sums (λ i. refl);
      is = λ i. beside_factor (w i) m (r q i) (u i) x.factor (r j i) (x.rest i) (h i) (x.is i);
      bent = by_factor x.bent;
    }
      where
        more : V
        more i = m *ℤ r q i +ℤ x.rest i

        by_factor : (x.factor ≡ pos 0) ⊎ (¬ (IsFlat rows k x.rest)) → (x.factor ≡ pos 0) ⊎ (¬ (IsFlat rows k more))
        by_factor (inl e) = inl e
        by_factor (inr f) = inr (still_bent m q x.rest more bq p x.sums (λ i. refl) f)

    -- a combination of ray j with a ray n below the map
    add_combination : (m s : ℤ) (n : ℕ) (u w : V) → n < count → n ≢ j → pos 0 <ℤ m → pos 0 ≤ℤ s → ((i : ℕ) → w i ≡ (m *ℤ r n i +ℤ s *ℤ r j i) +ℤ u i) → Expanded u → Expanded w
    add_combination m s n u w bn o p q h x = record {
      factor = s +ℤ x.factor;
      factor_least = omega (arith, ints, x.factor_least);
      rest = more;
      sums = ray m (r n) x.rest (omega (arith, ints)) (record { index = n; is = (bn, o); same = λ i. refl }) x.sums (λ i. refl);
      is = λ i. beside_both (w i) m (r n i) s (r j i) (u i) x.factor (x.rest i) (h i) (x.is i);
      bent = inr (now_bent m n x.rest more bn p x.sums (λ i. refl));
    }
      where
        more : V
        more i = m *ℤ r n i +ℤ x.rest i

    add_line : (m : ℤ) (l u w : V) → L l → IsMore w m l u → Expanded u → Expanded w
    add_line m l u w o h x = record {
      factor = x.factor;
      factor_least = x.factor_least;
      rest = more;
      sums = line m l x.rest o x.sums (λ i. refl);
      is = λ i. beside_factor (w i) m (l i) (u i) x.factor (r j i) (x.rest i) (h i) (x.is i);
      bent = by_factor x.bent;
    }
      where
        more : V
        more i = m *ℤ l i +ℤ x.rest i

        by_factor : (x.factor ≡ pos 0) ⊎ (¬ (IsFlat rows k x.rest)) → (x.factor ≡ pos 0) ⊎ (¬ (IsFlat rows k more))
        by_factor (inl e) = inl e
        by_factor (inr f) = inr (λ z. f (λ i b. sym (same_beside (rows i more) m (rows i l) (rows i x.rest) ((sys.linear i).more more l x.rest m (λ c. refl)) (sys.flat i b l o)) ∙ z i b))

    add_same : (u w : V) → Same w u → Expanded u → Expanded w
    add_same u w e x = record { factor = x.factor; factor_least = x.factor_least; rest = x.rest; sums = x.sums; is = λ i. e i ∙ x.is i; bent = x.bent }

    add_new : (m : ℤ) (v u w : V) → pos 0 <ℤ m → BesideKept r count a Adj j v → IsMore w m v u → Expanded u → Expanded w
    add_new m v u w p (stayed q bq leq o e) h x = add_other m q u w bq o (omega (arith, ints)) (λ i. replaced (w i) m (v i) (r q i) (u i) (h i) (e i)) x
    add_new m v u w p (made q n crossed adjacent o e) h x = by_first (same_number q j)
      where
        n_not_j : n ≢ j
        n_not_j y = omega (arith, ints, crossed.below, least, ap (λ (i : ℕ). a (r i)) y)

        by_first : (q ≡ j) ⊎ (q ≢ j) → Expanded w
        by_first (inl y) = add_combination (m *ℤ a (r q)) (m *ℤ neg_ℤ (a (r n))) n u w crossed.second n_not_j (mul-positive m (a (r q)) p crossed.above) (mul-at_least_zero m (neg_ℤ (a (r n))) (omega (arith, ints)) (omega (arith, ints, crossed.below))) (λ i. split_both (w i) m (v i) (a (r q)) (r n i) (a (r n)) (r q i) (r j i) (u i) (h i) (e i) (ap (λ (z : ℕ). r z i) y)) x
        by_first (inr y) = add_other (m *ℤ neg_ℤ (a (r n))) q with_n w crossed.first y (mul-at_least_zero m (neg_ℤ (a (r n))) (omega (arith, ints)) (omega (arith, ints, crossed.below))) (λ i. split_first (w i) m (v i) (a (r q)) (r n i) (a (r n)) (r q i) (u i) (h i) (e i)) (add_other (m *ℤ a (r q)) n u with_n crossed.second n_not_j (mul-at_least_zero m (a (r q)) (omega (arith, ints)) (omega (arith, ints, crossed.above))) (λ i. refl) x)
          where
            with_n : V
            with_n i = (m *ℤ a (r q)) *ℤ r n i +ℤ u i

    add_term : (m : ℤ) (v u w : V) → (m ≡ pos 0) ⊎ (pos 0 <ℤ m) → BesideKept r count a Adj j v → IsMore w m v u → Expanded u → Expanded w
    add_term m v u w (inl z) o h x = add_same u w (λ i. same_without (w i) m (v i) (u i) (h i) z) x
    add_term m v u w (inr p) o h x = add_new m v u w p o h x

    expanded : (u : V) → Sums L (BesideKept r count a Adj j) u → Expanded u
    expanded u (none h) = record { factor = pos 0; factor_least = omega (arith, ints); rest = u; sums = none h; is = λ i. no_factor_more (r j i) (u i); bent = inl refl }
    expanded w (line m l u o s h) = add_line m l u w o h (expanded u s)
    expanded w (ray m v u p o s h) = add_term m v u w (zero_or_positive m p) o h (expanded u s)

    -- a ray that stays isn't spanned by the lines and the other new rays
    pub kept_needed : ¬ (SpansBy L (BesideKept r count a Adj j) (r j))
    kept_needed s = by_factor (at_least_zero_or_not (x.factor -ℤ s.times))
      where
        x : Expanded (λ i. s.times *ℤ r j i)
        x = expanded (λ i. s.times *ℤ r j i) s.sums

        whole : (i : ℕ) → s.times *ℤ rows i (r j) ≡ x.factor *ℤ rows i (r j) +ℤ rows i x.rest
        whole i = sym ((sys.linear i).multiple (λ c. s.times *ℤ r j c) (r j) s.times (λ c. refl)) ∙ (sys.linear i).more (λ c. s.times *ℤ r j c) (r j) x.rest x.factor x.is

        flat_rest : pos 0 ≤ℤ (x.factor -ℤ s.times) → IsFlat rows k x.rest
        flat_rest p i l = excess_zero (x.factor -ℤ s.times) (rows i (r j)) (rows i x.rest) p (sys.side i l (r j) (sys.rays j b)) (rest_least x.rest x.sums i l) (excess_is s.times x.factor (rows i (r j)) (rows i x.rest) (whole i))

        by_bent : pos 0 ≤ℤ (x.factor -ℤ s.times) → (x.factor ≡ pos 0) ⊎ (¬ (IsFlat rows k x.rest)) → ⊥
        by_bent p (inl z) = omega (arith, ints, s.positive)
        by_bent p (inr f) = f (flat_rest p)

        by_factor : (pos 0 ≤ℤ (x.factor -ℤ s.times)) ⊎ ((x.factor -ℤ s.times) <ℤ pos 0) → ⊥
        by_factor (inl p) = by_bent p x.bent
        by_factor (inr p) = sys.irredundant j b (record {
          times = s.times -ℤ x.factor;
          positive = omega (arith, ints);
          sums = sums_same x.rest (λ i. (s.times -ℤ x.factor) *ℤ r j i) x.sums (λ i. difference_is s.times x.factor (r j i) (x.rest i) (x.is i));
        })
