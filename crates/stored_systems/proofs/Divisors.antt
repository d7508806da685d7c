-- When the row `(0, .., 0, 1)` is among the canonical inequalities of a closed set with a point.
use Rattle.std.proofs.Common.{◌≡◌, ◌≢◌, ◌⊎◌, inl, inr, ℕ, zero, suc, ◌+◌, ◌<◌, List, [], ◌∷◌, length, map, remove, ℤ, pos, ◌+ℤ◌, ◌*ℤ◌, neg_ℤ, ◌≤ℤ◌, ◌<ℤ◌, refl, sym, ap, ◌∙◌, subst, arith, All}
use Rattle.std.specs.Prelude.{slice_index_or}
use Rattle.std.proofs.lemmas.Int.{ints}
use Rattle.std.proofs.lemmas.List.{length-map, get_or-map}
use Rattle.std.proofs.lemmas.List.Elements.{All-head, All-tail, All-from_get_or}
use Rattle.row_core.specs.Vectors.{cell, dot, add, scale, combined}
use Rattle.row_core.specs.Lists.{system_rows}
use Rattle.cone_laws.specs.Cones.{Spans, Generates, negated}
use Rattle.cone_laws.specs.Canon.{vector_at}
use Rattle.cone_laws.specs.Members.{ConeOf}
use Rattle.cone_laws.proofs.Ring.{by_sign, mul_comm, mul-positive, zero_of_mul, mul-at_least_zero, neg-mul, mul-neg, mul-zero, zero-mul}
use Rattle.cone_laws.proofs.Sums.{spans_of_multiple}
use Rattle.cone_laws.proofs.Columns.{value, value_linear, dot_is, dot_comm, cell-add, cell-scale, length-scale, cell-negated}
use Rattle.cone_laws.proofs.Bridge.{to_sums, from_sums}
use Rattle.cone_laws.proofs.Supports.{IsZeroWith, IsGreatest, HasGreatest, greatest_ratio}
use Rattle.cone_laws.proofs.Existence.{both, cell-both, length-both}
use Rattle.cone_laws.proofs.Bipolar.{dot-both}
use Rattle.cone_laws.proofs.Factors.{AtLeastZero, at_least_zero_from_all, All-remove, combined-remove}
use Rattle.cone_laws.proofs.Spanning.{sum_is_spanned, multiple_is_spanned}
use Rattle.cone_laws.proofs.Rearranging.{spans_member, Contains-remove_other}
use Rattle.cone_laws.proofs.UniqueRays.{not_lineal}
use Rattle.cone_laws.proofs.UniqueSystems.{upto_cone}
use Rattle.cone_laws.proofs.SystemLists.{zero_on_lines, least_on_rays, cone_of_row}
use Rattle.stored_systems.specs.WorkLists.{divisor_row}
use Rattle.stored_systems.specs.StoredForms.{AreClosedSystems}
use Rattle.stored_systems.proofs.DivisorRow.{dot_divisor, length-divisor}
use Rattle.stored_systems.proofs.Pivots.{second_positive}

-- ---- values of sums
-- the value of a sum of multiplied rows is the sum of their multiplied values
value_combined : (y : List ℤ) (ks : List ℤ) (gs : List (List ℤ)) → value y (λ j. combined ks gs j) ≡ dot ks (map (dot y) gs)
value_combined y [] gs = (value_linear y).zero (λ j. pos 0) (λ j. refl)
value_combined y (k ∷ ks) [] = (value_linear y).zero (λ j. pos 0) (λ j. refl)
value_combined y (k ∷ ks) (g ∷ gs) =
    (value_linear y).more (λ j. k *ℤ cell g j +ℤ combined ks gs j) (cell g) (λ j. combined ks gs j) k (λ j. refl)
    ∙ ap (λ (z : ℤ). k *ℤ z +ℤ value y (λ j. combined ks gs j)) (sym (dot_is y g))
    ∙ ap (λ (z : ℤ). k *ℤ dot y g +ℤ z) (value_combined y ks gs)

once_more : (x u v : ℤ) → x ≡ u +ℤ v → x ≡ pos 1 *ℤ u +ℤ v
once_more x u v e = omega (arith, ints, e)

sum_value : (t w x a b c d : ℤ) → x ≡ t *ℤ w → x ≡ pos 1 *ℤ a +ℤ b → a ≡ c → b ≡ d → t *ℤ w ≡ c +ℤ d
sum_value t w x a b c d e f g h = omega (arith, ints, e, f, g, h)

spans_value : (y v : List ℤ) (lines rays : List (List ℤ)) (s : Spans lines rays v) → s.times *ℤ dot y v ≡ dot s.line_factors (map (dot y) lines) +ℤ dot s.ray_factors (map (dot y) rays)
spans_value y v lines rays s =
    sum_value s.times (dot y v) (value y (λ j. s.times *ℤ cell v j)) (value y (λ j. combined s.line_factors lines j)) (value y (λ j. combined s.ray_factors rays j)) (dot s.line_factors (map (dot y) lines)) (dot s.ray_factors (map (dot y) rays))
    ((value_linear y).multiple (λ j. s.times *ℤ cell v j) (cell v) s.times (λ j. refl) ∙ ap (λ (z : ℤ). s.times *ℤ z) (sym (dot_is y v)))
    ((value_linear y).more (λ j. s.times *ℤ cell v j) (λ j. combined s.line_factors lines j) (λ j. combined s.ray_factors rays j) (pos 1) (λ j. once_more (s.times *ℤ cell v j) (combined s.line_factors lines j) (combined s.ray_factors rays j) (s.sum j)))
    (value_combined y s.line_factors lines) (value_combined y s.ray_factors rays)

-- ---- sums of products
no_product : (k d x : ℤ) → d ≡ pos 0 → x ≡ pos 0 → k *ℤ d +ℤ x ≡ pos 0
no_product k d x e f = omega (arith, ints, ap (λ (z : ℤ). k *ℤ z) e ∙ mul-zero k, f)

dot_zeros : (y : List ℤ) (ks : List ℤ) (gs : List (List ℤ)) → All (λ g. dot y g ≡ pos 0) gs → dot ks (map (dot y) gs) ≡ pos 0
dot_zeros y [] gs h = refl
dot_zeros y (k ∷ ks) [] h = refl
dot_zeros y (k ∷ ks) (g ∷ gs) h = no_product k (dot y g) (dot ks (map (dot y) gs)) (All-head (λ g. dot y g ≡ pos 0) g gs h) (dot_zeros y ks gs (All-tail (λ g. dot y g ≡ pos 0) g gs h))

least_values : (y : List ℤ) (gs : List (List ℤ)) → All (λ g. pos 0 ≤ℤ dot y g) gs → AtLeastZero (map (dot y) gs)
least_values y [] h i = omega (arith, ints)
least_values y (g ∷ gs) h zero = All-head (λ g. pos 0 ≤ℤ dot y g) g gs h
least_values y (g ∷ gs) h (suc i) = least_values y gs (All-tail (λ g. pos 0 ≤ℤ dot y g) g gs h) i

least_sum : (p x : ℤ) → pos 0 ≤ℤ p → pos 0 ≤ℤ x → pos 0 ≤ℤ (p +ℤ x)
least_sum p x h g = omega (arith, ints, h, g)

dot_least : (ks ds : List ℤ) → AtLeastZero ks → AtLeastZero ds → pos 0 ≤ℤ dot ks ds
dot_least [] ds f g = omega (arith, ints)
dot_least (k ∷ ks) [] f g = omega (arith, ints)
dot_least (k ∷ ks) (d ∷ ds) f g = least_sum (k *ℤ d) (dot ks ds) (mul-at_least_zero k d (f zero) (g zero)) (dot_least ks ds (λ i. f (suc i)) (λ i. g (suc i)))

first_none : (p x : ℤ) → pos 0 ≤ℤ p → pos 0 ≤ℤ x → p +ℤ x ≡ pos 0 → p ≡ pos 0
first_none p x h g e = omega (arith, ints, h, g, e)

rest_none : (p x : ℤ) → pos 0 ≤ℤ p → pos 0 ≤ℤ x → p +ℤ x ≡ pos 0 → x ≡ pos 0
rest_none p x h g e = omega (arith, ints, h, g, e)

-- where such a sum is 0, each product is
product_zero : (ks ds : List ℤ) → AtLeastZero ks → AtLeastZero ds → dot ks ds ≡ pos 0 → (i : ℕ) → cell ks i *ℤ cell ds i ≡ pos 0
product_zero [] ds f g e i = zero-mul (cell ds i)
product_zero (k ∷ ks) [] f g e i = mul-zero (cell (k ∷ ks) i)
product_zero (k ∷ ks) (d ∷ ds) f g e zero = first_none (k *ℤ d) (dot ks ds) (mul-at_least_zero k d (f zero) (g zero)) (dot_least ks ds (λ i. f (suc i)) (λ i. g (suc i))) e
product_zero (k ∷ ks) (d ∷ ds) f g e (suc i) = product_zero ks ds (λ n. f (suc n)) (λ n. g (suc n)) (rest_none (k *ℤ d) (dot ks ds) (mul-at_least_zero k d (f zero) (g zero)) (dot_least ks ds (λ n. f (suc n)) (λ n. g (suc n))) e) i

-- where it is positive, some product is
record HasProduct (ks ds : List ℤ) : Type 0 where
  index : ℕ
  below : index < length ds
  above : pos 0 <ℤ (cell ks index *ℤ cell ds index)

positive_rest : (p x : ℤ) → pos 0 <ℤ (p +ℤ x) → (p <ℤ pos 0) ⊎ (p ≡ pos 0) → pos 0 <ℤ x
positive_rest p x h (inl q) = omega (arith, ints)
positive_rest p x h (inr q) = omega (arith, ints)

product_positive : (ks ds : List ℤ) → pos 0 <ℤ dot ks ds → HasProduct ks ds
product_positive [] ds h = absurd (omega (arith, ints, h))
product_positive (k ∷ ks) [] h = absurd (omega (arith, ints, h))
product_positive (k ∷ ks) (d ∷ ds) h = by_first (product_positive ks ds) (by_sign (k *ℤ d))
  where
    later : HasProduct ks ds → HasProduct (k ∷ ks) (d ∷ ds)
    later p = record { index = suc p.index; below = omega (arith, p.below); above = p.above }

    by_first : (pos 0 <ℤ dot ks ds → HasProduct ks ds) → (pos 0 <ℤ (k *ℤ d)) ⊎ (((k *ℤ d) <ℤ pos 0) ⊎ (k *ℤ d ≡ pos 0)) → HasProduct (k ∷ ks) (d ∷ ds)
    by_first more (inl p) = record { index = 0; below = omega arith; above = p }
    by_first more (inr p) = later (more (positive_rest (k *ℤ d) (dot ks ds) h p))

-- ---- the row of the divisor
-- the row is 0 on the rays whose last entry is 0
abbrev pub IsFlatOnRays : ℕ → List (List ℤ) → List ℤ → Type 0
IsFlatOnRays dim rays r = (k : ℕ) → k < length rays → cell (vector_at rays k) dim ≡ pos 0 → dot r (vector_at rays k) ≡ pos 0

-- some inequality is
pub record HasFlatRow (dim : ℕ) (rays inequalities : List (List ℤ)) : Type 0 where
  pub index : ℕ
  pub below : index < length inequalities
  pub flat : IsFlatOnRays dim rays (vector_at inequalities index)

same_without_lines : (x a b : ℤ) → x ≡ a +ℤ b → a ≡ pos 0 → x ≡ b
same_without_lines x a b e f = omega (arith, ints, e, f)

no_multiple : (t x : ℤ) → x ≡ pos 0 → t *ℤ x ≡ pos 0
no_multiple t x e = ap (λ (z : ℤ). t *ℤ z) e ∙ mul-zero t

module _ (dim : ℕ) (lines rays equalities inequalities : List (List ℤ)) (pair : AreClosedSystems dim lines rays equalities inequalities) where
  abbrev e : List ℤ
  e = divisor_row dim

  abbrev y : ℕ → List ℤ
  y k = vector_at rays k

  abbrev Valid : List ℤ → Type 0
  Valid = ConeOf (dim + 1) (system_rows lines rays)

  rows_gen : Generates (ConeOf (dim + 1) (system_rows lines rays)) equalities inequalities
  rows_gen = pair.dual.rows.system.generates

  y_in : (k : ℕ) → k < length rays → ConeOf (dim + 1) (system_rows equalities inequalities) (y k)
  y_in k h = pair.dual.vectors.system.generates.rays_within k [] h

  -- the value at a ray of a row that is spanned
  at_ray : (k : ℕ) → k < length rays → (v : List ℤ) (s : Spans equalities inequalities v) → s.times *ℤ dot (y k) v ≡ dot s.ray_factors (map (dot (y k)) inequalities)
  at_ray k h v s =
      same_without_lines (s.times *ℤ dot (y k) v) (dot s.line_factors (map (dot (y k)) equalities)) (dot s.ray_factors (map (dot (y k)) inequalities)) (spans_value (y k) v equalities inequalities s)
      (dot_zeros (y k) s.line_factors equalities (zero_on_lines (dim + 1) equalities inequalities (y k) (y_in k h)))

  values_least : (k : ℕ) → k < length rays → AtLeastZero (map (dot (y k)) inequalities)
  values_least k h = least_values (y k) inequalities (least_on_rays (dim + 1) equalities inequalities (y k) (y_in k h))

  divisor_at : (k : ℕ) → dot (y k) e ≡ cell (y k) dim
  divisor_at k = dot_comm (y k) e ∙ dot_divisor dim (y k)

  -- ---- one inequality is flat
  spanned : Spans equalities inequalities e
  spanned = rows_gen.spans e pair.divisor

  above_point : pos 0 <ℤ dot spanned.ray_factors (map (dot (y pair.point.index)) inequalities)
  above_point =
      subst (λ (z : ℤ). pos 0 <ℤ z) (at_ray pair.point.index pair.point.below e spanned)
      (mul-positive spanned.times (dot (y pair.point.index) e) spanned.positive (subst (λ (z : ℤ). pos 0 <ℤ z) (sym (divisor_at pair.point.index)) pair.point.positive))

  product : HasProduct spanned.ray_factors (map (dot (y pair.point.index)) inequalities)
  product = product_positive spanned.ray_factors (map (dot (y pair.point.index)) inequalities) above_point

  product_below : product.index < length inequalities
  product_below = omega (arith, product.below, length-map inequalities (dot (y pair.point.index)))

  factor_positive : pos 0 <ℤ cell spanned.ray_factors product.index
  factor_positive =
      let d = cell (map (dot (y pair.point.index)) inequalities) product.index in
      let f = cell spanned.ray_factors product.index in
      second_positive d f (values_least pair.point.index pair.point.below product.index) (subst (λ (z : ℤ). pos 0 <ℤ z) (mul_comm f d) product.above)

  value_at_row : (k i : ℕ) → i < length inequalities → cell (map (dot (y k)) inequalities) i ≡ dot (y k) (vector_at inequalities i)
  value_at_row k i h = get_or-map (dot (y k)) inequalities i [] (pos 0) h

  pub has_flat_row : HasFlatRow dim rays inequalities
  has_flat_row = record {
    index = product.index;
    below = product_below;
    flat = λ k h z.
        let zero_there : dot spanned.ray_factors (map (dot (y k)) inequalities) ≡ pos 0 = sym (at_ray k h e spanned) ∙ no_multiple spanned.times (dot (y k) e) (divisor_at k ∙ z) in
        dot_comm (vector_at inequalities product.index) (y k) ∙ sym (value_at_row k product.index product_below)
        ∙ zero_of_mul (cell spanned.ray_factors product.index) (cell (map (dot (y k)) inequalities) product.index) factor_positive
        (product_zero spanned.ray_factors (map (dot (y k)) inequalities) (at_least_zero_from_all spanned.ray_factors spanned.at_least_zero) (values_least k h) zero_there product.index);
  }

  -- ---- no other inequality is flat where it is among them
  least_value : (k i : ℕ) → k < length rays → i < length inequalities → pos 0 ≤ℤ dot (y k) (vector_at inequalities i)
  least_value k i h b = (least_on_rays (dim + 1) equalities inequalities (y k) (y_in k h)) i [] b

  module _ (q m : ℕ) (q_below : q < length inequalities) (m_below : m < length inequalities) (is : vector_at inequalities q ≡ e) (other : m ≢ q) (flat : IsFlatOnRays dim rays (vector_at inequalities m)) where
    abbrev r : List ℤ
    r = vector_at inequalities m

    abbrev c : ℕ → ℤ
    c k = dot (y k) e

    abbrev d : ℕ → ℤ
    d k = dot (y k) r

    valid_r : ConeOf (dim + 1) (system_rows lines rays) r
    valid_r = rows_gen.rays_within m [] m_below

    c_least : (k : ℕ) → k < length rays → pos 0 ≤ℤ c k
    c_least k h = subst (λ (v : List ℤ). pos 0 ≤ℤ dot (y k) v) is (least_value k q h q_below)

    zeros : IsZeroWith (length rays) c d
    zeros k h z = dot_comm (y k) r ∙ flat k h (sym (divisor_at k) ∙ z)

    not_none : ((k : ℕ) → k < length rays → c k ≡ pos 0) → ⊥
    not_none none =
        let z : cell (y pair.point.index) dim ≡ pos 0 = sym (divisor_at pair.point.index) ∙ none pair.point.index pair.point.below in
        above_none (cell (y pair.point.index) dim) pair.point.positive z
      where
        above_none : (x : ℤ) → pos 0 <ℤ x → x ≡ pos 0 → ⊥
        above_none x p z = omega (arith, ints, p, z)

    module _ (g : IsGreatest (length rays) c d) where
      abbrev ct : ℤ
      ct = c g.at

      abbrev dt : ℤ
      dt = d g.at

      -- the row of the divisor less so much of the other that it is 0 at the ray of the greatest ratio
      abbrev b : List ℤ
      b = both dt e (neg_ℤ ct) r

      valid_e : ConeOf (dim + 1) (system_rows lines rays) (divisor_row dim)
      valid_e = pair.divisor

      b_wide : length b ≡ dim + 1
      b_wide = length-both dt e (neg_ℤ ct) r (length-divisor dim ∙ sym valid_r.wide) ∙ valid_r.wide

      b_at : (v : List ℤ) → dot b v ≡ dt *ℤ dot v e +ℤ neg_ℤ ct *ℤ dot v r
      b_at v = dot_comm b v ∙ dot-both v dt e (neg_ℤ ct) r

      two_zeros : (x s u t w : ℤ) → x ≡ s *ℤ u +ℤ t *ℤ w → u ≡ pos 0 → w ≡ pos 0 → x ≡ pos 0
      two_zeros x s u t w h f k = omega (arith, ints, h, no_multiple s u f, no_multiple t w k)

      difference_least : (x s u t w : ℤ) → x ≡ s *ℤ u +ℤ neg_ℤ t *ℤ w → (w *ℤ t) ≤ℤ (s *ℤ u) → pos 0 ≤ℤ x
      difference_least x s u t w h l = omega (arith, ints, h, l, neg-mul t w, mul_comm t w)

      difference_none : (x s t : ℤ) → x ≡ s *ℤ t +ℤ neg_ℤ t *ℤ s → x ≡ pos 0
      difference_none x s t h = omega (arith, ints, h, neg-mul t s, mul_comm t s)

      valid_b : ConeOf (dim + 1) (system_rows lines rays) b
      valid_b =
          cone_of_row (dim + 1) lines rays b b_wide
          (λ i f l. two_zeros (dot b (slice_index_or lines i f)) dt (dot (slice_index_or lines i f) e) (neg_ℤ ct) (dot (slice_index_or lines i f) r) (b_at (slice_index_or lines i f))
          (dot_comm (slice_index_or lines i f) e ∙ zero_on_lines (dim + 1) lines rays e valid_e i f l)
          (dot_comm (slice_index_or lines i f) r ∙ zero_on_lines (dim + 1) lines rays r valid_r i f l))
          (All-from_get_or (λ v. pos 0 ≤ℤ dot b v) rays [] (λ k l. difference_least (dot b (y k)) dt (c k) ct (d k) (b_at (y k)) (g.most k l)))

      s : Spans equalities inequalities b
      s = rows_gen.spans b valid_b

      none_there : dot s.ray_factors (map (dot (y g.at)) inequalities) ≡ pos 0
      none_there = sym (at_ray g.at g.below b s) ∙ no_multiple s.times (dot (y g.at) b) (difference_none (dot (y g.at) b) dt ct (dot-both (y g.at) dt e (neg_ℤ ct) r))

      value_q : cell (map (dot (y g.at)) inequalities) q ≡ ct
      value_q = value_at_row g.at q q_below ∙ ap (dot (y g.at)) is

      -- the row of the divisor has no part in it
      factor_none : cell s.ray_factors q ≡ pos 0
      factor_none =
          zero_of_mul ct (cell s.ray_factors q) g.above
          (mul_comm ct (cell s.ray_factors q) ∙ ap (λ (z : ℤ). cell s.ray_factors q *ℤ z) (sym value_q)
          ∙ product_zero s.ray_factors (map (dot (y g.at)) inequalities) (at_least_zero_from_all s.ray_factors s.at_least_zero) (values_least g.at g.below) none_there q)

      without : (x a z k w u : ℤ) → x ≡ a +ℤ z → z ≡ k *ℤ w +ℤ u → k ≡ pos 0 → x ≡ a +ℤ u
      without x a z k w u h f n = omega (arith, ints, h, f, ap (λ (v : ℤ). v *ℤ w) n ∙ zero-mul w)

      others_span : Spans equalities (remove inequalities q) b
      others_span = record {
        times = s.times;
        positive = s.positive;
        line_factors = s.line_factors;
        ray_factors = remove s.ray_factors q;
        at_least_zero = All-remove (λ k. pos 0 ≤ℤ k) s.ray_factors q s.at_least_zero;
        sum = λ j. without (s.times *ℤ cell b j) (combined s.line_factors equalities j) (combined s.ray_factors inequalities j) (cell s.ray_factors q) (cell (vector_at inequalities q) j) (combined (remove s.ray_factors q) (remove inequalities q) j) (s.sum j) (combined-remove s.ray_factors inequalities q j) factor_none;
      }

      least_of : (x : ℤ) → pos 0 <ℤ x → pos 0 ≤ℤ x
      least_of x h = omega (arith, ints, h)

      abbrev back : List ℤ
      back = add b (scale ct r)

      back_spanned : Spans equalities (remove inequalities q) back
      back_spanned =
          sum_is_spanned equalities (remove inequalities q) b (scale ct r) others_span
          (multiple_is_spanned equalities (remove inequalities q) ct r (least_of ct g.above) (spans_member equalities (remove inequalities q) r (Contains-remove_other inequalities q m [] m_below q_below other)))

      back_sum : (x f s u t w p : ℤ) → x ≡ f +ℤ p → f ≡ s *ℤ u +ℤ neg_ℤ t *ℤ w → p ≡ t *ℤ w → x ≡ s *ℤ u
      back_sum x f s u t w p h k n = omega (arith, ints, h, k, n, neg-mul t w)

      back_is : (j : ℕ) → cell back j ≡ dt *ℤ cell e j
      back_is j = back_sum (cell back j) (cell b j) dt (cell e j) ct (cell r j) (cell (scale ct r) j) (cell-add b (scale ct r) j) (cell-both dt e (neg_ℤ ct) r j) (cell-scale ct r j)

      spared : pos 0 <ℤ dt → ⊥
      spared p =
          pair.dual.rows.system.irredundant q q_below
          (subst (λ (v : List ℤ). Spans equalities (remove inequalities q) v) (sym is)
          (from_sums equalities (remove inequalities q) e (spans_of_multiple dt (cell e) (cell back) p (to_sums equalities (remove inequalities q) back back_spanned) back_is)))

      -- where the other row is 0 on that ray, it is 0 on all, and a line
      negated_sum : (x f s u t w : ℤ) → x ≡ s *ℤ u +ℤ neg_ℤ t *ℤ w → s ≡ pos 0 → f ≡ neg_ℤ w → t *ℤ f ≡ pos 1 *ℤ x +ℤ pos 0 *ℤ x
      negated_sum x f s u t w h n k = omega (arith, ints, h, ap (λ (z : ℤ). z *ℤ u) n ∙ zero-mul u, neg-mul t w, ap (λ (z : ℤ). t *ℤ z) k ∙ mul-neg t w)

      lineal : dt ≡ pos 0 → ⊥
      lineal n =
          not_lineal (dim + 1) Valid (upto_cone (dim + 1) (system_rows lines rays) (length (system_rows lines rays))) equalities inequalities pair.dual.rows.system m m_below
          (pair.dual.rows.system.lineality r valid_r
          ((upto_cone (dim + 1) (system_rows lines rays) (length (system_rows lines rays))).closed ct (pos 1) (pos 0) b b (negated r) g.above (omega (arith, ints)) (omega (arith, ints)) valid_b valid_b (length-scale (neg_ℤ (pos 1)) r ∙ valid_r.wide)
          (λ j. negated_sum (cell b j) (cell (negated r) j) dt (cell e j) ct (cell r j) (cell-both dt e (neg_ℤ ct) r j) n (cell-negated r j))))

      d_least : pos 0 ≤ℤ d g.at
      d_least = least_value g.at m g.below m_below

      against : ⊥
      against = by_case (by_sign dt)
        where
          by_case : (pos 0 <ℤ dt) ⊎ ((dt <ℤ pos 0) ⊎ (dt ≡ pos 0)) → ⊥
          by_case (inl p) = spared p
          by_case (inr (inl p)) = below_least dt d_least p
            where
              below_least : (x : ℤ) → pos 0 ≤ℤ x → x <ℤ pos 0 → ⊥
              below_least x h k = omega (arith, ints, h, k)
          by_case (inr (inr n)) = lineal n

    pub no_other_flat : ⊥
    no_other_flat = by_ratio (greatest_ratio c d (length rays) c_least zeros)
      where
        by_ratio : HasGreatest (length rays) c d → ⊥
        by_ratio (inl none) = not_none none
        by_ratio (inr g) = against g
