-- Vectors that the others give: covered points and loose closure points.
use Rattle.std.proofs.Common.{◌≡◌, ◌≢◌, ◌⊎◌, inl, inr, ℕ, zero, suc, ◌+◌, ◌<◌, List, [], length, slice_index_or, Bool, true, false, ℤ, pos, ◌+ℤ◌, ◌-ℤ◌, ◌*ℤ◌, neg_ℤ, ◌≤ℤ◌, ◌<ℤ◌, refl, sym, ap, ◌∙◌, subst, arith}
use mathlib.Core.Bool.{true≢false}
use Rattle.std.proofs.lemmas.Int.{ints}
use Rattle.std.proofs.lemmas.List.{get_or_default}
use Rattle.row_core.specs.Vectors.{cell, dot, scale}
use Rattle.row_core.specs.Lists.{Row}
use Rattle.cone_laws.specs.Cones.{Meets, Upto}
use Rattle.cone_laws.specs.Canon.{vector_at, IsSystem}
use Rattle.cone_laws.proofs.Ring.{ring, mul_assoc, by_sign, at_least_zero_or_not, mul-zero, mul-at_least_zero, mul-positive}
use Rattle.cone_laws.proofs.Sums.{V, Among, SpansBy, spans_same}
use Rattle.cone_laws.proofs.Columns.{value, value_linear, dot_is, cell-scale, dot-scale, length-scale}
use Rattle.cone_laws.proofs.UptoRows.{Asks}
use Rattle.nnc_enc.specs.Encoding.{raised, lowered, IsEncoded}
use Rattle.nnc_enc.specs.StrongRows.{IsLoose, IsSpareVector, Covers, kept_at}
use Rattle.nnc_enc.proofs.MarkedSums.{Without, Marks, marks_trans, marks_same, absorbed, Bound, bound_of}
use Rattle.nnc_enc.proofs.KeptSums.{Both, IsKept, one_less, one_absorbed}
use Rattle.nnc_enc.proofs.Removals.{Stay, removed, own_absorbed}
use Rattle.nnc_enc.proofs.EncodedRows.{remove_insert, length_insert, cell_insert}
use Rattle.nnc_enc.proofs.ClosedRows.{IsClosed, closed_combine, closed_side, kept_spans, least_on, lowered_wide, ray_in, value_raised}
use Rattle.nnc_enc.proofs.CodedPoints.{divisor_flat, divisor_least, divisor_positive, marks_of_member}
use Rattle.nnc_enc.proofs.CoveredPoints.{column_linear, eq_height, eq_zero, value_on, vector_closed, zero_on_covered}
use Rattle.nnc_enc.proofs.Relaxed.{Numbered, relaxed, relaxed_lines, remain_by, same_level}
use Rattle.nnc_enc.proofs.Relaxed.{PointAt_of}

module _ (dim : ℕ) (gens : List Row) (lines rays : List (List ℤ)) (wide : (j : ℕ) → j < length gens → length (slice_index_or gens j ([], false)).0 ≡ dim + 2) (system : IsSystem (Upto (dim + 2) gens (length gens)) lines rays) where
  abbrev gen : ℕ → List ℤ
  gen j = (slice_index_or gens j ([], false)).0

  abbrev D : List ℤ → Type 0
  D = Upto (dim + 2) gens (length gens)

  abbrev test : ℕ → V → ℤ
  test j = value (lowered dim (gen j))

  abbrev PointAt : ℕ → Type 0
  PointAt = PointAt_of dim rays

  module _ (enc : IsEncoded dim (Upto (dim + 2) gens (length gens))) (point : List ℤ) (point_in : Upto (dim + 2) gens (length gens) point) (point_above : pos 0 <ℤ cell point dim) where
    -- ---- a closure point that is loose lies in the set
    loose_asks : (eq : Bool) (y x m c : ℤ) → y ≡ m *ℤ x +ℤ c *ℤ pos 1 → pos 0 <ℤ m → pos 0 ≤ℤ x → neg_ℤ c ≤ℤ m → (c <ℤ pos 0 → ¬ (x ≡ pos 0)) → (eq ≡ true → (x ≡ pos 0) × (c ≡ pos 0)) → Asks eq y
    loose_asks true y x m c e p q r s t =
        let z = ap (λ (n : ℤ). m *ℤ n) (t refl).0 ∙ mul-zero m in
        omega (arith, ints, e, z, (t refl).1)
    loose_asks false y x m c e p q r s t = by_height (at_least_zero_or_not c)
      where
        by_height : (pos 0 ≤ℤ c) ⊎ (c <ℤ pos 0) → pos 0 ≤ℤ y
        by_height (inl h) = let z = mul-at_least_zero m x (omega (arith, ints, p)) q in omega (arith, ints, e, z, h)
        by_height (inr h) = by_value (by_sign x)
          where
            by_value : (pos 0 <ℤ x) ⊎ ((x <ℤ pos 0) ⊎ (x ≡ pos 0)) → pos 0 ≤ℤ y
            by_value (inl g) =
                let z = mul-at_least_zero m (x -ℤ pos 1) (omega (arith, ints, p)) (omega (arith, ints, g)) in
                let i : m *ℤ (x -ℤ pos 1) ≡ m *ℤ x -ℤ m = simp ring (omega (arith, ints)) in
                omega (arith, ints, e, z, i, r)
            by_value (inr (inl g)) = absurd (omega (arith, ints, g, q))
            by_value (inr (inr g)) = absurd (s h g)

    loose_member : (g : List ℤ) → D g → cell g dim ≡ pos 0 → IsLoose dim gens g → (b : Bound (length gens) (λ j. neg_ℤ (cell (gen j) dim))) → D (raised dim (scale b.bound (lowered dim g)) (pos 1))
    loose_member g u z loose b = record { wide = length_insert dim (scale b.bound (lowered dim g)) (pos 1) (omega (arith, w)) ∙ ap suc w ∙ omega arith; meets = λ j d low high. meets_at j d high }
      where
        w : length (scale b.bound (lowered dim g)) ≡ dim + 1
        w = length-scale b.bound (lowered dim g) ∙ lowered_wide dim gens lines rays wide system g u.wide

        level_value : (j : ℕ) → j < length gens → dot (gen j) g ≡ dot (lowered dim (gen j)) (lowered dim g)
        level_value j h = same_level (dot (gen j) g) (dot (lowered dim (gen j)) (lowered dim g)) (cell (gen j) dim) (cell g dim) (value_on dim gens lines rays wide system enc point point_in point_above j h g u) z

        value_at : (j : ℕ) → j < length gens → dot (gen j) (raised dim (scale b.bound (lowered dim g)) (pos 1)) ≡ b.bound *ℤ dot (gen j) g +ℤ cell (gen j) dim *ℤ pos 1
        value_at j h =
            value_raised dim gens lines rays wide system j h (scale b.bound (lowered dim g)) (pos 1) w
            ∙ ap (λ (y : ℤ). y +ℤ cell (gen j) dim *ℤ pos 1) (dot-scale (lowered dim (gen j)) b.bound (lowered dim g) ∙ ap (λ (y : ℤ). b.bound *ℤ y) (sym (level_value j h)))

        meets_at : (j : ℕ) (d0 : Row) → j < length gens → Meets (raised dim (scale b.bound (lowered dim g)) (pos 1)) (slice_index_or gens j d0)
        meets_at j d0 h =
            subst (λ (r : Row). Meets (raised dim (scale b.bound (lowered dim g)) (pos 1)) r) (get_or_default gens j ([], false) d0 h)
            (loose_asks (slice_index_or gens j ([], false)).1 (dot (gen j) (raised dim (scale b.bound (lowered dim g)) (pos 1))) (dot (gen j) g) b.bound (cell (gen j) dim) (value_at j h) b.positive (least_on dim gens lines rays wide system g u j h) (b.holds j h) (loose j h) (λ e. (eq_zero dim gens lines rays wide system enc point point_in point_above j h e g u, eq_height dim gens lines rays wide system enc point point_in point_above j h e)))

    -- ---- a vector that is left out
    module _ (K : ℕ → Type 0) (k : IsKept (relaxed_lines dim lines) (relaxed dim rays) (Numbered rays) PointAt K) (inside : (i : ℕ) → K i → Numbered rays i) where
      pub covered_vector : (i t : ℕ) → i < length rays → t < length rays → K (suc t) → t ≢ i → pos 0 <ℤ cell (vector_at rays i) dim → pos 0 <ℤ cell (vector_at rays t) dim → Covers dim gens (vector_at rays t) (vector_at rays i) → IsKept (relaxed_lines dim lines) (relaxed dim rays) (Numbered rays) PointAt (Without K (suc i))
      covered_vector i t h g kt ne si st c =
          one_absorbed (relaxed_lines dim lines) (relaxed dim rays) (Numbered rays) PointAt K (suc i) (suc t) k kt st (λ e. ne (omega (arith, e)))
          (absorbed (relaxed_lines dim lines) (relaxed dim rays) K (IsClosed dim gens lines rays wide system) (length gens) test (λ j. value_linear (lowered dim (gen j))) (closed_side dim gens lines rays wide system) (closed_combine dim gens lines rays wide system) (kept_spans dim gens lines rays wide system (Numbered rays) PointAt K (λ n m. m) k)
          (suc i) (relaxed dim rays (suc t)) (vector_closed dim gens lines rays wide system enc point point_in point_above (vector_at rays i) (ray_in dim gens lines rays wide system i h)) (vector_closed dim gens lines rays wide system enc point point_in point_above (vector_at rays t) (ray_in dim gens lines rays wide system t g)) zeros
          (λ v. v dim) (column_linear dim gens lines rays wide system enc point point_in point_above dim) (divisor_flat dim gens lines rays wide system enc point point_in point_above) (λ j m. divisor_least dim gens lines rays wide system enc point point_in point_above j (inside j m)) (divisor_least dim gens lines rays wide system enc point point_in point_above (suc i) h) (divisor_positive dim gens lines rays wide system enc point point_in point_above (suc t) g st))
        where
          zeros : (j : ℕ) → j < length gens → value (lowered dim (gen j)) (relaxed dim rays (suc i)) ≡ pos 0 → value (lowered dim (gen j)) (relaxed dim rays (suc t)) ≡ pos 0
          zeros j l z =
              sym (dot_is (lowered dim (gen j)) (lowered dim (vector_at rays t)))
              ∙ zero_on_covered dim gens lines rays wide system enc point point_in point_above (vector_at rays i) (vector_at rays t) (ray_in dim gens lines rays wide system i h) (ray_in dim gens lines rays wide system t g) si c j l (dot_is (lowered dim (gen j)) (lowered dim (vector_at rays i)) ∙ z)

      pub loose_vector : (i : ℕ) → i < length rays → K (suc i) → cell (vector_at rays i) dim ≡ pos 0 → IsLoose dim gens (vector_at rays i) → IsKept (relaxed_lines dim lines) (relaxed dim rays) (Numbered rays) PointAt (Without K (suc i))
      loose_vector i h ki z loose =
          one_less (relaxed_lines dim lines) (relaxed dim rays) (Numbered rays) PointAt K (suc i) k
          (own_absorbed (relaxed_lines dim lines) (relaxed dim rays) PointAt K (λ v. v dim) (column_linear dim gens lines rays wide system enc point point_in point_above dim) (divisor_flat dim gens lines rays wide system enc point point_in point_above) (λ j m. divisor_least dim gens lines rays wide system enc point point_in point_above j (inside j m)) (λ j m. divisor_positive dim gens lines rays wide system enc point point_in point_above j (inside j m)) (suc i) not_point (divisor_least dim gens lines rays wide system enc point point_in point_above (suc i) h) marked)
          (λ m. absurd (not_point m))
        where
          not_point : PointAt (suc i) → ⊥
          not_point m = omega (arith, ints, m, z)

          b : Bound (length gens) (λ j. neg_ℤ (cell (gen j) dim))
          b = bound_of (length gens) (λ j. neg_ℤ (cell (gen j) dim))

          by_member : (b : Bound (length gens) (λ j. neg_ℤ (cell (gen j) dim))) → Marks (relaxed_lines dim lines) (Among (relaxed dim rays) (Numbered rays)) (Among (relaxed dim rays) (Both (Numbered rays) PointAt)) (relaxed dim rays (suc i))
          by_member b = of_multiple (marks_of_member dim gens lines rays wide system enc point point_in point_above (raised dim (scale b.bound (lowered dim (vector_at rays i))) (pos 1)) (loose_member (vector_at rays i) (ray_in dim gens lines rays wide system i h) z loose b) (subst (λ (x : ℤ). pos 0 <ℤ x) (sym (cell_insert dim (scale b.bound (lowered dim (vector_at rays i))) (pos 1) (omega (arith, w)))) (omega (arith, ints))))
            where
              w : length (scale b.bound (lowered dim (vector_at rays i))) ≡ dim + 1
              w = length-scale b.bound (lowered dim (vector_at rays i)) ∙ lowered_wide dim gens lines rays wide system (vector_at rays i) (ray_in dim gens lines rays wide system i h).wide

              once_more : (t m x y f u r : ℤ) → y ≡ m *ℤ x → t *ℤ y ≡ f *ℤ u +ℤ r → (t *ℤ m) *ℤ x ≡ f *ℤ u +ℤ r
              once_more t m x y f u r e g = mul_assoc t m x ∙ sym (ap (λ (n : ℤ). t *ℤ n) e) ∙ g

              of_multiple : Marks (relaxed_lines dim lines) (Among (relaxed dim rays) (Numbered rays)) (Among (relaxed dim rays) (Both (Numbered rays) PointAt)) (cell (lowered dim (raised dim (scale b.bound (lowered dim (vector_at rays i))) (pos 1)))) → Marks (relaxed_lines dim lines) (Among (relaxed dim rays) (Numbered rays)) (Among (relaxed dim rays) (Both (Numbered rays) PointAt)) (relaxed dim rays (suc i))
              of_multiple s = record {
                times = s.times *ℤ b.bound;
                positive = mul-positive s.times b.bound s.positive b.positive;
                factor = s.factor;
                above = s.above;
                vector = s.vector;
                marked = s.marked;
                rest = s.rest;
                others = s.others;
                same = λ j. once_more s.times b.bound (relaxed dim rays (suc i) j) (cell (lowered dim (raised dim (scale b.bound (lowered dim (vector_at rays i))) (pos 1))) j) s.factor (s.vector j) (s.rest j)
                    (ap (λ (v : List ℤ). cell v j) (remove_insert dim (scale b.bound (lowered dim (vector_at rays i))) (pos 1) (omega (arith, w))) ∙ cell-scale b.bound (lowered dim (vector_at rays i)) j) (s.same j);
              }

          rays_by : (v : V) → Among (relaxed dim rays) (Numbered rays) v → SpansBy (relaxed_lines dim lines) (Among (relaxed dim rays) K) v
          rays_by v m = spans_same (relaxed dim rays m.index) v (k.spanned m.index m.is) m.same

          marks_by : (v : V) → Among (relaxed dim rays) (Both (Numbered rays) PointAt) v → Marks (relaxed_lines dim lines) (Among (relaxed dim rays) K) (Among (relaxed dim rays) (Both K PointAt)) v
          marks_by v m = marks_same (relaxed dim rays m.index) v m.same (k.marked m.index m.is.0 m.is.1)

          marked : Marks (relaxed_lines dim lines) (Among (relaxed dim rays) K) (Among (relaxed dim rays) (Both K PointAt)) (relaxed dim rays (suc i))
          marked = marks_trans rays_by marks_by (relaxed dim rays (suc i)) (by_member b)

    -- ---- all that are left out
    module _ (keep : List Bool) (spare : (i : ℕ) → i < length rays → kept_at keep i ≡ false → IsSpareVector dim gens rays keep i) where
      abbrev remain : ℕ → Bool
      remain = remain_by keep

      take_out : (m : ℕ) → m < length rays → remain (suc m) ≡ false → (K : ℕ → Type 0) → ((i : ℕ) → Stay (Numbered rays) remain i → K i) → ((i : ℕ) → K i → Numbered rays i) → K (suc m) → IsKept (relaxed_lines dim lines) (relaxed dim rays) (Numbered rays) PointAt K → IsKept (relaxed_lines dim lines) (relaxed dim rays) (Numbered rays) PointAt (Without K (suc m))
      take_out i h e K f g km k = by_cause (spare i h e)
        where
          by_cause : IsSpareVector dim gens rays keep i → IsKept (relaxed_lines dim lines) (relaxed dim rays) (Numbered rays) PointAt (Without K (suc i))
          by_cause (inl (s, c)) = covered_vector K k g i c.index h c.below (f (suc c.index) (c.below, c.kept)) c.other s c.point c.covers
          by_cause (inr (s, l)) = loose_vector K k g i h km s l

      -- what remains spans all, and spans each point by a sum with a point that remains
      pub remain_all : IsKept (relaxed_lines dim lines) (relaxed dim rays) (Numbered rays) PointAt (Stay (Numbered rays) remain)
      remain_all = removed (relaxed_lines dim lines) (relaxed dim rays) (Numbered rays) PointAt remain (suc (length rays)) step within given
        where
          step : (m : ℕ) → m < suc (length rays) → remain m ≡ false → (K : ℕ → Type 0) → ((i : ℕ) → Stay (Numbered rays) remain i → K i) → ((i : ℕ) → K i → Numbered rays i) → K m → IsKept (relaxed_lines dim lines) (relaxed dim rays) (Numbered rays) PointAt K → IsKept (relaxed_lines dim lines) (relaxed dim rays) (Numbered rays) PointAt (Without K m)
          step zero h e K f g km k = absurd (true≢false e)
          step (suc m) h e K f g km k = take_out m (omega (arith, h)) e K f g km k

          within : (i : ℕ) → Numbered rays i → (i < suc (length rays)) ⊎ (remain i ≡ true)
          within zero n = elim n [ ]
          within (suc i) n = inl (omega (arith, n))

          given : (m : ℕ) → m < suc (length rays) → remain m ≡ false → Numbered rays m
          given zero h e = absurd (true≢false e)
          given (suc m) h e = omega (arith, h)
