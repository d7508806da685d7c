-- The rows of a system hold exactly at the points that its cone codes.
use Rattle.std.proofs.Common.{◌≡◌, ◌⊎◌, inl, inr, ℕ, suc, ◌+◌, ◌<◌, List, [], length, slice_index_or, false, ℤ, pos, ◌+ℤ◌, ◌-ℤ◌, ◌*ℤ◌, neg_ℤ, ◌≤ℤ◌, ◌<ℤ◌, ap, ◌∙◌, subst, arith}
use Rattle.std.specs.Prelude.{◌↔◌}
use Rattle.std.proofs.lemmas.Int.{ints}
use Rattle.row_core.specs.Vectors.{cell, dot, scale}
use Rattle.row_core.specs.Lists.{Row}
use Rattle.row_core.specs.Points.{IsPoint}
use Rattle.cone_laws.specs.Cones.{Upto, negated}
use Rattle.cone_laws.specs.Canon.{vector_at, IsSystem}
use Rattle.cone_laws.proofs.Ring.{ring, at_least_zero_or_not, mul-zero, mul-at_least_zero, mul-positive, at_least_zero_of_mul, positive_of_mul}
use Rattle.cone_laws.proofs.Columns.{dot_comm, dot-scale, dot-negated, length-scale}
use Rattle.cone_laws.proofs.Spanning.{at_least_zero_on_spanned}
use Rattle.nnc_enc.specs.Encoding.{raised, lowered, Codes, IsEncodedDual}
use Rattle.std.proofs.lemmas.List.Elements.{All-from_get_or}
use Rattle.nnc_enc.specs.StrongRows.{IsAdmittedVector, RowsHold, RowsAreCoded}
use Rattle.nnc_enc.proofs.MarkedSums.{Bound, bound_of}
use Rattle.nnc_enc.proofs.EncodedRows.{dot_insert, dot_by_height, remove_insert, length_insert, cell_insert}
use Rattle.nnc_enc.proofs.ClosedRows.{lowered_wide, ray_in}
use Rattle.nnc_enc.proofs.Relaxed.{both_least, remove_scale}
use Rattle.nnc_enc.proofs.RowHeights.{row_line_height}

module _ (dim : ℕ) (gens : List Row) (lines rays : List (List ℤ)) (wide : (j : ℕ) → j < length gens → length (slice_index_or gens j ([], false)).0 ≡ dim + 2) (system : IsSystem (Upto (dim + 2) gens (length gens)) lines rays) where
  abbrev gen : ℕ → List ℤ
  gen j = (slice_index_or gens j ([], false)).0

  abbrev D : List ℤ → Type 0
  D = Upto (dim + 2) gens (length gens)

  module _ (enc : IsEncodedDual dim (Upto (dim + 2) gens (length gens))) where
    -- ---- what the rows code
    module _ (p : List ℤ) (point : IsPoint dim p) where
      row_raised : (a : List ℤ) → D a → (q : List ℤ) (z : ℤ) → length q ≡ dim + 1 → dot a (raised dim q z) ≡ dot (lowered dim a) q +ℤ cell a dim *ℤ z
      row_raised a u q z w =
          dot_by_height dim a (raised dim q z) (omega (arith, u.wide)) (omega (arith, length_insert dim q z (omega (arith, w)), w))
          ∙ ap (λ (r : List ℤ). dot (lowered dim a) r +ℤ cell a dim *ℤ cell (raised dim q z) dim) (remove_insert dim q z (omega (arith, w)))
          ∙ ap (λ (y : ℤ). dot (lowered dim a) q +ℤ cell a dim *ℤ y) (cell_insert dim q z (omega (arith, w)))

      scaled_wide : (m : ℤ) → length (scale m p) ≡ dim + 1
      scaled_wide m = length-scale m p ∙ point.wide

      row_scaled : (a : List ℤ) → D a → (m z : ℤ) → dot a (raised dim (scale m p) z) ≡ m *ℤ dot (lowered dim a) p +ℤ cell a dim *ℤ z
      row_scaled a u m z = row_raised a u (scale m p) z (scaled_wide m) ∙ ap (λ (y : ℤ). y +ℤ cell a dim *ℤ z) (dot-scale (lowered dim a) m p)

      -- a row that holds at the point is at least 0 on a multiple of it with 1 in column e
      held : (y x m c : ℤ) → y ≡ m *ℤ x +ℤ c *ℤ pos 1 → pos 0 <ℤ m → pos 0 ≤ℤ x → neg_ℤ c ≤ℤ m → (c <ℤ pos 0 → pos 0 <ℤ x) → pos 0 ≤ℤ y
      held y x m c e p q r s = by_height_sign (at_least_zero_or_not c)
        where
          by_height_sign : (pos 0 ≤ℤ c) ⊎ (c <ℤ pos 0) → pos 0 ≤ℤ y
          by_height_sign (inl h) = let z = mul-at_least_zero m x (omega (arith, ints, p)) q in omega (arith, ints, e, z, h)
          by_height_sign (inr h) =
              let g = s h in
              let z = mul-at_least_zero m (x -ℤ pos 1) (omega (arith, ints, p)) (omega (arith, ints, g)) in
              let i : m *ℤ (x -ℤ pos 1) ≡ m *ℤ x -ℤ m = simp ring (omega (arith, ints)) in
              omega (arith, ints, e, z, i, r)

      line_held : (y x m c : ℤ) → y ≡ m *ℤ x +ℤ c *ℤ pos 1 → x ≡ pos 0 → c ≡ pos 0 → y ≡ pos 0
      line_held y x m c e p q = let h = ap (λ (n : ℤ). m *ℤ n) p ∙ mul-zero m in omega (arith, ints, e, h, q)

      coded_of_rows : RowsHold dim lines rays p → Codes dim (IsAdmittedVector (dim + 2) gens) p
      coded_of_rows s = by_bound (bound_of (length rays) (λ i. neg_ℤ (cell (vector_at rays i) dim)))
        where
          by_bound : Bound (length rays) (λ i. neg_ℤ (cell (vector_at rays i) dim)) → Codes dim (IsAdmittedVector (dim + 2) gens) p
          by_bound b = record {
            times = b.bound;
            positive = b.positive;
            height = pos 1;
            above = omega (arith, ints);
            member = record {
              wide = length_insert dim (scale b.bound p) (pos 1) (omega (arith, scaled_wide b.bound)) ∙ ap suc (scaled_wide b.bound) ∙ omega arith;
              admits = λ a u. subst (λ (x : ℤ). pos 0 ≤ℤ x) (dot_comm (raised dim (scale b.bound p) (pos 1)) a)
                  (at_least_zero_on_spanned (raised dim (scale b.bound p) (pos 1)) lines rays a
                  (All-from_get_or (λ l. dot (raised dim (scale b.bound p) (pos 1)) l ≡ pos 0) lines []
                  (λ i h. dot_comm (raised dim (scale b.bound p) (pos 1)) (vector_at lines i)
                  ∙ line_held (dot (vector_at lines i) (raised dim (scale b.bound p) (pos 1))) (dot (lowered dim (vector_at lines i)) p) b.bound (cell (vector_at lines i) dim)
                  (row_scaled (vector_at lines i) (system.generates.lines_within i [] h).0 b.bound (pos 1)) (s.on_lines i h) (row_line_height dim gens lines rays wide system enc i h)))
                  (All-from_get_or (λ r. pos 0 ≤ℤ dot (raised dim (scale b.bound p) (pos 1)) r) rays []
                  (λ i h. subst (λ (x : ℤ). pos 0 ≤ℤ x) (dot_comm (vector_at rays i) (raised dim (scale b.bound p) (pos 1)))
                  (held (dot (vector_at rays i) (raised dim (scale b.bound p) (pos 1))) (dot (lowered dim (vector_at rays i)) p) b.bound (cell (vector_at rays i) dim)
                  (row_scaled (vector_at rays i) (ray_in dim gens lines rays wide system i h) b.bound (pos 1)) b.positive (s.on_rays i h).least (b.holds i h) (s.on_rays i h).strict)))
                  (system.generates.spans a u));
            };
          }

      slope_positive : (y x m c z : ℤ) → y ≡ m *ℤ x +ℤ c *ℤ z → pos 0 ≤ℤ y → pos 0 <ℤ m → pos 0 <ℤ z → c <ℤ pos 0 → pos 0 <ℤ x
      slope_positive y x m c z e p q r s =
          let h = mul-positive (neg_ℤ c) z (omega (arith, ints, s)) r in
          let i : neg_ℤ c *ℤ z ≡ neg_ℤ (c *ℤ z) = simp ring in
          positive_of_mul m x q (omega (arith, ints, e, p, h, i))

      -- the value of a row with 0 in column e doesn't depend on that column
      least_at_point : (k : Codes dim (IsAdmittedVector (dim + 2) gens) p) → (a : List ℤ) → D a → pos 0 ≤ℤ dot (lowered dim a) p
      least_at_point k a u = flat_row_least (k.member.admits (raised dim (lowered dim a) (pos 0)) (enc.flat a u))
        where
          flat_row_least : pos 0 ≤ℤ dot (raised dim (lowered dim a) (pos 0)) (raised dim (scale k.times p) k.height) → pos 0 ≤ℤ dot (lowered dim a) p
          flat_row_least h =
              at_least_zero_of_mul k.times (dot (lowered dim a) p) k.positive
              (subst (λ (x : ℤ). pos 0 ≤ℤ x)
              (dot_insert dim (lowered dim a) (scale k.times p) (pos 0) k.height (omega (arith, lowered_wide dim gens lines rays wide system a u.wide)) (omega (arith, scaled_wide k.times))
              ∙ zero_product (dot (lowered dim a) (scale k.times p)) k.height ∙ dot-scale (lowered dim a) k.times p) h)
            where
              zero_product : (x z : ℤ) → x +ℤ pos 0 *ℤ z ≡ x
              zero_product x z = omega (arith, ints)

      rows_of_coded : Codes dim (IsAdmittedVector (dim + 2) gens) p → RowsHold dim lines rays p
      rows_of_coded k = record { on_lines = line_at_point; on_rays = λ i h. record { least = least_at_point k (vector_at rays i) (ray_in dim gens lines rays wide system i h); strict = λ s. slope_positive (dot (vector_at rays i) (raised dim (scale k.times p) k.height)) (dot (lowered dim (vector_at rays i)) p) k.times (cell (vector_at rays i) dim) k.height (row_scaled (vector_at rays i) (ray_in dim gens lines rays wide system i h) k.times k.height) (k.member.admits (vector_at rays i) (ray_in dim gens lines rays wide system i h)) k.positive k.above s } }
        where
          line_at_point : (i : ℕ) → i < length lines → dot (lowered dim (vector_at lines i)) p ≡ pos 0
          line_at_point i h =
              let c = system.generates.lines_within i [] h in
              let a = vector_at lines i in
              both_least (dot (lowered dim a) p) (dot (lowered dim (negated a)) p) (least_at_point k a c.0) (least_at_point k (negated a) c.1)
              (dot_comm (lowered dim (negated a)) p ∙ ap (dot p) (remove_scale dim (neg_ℤ (pos 1)) a) ∙ dot-negated p (lowered dim a) ∙ ap neg_ℤ (dot_comm p (lowered dim a)))

      pub rows_coded : RowsHold dim lines rays p ↔ Codes dim (IsAdmittedVector (dim + 2) gens) p
      rows_coded = (coded_of_rows, rows_of_coded)

pub rows_are_coded : RowsAreCoded
rows_are_coded dim gens lines rays p wide system enc point = rows_coded dim gens lines rays wide system enc p point
