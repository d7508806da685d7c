-- Column e of the rows of a system of valid rows.
use Rattle.std.proofs.Common.{◌≡◌, ◌≢◌, ◌⊎◌, inl, inr, ℕ, zero, ◌+◌, ◌<◌, ◌≤◌, List, [], length, slice_index_or, replicate, false, ℤ, pos, ◌+ℤ◌, ◌*ℤ◌, neg_ℤ, ◌≤ℤ◌, ◌<ℤ◌, refl, sym, ap, ◌∙◌, subst, arith}
use Rattle.std.proofs.lemmas.Int.{ints}
use Rattle.std.proofs.lemmas.List.{get_or_past}
use Rattle.std.proofs.lemmas.Bool.{cases_lt}
use Rattle.std.proofs.Math.Nat.{eq-or-lt_of_le}
use Rattle.row_core.specs.Vectors.{cell, dot, combined}
use Rattle.row_core.specs.Lists.{Row}
use Rattle.cone_laws.specs.Cones.{Upto, negated}
use Rattle.cone_laws.specs.Canon.{vector_at, IsSystem, IsPivot}
use Rattle.cone_laws.proofs.Ring.{mul_comm, by_sign, mul-zero, zero_of_mul}
use Rattle.cone_laws.proofs.Columns.{value, value_linear, dot_is, dot_comm, dot-negated}
use Rattle.cone_laws.proofs.Factors.{combined-none}
use Rattle.cone_laws.proofs.UniqueLines.{at_pivot}
use Rattle.cone_laws.proofs.UniqueRays.{IsLikeRay, like_ray}
use Rattle.cone_laws.proofs.UniqueSystems.{upto_cone}
use Rattle.nnc_enc.specs.Encoding.{raised, lowered, height_row, IsEncodedDual}
use Rattle.nnc_enc.specs.StrongRows.{HasVariable}
use Rattle.nnc_enc.proofs.MarkedSums.{same_number}
use Rattle.nnc_enc.proofs.EncodedRows.{dot_by_height, remove_insert, cell_insert}
use Rattle.nnc_enc.proofs.ClosedRows.{lowered_wide, ray_in}
use Rattle.nnc_enc.proofs.InnerPoint.{inner_last, inner_line, last_wide, zeros_wide}
use Rattle.nnc_enc.proofs.Relaxed.{both_least, cell-remove, column_cases, last_at, last_before, last_row, no_entry, own_entry, relaxed, replicate_entry, skip, skip_before, skip_self}

module _ (dim : ℕ) (gens : List Row) (lines rays : List (List ℤ)) (wide : (j : ℕ) → j < length gens → length (slice_index_or gens j ([], false)).0 ≡ dim + 2) (system : IsSystem (Upto (dim + 2) gens (length gens)) lines rays) where
  abbrev gen : ℕ → List ℤ
  gen j = (slice_index_or gens j ([], false)).0

  abbrev D : List ℤ → Type 0
  D = Upto (dim + 2) gens (length gens)

  module _ (enc : IsEncodedDual dim (Upto (dim + 2) gens (length gens))) where
    -- ---- column e of the rows of the system
    on_vector : (a : List ℤ) → D a → D (negated a) → dot a enc.vector ≡ pos 0
    on_vector a u n = both_least (dot a enc.vector) (dot (negated a) enc.vector) (enc.least a u) (enc.least (negated a) n) (dot_comm (negated a) enc.vector ∙ dot-negated enc.vector a ∙ ap neg_ℤ (dot_comm enc.vector a))

    no_slope : (x y c e : ℤ) → x ≡ y +ℤ c *ℤ e → x ≡ pos 0 → y ≡ pos 0 → pos 0 <ℤ e → c ≡ pos 0
    no_slope x y c e h p q r = zero_of_mul e c r (omega (arith, ints, h, p, q, mul_comm e c))

    -- a line is 0 in column e
    pub row_line_height : (i : ℕ) → i < length lines → cell (vector_at lines i) dim ≡ pos 0
    row_line_height i h =
        let m = system.generates.lines_within i [] h in
        let a = vector_at lines i in
        no_slope (dot a enc.vector) (dot (lowered dim a) (lowered dim enc.vector)) (cell a dim) (cell enc.vector dim)
        (dot_by_height dim a enc.vector (omega (arith, m.0.wide)) (omega (arith, enc.wide))) (on_vector a m.0 m.1)
        (dot_comm (lowered dim a) (lowered dim enc.vector) ∙ dot_is (lowered dim enc.vector) (lowered dim a) ∙ inner_line dim gens lines rays wide system enc i h) enc.above

    positive_entry : (x : ℤ) → pos 0 <ℤ x → x ≡ pos 0 → ⊥
    positive_entry x p e = omega (arith, ints, p, e)

    pub height_entry : (k : ℕ) → cell (height_row dim).0 (skip dim k) ≡ pos 0
    height_entry k =
        sym (cell-remove dim (height_row dim).0 k)
        ∙ ap (λ (v : List ℤ). cell v k) (remove_insert dim (replicate (dim + 1) (pos 0)) (pos 1) (omega (arith, zeros_wide dim gens lines rays wide system enc)))
        ∙ replicate_entry (dim + 1) k

    pub height_own : cell (height_row dim).0 dim ≡ pos 1
    height_own = cell_insert dim (replicate (dim + 1) (pos 0)) (pos 1) (omega (arith, zeros_wide dim gens lines rays wide system enc))

    -- the pivot of a line is a variable
    pub pivot_below : (i : ℕ) → i < length lines → system.echelon.pivot i < dim
    pivot_below i h = by_place (cases_lt (system.echelon.pivot i) dim)
      where
        p : IsPivot (vector_at lines i) (system.echelon.pivot i)
        p = system.echelon.pivots i h

        w : length (vector_at lines i) ≡ dim + 2
        w = (system.generates.lines_within i [] h).0.wide

        -- 0 before the last column
        only_last : dim < system.echelon.pivot i → ⊥
        only_last l = by_entry (at_last (value_is (dot_is (lowered dim enc.vector) (lowered dim (vector_at lines i)) ∙ inner_line dim gens lines rays wide system enc i h)))
          where
            last_entry : (k : ℕ) → k ≢ dim → cell (lowered dim (vector_at lines i)) k ≡ cell (lowered dim (vector_at lines i)) dim *ℤ cell (last_row dim) k
            last_entry k ne = by_order (cases_lt k dim)
              where
                by_order : (k < dim) ⊎ (dim ≤ k) → cell (lowered dim (vector_at lines i)) k ≡ cell (lowered dim (vector_at lines i)) dim *ℤ cell (last_row dim) k
                by_order (inl b) = no_entry (cell (lowered dim (vector_at lines i)) k) (cell (lowered dim (vector_at lines i)) dim) (cell (last_row dim) k) (cell-remove dim (vector_at lines i) k ∙ ap (cell (vector_at lines i)) (skip_before dim k b) ∙ p.before k (omega (arith, b, l))) (last_before dim k b)
                by_order (inr b) = no_entry (cell (lowered dim (vector_at lines i)) k) (cell (lowered dim (vector_at lines i)) dim) (cell (last_row dim) k) (get_or_past (lowered dim (vector_at lines i)) k (pos 0) (omega (arith, lowered_wide dim gens lines rays wide system (vector_at lines i) w, b, ne))) (get_or_past (last_row dim) k (pos 0) (omega (arith, last_wide dim gens lines rays wide system enc, b, ne)))

            all_entry : (k : ℕ) → cell (lowered dim (vector_at lines i)) k ≡ cell (lowered dim (vector_at lines i)) dim *ℤ cell (last_row dim) k
            all_entry k = by_same (same_number k dim)
              where
                by_same : (k ≡ dim) ⊎ (k ≢ dim) → cell (lowered dim (vector_at lines i)) k ≡ cell (lowered dim (vector_at lines i)) dim *ℤ cell (last_row dim) k
                by_same (inl e) = subst (λ (m : ℕ). cell (lowered dim (vector_at lines i)) m ≡ cell (lowered dim (vector_at lines i)) dim *ℤ cell (last_row dim) m) (sym e) (own_entry (cell (lowered dim (vector_at lines i)) dim) (cell (last_row dim) dim) (last_at dim))
                by_same (inr ne) = last_entry k ne

            value_is : dot (lowered dim enc.vector) (lowered dim (vector_at lines i)) ≡ pos 0 → cell (lowered dim (vector_at lines i)) dim *ℤ value (lowered dim enc.vector) (relaxed dim rays zero) ≡ pos 0
            value_is z = sym ((value_linear (lowered dim enc.vector)).multiple (cell (lowered dim (vector_at lines i))) (relaxed dim rays zero) (cell (lowered dim (vector_at lines i)) dim) all_entry) ∙ sym (dot_is (lowered dim enc.vector) (lowered dim (vector_at lines i))) ∙ z

            at_last : cell (lowered dim (vector_at lines i)) dim *ℤ value (lowered dim enc.vector) (relaxed dim rays zero) ≡ pos 0 → cell (lowered dim (vector_at lines i)) dim ≡ pos 0
            at_last z = zero_of_mul (value (lowered dim enc.vector) (relaxed dim rays zero)) (cell (lowered dim (vector_at lines i)) dim) (inner_last dim gens lines rays wide system enc) (mul_comm (value (lowered dim enc.vector) (relaxed dim rays zero)) (cell (lowered dim (vector_at lines i)) dim) ∙ z)

            by_entry : cell (lowered dim (vector_at lines i)) dim ≡ pos 0 → ⊥
            by_entry z = by_pivot (same_number (system.echelon.pivot i) (dim + 1))
              where
                by_pivot : (system.echelon.pivot i ≡ dim + 1) ⊎ (system.echelon.pivot i ≢ dim + 1) → ⊥
                by_pivot (inl e) = positive_entry (cell (vector_at lines i) (system.echelon.pivot i)) p.positive (ap (cell (vector_at lines i)) (e ∙ omega arith ∙ sym (skip_self dim)) ∙ sym (cell-remove dim (vector_at lines i) dim) ∙ z)
                by_pivot (inr ne) = positive_entry (cell (vector_at lines i) (system.echelon.pivot i)) p.positive (get_or_past (vector_at lines i) (system.echelon.pivot i) (pos 0) (omega (arith, w, l, ne)))

        by_place : (system.echelon.pivot i < dim) ⊎ (dim ≤ system.echelon.pivot i) → system.echelon.pivot i < dim
        by_place (inl l) = l
        by_place (inr l) = by_equal (eq-or-lt_of_le l)
          where
            by_equal : (dim ≡ system.echelon.pivot i) ⊎ (dim < system.echelon.pivot i) → system.echelon.pivot i < dim
            by_equal (inl e) = absurd (positive_entry (cell (vector_at lines i) (system.echelon.pivot i)) p.positive (ap (cell (vector_at lines i)) (sym e) ∙ row_line_height i h))
            by_equal (inr g) = absurd (only_last g)

    -- ---- a row with a variable isn't a part of the row of column e
    factor_zero : (k x : ℤ) → pos 0 <ℤ x → k *ℤ x ≡ pos 0 → k ≡ pos 0
    factor_zero k x p e = zero_of_mul x k p (mul_comm x k ∙ e)

    left_zero : (n e t b r : ℤ) → n *ℤ e ≡ t +ℤ b *ℤ r → e ≡ pos 0 → r ≡ pos 0 → t ≡ pos 0
    left_zero n e t b r h p q =
        let f = ap (λ (z : ℤ). n *ℤ z) p ∙ mul-zero n in
        let g = ap (λ (z : ℤ). b *ℤ z) q ∙ mul-zero b in
        omega (arith, ints, h, f, g)

    part_zero : (n e t b r : ℤ) → n *ℤ e ≡ t +ℤ b *ℤ r → e ≡ pos 0 → t ≡ pos 0 → b *ℤ r ≡ pos 0
    part_zero n e t b r h p q = let f = ap (λ (z : ℤ). n *ℤ z) p ∙ mul-zero n in omega (arith, ints, h, f, q)

    own_zero : (n e t b r : ℤ) → n *ℤ e ≡ t +ℤ b *ℤ r → e ≡ pos 1 → t ≡ pos 0 → b ≡ pos 0 → pos 0 <ℤ n → ⊥
    own_zero n e t b r h p q s c =
        let f = ap (λ (z : ℤ). n *ℤ z) p in
        let g = ap (λ (z : ℤ). z *ℤ r) s in
        omega (arith, ints, h, f, g, q, c)

    other_factor : (b r : ℤ) → b *ℤ r ≡ pos 0 → r ≢ pos 0 → pos 0 ≤ℤ b → b ≡ pos 0
    other_factor b r e ne p = by_factor (by_sign b)
      where
        by_factor : (pos 0 <ℤ b) ⊎ ((b <ℤ pos 0) ⊎ (b ≡ pos 0)) → b ≡ pos 0
        by_factor (inl h) = absurd (ne (zero_of_mul b r h e))
        by_factor (inr (inl h)) = absurd (omega (arith, ints, p, h))
        by_factor (inr (inr h)) = h

    no_height_part : (i : ℕ) → i < length rays → HasVariable dim (vector_at rays i) → IsLikeRay (dim + 2) D (upto_cone (dim + 2) gens (length gens)) lines rays system i (height_row dim).0 → ⊥
    no_height_part i h v s = own_zero s.times (cell (height_row dim).0 dim) (combined s.factors lines dim) s.part (cell (vector_at rays i) dim) (s.sum dim) height_own (no_lines dim) part s.positive
      where
        at_pivot_zero : (m : ℕ) → m < length lines → cell s.factors m ≡ pos 0
        at_pivot_zero m l =
            factor_zero (cell s.factors m) (cell (vector_at lines m) (system.echelon.pivot m)) (system.echelon.pivots m l).positive
            (sym (at_pivot lines rays system.echelon s.factors m l)
            ∙ left_zero s.times (cell (height_row dim).0 (system.echelon.pivot m)) (combined s.factors lines (system.echelon.pivot m)) s.part (cell (vector_at rays i) (system.echelon.pivot m)) (s.sum (system.echelon.pivot m))
            (ap (cell (height_row dim).0) (sym (skip_before dim (system.echelon.pivot m) (pivot_below m l))) ∙ height_entry (system.echelon.pivot m))
            (system.echelon.rays_zero m i l h))

        no_lines : (j : ℕ) → combined s.factors lines j ≡ pos 0
        no_lines j = combined-none s.factors lines j (λ m l. ap (λ (z : ℤ). z *ℤ cell (vector_at lines m) j) (at_pivot_zero m l) ∙ omega (arith, ints))

        part : s.part ≡ pos 0
        part =
            other_factor s.part (cell (vector_at rays i) v.column)
            (part_zero s.times (cell (height_row dim).0 v.column) (combined s.factors lines v.column) s.part (cell (vector_at rays i) v.column) (s.sum v.column)
            (ap (cell (height_row dim).0) (sym (skip_before dim v.column v.below)) ∙ height_entry v.column) (no_lines v.column))
            v.other s.at_least_zero

    -- what is a multiple of the row of column e and a row of the set isn't a multiple of a row with a variable
    pub no_height_sum : (i : ℕ) → i < length rays → HasVariable dim (vector_at rays i) → (t g : ℤ) (z : List ℤ) → pos 0 <ℤ g → D z → ((j : ℕ) → t *ℤ cell (vector_at rays i) j ≡ g *ℤ cell (height_row dim).0 j +ℤ cell z j) → ⊥
    no_height_sum i h v t g z p u e =
        no_height_part i h v (like_ray (dim + 2) D (upto_cone (dim + 2) gens (length gens)) lines rays system i h t g (height_row dim).0 z p enc.height u e)

    other_column : (t x g y z : ℤ) → x ≡ z → y ≡ pos 0 → t ≡ pos 1 → t *ℤ x ≡ g *ℤ y +ℤ z
    other_column t x g y z e f q =
        let h = ap (λ (n : ℤ). g *ℤ n) f ∙ mul-zero g in
        let i = ap (λ (n : ℤ). n *ℤ x) q in
        omega (arith, ints, e, h, i)

    own_column : (x y z : ℤ) → y ≡ pos 1 → z ≡ pos 0 → pos 1 *ℤ x ≡ x *ℤ y +ℤ z
    own_column x y z e f = let h = ap (λ (n : ℤ). x *ℤ n) e in omega (arith, ints, h, f)

    -- a row of the system with a variable is at most 0 in column e
    pub height_at_most : (i : ℕ) → i < length rays → HasVariable dim (vector_at rays i) → cell (vector_at rays i) dim ≤ℤ pos 0
    height_at_most i h v = by_height (by_sign (cell (vector_at rays i) dim))
      where
        columns_of : (j : ℕ) → pos 1 *ℤ cell (vector_at rays i) j ≡ cell (vector_at rays i) dim *ℤ cell (height_row dim).0 j +ℤ cell (raised dim (lowered dim (vector_at rays i)) (pos 0)) j
        columns_of j = by_column (column_cases dim j)
          where
            by_column : (j ≡ dim) ⊎ ((k : ℕ) × (skip dim k ≡ j)) → pos 1 *ℤ cell (vector_at rays i) j ≡ cell (vector_at rays i) dim *ℤ cell (height_row dim).0 j +ℤ cell (raised dim (lowered dim (vector_at rays i)) (pos 0)) j
            by_column (inl e) =
                subst (λ (n : ℕ). pos 1 *ℤ cell (vector_at rays i) n ≡ cell (vector_at rays i) dim *ℤ cell (height_row dim).0 n +ℤ cell (raised dim (lowered dim (vector_at rays i)) (pos 0)) n) (sym e)
                (own_column (cell (vector_at rays i) dim) (cell (height_row dim).0 dim) (cell (raised dim (lowered dim (vector_at rays i)) (pos 0)) dim) height_own (cell_insert dim (lowered dim (vector_at rays i)) (pos 0) (omega (arith, lowered_wide dim gens lines rays wide system (vector_at rays i) (ray_in dim gens lines rays wide system i h).wide))))
            by_column (inr (k, e)) =
                subst (λ (n : ℕ). pos 1 *ℤ cell (vector_at rays i) n ≡ cell (vector_at rays i) dim *ℤ cell (height_row dim).0 n +ℤ cell (raised dim (lowered dim (vector_at rays i)) (pos 0)) n) e
                (other_column (pos 1) (cell (vector_at rays i) (skip dim k)) (cell (vector_at rays i) dim) (cell (height_row dim).0 (skip dim k)) (cell (raised dim (lowered dim (vector_at rays i)) (pos 0)) (skip dim k))
                (sym (cell-remove dim (vector_at rays i) k)
                ∙ sym (ap (λ (w : List ℤ). cell w k) (remove_insert dim (lowered dim (vector_at rays i)) (pos 0) (omega (arith, lowered_wide dim gens lines rays wide system (vector_at rays i) (ray_in dim gens lines rays wide system i h).wide))))
                ∙ cell-remove dim (raised dim (lowered dim (vector_at rays i)) (pos 0)) k)
                (height_entry k) refl)

        by_height : (pos 0 <ℤ cell (vector_at rays i) dim) ⊎ ((cell (vector_at rays i) dim <ℤ pos 0) ⊎ (cell (vector_at rays i) dim ≡ pos 0)) → cell (vector_at rays i) dim ≤ℤ pos 0
        by_height (inl p) = absurd (no_height_sum i h v (pos 1) (cell (vector_at rays i) dim) (raised dim (lowered dim (vector_at rays i)) (pos 0)) p (enc.flat (vector_at rays i) (ray_in dim gens lines rays wide system i h)) columns_of)
        by_height (inr (inl p)) = omega (arith, ints, p)
        by_height (inr (inr p)) = omega (arith, ints, p)
