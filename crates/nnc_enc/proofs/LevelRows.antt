-- A row that is 0 in column e can't be left out.
use Rattle.std.proofs.Common.{map, ◌≡◌, ◌≢◌, ◌⊎◌, inl, inr, ℕ, zero, suc, ◌+◌, ◌<◌, ◌≤◌, List, [], ◌∷◌, length, slice_index_or, false, ℤ, pos, negsuc, ◌+ℤ◌, ◌-ℤ◌, ◌*ℤ◌, neg_ℤ, ◌≤ℤ◌, ◌<ℤ◌, All, refl, sym, ap, ◌∙◌, subst, arith}
use Rattle.std.specs.Prelude.{⊤, remove}
use Rattle.cone_laws.proofs.LineSteps.{InRest, whole_in_rest}
use Rattle.std.proofs.lemmas.Int.{ints}
use Rattle.std.proofs.Math.Nat.{eq-or-lt_of_le}
use Rattle.row_core.specs.Vectors.{cell, dot}
use Rattle.row_core.specs.Lists.{Row}
use Rattle.row_core.specs.Points.{IsPoint}
use Rattle.cone_laws.specs.Cones.{Upto, Spans}
use Rattle.cone_laws.specs.Canon.{vector_at, IsSystem}
use Rattle.cone_laws.proofs.Ring.{ring, mul_comm, by_sign, at_least_zero_or_not, mul-zero, mul-at_least_zero, at_least_zero_of_mul, same_or_not}
use Rattle.cone_laws.proofs.Sums.{V, Same, Among, SpansBy, sums_one_ray, spans_sums, spans_same, spans_spans}
use Rattle.cone_laws.proofs.Columns.{value, value_linear, dot_is, dot_comm}
use Rattle.cone_laws.proofs.Bridge.{In, columns, in_at, to_sums}
use Rattle.cone_laws.proofs.Instance.{Beside, rest_beside}
use Rattle.cone_laws.proofs.Factors.{All-remove}
use Rattle.cone_laws.proofs.Existence.{both, cell-both, length-both}
use Rattle.cone_laws.proofs.Bipolar.{dot-both}
use Rattle.nnc_enc.specs.Encoding.{lowered, height_row, bound_row, IsEncodedDual}
use Rattle.std.proofs.lemmas.List.Elements.{All-map, All-cons}
use Rattle.std.proofs.lemmas.List.{get_or-map, length-map}
use Rattle.row_core.specs.Lists.{system_rows}
use Rattle.cone_laws.specs.Members.{ConeOf}
use Rattle.cone_laws.proofs.SystemLists.{lists_wide, met_line, met_ray, spanned_of_admitted}
use Rattle.nnc_enc.specs.StrongRows.{HoldsAt, HasVariable, HasNoVariable, LevelRowsAreNeeded}
use Rattle.nnc_enc.proofs.KeptSums.{one_span, line_span, all_kept}
use Rattle.nnc_enc.proofs.EncodedRows.{remove_insert, cell_insert, dot_last}
use Rattle.nnc_enc.proofs.ClosedRows.{lowered_wide, ray_in}
use Rattle.nnc_enc.proofs.InnerPoint.{inner_last, inner_line, inner_on, inner_strict, last_value, last_wide}
use Rattle.nnc_enc.proofs.LeftOutRows.{times_last}
use Rattle.nnc_enc.proofs.Lifted.{IsLift, beside_needed}
use Rattle.nnc_enc.proofs.Relaxed.{Given, Strict, cell-remove, column_cases, last_row, relaxed, relaxed_lines, skip}
use Rattle.nnc_enc.proofs.RowHeights.{height_at_most, height_entry, height_own, no_height_sum, row_line_height}

module _ (dim : ℕ) (gens : List Row) (lines rays : List (List ℤ)) (wide : (j : ℕ) → j < length gens → length (slice_index_or gens j ([], false)).0 ≡ dim + 2) (system : IsSystem (Upto (dim + 2) gens (length gens)) lines rays) where
  abbrev gen : ℕ → List ℤ
  gen j = (slice_index_or gens j ([], false)).0

  abbrev D : List ℤ → Type 0
  D = Upto (dim + 2) gens (length gens)

  module _ (enc : IsEncodedDual dim (Upto (dim + 2) gens (length gens))) where
    -- ---- a row that is 0 in column e isn't implied by the others
    -- the row d, and the other rows that are at most 0 in column e
    abbrev Allowed : ℕ → ℕ → Type 0
    Allowed i zero = ⊤
    Allowed i (suc l) = (l < length rays) × (l ≢ i) × (cell (vector_at rays l) dim ≤ℤ pos 0)

    lift_row : (i n : ℕ) → Allowed i n → IsLift dim gens lines rays wide system n
    lift_row i zero m = record { vector = (bound_row dim).0; member = enc.bound; same = λ j. sym (ap (λ (w : List ℤ). cell w j) (remove_insert dim (last_row dim) (negsuc 0) (omega (arith, last_wide dim gens lines rays wide system enc)))) }
    lift_row i (suc n) m = record { vector = vector_at rays n; member = ray_in dim gens lines rays wide system n m.0; same = λ j. refl }

    turned_below : (x : ℤ) → x <ℤ pos 0 → pos 0 <ℤ (negsuc 0 *ℤ x)
    turned_below x p = omega (arith, ints, p)

    turned_above : (x : ℤ) → pos 0 <ℤ (negsuc 0 *ℤ x) → pos 0 <ℤ neg_ℤ x
    turned_above x p = omega (arith, ints, p)

    -- the sign of column e is turned
    row_side : (i n : ℕ) (m : Allowed i n) → (pos 0 <ℤ (negsuc 0 *ℤ cell (lift_row i n m).vector dim)) ⊎ ((cell (lift_row i n m).vector dim ≡ pos 0) × Beside rays i (cell (lift_row i n m).vector))
    unfolding lift_row
    row_side i zero m = inl (of_one (cell (bound_row dim).0 dim) (cell_insert dim (last_row dim) (negsuc 0) (omega (arith, last_wide dim gens lines rays wide system enc))))
      where
        of_one : (x : ℤ) → x ≡ negsuc 0 → pos 0 <ℤ (negsuc 0 *ℤ x)
        of_one x e = omega (arith, ints, e)
    row_side i (suc n) m = by_height (by_sign (cell (vector_at rays n) dim))
      where
        above : (x : ℤ) → x ≤ℤ pos 0 → pos 0 <ℤ x → ⊥
        above x p q = omega (arith, ints, p, q)

        by_height : (pos 0 <ℤ cell (vector_at rays n) dim) ⊎ ((cell (vector_at rays n) dim <ℤ pos 0) ⊎ (cell (vector_at rays n) dim ≡ pos 0)) → (pos 0 <ℤ (negsuc 0 *ℤ cell (vector_at rays n) dim)) ⊎ ((cell (vector_at rays n) dim ≡ pos 0) × Beside rays i (cell (vector_at rays n)))
        by_height (inl p) = absurd (above (cell (vector_at rays n) dim) m.2 p)
        by_height (inr (inl p)) = inl (turned_below (cell (vector_at rays n) dim) p)
        by_height (inr (inr z)) = inr (z, record { index = n; is = (m.0, m.1); same = λ j. refl })

    turned_column : (t x g y z : ℤ) → t *ℤ x ≡ z → y ≡ pos 0 → t *ℤ x ≡ g *ℤ y +ℤ z
    turned_column t x g y z e f = let h = ap (λ (n : ℤ). g *ℤ n) f ∙ mul-zero g in omega (arith, ints, e, h)

    level_column : (t x g y z : ℤ) → x ≡ pos 0 → y ≡ pos 1 → g ≡ neg_ℤ z → t *ℤ x ≡ g *ℤ y +ℤ z
    level_column t x g y z e f h =
        let i = ap (λ (n : ℤ). t *ℤ n) e ∙ mul-zero t in
        let k = ap (λ (n : ℤ). g *ℤ n) f in
        omega (arith, ints, i, k, h)

    -- a row with a variable and 0 in column e isn't a sum of the lines, the row d and the other rows that are at most 0 there
    pub level_row_needed : (i : ℕ) → i < length rays → HasVariable dim (vector_at rays i) → cell (vector_at rays i) dim ≡ pos 0 → ¬ (SpansBy (relaxed_lines dim lines) (Among (relaxed dim rays) (Allowed i)) (relaxed dim rays (suc i)))
    level_row_needed i h v z =
        beside_needed dim gens lines rays wide system (negsuc 0) i (row_line_height dim gens lines rays wide system enc) (Allowed i) (lift_row i) (row_side i) h z
        (λ t w u p at_skip. no_height_sum dim gens lines rays wide system enc i h v t (neg_ℤ (cell w dim)) w (turned_above (cell w dim) p) u (with_height t w at_skip))
      where
        with_height : (t : ℤ) (w : List ℤ) → ((k : ℕ) → t *ℤ cell (vector_at rays i) (skip dim k) ≡ cell w (skip dim k)) → (j : ℕ) → t *ℤ cell (vector_at rays i) j ≡ neg_ℤ (cell w dim) *ℤ cell (height_row dim).0 j +ℤ cell w j
        with_height t w at_skip j = by_column (column_cases dim j)
          where
            by_column : (j ≡ dim) ⊎ ((k : ℕ) × (skip dim k ≡ j)) → t *ℤ cell (vector_at rays i) j ≡ neg_ℤ (cell w dim) *ℤ cell (height_row dim).0 j +ℤ cell w j
            by_column (inl e) = subst (λ (n : ℕ). t *ℤ cell (vector_at rays i) n ≡ neg_ℤ (cell w dim) *ℤ cell (height_row dim).0 n +ℤ cell w n) (sym e) (level_column t (cell (vector_at rays i) dim) (neg_ℤ (cell w dim)) (cell (height_row dim).0 dim) (cell w dim) z (height_own dim gens lines rays wide system enc) refl)
            by_column (inr (k, e)) = subst (λ (n : ℕ). t *ℤ cell (vector_at rays i) n ≡ neg_ℤ (cell w dim) *ℤ cell (height_row dim).0 n +ℤ cell w n) e (turned_column t (cell (vector_at rays i) (skip dim k)) (neg_ℤ (cell w dim)) (cell (height_row dim).0 (skip dim k)) (cell w (skip dim k)) (at_skip k) (height_entry dim gens lines rays wide system enc k))

    -- ---- a row that is 0 in column e can't be left out
    -- the first columns have a number other than 0, or not
    variable_or_not : (a : List ℤ) (n : ℕ) → n ≤ dim → HasVariable dim a ⊎ ((j : ℕ) → j < n → cell a j ≡ pos 0)
    variable_or_not a zero h = inr (λ j l. absurd (omega arith))
    variable_or_not a (suc n) h = with_last (variable_or_not a n (omega arith)) (same_or_not (cell a n) (pos 0))
      where
        with_last : HasVariable dim a ⊎ ((j : ℕ) → j < n → cell a j ≡ pos 0) → (cell a n ≡ pos 0) ⊎ (cell a n ≢ pos 0) → HasVariable dim a ⊎ ((j : ℕ) → j < suc n → cell a j ≡ pos 0)
        with_last (inl v) e = inl v
        with_last (inr z) (inr ne) = inl (record { column = n; below = omega arith; other = ne })
        with_last (inr z) (inl e) = inr (λ j l. by_place j (eq-or-lt_of_le l))
          where
            by_place : (j : ℕ) → (suc j ≡ suc n) ⊎ (suc j < suc n) → cell a j ≡ pos 0
            by_place j (inl q) = subst (λ (m : ℕ). cell a m ≡ pos 0) (omega arith) e
            by_place j (inr l) = z j (omega arith)

    -- each other row is a sum of what is allowed
    row_allowed : (i t : ℕ) → t < length rays → t ≢ i → SpansBy (relaxed_lines dim lines) (Among (relaxed dim rays) (Allowed i)) (relaxed dim rays (suc t))
    row_allowed i t h ne = by_variable (variable_or_not (vector_at rays t) dim (omega arith))
      where
        zero_number : Among (relaxed dim rays) (Allowed i) (relaxed dim rays zero)
        zero_number = record { index = zero; is = tt; same = λ j. refl }

        entries : HasNoVariable dim (vector_at rays t) → (j : ℕ) → relaxed dim rays (suc t) j ≡ cell (lowered dim (vector_at rays t)) dim *ℤ relaxed dim rays zero j
        entries n = times_last dim gens lines rays wide system enc (Given rays) (all_kept (relaxed_lines dim lines) (relaxed dim rays) (Given rays) (Strict dim rays)) (λ m g. g) t h n

        factor_least : HasNoVariable dim (vector_at rays t) → pos 0 ≤ℤ cell (lowered dim (vector_at rays t)) dim
        factor_least n =
            at_least_zero_of_mul (value (lowered dim enc.vector) (relaxed dim rays zero)) (cell (lowered dim (vector_at rays t)) dim) (inner_last dim gens lines rays wide system enc)
            (subst (λ (z : ℤ). pos 0 ≤ℤ z) ((value_linear (lowered dim enc.vector)).multiple (relaxed dim rays (suc t)) (relaxed dim rays zero) (cell (lowered dim (vector_at rays t)) dim) (entries n) ∙ mul_comm (cell (lowered dim (vector_at rays t)) dim) (value (lowered dim enc.vector) (relaxed dim rays zero))) (inner_on dim gens lines rays wide system enc (suc t) h))

        by_variable : HasVariable dim (vector_at rays t) ⊎ HasNoVariable dim (vector_at rays t) → SpansBy (relaxed_lines dim lines) (Among (relaxed dim rays) (Allowed i)) (relaxed dim rays (suc t))
        by_variable (inl v) = one_span (relaxed dim rays (suc t)) (record { index = suc t; is = (h, ne, height_at_most dim gens lines rays wide system enc t h v); same = λ j. refl })
        by_variable (inr n) = spans_sums (relaxed dim rays (suc t)) (sums_one_ray (cell (lowered dim (vector_at rays t)) dim) (relaxed dim rays zero) (relaxed dim rays (suc t)) (factor_least n) zero_number (entries n))

    -- the lines and the other rows without column e, and the row d
    abbrev other_lines : List (List ℤ)
    other_lines = map (lowered dim) lines

    abbrev other_rays : ℕ → List (List ℤ)
    other_rays i = last_row dim ∷ map (lowered dim) (remove rays i)

    module _ (i : ℕ) (hi : i < length rays) (vi : HasVariable dim (vector_at rays i)) (zi : cell (vector_at rays i) dim ≡ pos 0) where
      line_at : (l : V) → In other_lines l → relaxed_lines dim lines l
      line_at l m = record { index = m.index; is = below; same = λ j. m.same j ∙ ap (λ (v : List ℤ). cell v j) (get_or-map (lowered dim) lines m.index [] [] below) }
        where
          below : m.index < length lines
          below = omega (arith, m.is, length-map {B = List ℤ} lines (lowered dim))

      ray_at : (r : V) (n : ℕ) → n < length (other_rays i) → Same r (cell (vector_at (other_rays i) n)) → SpansBy (relaxed_lines dim lines) (Among (relaxed dim rays) (Allowed i)) r
      ray_at r zero h e = one_span r (record { index = zero; is = tt; same = e })
      ray_at r (suc n) h e = by_beside (rest_beside rays i hi (columns (remove rays i) n) (in_at (remove rays i) n below))
        where
          below : n < length (remove rays i)
          below = omega (arith, h, length-map {B = List ℤ} (remove rays i) (lowered dim))

          by_beside : Beside rays i (columns (remove rays i) n) → SpansBy (relaxed_lines dim lines) (Among (relaxed dim rays) (Allowed i)) r
          by_beside b = spans_same (relaxed dim rays (suc b.index)) r (row_allowed i b.index b.is.0 b.is.1)
              (λ j. e j ∙ ap (λ (v : List ℤ). cell v j) (get_or-map (lowered dim) (remove rays i) n [] [] below) ∙ cell-remove dim (vector_at (remove rays i) n) j ∙ b.same (skip dim j) ∙ sym (cell-remove dim (vector_at rays b.index) j))

      served : Spans other_lines (other_rays i) (lowered dim (vector_at rays i)) → SpansBy (relaxed_lines dim lines) (Among (relaxed dim rays) (Allowed i)) (relaxed dim rays (suc i))
      served s = spans_spans (λ l m. line_span l (line_at l m)) (λ r m. ray_at r m.index m.is m.same) (relaxed dim rays (suc i)) (to_sums other_lines (other_rays i) (lowered dim (vector_at rays i)) s)

      -- ---- what the other rows admit
      all_wide : All (λ g. length g.0 ≡ dim + 1) (system_rows other_lines (other_rays i))
      all_wide =
          lists_wide (dim + 1) other_lines (other_rays i)
          (All-map (λ v. length v ≡ dim + 1) (lowered dim) lines (λ m d h. lowered_wide dim gens lines rays wide system (slice_index_or lines m d) (system.generates.lines_within m d h).0.wide))
          (All-cons (λ v. length v ≡ dim + 1) (last_row dim) (map (lowered dim) (remove rays i)) (last_wide dim gens lines rays wide system enc)
          (All-map (λ v. length v ≡ dim + 1) (lowered dim) (remove rays i) (λ m d h. lowered_wide dim gens lines rays wide system (slice_index_or (remove rays i) m d) (All-remove D rays i system.generates.rays_within m d h).wide)))

      module _ (q : List ℤ) (qw : length q ≡ dim + 1) (q_lines : (m : ℕ) → m < length lines → dot (lowered dim (vector_at lines m)) q ≡ pos 0) (q_last : pos 0 ≤ℤ cell q dim) (q_rest : (t : ℕ) → t < length rays → t ≢ i → pos 0 ≤ℤ dot (lowered dim (vector_at rays t)) q) (holds : (p : List ℤ) → IsPoint dim p → ((m : ℕ) → m < length lines → dot (lowered dim (vector_at lines m)) p ≡ pos 0) → ((t : ℕ) → t < length rays → t ≢ i → HoldsAt dim (vector_at rays t) p) → pos 0 ≤ℤ dot (lowered dim (vector_at rays i)) p) where
        inner_value : (a : List ℤ) → value (lowered dim enc.vector) (cell a) ≡ dot a (lowered dim enc.vector)
        inner_value a = sym (dot_is (lowered dim enc.vector) a) ∙ dot_comm (lowered dim enc.vector) a

        -- so much of q that the row's value at the point doesn't matter
        abbrev much : ℤ
        much = dot (lowered dim (vector_at rays i)) (lowered dim enc.vector) +ℤ pos 1

        abbrev moved_point : List ℤ
        moved_point = both (dot (lowered dim (vector_at rays i)) (lowered dim enc.vector) +ℤ pos 1) q (pos 1) (lowered dim enc.vector)

        value_least : pos 0 ≤ℤ dot (lowered dim (vector_at rays i)) (lowered dim enc.vector)
        value_least = subst (λ (z : ℤ). pos 0 ≤ℤ z) (inner_value (lowered dim (vector_at rays i))) (inner_on dim gens lines rays wide system enc (suc i) hi)

        much_least : (x : ℤ) → pos 0 ≤ℤ x → pos 0 ≤ℤ (x +ℤ pos 1)
        much_least x h = omega (arith, ints, h)

        at_moved : (a : List ℤ) → dot a moved_point ≡ much *ℤ dot a q +ℤ pos 1 *ℤ dot a (lowered dim enc.vector)
        at_moved a = dot-both a much q (pos 1) (lowered dim enc.vector)

        sum_least : (z m x y : ℤ) → z ≡ m *ℤ x +ℤ pos 1 *ℤ y → pos 0 ≤ℤ m → pos 0 ≤ℤ x → pos 0 ≤ℤ y → pos 0 ≤ℤ z
        sum_least z m x y e p q r = let t = mul-at_least_zero m x p q in omega (arith, ints, e, t, r)

        sum_positive : (z m x y : ℤ) → z ≡ m *ℤ x +ℤ pos 1 *ℤ y → pos 0 ≤ℤ m → pos 0 ≤ℤ x → pos 0 <ℤ y → pos 0 <ℤ z
        sum_positive z m x y e p q r = let t = mul-at_least_zero m x p q in omega (arith, ints, e, t, r)

        sum_zero : (z m x y : ℤ) → z ≡ m *ℤ x +ℤ pos 1 *ℤ y → x ≡ pos 0 → y ≡ pos 0 → z ≡ pos 0
        sum_zero z m x y e p q = let t = ap (λ (n : ℤ). m *ℤ n) p ∙ mul-zero m in omega (arith, ints, e, t, q)

        below_zero : (z x y : ℤ) → z ≡ (y +ℤ pos 1) *ℤ x +ℤ pos 1 *ℤ y → pos 0 ≤ℤ y → pos 0 ≤ℤ z → x <ℤ pos 0 → ⊥
        below_zero z x y e p q r =
            let t = mul-at_least_zero (y +ℤ pos 1) (neg_ℤ x -ℤ pos 1) (omega (arith, ints, p)) (omega (arith, ints, r)) in
            let s : (y +ℤ pos 1) *ℤ (neg_ℤ x -ℤ pos 1) ≡ neg_ℤ ((y +ℤ pos 1) *ℤ x) -ℤ (y +ℤ pos 1) = simp ring (omega (arith, ints)) in
            omega (arith, ints, e, p, q, t, s)

        inner_wide : length (lowered dim enc.vector) ≡ dim + 1
        inner_wide = lowered_wide dim gens lines rays wide system enc.vector enc.wide

        moved_is_point : IsPoint dim moved_point
        moved_is_point = record {
          wide = length-both much q (pos 1) (lowered dim enc.vector) (qw ∙ sym inner_wide) ∙ inner_wide;
          positive = sum_positive (cell moved_point dim) much (cell q dim) (cell (lowered dim enc.vector) dim) (cell-both much q (pos 1) (lowered dim enc.vector) dim) (much_least (dot (lowered dim (vector_at rays i)) (lowered dim enc.vector)) value_least) q_last
              (subst (λ (z : ℤ). pos 0 <ℤ z) (sym (dot_is (lowered dim enc.vector) (last_row dim)) ∙ last_value dim gens lines rays wide system enc (lowered dim enc.vector)) (inner_last dim gens lines rays wide system enc));
        }

        moved_holds : (t : ℕ) → t < length rays → t ≢ i → HoldsAt dim (vector_at rays t) moved_point
        moved_holds t h ne = record {
          least = sum_least (dot (lowered dim (vector_at rays t)) moved_point) much (dot (lowered dim (vector_at rays t)) q) (dot (lowered dim (vector_at rays t)) (lowered dim enc.vector)) (at_moved (lowered dim (vector_at rays t))) (much_least (dot (lowered dim (vector_at rays i)) (lowered dim enc.vector)) value_least) (q_rest t h ne)
              (subst (λ (z : ℤ). pos 0 ≤ℤ z) (inner_value (lowered dim (vector_at rays t))) (inner_on dim gens lines rays wide system enc (suc t) h));
          strict = λ s. sum_positive (dot (lowered dim (vector_at rays t)) moved_point) much (dot (lowered dim (vector_at rays t)) q) (dot (lowered dim (vector_at rays t)) (lowered dim enc.vector)) (at_moved (lowered dim (vector_at rays t))) (much_least (dot (lowered dim (vector_at rays i)) (lowered dim enc.vector)) value_least) (q_rest t h ne)
              (subst (λ (z : ℤ). pos 0 <ℤ z) (inner_value (lowered dim (vector_at rays t))) (inner_strict dim gens lines rays wide system enc t h s));
        }

        moved_lines : (m : ℕ) → m < length lines → dot (lowered dim (vector_at lines m)) moved_point ≡ pos 0
        moved_lines m h = sum_zero (dot (lowered dim (vector_at lines m)) moved_point) much (dot (lowered dim (vector_at lines m)) q) (dot (lowered dim (vector_at lines m)) (lowered dim enc.vector)) (at_moved (lowered dim (vector_at lines m))) (q_lines m h) (sym (inner_value (lowered dim (vector_at lines m))) ∙ inner_line dim gens lines rays wide system enc m h)

        row_admits : pos 0 ≤ℤ dot (lowered dim (vector_at rays i)) q
        row_admits = by_value_sign (at_least_zero_or_not (dot (lowered dim (vector_at rays i)) q))
          where
            by_value_sign : (pos 0 ≤ℤ dot (lowered dim (vector_at rays i)) q) ⊎ (dot (lowered dim (vector_at rays i)) q <ℤ pos 0) → pos 0 ≤ℤ dot (lowered dim (vector_at rays i)) q
            by_value_sign (inl h) = h
            by_value_sign (inr h) = absurd (below_zero (dot (lowered dim (vector_at rays i)) moved_point) (dot (lowered dim (vector_at rays i)) q) (dot (lowered dim (vector_at rays i)) (lowered dim enc.vector)) (at_moved (lowered dim (vector_at rays i))) value_least (holds moved_point moved_is_point moved_lines moved_holds) h)

      level_needed : ¬ ((p : List ℤ) → IsPoint dim p → ((m : ℕ) → m < length lines → dot (lowered dim (vector_at lines m)) p ≡ pos 0) → ((t : ℕ) → t < length rays → t ≢ i → HoldsAt dim (vector_at rays t) p) → pos 0 ≤ℤ dot (lowered dim (vector_at rays i)) p)
      level_needed holds =
          level_row_needed i hi vi zi
          (served (spanned_of_admitted (dim + 1) other_lines (other_rays i) (lowered dim (vector_at rays i)) all_wide (lowered_wide dim gens lines rays wide system (vector_at rays i) (ray_in dim gens lines rays wide system i hi).wide)
          (λ q u. subst (λ (z : ℤ). pos 0 ≤ℤ z) (dot_comm (lowered dim (vector_at rays i)) q) (by_cone q u))))
        where
          by_cone : (q : List ℤ) → ConeOf (dim + 1) (system_rows other_lines (other_rays i)) q → pos 0 ≤ℤ dot (lowered dim (vector_at rays i)) q
          by_cone q u = row_admits q u.wide on_lines (subst (λ (z : ℤ). pos 0 ≤ℤ z) (dot_last dim q) (met_ray (dim + 1) other_lines (other_rays i) q u zero (omega arith))) on_rest holds
            where
              on_lines : (m : ℕ) → m < length lines → dot (lowered dim (vector_at lines m)) q ≡ pos 0
              on_lines m h = subst (λ (v : List ℤ). dot v q ≡ pos 0) (get_or-map (lowered dim) lines m [] [] h) (met_line (dim + 1) other_lines (other_rays i) q u m (omega (arith, h, length-map {B = List ℤ} lines (lowered dim))))

              on_rest : (t : ℕ) → t < length rays → t ≢ i → pos 0 ≤ℤ dot (lowered dim (vector_at rays t)) q
              on_rest t h ne = by_rest (whole_in_rest rays i t hi h)
                where
                  by_rest : InRest rays i t ⊎ (t ≡ i) → pos 0 ≤ℤ dot (lowered dim (vector_at rays t)) q
                  by_rest (inl r) =
                      subst (λ (v : List ℤ). pos 0 ≤ℤ dot v q) (get_or-map (lowered dim) (remove rays i) r.place [] [] r.below ∙ ap (lowered dim) (sym r.same))
                      (met_ray (dim + 1) other_lines (other_rays i) q u (suc r.place) (omega (arith, r.below, length-map {B = List ℤ} (remove rays i) (lowered dim))))
                  by_rest (inr e) = absurd (ne e)

pub level_rows_are_needed : LevelRowsAreNeeded
level_rows_are_needed dim gens lines rays i wide system enc hi vi zi = level_needed dim gens lines rays wide system enc i hi vi zi
