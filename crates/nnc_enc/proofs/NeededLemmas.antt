-- Equalities and lines are needed; what is 0 on the set is spanned.
use Rattle.std.proofs.Common.{map, ◌≡◌, ◌≢◌, ℕ, zero, suc, ◌+◌, ◌<◌, List, [], ◌∷◌, length, slice_index_or, replicate, Bool, true, false, ℤ, pos, ◌+ℤ◌, ◌*ℤ◌, neg_ℤ, ◌≤ℤ◌, ◌<ℤ◌, refl, sym, ap, ◌∙◌, subst, arith}
use Rattle.std.proofs.lemmas.Int.{ints}
use Rattle.std.proofs.lemmas.List.{get_or_default}
use Rattle.row_core.specs.Vectors.{cell, dot, scale, combined}
use Rattle.row_core.specs.Lists.{Row}
use Rattle.row_core.specs.Points.{IsPoint}
use Rattle.cone_laws.specs.Cones.{Meets, Upto, Spans, negated}
use Rattle.cone_laws.specs.Canon.{vector_at, IsSystem}
use Rattle.cone_laws.proofs.Ring.{mul-zero}
use Rattle.cone_laws.proofs.Columns.{value, dot_is, dot_comm, dot-negated, length-scale}
use Rattle.cone_laws.proofs.UptoRows.{Asks}
use Rattle.cone_laws.proofs.Existence.{both, cell-both, length-both}
use Rattle.cone_laws.proofs.Bipolar.{dot-both}
use Rattle.nnc_enc.specs.Encoding.{raised, lowered, height_row, bound_row, Codes, IsEncodedDual}
use Rattle.nnc_enc.specs.StrongRows.{IsAdmittedVector}
use Rattle.nnc_enc.proofs.EncodedRows.{dot_by_height, insert_remove, remove_insert, length_insert, cell_insert, dot_zeros, dot_last, length_replicate}
use Rattle.nnc_enc.proofs.EncodedDuals.{height_at, bound_at, last_at}
use Rattle.nnc_enc.proofs.ClosedRows.{least_on, lowered_wide}
use Rattle.nnc_enc.proofs.InnerPoint.{inner_last, inner_line, inner_on, inner_strict}
use Rattle.nnc_enc.proofs.Relaxed.{cell-remove, last_row, skip, skip_before}
use Rattle.nnc_enc.proofs.RowHeights.{pivot_below}
use Rattle.nnc_enc.specs.Needs.{IsBesideLine, EqualitiesAreNeeded, ZeroRowsAreSpanned}

-- ---- unit vectors
abbrev unit : ℕ → ℕ → List ℤ
unit zero c = []
unit (suc n) zero = pos 1 ∷ replicate n (pos 0)
unit (suc n) (suc c) = pos 0 ∷ unit n c

pub length_unit : (n c : ℕ) → length (unit n c) ≡ n
length_unit zero c = refl
length_unit (suc n) zero = ap suc (length_replicate n)
length_unit (suc n) (suc c) = ap suc (length_unit n c)

one_of : (x s : ℤ) → s ≡ pos 0 → pos 1 *ℤ x +ℤ s ≡ x
one_of x s e = omega (arith, ints, e)

none_of : (x s : ℤ) → pos 0 *ℤ x +ℤ s ≡ s
none_of x s = omega (arith, ints)

pub dot_unit : (n c : ℕ) (a : List ℤ) → c < n → dot (unit n c) a ≡ cell a c
dot_unit zero c a h = absurd (omega (arith, h))
dot_unit (suc n) zero [] h = refl
dot_unit (suc n) zero (x ∷ a) h = one_of x (dot (replicate n (pos 0)) a) (dot_zeros n a)
dot_unit (suc n) (suc c) [] h = refl
dot_unit (suc n) (suc c) (x ∷ a) h = none_of x (dot (unit n c) a) ∙ dot_unit n c a (omega (arith, h))

zeros_cell : (n j : ℕ) → cell (replicate n (pos 0)) j ≡ pos 0
zeros_cell zero j = refl
zeros_cell (suc n) zero = refl
zeros_cell (suc n) (suc j) = zeros_cell n j

pub cell_unit : (n c j : ℕ) → c < j → cell (unit n c) j ≡ pos 0
cell_unit zero c j h = refl
cell_unit (suc n) zero zero h = absurd (omega (arith, h))
cell_unit (suc n) zero (suc j) h = zeros_cell n j
cell_unit (suc n) (suc c) zero h = absurd (omega (arith, h))
cell_unit (suc n) (suc c) (suc j) h = cell_unit n c j (omega (arith, h))

one_each : (z x y : ℤ) → z ≡ pos 1 *ℤ x +ℤ pos 1 *ℤ y → z ≡ x +ℤ y
one_each z x y e = omega (arith, ints, e)

-- what is 0 on all rows of the list is spanned by the lines
module _ (dim : ℕ) (gens : List Row) (lines rays : List (List ℤ)) (wide : (j : ℕ) → j < length gens → length (slice_index_or gens j ([], false)).0 ≡ dim + 2) (system : IsSystem (Upto (dim + 2) gens (length gens)) lines rays) (a : List ℤ) (aw : length a ≡ dim + 1) (gen_zero : (j : ℕ) → j < length gens → dot (slice_index_or gens j ([], false)).0 (raised dim a (pos 0)) ≡ pos 0) where
  -- zero values meet equalities and inequalities
  zero_asks : (eq : Bool) (x : ℤ) → x ≡ pos 0 → Asks eq x
  zero_asks true x e = e
  zero_asks false x e = omega (arith, ints, e)

  meets_both : (eq : Bool) (g : List ℤ) → dot g (raised dim a (pos 0)) ≡ pos 0 → Asks eq (dot g (raised dim a (pos 0))) × Asks eq (dot g (negated (raised dim a (pos 0))))
  meets_both eq g z = (zero_asks eq (dot g (raised dim a (pos 0))) z, zero_asks eq (dot g (negated (raised dim a (pos 0)))) (dot-negated g (raised dim a (pos 0)) ∙ ap neg_ℤ z))

  flat_wide : length (raised dim a (pos 0)) ≡ dim + 2
  flat_wide = omega (arith, length_insert dim a (pos 0) (omega (arith, aw)), aw)

  flat_in : Upto (dim + 2) gens (length gens) (raised dim a (pos 0))
  flat_in = record { wide = flat_wide; meets = λ j d low h. subst (λ (g : Row). Meets (raised dim a (pos 0)) g) (get_or_default gens j ([], false) d h) (meets_both (slice_index_or gens j ([], false)).1 (slice_index_or gens j ([], false)).0 (gen_zero j h)).0 }

  negated_in : Upto (dim + 2) gens (length gens) (negated (raised dim a (pos 0)))
  negated_in = record { wide = length-scale (neg_ℤ (pos 1)) (raised dim a (pos 0)) ∙ flat_wide; meets = λ j d low h. subst (λ (g : Row). Meets (negated (raised dim a (pos 0))) g) (get_or_default gens j ([], false) d h) (meets_both (slice_index_or gens j ([], false)).1 (slice_index_or gens j ([], false)).0 (gen_zero j h)).1 }

  lowered_combined : (ks : List ℤ) (vs : List (List ℤ)) (j : ℕ) → combined ks (map (lowered dim) vs) j ≡ combined ks vs (skip dim j)
  lowered_combined [] vs j = refl
  lowered_combined (k ∷ ks) [] j = refl
  lowered_combined (k ∷ ks) (v ∷ vs) j = ap (λ (z : ℤ). k *ℤ z +ℤ combined ks (map (lowered dim) vs) j) (cell-remove dim v j) ∙ ap (λ (z : ℤ). k *ℤ cell v (skip dim j) +ℤ z) (lowered_combined ks vs j)

  no_rays : (ks : List ℤ) (j : ℕ) → combined ks [] j ≡ pos 0
  no_rays [] j = refl
  no_rays (k ∷ ks) j = refl

  pub zero_spanned : Spans (map (lowered dim) lines) [] a
  zero_spanned =
      let s = system.lineality (raised dim a (pos 0)) flat_in negated_in in
      record {
        times = s.times;
        positive = s.positive;
        line_factors = s.line_factors;
        ray_factors = s.ray_factors;
        at_least_zero = s.at_least_zero;
        sum = λ j. ap (λ (z : ℤ). s.times *ℤ z) (sym (ap (λ (v : List ℤ). cell v j) (remove_insert dim a (pos 0) (omega (arith, aw)))) ∙ cell-remove dim (raised dim a (pos 0)) j) ∙ s.sum (skip dim j) ∙ ap (λ (z : ℤ). z +ℤ combined s.ray_factors [] (skip dim j)) (sym (lowered_combined s.line_factors lines j)) ∙ ap (λ (z : ℤ). combined s.line_factors (map (lowered dim) lines) j +ℤ z) (no_rays s.ray_factors (skip dim j) ∙ sym (no_rays s.ray_factors j));
      }

module _ (dim : ℕ) (gens : List Row) (lines rays : List (List ℤ)) (wide : (j : ℕ) → j < length gens → length (slice_index_or gens j ([], false)).0 ≡ dim + 2) (system : IsSystem (Upto (dim + 2) gens (length gens)) lines rays) (enc : IsEncodedDual dim (Upto (dim + 2) gens (length gens))) where
  abbrev D : List ℤ → Type 0
  D = Upto (dim + 2) gens (length gens)

  inner_value : (a : List ℤ) → value (lowered dim enc.vector) (cell a) ≡ dot a (lowered dim enc.vector)
  inner_value a = sym (dot_is (lowered dim enc.vector) a) ∙ dot_comm (lowered dim enc.vector) a

  inner_wide : length (lowered dim enc.vector) ≡ dim + 1
  inner_wide = lowered_wide dim gens lines rays wide system enc.vector enc.wide

  inner_divisor : pos 0 <ℤ cell (lowered dim enc.vector) dim
  inner_divisor = subst (λ (z : ℤ). pos 0 <ℤ z) (inner_value (last_row dim) ∙ dot_last dim (lowered dim enc.vector)) (inner_last dim gens lines rays wide system enc)

  module _ (i : ℕ) (hi : i < length lines) where
    abbrev moved : List ℤ
    moved = both (pos 1) (lowered dim enc.vector) (pos 1) (unit (dim + 1) (system.echelon.pivot i))

    pivot_before : system.echelon.pivot i < dim
    pivot_before = pivot_below dim gens lines rays wide system enc i hi

    moved_value : (a : List ℤ) → dot a (both (pos 1) (lowered dim enc.vector) (pos 1) (unit (dim + 1) (system.echelon.pivot i))) ≡ dot a (lowered dim enc.vector) +ℤ cell a (system.echelon.pivot i)
    moved_value a =
        one_each (dot a (both (pos 1) (lowered dim enc.vector) (pos 1) (unit (dim + 1) (system.echelon.pivot i)))) (dot a (lowered dim enc.vector)) (dot a (unit (dim + 1) (system.echelon.pivot i))) (dot-both a (pos 1) (lowered dim enc.vector) (pos 1) (unit (dim + 1) (system.echelon.pivot i)))
        ∙ ap (λ (z : ℤ). dot a (lowered dim enc.vector) +ℤ z) (dot_comm a (unit (dim + 1) (system.echelon.pivot i)) ∙ dot_unit (dim + 1) (system.echelon.pivot i) a (omega (arith, pivot_before)))

    at_pivot : (a : List ℤ) → cell (lowered dim a) (system.echelon.pivot i) ≡ cell a (system.echelon.pivot i)
    at_pivot a = cell-remove dim a (system.echelon.pivot i) ∙ ap (cell a) (skip_before dim (system.echelon.pivot i) pivot_before)

    same_there : (z x y : ℤ) → z ≡ x +ℤ y → y ≡ pos 0 → z ≡ x
    same_there z x y e f = omega (arith, ints, e, f)

    line_there : (m : ℕ) → m < length lines → dot (lowered dim (vector_at lines m)) (lowered dim enc.vector) ≡ pos 0
    line_there m h = sym (inner_value (lowered dim (vector_at lines m))) ∙ inner_line dim gens lines rays wide system enc m h

    ray_there : (m : ℕ) → m < length rays → dot (lowered dim (vector_at rays m)) (both (pos 1) (lowered dim enc.vector) (pos 1) (unit (dim + 1) (system.echelon.pivot i))) ≡ dot (lowered dim (vector_at rays m)) (lowered dim enc.vector)
    ray_there m h = same_there (dot (lowered dim (vector_at rays m)) (both (pos 1) (lowered dim enc.vector) (pos 1) (unit (dim + 1) (system.echelon.pivot i)))) (dot (lowered dim (vector_at rays m)) (lowered dim enc.vector)) (cell (lowered dim (vector_at rays m)) (system.echelon.pivot i)) (moved_value (lowered dim (vector_at rays m))) (at_pivot (vector_at rays m) ∙ system.echelon.rays_zero i m hi h)

    above_there : (z x y : ℤ) → z ≡ x +ℤ y → x ≡ pos 0 → pos 0 <ℤ y → z ≢ pos 0
    above_there z x y e f p q = omega (arith, ints, e, f, p, q)

    still_above : (z x y : ℤ) → z ≡ x +ℤ y → pos 0 <ℤ x → y ≡ pos 0 → pos 0 <ℤ z
    still_above z x y e p f = omega (arith, ints, e, p, f)

    pub beside_line : IsBesideLine dim lines rays i
    beside_line = record {
      vector = both (pos 1) (lowered dim enc.vector) (pos 1) (unit (dim + 1) (system.echelon.pivot i));
      point = record {
        wide = length-both (pos 1) (lowered dim enc.vector) (pos 1) (unit (dim + 1) (system.echelon.pivot i)) (inner_wide ∙ sym (length_unit (dim + 1) (system.echelon.pivot i))) ∙ length_unit (dim + 1) (system.echelon.pivot i);
        positive = still_above (cell (both (pos 1) (lowered dim enc.vector) (pos 1) (unit (dim + 1) (system.echelon.pivot i))) dim) (cell (lowered dim enc.vector) dim) (cell (unit (dim + 1) (system.echelon.pivot i)) dim)
            (one_each (cell (both (pos 1) (lowered dim enc.vector) (pos 1) (unit (dim + 1) (system.echelon.pivot i))) dim) (cell (lowered dim enc.vector) dim) (cell (unit (dim + 1) (system.echelon.pivot i)) dim) (cell-both (pos 1) (lowered dim enc.vector) (pos 1) (unit (dim + 1) (system.echelon.pivot i)) dim))
            inner_divisor (cell_unit (dim + 1) (system.echelon.pivot i) dim pivot_before);
      };
      on_lines = λ m h d. moved_value (lowered dim (vector_at lines m)) ∙ ap (λ (z : ℤ). z +ℤ cell (lowered dim (vector_at lines m)) (system.echelon.pivot i)) (line_there m h) ∙ ap (λ (z : ℤ). pos 0 +ℤ z) (at_pivot (vector_at lines m) ∙ system.echelon.lines_zero i m hi h (λ e. d (sym e)));
      on_rays = λ m h. record {
        least = subst (λ (z : ℤ). pos 0 ≤ℤ z) (inner_value (lowered dim (vector_at rays m)) ∙ sym (ray_there m h)) (inner_on dim gens lines rays wide system enc (suc m) h);
        strict = λ s. subst (λ (z : ℤ). pos 0 <ℤ z) (inner_value (lowered dim (vector_at rays m)) ∙ sym (ray_there m h)) (inner_strict dim gens lines rays wide system enc m h s);
      };
      beside = above_there (dot (lowered dim (vector_at lines i)) (both (pos 1) (lowered dim enc.vector) (pos 1) (unit (dim + 1) (system.echelon.pivot i)))) (dot (lowered dim (vector_at lines i)) (lowered dim enc.vector)) (cell (lowered dim (vector_at lines i)) (system.echelon.pivot i)) (moved_value (lowered dim (vector_at lines i))) (line_there i hi) (subst (λ (z : ℤ). pos 0 <ℤ z) (sym (at_pivot (vector_at lines i))) (system.echelon.pivots i hi).positive);
    }

  -- ---- a row that is 0 at all points
  module _ (a : List ℤ) (aw : length a ≡ dim + 1) (zero_at : (p : List ℤ) → IsPoint dim p → Codes dim (IsAdmittedVector (dim + 2) gens) p → dot a p ≡ pos 0) where
    scale_one : (v : List ℤ) → scale (pos 1) v ≡ v
    scale_one [] = refl
    scale_one (x ∷ v) = ap (λ (y : ℤ). y ∷ scale (pos 1) v) (one_time x) ∙ ap (λ (w : List ℤ). x ∷ w) (scale_one v)
      where
        one_time : (x : ℤ) → pos 1 *ℤ x ≡ x
        one_time x = omega (arith, ints)

    over_bound : (b d e : ℤ) → b ≡ d +ℤ neg_ℤ e → pos 0 ≤ℤ b → pos 0 <ℤ e → pos 0 <ℤ d
    over_bound b d e h p q = omega (arith, ints, h, p, q)

    -- what is admitted above 0 in column e stands over a point
    admitted_zero : (w : List ℤ) → IsAdmittedVector (dim + 2) gens w → pos 0 <ℤ cell w dim → dot a (lowered dim w) ≡ pos 0
    admitted_zero w u h =
        zero_at (lowered dim w)
        (record {
          wide = lowered_wide dim gens lines rays wide system w u.wide;
          positive = subst (λ (z : ℤ). pos 0 <ℤ z) (last_of w u.wide) (over_bound (dot w (bound_row dim).0) (cell w (dim + 1)) (cell w dim) (bound_at dim w u.wide) (subst (λ (z : ℤ). pos 0 ≤ℤ z) (dot_comm (bound_row dim).0 w) (u.admits (bound_row dim).0 enc.bound)) h);
        })
        (record {
          times = pos 1;
          positive = omega (arith, ints);
          height = cell w dim;
          above = h;
          member = subst (IsAdmittedVector (dim + 2) gens) (sym (ap (λ (v : List ℤ). raised dim v (cell w dim)) (scale_one (lowered dim w)) ∙ insert_remove dim w (omega (arith, u.wide)))) u;
        })
      where
        last_of : (v : List ℤ) → length v ≡ dim + 2 → cell v (dim + 1) ≡ cell (lowered dim v) dim
        last_of v e = last_at dim v e

    flat_at : (v : List ℤ) → length v ≡ dim + 2 → dot v (raised dim a (pos 0)) ≡ dot a (lowered dim v)
    flat_at v w =
        dot_by_height dim v (raised dim a (pos 0)) (omega (arith, w)) (omega (arith, length_insert dim a (pos 0) (omega (arith, aw)), aw))
        ∙ ap (λ (q : List ℤ). dot (lowered dim v) q +ℤ cell v dim *ℤ cell (raised dim a (pos 0)) dim) (remove_insert dim a (pos 0) (omega (arith, aw)))
        ∙ ap (λ (y : ℤ). dot (lowered dim v) a +ℤ cell v dim *ℤ y) (cell_insert dim a (pos 0) (omega (arith, aw)))
        ∙ drop_last (dot (lowered dim v) a) (cell v dim)
        ∙ dot_comm (lowered dim v) a
      where
        drop_last : (x c : ℤ) → x +ℤ c *ℤ pos 0 ≡ x
        drop_last x c = let h = mul-zero c in omega (arith, ints, h)

    vector_admitted : IsAdmittedVector (dim + 2) gens enc.vector
    vector_admitted = record { wide = enc.wide; admits = enc.least }

    abbrev gen : ℕ → List ℤ
    gen j = (slice_index_or gens j ([], false)).0

    with_vector : (j : ℕ) → j < length gens → IsAdmittedVector (dim + 2) gens (both (pos 1) (slice_index_or gens j ([], false)).0 (pos 1) enc.vector)
    with_vector j h = record {
      wide = length-both (pos 1) (slice_index_or gens j ([], false)).0 (pos 1) enc.vector (wide j h ∙ sym enc.wide) ∙ enc.wide;
      admits = λ r m. least_sum (dot r (both (pos 1) (slice_index_or gens j ([], false)).0 (pos 1) enc.vector)) (dot r (slice_index_or gens j ([], false)).0) (dot r enc.vector) (one_each (dot r (both (pos 1) (slice_index_or gens j ([], false)).0 (pos 1) enc.vector)) (dot r (slice_index_or gens j ([], false)).0) (dot r enc.vector) (dot-both r (pos 1) (slice_index_or gens j ([], false)).0 (pos 1) enc.vector)) (subst (λ (z : ℤ). pos 0 ≤ℤ z) (dot_comm (slice_index_or gens j ([], false)).0 r) (least_on dim gens lines rays wide system r m j h)) (enc.least r m);
    }
      where
        least_sum : (z x y : ℤ) → z ≡ x +ℤ y → pos 0 ≤ℤ x → pos 0 ≤ℤ y → pos 0 ≤ℤ z
        least_sum z x y e p q = omega (arith, ints, e, p, q)

    gen_zero : (j : ℕ) → j < length gens → dot (slice_index_or gens j ([], false)).0 (raised dim a (pos 0)) ≡ pos 0
    gen_zero j h =
        let g = (slice_index_or gens j ([], false)).0 in
        let u = with_vector j h in
        let up : pos 0 <ℤ cell (both (pos 1) (slice_index_or gens j ([], false)).0 (pos 1) enc.vector) dim = height_sum (cell (both (pos 1) (slice_index_or gens j ([], false)).0 (pos 1) enc.vector) dim) (cell (slice_index_or gens j ([], false)).0 dim) (cell enc.vector dim) (one_each (cell (both (pos 1) (slice_index_or gens j ([], false)).0 (pos 1) enc.vector) dim) (cell (slice_index_or gens j ([], false)).0 dim) (cell enc.vector dim) (cell-both (pos 1) (slice_index_or gens j ([], false)).0 (pos 1) enc.vector dim)) (subst (λ (z : ℤ). pos 0 ≤ℤ z) (height_at dim (slice_index_or gens j ([], false)).0 (wide j h)) (least_on dim gens lines rays wide system (height_row dim).0 enc.height j h)) enc.above in
        let whole = flat_at (both (pos 1) (slice_index_or gens j ([], false)).0 (pos 1) enc.vector) u.wide ∙ admitted_zero (both (pos 1) (slice_index_or gens j ([], false)).0 (pos 1) enc.vector) u up in
        let part = flat_at enc.vector enc.wide ∙ admitted_zero enc.vector vector_admitted enc.above in
        left_zero (dot (both (pos 1) (slice_index_or gens j ([], false)).0 (pos 1) enc.vector) (raised dim a (pos 0))) (dot (slice_index_or gens j ([], false)).0 (raised dim a (pos 0))) (dot enc.vector (raised dim a (pos 0)))
        (dot_comm (both (pos 1) (slice_index_or gens j ([], false)).0 (pos 1) enc.vector) (raised dim a (pos 0)) ∙ one_each (dot (raised dim a (pos 0)) (both (pos 1) (slice_index_or gens j ([], false)).0 (pos 1) enc.vector)) (dot (raised dim a (pos 0)) (slice_index_or gens j ([], false)).0) (dot (raised dim a (pos 0)) enc.vector) (dot-both (raised dim a (pos 0)) (pos 1) (slice_index_or gens j ([], false)).0 (pos 1) enc.vector)
        ∙ ap (λ (z : ℤ). z +ℤ dot (raised dim a (pos 0)) enc.vector) (dot_comm (raised dim a (pos 0)) (slice_index_or gens j ([], false)).0) ∙ ap (λ (z : ℤ). dot (slice_index_or gens j ([], false)).0 (raised dim a (pos 0)) +ℤ z) (dot_comm (raised dim a (pos 0)) enc.vector))
        whole part
      where
        height_sum : (z x y : ℤ) → z ≡ x +ℤ y → pos 0 ≤ℤ x → pos 0 <ℤ y → pos 0 <ℤ z
        height_sum z x y e p q = omega (arith, ints, e, p, q)

        left_zero : (z x y : ℤ) → z ≡ x +ℤ y → z ≡ pos 0 → y ≡ pos 0 → x ≡ pos 0
        left_zero z x y e p q = omega (arith, ints, e, p, q)

    pub zero_row_spanned : Spans (map (lowered dim) lines) [] a
    zero_row_spanned = zero_spanned dim gens lines rays wide system a aw gen_zero

pub equalities_are_needed : EqualitiesAreNeeded
equalities_are_needed dim gens lines rays i wide system enc h = beside_line dim gens lines rays wide system enc i h

pub zero_rows_are_spanned : ZeroRowsAreSpanned
zero_rows_are_spanned dim gens lines rays a wide system enc aw f = zero_row_spanned dim gens lines rays wide system enc a aw f
