-- Laws of what lists of lines and rays span.
use Rattle.std.proofs.Common.{◌≡◌, ◌⊎◌, inl, inr, ℕ, zero, suc, ◌<◌, ◌≤◌, List, [], ◌∷◌, length, slice_index_or, ◌≢◌, ℤ, pos, ◌+ℤ◌, ◌*ℤ◌, neg_ℤ, ◌≤ℤ◌, All, refl, sym, ap, ◌∙◌, subst, arith}
use Rattle.std.proofs.lemmas.Int.{ints}
use Rattle.std.proofs.lemmas.Bool.{cases_lt}
use Rattle.std.proofs.lemmas.List.{get_or_past, get_or_default}
use Rattle.row_core.specs.Vectors.{cell, dot, scale, add, combined}
use Rattle.row_core.specs.Lists.{Row, vector_at}
use Rattle.cone_laws.specs.Cones.{Upto, Spans, negated}
use Rattle.cone_laws.specs.Steps.{AreUnits}
use Rattle.cone_laws.specs.StepLaws.{GeneratesUpto}
use Rattle.row_core.proofs.Ring.{at_least_zero_of_mul, mul-zero}
use Rattle.cone_laws.proofs.Sums.{V, spans_add, spans_spans, spans_same, same_value, sums_at_least_zero}
use Rattle.cone_laws.proofs.Columns.{value, value_linear, dot_is, cell-add, cell-scale, length-scale}
use Rattle.cone_laws.proofs.Bridge.{columns, to_sums, to_lines, from_sums}

pub sum_is_spanned : (lines rays : List (List ℤ)) (u v : List ℤ) → Spans lines rays u → Spans lines rays v → Spans lines rays (add u v)
sum_is_spanned lines rays u v s t =
    from_sums lines rays (add u v)
    (spans_add (pos 1) (pos 1) (cell u) (cell v) (cell (add u v)) (omega (arith, ints)) (omega (arith, ints)) (to_sums lines rays u s) (to_sums lines rays v t)
    (λ j. omega (arith, ints, cell-add u v j)))

times_with_zero : (x k v : ℤ) → x ≡ k *ℤ v → x ≡ k *ℤ v +ℤ pos 0 *ℤ v
times_with_zero x k v e = omega (arith, ints)

pub multiple_is_spanned : (lines rays : List (List ℤ)) (k : ℤ) (v : List ℤ) → pos 0 ≤ℤ k → Spans lines rays v → Spans lines rays (scale k v)
multiple_is_spanned lines rays k v p s =
    from_sums lines rays (scale k v)
    (spans_add k (pos 0) (cell v) (cell v) (cell (scale k v)) p (omega (arith, ints)) (to_sums lines rays v s) (to_sums lines rays v s)
    (λ j. times_with_zero (cell (scale k v) j) k (cell v j) (cell-scale k v j)))

pub spans_of_spanned : (lines rays new_lines new_rays : List (List ℤ)) (v : List ℤ) → All (Spans new_lines []) lines → All (Spans new_lines new_rays) rays → Spans lines rays v → Spans new_lines new_rays v
spans_of_spanned lines rays new_lines new_rays v f g s =
    from_sums new_lines new_rays v
    (spans_spans
    (λ l m. spans_same (columns lines m.index) l (to_lines new_lines (vector_at lines m.index) (f m.index [] m.is)) m.same)
    (λ r m. spans_same (columns rays m.index) r (to_sums new_lines new_rays (vector_at rays m.index) (g m.index [] m.is)) m.same)
    (cell v) (to_sums lines rays v s))

pub at_least_zero_on_spanned : (a : List ℤ) (lines rays : List (List ℤ)) (v : List ℤ) → All (λ l. dot a l ≡ pos 0) lines → All (λ r. pos 0 ≤ℤ dot a r) rays → Spans lines rays v → pos 0 ≤ℤ dot a v
at_least_zero_on_spanned a lines rays v f g s =
    let t = to_sums lines rays v s in
    let w : V = λ j. t.times *ℤ cell v j in
    let h : pos 0 ≤ℤ value a w = sums_at_least_zero (value a) (value_linear a)
    (λ l m. same_value (value a) (value_linear a) l (columns lines m.index) m.same ∙ sym (dot_is a (vector_at lines m.index)) ∙ f m.index [] m.is)
    (λ r m. subst (λ (z : ℤ). pos 0 ≤ℤ z) (dot_is a (vector_at rays m.index) ∙ sym (same_value (value a) (value_linear a) r (columns rays m.index) m.same)) (g m.index [] m.is))
    w t.sums in
    let e : value a w ≡ t.times *ℤ value a (cell v) = (value_linear a).multiple w (cell v) t.times (λ j. refl) in
    subst (λ (z : ℤ). pos 0 ≤ℤ z) (sym (dot_is a v)) (at_least_zero_of_mul t.times (value a (cell v)) t.positive (subst (λ (z : ℤ). pos 0 ≤ℤ z) e h))

-- ---- the unit vectors
zero_term : (k g s : ℤ) → g ≡ pos 0 → s ≡ pos 0 → k *ℤ g +ℤ s ≡ pos 0
zero_term k g s e f = let h = ap (λ (z : ℤ). k *ℤ z) e ∙ mul-zero k in omega (arith, ints, h)

one_term : (k g s : ℤ) → g ≡ pos 1 → s ≡ pos 0 → k *ℤ g +ℤ s ≡ k
one_term k g s e f = let h = ap (λ (z : ℤ). k *ℤ z) e in omega (arith, ints, h)

later_term : (k g s t : ℤ) → g ≡ pos 0 → s ≡ t → k *ℤ g +ℤ s ≡ t
later_term k g s t e f = let h = ap (λ (z : ℤ). k *ℤ z) e ∙ mul-zero k in omega (arith, ints, h)

-- a column at which all vectors are 0, and one at which one is 1 and the others 0
combined_zero : (ks : List ℤ) (gs : List (List ℤ)) (j : ℕ) → ((i : ℕ) → i < length gs → cell (vector_at gs i) j ≡ pos 0) → combined ks gs j ≡ pos 0
combined_zero [] gs j h = refl
combined_zero (k ∷ ks) [] j h = refl
combined_zero (k ∷ ks) (g ∷ gs) j h = zero_term k (cell g j) (combined ks gs j) (h 0 (omega arith)) (combined_zero ks gs j (λ i l. h (suc i) (omega arith)))

combined_one : (ks : List ℤ) (gs : List (List ℤ)) (t j : ℕ) → t < length gs → cell (vector_at gs t) j ≡ pos 1 → ((i : ℕ) → i < length gs → i ≢ t → cell (vector_at gs i) j ≡ pos 0) → combined ks gs j ≡ cell ks t
combined_one [] gs t j b e h = refl
combined_one (k ∷ ks) [] t j b e h = absurd (omega arith)
combined_one (k ∷ ks) (g ∷ gs) zero j b e h =
    one_term k (cell g j) (combined ks gs j) e (combined_zero ks gs j (λ i l. h (suc i) (omega arith) (omega arith)))
combined_one (k ∷ ks) (g ∷ gs) (suc t) j b e h =
    later_term k (cell g j) (combined ks gs j) (cell ks t) (h 0 (omega arith) (omega arith))
    (combined_one ks gs t j (omega arith) e (λ i l n. h (suc i) (omega arith) (omega arith)))

combined_units : (width : ℕ) (lines : List (List ℤ)) (v : List ℤ) → AreUnits width lines → length v ≡ width → (j : ℕ) → combined v lines j ≡ cell v j
combined_units width lines v u w j = by_column (cases_lt j width)
  where
    by_column : (j < width) ⊎ (width ≤ j) → combined v lines j ≡ cell v j
    by_column (inl h) = combined_one v lines j j (omega (arith, u.as_many)) (u.one j h) (λ i l n. u.zeros i j (omega (arith, u.as_many)) n)
    by_column (inr h) = combined_zero v lines j (λ i l. u.zeros i j (omega (arith, u.as_many)) (omega (arith, u.as_many))) ∙ sym (get_or_past v j (pos 0) (omega arith))

once : (x y : ℤ) → y ≡ x → pos 1 *ℤ x ≡ y +ℤ pos 0
once x y e = omega (arith, ints)

pub units_span : (width : ℕ) (lines : List (List ℤ)) (v : List ℤ) → AreUnits width lines → length v ≡ width → Spans lines [] v
units_span width lines v u w = record {
  times = pos 1;
  positive = omega (arith, ints);
  line_factors = v;
  ray_factors = [];
  at_least_zero = λ i d h. absurd (omega arith);
  sum = λ j. once (cell v j) (combined v lines j) (combined_units width lines v u w j);
}

no_row : (width : ℕ) (rows : List Row) (v : List ℤ) → length v ≡ width → Upto width rows 0 v
no_row width rows v w = record { wide = w; meets = λ m d low high. absurd (omega arith) }

pub units_generate : (width : ℕ) (rows : List Row) (lines : List (List ℤ)) → AreUnits width lines → GeneratesUpto width rows 0 lines []
units_generate width rows lines u = record {
  generates = record {
    lines_within = λ i d h.
        let w : length (slice_index_or lines i d) ≡ width = subst (λ (l : List ℤ). length l ≡ width) (get_or_default lines i [] d h) (u.wide i (omega (arith, u.as_many))) in
        (no_row width rows (slice_index_or lines i d) w, no_row width rows (negated (slice_index_or lines i d)) (length-scale (neg_ℤ (pos 1)) (slice_index_or lines i d) ∙ w));
    rays_within = λ i d h. absurd (omega arith);
    spans = λ v c. units_span width lines v u c.wide;
  };
  lineality = λ v c n. units_span width lines v u c.wide;
}
