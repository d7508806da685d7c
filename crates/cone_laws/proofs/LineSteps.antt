-- A step with a row that isn't 0 on some line, over lists: the lowered lines and rays generate the cone of one row more.
use Rattle.std.proofs.Common.{◌≡◌, ◌≢◌, ◌⊎◌, inl, inr, length-append, append-nil, ℕ, zero, suc, ◌+◌, ◌-◌, ◌<◌, ◌≤◌, List, [], ◌∷◌, ◌++◌, length, slice_index_or, Bool, true, false, if◌then◌else◌, ℤ, pos, negsuc, ◌+ℤ◌, ◌-ℤ◌, ◌*ℤ◌, neg_ℤ, ◌≤ℤ◌, ◌<ℤ◌, unsigned_abs, All, remove, refl, sym, ap, ◌∙◌, subst, arith}
use Rattle.std.proofs.lemmas.Int.{ints}
use Rattle.std.proofs.lemmas.List.{get_or_append_left, get_or_push}
use Rattle.std.proofs.lemmas.Bool.{cases_lt}
use Rattle.std.proofs.lemmas.List.Edits.{length-remove, get_or-remove_below, get_or-remove_above}
use Rattle.std.proofs.lemmas.List.Elements.{All-push}
use Rattle.row_core.specs.Vectors.{cell, dot}
use Rattle.row_core.specs.Lists.{Row, Pointwise, vector_at}
use Rattle.cone_laws.specs.Cones.{Upto, Generates, HasLineality, negated}
use Rattle.cone_laws.specs.Steps.{IsRowAt, IsLoweredBy, upward}
use Rattle.row_core.specs.Signs.{sign}
use Rattle.row_core.proofs.Ring.{ring, magnitude_positive, mul_assoc, mul_comm, zero_of_mul}
use Rattle.cone_laws.proofs.Sums.{V, Same, Nothing, SpansBy, sums_one_line, sums_one_ray, spans_sums, spans_spans, same_value}
use Rattle.cone_laws.proofs.Columns.{value, value_linear, dot_is, dot-scale, dot-negated, cell-scale, cell-negated, length-scale}
use Rattle.cone_laws.proofs.Bridge.{In, in_at, columns, to_sums, to_lines, from_sums, from_lines}
use Rattle.cone_laws.proofs.Lowering.{Lowered, LoweredOrLine, IsTimes, lowered, lowered_spans_zero, lowered_spans_above}
use Rattle.cone_laws.proofs.UptoRows.{Asks, zero_asks, asks_both, IsSumOf, dot_sum, IsZeroOn, upto_beside, upto_zero, both_zero, scale_zero, upto_less, upto_row, upto_more}

-- ---- signs
pub sign-mul : (x : ℤ) → sign x *ℤ x ≡ pos (unsigned_abs x)
sign-mul (pos zero) = refl
sign-mul (pos (suc n)) = omega (arith, ints)
sign-mul (negsuc n) = omega (arith, ints)

pub sign_square : (x : ℤ) → x ≢ pos 0 → sign x *ℤ sign x ≡ pos 1
sign_square (pos zero) h = absurd (h refl)
sign_square (pos (suc n)) h = refl
sign_square (negsuc n) h = refl

-- ---- numbers of a lowered vector
as_sum : (x p u q v : ℤ) → x ≡ p *ℤ u -ℤ q *ℤ v → x ≡ p *ℤ u +ℤ neg_ℤ q *ℤ v
as_sum x p u q v e = e ∙ simp ring

negative_sum : (t x y p u v w q z : ℤ) → t *ℤ x ≡ p *ℤ u -ℤ q *ℤ z → y ≡ neg_ℤ x → v ≡ neg_ℤ u → t *ℤ y ≡ p *ℤ v +ℤ q *ℤ z
negative_sum t x y p u v w q z e f g =
    let h = ap (λ (n : ℤ). t *ℤ n) f in
    let i = ap (λ (n : ℤ). p *ℤ n) g in
    let k : t *ℤ neg_ℤ x ≡ neg_ℤ (t *ℤ x) = simp ring in
    let l : p *ℤ neg_ℤ u ≡ neg_ℤ (p *ℤ u) = simp ring in
    omega (arith, ints, e, h, i, k, l)

-- the row's value x on the line and y on the vector
lowered_value : (t r x y m : ℤ) → t *ℤ r ≡ m *ℤ y +ℤ neg_ℤ (sign x *ℤ y) *ℤ x → sign x *ℤ x ≡ m → t *ℤ r ≡ pos 0
lowered_value t r x y m e f =
    let g : neg_ℤ (sign x *ℤ y) *ℤ x ≡ neg_ℤ (y *ℤ (sign x *ℤ x)) = simp ring in
    let h = ap (λ (n : ℤ). y *ℤ n) f in
    let i : y *ℤ m ≡ m *ℤ y = mul_comm y m in
    omega (arith, ints, e, g, h, i)

lowered_column : (x r w of m ae s aw av v e l t : ℤ) → t *ℤ r ≡ m *ℤ w -ℤ (s *ℤ aw) *ℤ l → of ≡ w → ae ≡ m → av ≡ aw → e ≡ s *ℤ l → x ≡ ae *ℤ of -ℤ av *ℤ e → x ≡ t *ℤ r
lowered_column x r w of m ae s aw av v e l t f g h i k n =
    let o = ap (λ (z : ℤ). ae *ℤ z) g ∙ ap (λ (z : ℤ). z *ℤ w) h in
    let p = ap (λ (z : ℤ). av *ℤ z) k ∙ ap (λ (z : ℤ). z *ℤ (s *ℤ l)) i in
    let q : aw *ℤ (s *ℤ l) ≡ (s *ℤ aw) *ℤ l = simp ring in
    omega (arith, ints, f, n, o, p, q)

-- the vector is lowered by the line, and keeps its width
pub record LowersTo (a l w r : List ℤ) : Type 0 where
  pub lowered : IsLoweredBy a l w r
  pub wide : length r ≡ length w

abbrev as_sum_of : (a l w r : List ℤ) (b : IsLoweredBy a l w r) → IsSumOf r (pos (unsigned_abs (dot a l))) w (neg_ℤ (sign (dot a l) *ℤ dot a w)) l
as_sum_of a l w r b = record {
  times = b.times;
  positive = b.positive;
  same = λ j. as_sum (b.times *ℤ cell r j) (pos (unsigned_abs (dot a l))) (cell w j) (sign (dot a l) *ℤ dot a w) (cell l j) (b.same j);
}

abbrev as_negative_sum : (a l w r : List ℤ) (b : IsLoweredBy a l w r) → IsSumOf (negated r) (pos (unsigned_abs (dot a l))) (negated w) (sign (dot a l) *ℤ dot a w) l
as_negative_sum a l w r b = record {
  times = b.times;
  positive = b.positive;
  same = λ j. negative_sum b.times (cell r j) (cell (negated r) j) (pos (unsigned_abs (dot a l))) (cell w j) (cell (negated w) j) (pos 0) (sign (dot a l) *ℤ dot a w) (cell l j) (b.same j) (cell-negated r j) (cell-negated w j);
}

pub lowered_dot : (a l w r : List ℤ) → IsLoweredBy a l w r → dot a r ≡ pos 0
lowered_dot a l w r b =
    zero_of_mul b.times (dot a r) b.positive
    (lowered_value b.times (dot a r) (dot a l) (dot a w) (pos (unsigned_abs (dot a l))) (dot_sum a r (pos (unsigned_abs (dot a l))) w (neg_ℤ (sign (dot a l) *ℤ dot a w)) l (as_sum_of a l w r b)) (sign-mul (dot a l)))

pub not_negative : (n : ℕ) → pos 0 ≤ℤ pos n
not_negative n = omega (arith, ints)

pub lowered_within : (width : ℕ) (rows : List Row) (k : ℕ) (a : List ℤ) (eq : Bool) → IsRowAt rows k (a, eq) → (l w r : List ℤ) → LowersTo a l w r → IsZeroOn rows k l → Upto width rows k w → Upto width rows (k + 1) r
lowered_within width rows k a eq at l w r b z u =
    upto_more width rows k (a, eq) r at
    (upto_beside width rows k r (pos (unsigned_abs (dot a l))) w (neg_ℤ (sign (dot a l) *ℤ dot a w)) l (as_sum_of a l w r b.lowered) (b.wide ∙ u.wide) (not_negative (unsigned_abs (dot a l))) u z)
    (zero_asks eq (dot a r) (lowered_dot a l w r b.lowered))

pub negated_lowered_within : (width : ℕ) (rows : List Row) (k : ℕ) (a : List ℤ) (eq : Bool) → IsRowAt rows k (a, eq) → (l w r : List ℤ) → LowersTo a l w r → IsZeroOn rows k l → Upto width rows k w → Upto width rows k (negated w) → Upto width rows (k + 1) (negated r)
negated_lowered_within width rows k a eq at l w r b z u n =
    upto_more width rows k (a, eq) (negated r) at
    (upto_beside width rows k (negated r) (pos (unsigned_abs (dot a l))) (negated w) (sign (dot a l) *ℤ dot a w) l (as_negative_sum a l w r b.lowered) (length-scale (neg_ℤ (pos 1)) r ∙ b.wide ∙ u.wide) (not_negative (unsigned_abs (dot a l))) n z)
    (zero_asks eq (dot a (negated r)) (dot-negated a r ∙ ap neg_ℤ (lowered_dot a l w r b.lowered)))

-- ---- a list without one element
-- the vector at index i of the rest stands in the list too
pub record InWhole (vectors : List (List ℤ)) (index i : ℕ) : Type 0 where
  pub place : ℕ
  pub below : place < length vectors
  pub same : vector_at (remove vectors index) i ≡ vector_at vectors place

pub rest_in_whole : (vectors : List (List ℤ)) (index i : ℕ) → index < length vectors → i < length (remove vectors index) → InWhole vectors index i
rest_in_whole vectors index i b h = by_order (cases_lt i index)
  where
    by_order : (i < index) ⊎ (index ≤ i) → InWhole vectors index i
    by_order (inl l) = record { place = i; below = omega (arith, length-remove vectors index b); same = get_or-remove_below vectors index [] i l b }
    by_order (inr l) = record { place = i + 1; below = omega (arith, length-remove vectors index b); same = get_or-remove_above vectors index [] i l b }

-- each element but one stands in the rest
pub record InRest (vectors : List (List ℤ)) (index i : ℕ) : Type 0 where
  pub place : ℕ
  pub below : place < length (remove vectors index)
  pub same : vector_at vectors i ≡ vector_at (remove vectors index) place

pub whole_in_rest : (vectors : List (List ℤ)) (index i : ℕ) → index < length vectors → i < length vectors → InRest vectors index i ⊎ (i ≡ index)
whole_in_rest vectors index i b h = by_order (cases_lt i index) (cases_lt index i)
  where
    after : (i k : ℕ) → index < i → i ≡ k + 1 → index ≤ k → vector_at vectors i ≡ vector_at (remove vectors index) k
    after i k l e m = ap (vector_at vectors) e ∙ sym (get_or-remove_above vectors index [] k m b)

    by_order : (i < index) ⊎ (index ≤ i) → (index < i) ⊎ (i ≤ index) → InRest vectors index i ⊎ (i ≡ index)
    by_order (inl l) m = inl (record { place = i; below = omega (arith, length-remove vectors index b); same = sym (get_or-remove_below vectors index [] i l b) })
    by_order (inr l) (inl m) = inl (record { place = i - 1; below = omega (arith, length-remove vectors index b); same = after i (i - 1) m (omega arith) (omega arith) })
    by_order (inr l) (inr m) = inr (omega arith)

-- the vector that lowers, with its sign, is a multiple of it and the row is positive on it
upward_column : (x s l : ℤ) → s *ℤ s ≡ pos 1 → x ≡ s *ℤ l → l ≡ s *ℤ x
upward_column x s l e f =
    let g = ap (λ (z : ℤ). s *ℤ z) f in
    let h : s *ℤ (s *ℤ l) ≡ (s *ℤ s) *ℤ l = sym (mul_assoc s s l) in
    let i = ap (λ (z : ℤ). z *ℤ l) e in
    omega (arith, ints, g, h, i)

pub upward_dot : (a l : List ℤ) → dot a (upward a l) ≡ pos (unsigned_abs (dot a l))
upward_dot a l = dot-scale a (sign (dot a l)) l ∙ sign-mul (dot a l)

-- ---- the step
module _ (width : ℕ) (rows : List Row) (k : ℕ) (a : List ℤ) (lines rays : List (List ℤ)) (gen : Generates (Upto width rows k) lines rays) (alone : HasLineality (Upto width rows k) lines) (index : ℕ) (below : index < length lines) (crosses : dot a (vector_at lines index) ≢ pos 0) (new_lines kept : List (List ℤ)) (to_lines_lowered : Pointwise (LowersTo a (vector_at lines index)) (remove lines index) new_lines) (to_rays_lowered : Pointwise (LowersTo a (vector_at lines index)) rays kept) where
  abbrev the_line : List ℤ
  the_line = vector_at lines index

  abbrev the_ray : List ℤ
  the_ray = upward a (vector_at lines index)

  line_in : (i : ℕ) → i < length lines → Upto width rows k (vector_at lines i) × Upto width rows k (negated (vector_at lines i))
  line_in i h = gen.lines_within i [] h

  line_zero : (i : ℕ) → i < length lines → IsZeroOn rows k (vector_at lines i)
  line_zero i h = both_zero width rows k (vector_at lines i) (line_in i h).0 (line_in i h).1

  -- in the new cone
  rest_in : (i : ℕ) → i < length (remove lines index) → Upto width rows k (vector_at (remove lines index) i) × Upto width rows k (negated (vector_at (remove lines index) i))
  rest_in i h =
      let w = rest_in_whole lines index i below h in
      subst (λ (v : List ℤ). Upto width rows k v × Upto width rows k (negated v)) (sym w.same) (line_in w.place w.below)

  new_lines_within : (eq : Bool) → IsRowAt rows k (a, eq) → All (λ l. Upto width rows (k + 1) l × Upto width rows (k + 1) (negated l)) new_lines
  new_lines_within eq row m d h =
      let i : m < length (remove lines index) = omega (arith, to_lines_lowered.as_many) in (
        lowered_within width rows k a eq row the_line (vector_at (remove lines index) m) (slice_index_or new_lines m d) (to_lines_lowered.each m [] d i) (line_zero index below) (rest_in m i).0,
        negated_lowered_within width rows k a eq row the_line (vector_at (remove lines index) m) (slice_index_or new_lines m d) (to_lines_lowered.each m [] d i) (line_zero index below) (rest_in m i).0 (rest_in m i).1,
      )

  kept_within : (eq : Bool) → IsRowAt rows k (a, eq) → All (Upto width rows (k + 1)) kept
  kept_within eq row m d h =
      let i : m < length rays = omega (arith, to_rays_lowered.as_many) in
      lowered_within width rows k a eq row the_line (vector_at rays m) (slice_index_or kept m d) (to_rays_lowered.each m [] d i) (line_zero index below) (gen.rays_within m [] i)

  upward_within : IsRowAt rows k (a, false) → Upto width rows (k + 1) the_ray
  upward_within row =
      upto_more width rows k (a, false) the_ray row
      (upto_zero width rows k the_ray (length-scale (sign (dot a the_line)) the_line ∙ (line_in index below).0.wide) (scale_zero rows k (sign (dot a the_line)) the_line (line_zero index below)))
      (subst (λ (z : ℤ). pos 0 ≤ℤ z) (sym (upward_dot a the_line)) (not_negative (unsigned_abs (dot a the_line))))

  -- as columns
  abbrev map : V → ℤ
  map = value a

  abbrev e : V
  e = cell (upward a (vector_at lines index))

  map_e : map e ≡ pos (unsigned_abs (dot a the_line))
  map_e = sym (dot_is a the_ray) ∙ upward_dot a the_line

  map_positive : pos 0 <ℤ map e
  map_positive = subst (λ (z : ℤ). pos 0 <ℤ z) (sym map_e) (magnitude_positive (dot a the_line) crosses)

  line_cases : (l : V) → In lines l → In (remove lines index) l ⊎ IsTimes e l
  line_cases l m = by_place (whole_in_rest lines index m.index below m.is)
    where
      by_place : InRest lines index m.index ⊎ (m.index ≡ index) → In (remove lines index) l ⊎ IsTimes e l
      by_place (inl r) = inl (record { index = r.place; is = r.below; same = λ j. m.same j ∙ ap (λ (v : List ℤ). cell v j) r.same })
      by_place (inr s) = inr (record {
        times = sign (dot a the_line);
        same = λ j. m.same j ∙ ap (λ (i : ℕ). cell (vector_at lines i) j) s ∙ upward_column (e j) (sign (dot a the_line)) (cell the_line j) (sign_square (dot a the_line) crosses) (cell-scale (sign (dot a the_line)) the_line j);
      })

  -- a lowered vector is a multiple of the new one
  is_multiple : (w r : List ℤ) (b : IsLoweredBy a the_line w r) (of x : V) → Same of (cell w) → Same x (lowered map e of) → (j : ℕ) → x j ≡ b.times *ℤ cell r j
  is_multiple w r b of x s t j =
      lowered_column (x j) (cell r j) (cell w j) (of j) (pos (unsigned_abs (dot a the_line))) (map e) (sign (dot a the_line)) (dot a w) (map of) (cell w j) (e j) (cell the_line j) b.times
      (b.same j) (s j) map_e (same_value map (value_linear a) of (cell w) s ∙ sym (dot_is a w)) (cell-scale (sign (dot a the_line)) the_line j) (t j)

  line_spanned : (x : V) → Lowered (In (remove lines index)) map e x → SpansBy (In new_lines) Nothing x
  line_spanned x m =
      let i : m.is.index < length new_lines = omega (arith, to_lines_lowered.as_many, m.is.is) in
      let b = to_lines_lowered.each m.is.index [] [] m.is.is in
      spans_sums x (sums_one_line b.lowered.times (columns new_lines m.is.index) x (in_at new_lines m.is.index i)
      (is_multiple (vector_at (remove lines index) m.is.index) (vector_at new_lines m.is.index) b.lowered m.of x m.is.same m.same))

  ray_spanned : (new_rays : List (List ℤ)) (f : (i : ℕ) → i < length kept → In new_rays (columns kept i)) (x : V) → Lowered (In rays) map e x → SpansBy (In new_lines) (In new_rays) x
  ray_spanned new_rays f x m =
      let i : m.is.index < length kept = omega (arith, to_rays_lowered.as_many, m.is.is) in
      let b = to_rays_lowered.each m.is.index [] [] m.is.is in
      spans_sums x (sums_one_ray b.lowered.times (columns kept m.is.index) x (omega (arith, ints, b.lowered.positive)) (f m.is.index i)
      (is_multiple (vector_at rays m.is.index) (vector_at kept m.is.index) b.lowered m.of x m.is.same m.same))

  old_spans : (v : List ℤ) → Upto width rows k v → SpansBy (In lines) (In rays) (cell v)
  old_spans v u = to_sums lines rays v (gen.spans v u)

  kept_alone : (i : ℕ) → i < length kept → In kept (columns kept i)
  kept_alone i h = in_at kept i h

  pub equality_generates : IsRowAt rows k (a, true) → Generates (Upto width rows (k + 1)) new_lines kept
  equality_generates row = record {
    lines_within = new_lines_within true row;
    rays_within = kept_within true row;
    spans = λ v u.
        from_sums new_lines kept v
        (spans_spans line_spanned (ray_spanned kept kept_alone) (cell v)
        (lowered_spans_zero (In lines) (In rays) (In (remove lines index)) map (value_linear a) e line_cases (cell v) map_positive (old_spans v (upto_less width rows k v u))
        (sym (dot_is a v) ∙ upto_row width rows k (a, true) v row u)));
  }

  abbrev with_upward : List (List ℤ)
  with_upward = kept ++ (the_ray ∷ [])

  kept_first : (i : ℕ) → i < length kept → In with_upward (columns kept i)
  kept_first i h = record {
    index = i;
    is = omega (arith, length-append kept (the_ray ∷ []));
    same = λ j. ap (λ (v : List ℤ). cell v j) (sym (get_or_append_left kept (the_ray ∷ []) [] i h));
  }

  upward_last : (x : V) → Same x e → In with_upward x
  upward_last x f = record {
    index = length kept;
    is = omega (arith, length-append kept (the_ray ∷ []));
    same = λ j. f j ∙ ap (λ (v : List ℤ). cell v j) (sym (get_or_push kept the_ray [] (length kept) refl));
  }

  ray_or_upward : (x : V) → LoweredOrLine (In rays) map e x → SpansBy (In new_lines) (In with_upward) x
  ray_or_upward x (inl m) = ray_spanned with_upward kept_first x m
  ray_or_upward x (inr f) = spans_sums x (sums_one_ray (pos 1) x x (omega (arith, ints)) (upward_last x f) (λ j. omega (arith, ints)))

  pub inequality_generates : IsRowAt rows k (a, false) → Generates (Upto width rows (k + 1)) new_lines with_upward
  inequality_generates row = record {
    lines_within = new_lines_within false row;
    rays_within = All-push (Upto width rows (k + 1)) kept the_ray (kept_within false row) (upward_within row);
    spans = λ v u.
        from_sums new_lines with_upward v
        (spans_spans line_spanned ray_or_upward (cell v)
        (lowered_spans_above (In lines) (In rays) (In (remove lines index)) map (value_linear a) e line_cases (cell v) map_positive (old_spans v (upto_less width rows k v u))
        (subst (λ (z : ℤ). pos 0 ≤ℤ z) (dot_is a v) (upto_row width rows k (a, false) v row u))));
  }

  -- equality or not
  pub generates_more : (eq : Bool) → IsRowAt rows k (a, eq) → Generates (Upto width rows (k + 1)) new_lines (kept ++ (if eq then [] else (the_ray ∷ [])))
  generates_more true row = subst (λ (r : List (List ℤ)). Generates (Upto width rows (k + 1)) new_lines r) (sym (append-nil kept)) (equality_generates row)
  generates_more false row = inequality_generates row

  pub lineality_more : (eq : Bool) → IsRowAt rows k (a, eq) → HasLineality (Upto width rows (k + 1)) new_lines
  lineality_more eq row v u n =
      let z : dot a v ≡ pos 0 = asks_both eq (dot a v) (upto_row width rows k (a, eq) v row u) (subst (λ (x : ℤ). Asks eq x) (dot-negated a v) (upto_row width rows k (a, eq) (negated v) row n)) in
      from_lines new_lines v
      (spans_spans line_spanned (λ r m. elim m.is [ ]) (cell v)
      (lowered_spans_zero (In lines) Nothing (In (remove lines index)) map (value_linear a) e line_cases (cell v) map_positive
      (to_lines lines v (alone v (upto_less width rows k v u) (upto_less width rows k (negated v) n)))
      (sym (dot_is a v) ∙ z)))
