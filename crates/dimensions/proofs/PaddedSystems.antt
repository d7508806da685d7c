-- The system of a cone with more variables, which are 0 or free.
use Rattle.std.proofs.Common.{◌≡◌, ◌≢◌, ◌⊎◌, inl, inr, ℕ, zero, suc, ◌+◌, ◌-◌, ◌<◌, ◌≤◌, List, [], ◌++◌, length, ℤ, pos, neg_ℤ, ◌+ℤ◌, ◌*ℤ◌, ◌<ℤ◌, refl, sym, ap, ◌∙◌, subst, arith}
use Rattle.std.proofs.lemmas.Int.{ints}
use Rattle.std.proofs.lemmas.Bool.{cases_lt, cases_eq}
use Rattle.std.proofs.lemmas.List.{length-append, get_or_append_left, get_or-append_right}
use Rattle.std.proofs.lemmas.List.Elements.{All-nil, All-from_get_or}
use Rattle.std.proofs.lemmas.List.FromFn.{length-map-range_with_len, get_or-map-range_with_len}
use Rattle.row_core.specs.Vectors.{cell, dot}
use Rattle.row_core.specs.Content.{IsPrimitive, IsPrimitiveOf}
use Rattle.row_core.proofs.Ring.{mul-zero, positive_of_mul, zero_of_mul}
use Rattle.cone_laws.specs.Cones.{negated}
use Rattle.cone_laws.specs.Canon.{vector_at, IsPivot, IsEchelon}
use Rattle.cone_laws.proofs.Columns.{cell-scale, length-scale, dot_comm, dot-multiple}
use Rattle.cone_laws.proofs.Factors.{single, cell-single_same, cell-single_other}
use Rattle.cone_laws.proofs.Sums.{V, Nothing, Sums, none, line, spans_sums}
use Rattle.cone_laws.proofs.Bridge.{columns, In, in_at}
use Rattle.stored_systems.specs.Axes.{axis}
use Rattle.stored_systems.proofs.UniverseLemmas.{axis_one, axis_other, length-axis, axis_primitive}
use Rattle.mapped_systems.specs.Maps.{with_zeros, without}
use Rattle.mapped_systems.specs.CarriedSystems.{AreCarried}
use Rattle.dimensions.specs.AddedVariables.{new_axes}
use Rattle.mapped_systems.proofs.ColumnLemmas.{cell-before, cell-within, cell-behind, without-with_zeros, restored, length-without, without-scale, cell-without_before, cell-without_behind}
use Rattle.mapped_systems.proofs.LinearMaps.{padding_linear, cutting_linear, behind_value, one_is, dot-single}
use Rattle.mapped_systems.proofs.InverseMaps.{linear_on}
use Rattle.mapped_systems.proofs.CarriedSystems.{IsUndone, IsRestored, IsSpread, IsExtension, nothing_spanned, carried_cell, times_positive}

-- ---- numbers
once_with_none : (x y : ℤ) → y ≡ x → pos 1 *ℤ x ≡ pos 1 *ℤ y +ℤ pos 0
once_with_none x y e = omega (arith, ints, e)

once_with_rest : (x y : ℤ) → pos 1 *ℤ x ≡ pos 1 *ℤ y +ℤ (x +ℤ neg_ℤ y)
once_with_rest x y = omega (arith, ints)

no_rest : (x y : ℤ) → y ≡ x → x +ℤ neg_ℤ y ≡ pos 0
no_rest x y e = omega (arith, ints, e)

part_out : (x p : ℤ) → x ≡ p +ℤ (x +ℤ neg_ℤ p)
part_out x p = omega (arith, ints)

own_gone : (x a : ℤ) → a ≡ pos 1 → x +ℤ neg_ℤ (x *ℤ a) ≡ pos 0
own_gone x a e = let f = ap (λ (z : ℤ). x *ℤ z) e in omega (arith, ints, f)

other_gone : (x y a : ℤ) → x ≡ pos 0 → a ≡ pos 0 → x +ℤ neg_ℤ (y *ℤ a) ≡ pos 0
other_gone x y a e f = let g = ap (λ (z : ℤ). y *ℤ z) f in omega (arith, ints, e, g)

still_none : (x y : ℤ) → x ≡ neg_ℤ (pos 1) *ℤ y → y ≡ pos 0 → x ≡ pos 0
still_none x y e f = omega (arith, ints, e, f)

-- ---- an axis
pub axis_value : (n i : ℕ) (v : List ℤ) → i < n → dot (axis n i) v ≡ cell v i
axis_value n i v h =
    dot_comm (axis n i) v ∙ dot-multiple v (axis n i) (single i (pos 1)) (pos 1) (λ j. at j (cases_eq j i))
    ∙ ap (λ (z : ℤ). pos 1 *ℤ z) (dot_comm v (single i (pos 1)) ∙ dot-single i (pos 1) v ∙ sym (one_is (cell v i)))
    ∙ sym (one_is (cell v i))
  where
    at : (j : ℕ) → (j ≡ i) ⊎ (j ≢ i) → cell (axis n i) j ≡ pos 1 *ℤ cell (single i (pos 1)) j
    at j (inl e) =
        subst (λ (m : ℕ). cell (axis n i) m ≡ pos 1 *ℤ cell (single i (pos 1)) m) (sym e)
        (axis_one n i h ∙ sym (cell-single_same i (pos 1)) ∙ one_is (cell (single i (pos 1)) i))
    at j (inr ne) = axis_other n i j h (λ e. ne (sym e)) ∙ sym (cell-single_other i j (pos 1) ne) ∙ one_is (cell (single i (pos 1)) j)

axis_pivot : (n i : ℕ) → i < n → IsPivot (axis n i) i
axis_pivot n i h = record {
  positive = subst (λ (z : ℤ). pos 0 <ℤ z) (sym (axis_one n i h)) (omega (arith, ints));
  before = λ j l. axis_other n i j h (λ e. omega (arith, e, l));
}

module _ (n k : ℕ) where
  -- ---- the two maps
  pub padding : IsUndone (n + 1) ((n + k) + 1) (with_zeros n k) (without n (n + k))
  padding = record {
    first_linear = linear_on n (n + k) (with_zeros n k) (padding_linear n k);
    second_linear = linear_on (n + k) n (without n (n + k)) (cutting_linear n k);
    undoes = record {
      times = pos 1;
      positive = omega (arith, ints);
      same = λ v w j. ap (λ (u : List ℤ). cell u j) (without-with_zeros n k v (omega (arith, w))) ∙ one_is (cell v j);
    };
  }

  -- where a mapped vector is 0, so is the primitive one
  pub zero_cell : (v w : List ℤ) → IsPrimitiveOf (with_zeros n k v) w → length v ≡ n + 1 → (j : ℕ) → cell (with_zeros n k v) j ≡ pos 0 → cell w j ≡ pos 0
  zero_cell v w p wide j e =
      zero_of_mul (pos p.multiple.times) (cell w j) (times_positive (n + 1) ((n + k) + 1) (with_zeros n k) (without n (n + k)) padding v w p wide)
      (sym (carried_cell (n + 1) ((n + k) + 1) (with_zeros n k) (without n (n + k)) padding v w p wide j) ∙ e)

  -- ---- reduced echelon form
  -- the column of the old column j
  place : (j : ℕ) → (j < n) ⊎ (n ≤ j) → ℕ
  place j (inl h) = j
  place j (inr h) = j + k

  padded_at : (v : List ℤ) → length v ≡ n + 1 → (j : ℕ) (c : (j < n) ⊎ (n ≤ j)) → cell (with_zeros n k v) (place j c) ≡ cell v j
  unfolding place
  padded_at v w j (inl h) = cell-before n k v j (omega (arith, w)) h
  padded_at v w j (inr h) = cell-behind n k v j (omega (arith, w)) h

  below_place : (j : ℕ) (c : (j < n) ⊎ (n ≤ j)) (i : ℕ) → i < place j c → i < n → i < j
  unfolding place
  below_place j (inl h) i l m = l
  below_place j (inr h) i l m = omega (arith, h, m)

  behind_place : (j : ℕ) (c : (j < n) ⊎ (n ≤ j)) (i : ℕ) → i < place j c → n + k ≤ i → i - k < j
  unfolding place
  behind_place j (inl h) i l m = omega (arith, h, l, m)
  behind_place j (inr h) i l m = omega (arith, h, l, m)

  place_less : (i j : ℕ) (c : (i < n) ⊎ (n ≤ i)) (d : (j < n) ⊎ (n ≤ j)) → i < j → place i c < place j d
  unfolding place
  place_less i j (inl h) (inl g) l = l
  place_less i j (inl h) (inr g) l = omega (arith, l)
  place_less i j (inr h) (inl g) l = omega (arith, h, g, l)
  place_less i j (inr h) (inr g) l = omega (arith, l)

  padded_before : (v : List ℤ) → length v ≡ n + 1 → (j : ℕ) (c : (j < n) ⊎ (n ≤ j)) → ((i : ℕ) → i < j → cell v i ≡ pos 0) → (i : ℕ) → i < place j c → (i < n) ⊎ (n ≤ i) → (i < n + k) ⊎ (n + k ≤ i) → cell (with_zeros n k v) i ≡ pos 0
  padded_before v w j c z i h (inl l) d = cell-before n k v i (omega (arith, w)) l ∙ z i (below_place j c i h l)
  padded_before v w j c z i h (inr g) (inl l) = cell-within n k v i (omega (arith, w)) g l
  padded_before v w j c z i h (inr g) (inr m) = behind_value n k v w i m ∙ z (i - k) (behind_place j c i h m)

  module _ (lines rays new_lines new_rays : List (List ℤ)) (cl : AreCarried (with_zeros n k) lines new_lines) (cr : AreCarried (with_zeros n k) rays new_rays) (line_wide : (i : ℕ) → i < length lines → length (vector_at lines i) ≡ n + 1) (ray_wide : (i : ℕ) → i < length rays → length (vector_at rays i) ≡ n + 1) (e : IsEchelon lines rays) where
    moved : ℕ → ℕ
    moved i = place (e.pivot i) (cases_lt (e.pivot i) n)

    old_line : (i : ℕ) → i < length new_lines → i < length lines
    old_line i b = omega (arith, b, cl.as_many)

    old_ray : (i : ℕ) → i < length new_rays → i < length rays
    old_ray i b = omega (arith, b, cr.as_many)

    new_pivot : (i : ℕ) → i < length lines → IsPivot (vector_at new_lines i) (moved i)
    unfolding moved
    new_pivot i b =
        let v : List ℤ = vector_at lines i in
        let w : List ℤ = vector_at new_lines i in
        let p : IsPrimitiveOf (with_zeros n k v) w = cl.each i [] [] b in
        record {
          positive =
              positive_of_mul (pos p.multiple.times) (cell w (place (e.pivot i) (cases_lt (e.pivot i) n))) (times_positive (n + 1) ((n + k) + 1) (with_zeros n k) (without n (n + k)) padding v w p (line_wide i b))
              (subst (λ (z : ℤ). pos 0 <ℤ z) (sym (padded_at v (line_wide i b) (e.pivot i) (cases_lt (e.pivot i) n)) ∙ carried_cell (n + 1) ((n + k) + 1) (with_zeros n k) (without n (n + k)) padding v w p (line_wide i b) (place (e.pivot i) (cases_lt (e.pivot i) n))) (e.pivots i b).positive);
          before = λ j h. zero_cell v w p (line_wide i b) j (padded_before v (line_wide i b) (e.pivot i) (cases_lt (e.pivot i) n) (e.pivots i b).before j h (cases_lt j n) (cases_lt j (n + k)));
        }

    pub padded_echelon : IsEchelon new_lines new_rays
    unfolding moved
    padded_echelon = record {
      pivot = moved;
      pivots = λ i b. new_pivot i (old_line i b);
      ordered = λ i m l b. place_less (e.pivot i) (e.pivot m) (cases_lt (e.pivot i) n) (cases_lt (e.pivot m) n) (e.ordered i m l (old_line m b));
      lines_zero = λ i m b c ne. zero_cell (vector_at lines m) (vector_at new_lines m) (cl.each m [] [] (old_line m c)) (line_wide m (old_line m c)) (moved i) (padded_at (vector_at lines m) (line_wide m (old_line m c)) (e.pivot i) (cases_lt (e.pivot i) n) ∙ e.lines_zero i m (old_line i b) (old_line m c) ne);
      rays_zero = λ i m b c. zero_cell (vector_at rays m) (vector_at new_rays m) (cr.each m [] [] (old_ray m c)) (ray_wide m (old_ray m c)) (moved i) (padded_at (vector_at rays m) (ray_wide m (old_ray m c)) (e.pivot i) (cases_lt (e.pivot i) n) ∙ e.rays_zero i m (old_line i b) (old_ray m c));
    }

  -- ---- the axes behind lines
  pub new_axis : (i : ℕ) → i < k → vector_at (new_axes n k) i ≡ axis (n + k) (n + i)
  new_axis i b = get_or-map-range_with_len (axis (n + k)) n k i (n + i) [] b refl

  pub axis_below : (i : ℕ) → i < length (new_axes n k) → i < k
  axis_below i b = omega (arith, b, length-map-range_with_len (axis (n + k)) n k)

  module _ (lines rays : List (List ℤ)) (e : IsEchelon lines rays) (front : (i : ℕ) → i < length lines → e.pivot i < n) (lines_gone : (i j : ℕ) → i < length lines → n ≤ j → j < n + k → cell (vector_at lines i) j ≡ pos 0) (rays_gone : (i j : ℕ) → i < length rays → n ≤ j → j < n + k → cell (vector_at rays i) j ≡ pos 0) where
    pivot_of : (i : ℕ) → (i < length lines) ⊎ (length lines ≤ i) → ℕ
    pivot_of i (inl l) = e.pivot i
    pivot_of i (inr g) = n + (i - length lines)

    line_at : (i : ℕ) → i < length lines → vector_at (lines ++ new_axes n k) i ≡ vector_at lines i
    line_at i l = get_or_append_left lines (new_axes n k) [] i l

    within : (i : ℕ) → length lines ≤ i → i < length (lines ++ new_axes n k) → i - length lines < k
    within i g b = omega (arith, g, b, length-append lines (new_axes n k), length-map-range_with_len (axis (n + k)) n k)

    axis_at : (i : ℕ) → length lines ≤ i → i < length (lines ++ new_axes n k) → vector_at (lines ++ new_axes n k) i ≡ axis (n + k) (n + (i - length lines))
    axis_at i g b = get_or-append_right lines (new_axes n k) (length lines) i [] refl g ∙ new_axis (i - length lines) (within i g b)

    pivot_at : (i : ℕ) (c : (i < length lines) ⊎ (length lines ≤ i)) → i < length (lines ++ new_axes n k) → IsPivot (vector_at (lines ++ new_axes n k) i) (pivot_of i c)
    unfolding pivot_of
    pivot_at i (inl l) b = subst (λ (v : List ℤ). IsPivot v (e.pivot i)) (sym (line_at i l)) (e.pivots i l)
    pivot_at i (inr g) b = subst (λ (v : List ℤ). IsPivot v (n + (i - length lines))) (sym (axis_at i g b)) (axis_pivot (n + k) (n + (i - length lines)) (omega (arith, within i g b)))

    pivot_less : (i m : ℕ) (c : (i < length lines) ⊎ (length lines ≤ i)) (d : (m < length lines) ⊎ (length lines ≤ m)) → i < m → pivot_of i c < pivot_of m d
    unfolding pivot_of
    pivot_less i m (inl l) (inl h) b = e.ordered i m b h
    pivot_less i m (inl l) (inr h) b = let f = front i l in omega (arith, f)
    pivot_less i m (inr l) (inl h) b = omega (arith, l, h, b)
    pivot_less i m (inr l) (inr h) b = omega (arith, l, h, b)

    line_zero : (i m : ℕ) (c : (i < length lines) ⊎ (length lines ≤ i)) (d : (m < length lines) ⊎ (length lines ≤ m)) → i < length (lines ++ new_axes n k) → m < length (lines ++ new_axes n k) → i ≢ m → cell (vector_at (lines ++ new_axes n k) m) (pivot_of i c) ≡ pos 0
    unfolding pivot_of
    line_zero i m (inl l) (inl h) b f ne = ap (λ (v : List ℤ). cell v (e.pivot i)) (line_at m h) ∙ e.lines_zero i m l h ne
    line_zero i m (inl l) (inr h) b f ne = ap (λ (v : List ℤ). cell v (e.pivot i)) (axis_at m h f) ∙ axis_other (n + k) (n + (m - length lines)) (e.pivot i) (omega (arith, within m h f)) (λ q. let g = front i l in omega (arith, q, g))
    line_zero i m (inr l) (inl h) b f ne = ap (λ (v : List ℤ). cell v (n + (i - length lines))) (line_at m h) ∙ lines_gone m (n + (i - length lines)) h (omega arith) (omega (arith, within i l b))
    line_zero i m (inr l) (inr h) b f ne = ap (λ (v : List ℤ). cell v (n + (i - length lines))) (axis_at m h f) ∙ axis_other (n + k) (n + (m - length lines)) (n + (i - length lines)) (omega (arith, within m h f)) (λ q. ne (omega (arith, q, l, h)))

    ray_zero : (i m : ℕ) (c : (i < length lines) ⊎ (length lines ≤ i)) → i < length (lines ++ new_axes n k) → m < length rays → cell (vector_at rays m) (pivot_of i c) ≡ pos 0
    unfolding pivot_of
    ray_zero i m (inl l) b f = e.rays_zero i m l f
    ray_zero i m (inr l) b f = rays_gone m (n + (i - length lines)) f (omega arith) (omega (arith, within i l b))

    pub axes_echelon : IsEchelon (lines ++ new_axes n k) rays
    axes_echelon = record {
      pivot = λ i. pivot_of i (cases_lt i (length lines));
      pivots = λ i b. pivot_at i (cases_lt i (length lines)) b;
      ordered = λ i m l b. pivot_less i m (cases_lt i (length lines)) (cases_lt m (length lines)) l;
      lines_zero = λ i m b c ne. line_zero i m (cases_lt i (length lines)) (cases_lt m (length lines)) b c ne;
      rays_zero = λ i m b c. ray_zero i m (cases_lt i (length lines)) b c;
    }

  -- ---- what the axes span
  -- a vector that is 0 but at the first of the new columns
  axes_sum : (m : ℕ) → m ≤ k → (r : V) → ((j : ℕ) → j < n → r j ≡ pos 0) → ((j : ℕ) → n + m ≤ j → r j ≡ pos 0) → Sums (In (new_axes n k)) Nothing r
  axes_sum zero b r low high = none (λ j. by j (cases_lt j n))
    where
      by : (j : ℕ) → (j < n) ⊎ (n ≤ j) → r j ≡ pos 0
      by j (inl l) = low j l
      by j (inr g) = high j (omega (arith, g))
  axes_sum (suc m) b r low high =
      line (r (n + m)) (columns (new_axes n k) m) (λ j. r j +ℤ neg_ℤ (r (n + m) *ℤ columns (new_axes n k) m j)) (in_at (new_axes n k) m (omega (arith, b, length-map-range_with_len (axis (n + k)) n k)))
      (axes_sum m (omega (arith, b)) (λ j. r j +ℤ neg_ℤ (r (n + m) *ℤ columns (new_axes n k) m j)) (λ j l. other_gone (r j) (r (n + m)) (columns (new_axes n k) m j) (low j l) (off j (λ e. omega (arith, e, l)))) (λ j g. rest_gone j g (cases_eq j (n + m))))
      (λ j. part_out (r j) (r (n + m) *ℤ columns (new_axes n k) m j))
    where
      on : columns (new_axes n k) m (n + m) ≡ pos 1
      on = ap (λ (v : List ℤ). cell v (n + m)) (new_axis m (omega (arith, b))) ∙ axis_one (n + k) (n + m) (omega (arith, b))

      off : (j : ℕ) → j ≢ n + m → columns (new_axes n k) m j ≡ pos 0
      off j ne = ap (λ (v : List ℤ). cell v j) (new_axis m (omega (arith, b))) ∙ axis_other (n + k) (n + m) j (omega (arith, b)) (λ e. ne (sym e))

      rest_gone : (j : ℕ) → n + m ≤ j → (j ≡ n + m) ⊎ (j ≢ n + m) → r j +ℤ neg_ℤ (r (n + m) *ℤ columns (new_axes n k) m j) ≡ pos 0
      rest_gone j g (inl e) = subst (λ (i : ℕ). r i +ℤ neg_ℤ (r (n + m) *ℤ columns (new_axes n k) m i) ≡ pos 0) (sym e) (own_gone (r (n + m)) (columns (new_axes n k) m (n + m)) on)
      rest_gone j g (inr ne) = other_gone (r j) (r (n + m)) (columns (new_axes n k) m j) (high j (omega (arith, g, ne))) (off j ne)

  -- ---- the new columns are free
  pub cut_axis : (m : ℕ) → n ≤ m → m < n + k → (j : ℕ) → cell (without n (n + k) (axis (n + k) m)) j ≡ pos 0
  cut_axis m g l j = by (cases_lt j n)
    where
      by : (j < n) ⊎ (n ≤ j) → cell (without n (n + k) (axis (n + k) m)) j ≡ pos 0
      by (inl h) = cell-without_before n k (axis (n + k) m) j h ∙ axis_other (n + k) m j l (λ e. omega (arith, e, g, h))
      by (inr h) = cell-without_behind n k (axis (n + k) m) j h ∙ axis_other (n + k) m (j + k) l (λ e. omega (arith, e, l, h))

  cut_negated : (m : ℕ) → n ≤ m → m < n + k → (j : ℕ) → cell (without n (n + k) (negated (axis (n + k) m))) j ≡ pos 0
  cut_negated m g l j =
      still_none (cell (without n (n + k) (negated (axis (n + k) m))) j) (cell (without n (n + k) (axis (n + k) m)) j)
      (ap (λ (v : List ℤ). cell v j) (without-scale n (n + k) (neg_ℤ (pos 1)) (axis (n + k) m) (omega arith)) ∙ cell-scale (neg_ℤ (pos 1)) (without n (n + k) (axis (n + k) m)) j) (cut_axis m g l j)

  cut_wide : (v : List ℤ) → length v ≡ (n + k) + 1 → length (without n (n + k) v) ≡ n + 1
  cut_wide v w = let e = length-without n k v (omega (arith, w)) in omega (arith, e, w)

  rest_of : List ℤ → V
  rest_of v j = cell v j +ℤ neg_ℤ (cell (with_zeros n k (without n (n + k) v)) j)

  rest_before : (v : List ℤ) → length v ≡ (n + k) + 1 → (j : ℕ) → j < n → rest_of v j ≡ pos 0
  unfolding rest_of
  rest_before v w j l = no_rest (cell v j) (cell (with_zeros n k (without n (n + k) v)) j) (cell-before n k (without n (n + k) v) j (omega (arith, cut_wide v w)) l ∙ cell-without_before n k v j l)

  rest_behind : (v : List ℤ) → length v ≡ (n + k) + 1 → (j : ℕ) → n + k ≤ j → rest_of v j ≡ pos 0
  unfolding rest_of
  rest_behind v w j g =
      let e : (j - k) + k ≡ j = omega (arith, g) in
      no_rest (cell v j) (cell (with_zeros n k (without n (n + k) v)) j) (behind_value n k (without n (n + k) v) (cut_wide v w) j g ∙ cell-without_behind n k v (j - k) (omega (arith, g)) ∙ ap (cell v) e)

  spread_over : (v : List ℤ) → length v ≡ (n + k) + 1 → IsSpread (with_zeros n k) (without n (n + k)) (new_axes n k) v
  unfolding rest_of
  spread_over v w = record {
    left = pos 1;
    left_positive = omega (arith, ints);
    right = pos 1;
    right_positive = omega (arith, ints);
    rest = rest_of v;
    spanned = spans_sums (rest_of v) (axes_sum k (omega arith) (rest_of v) (rest_before v w) (rest_behind v w));
    same = λ j. once_with_rest (cell v j) (cell (with_zeros n k (without n (n + k) v)) j);
  }

  module _ (C D : List ℤ → Type 0) (inside : (v : List ℤ) → D v → (length v ≡ (n + k) + 1) × C (without n (n + k) v)) (outside : (v : List ℤ) → length v ≡ (n + k) + 1 → C (without n (n + k) v) → D v) (origin : (v : List ℤ) → length v ≡ n + 1 → ((j : ℕ) → cell v j ≡ pos 0) → C v) where
    axis_within : (m : ℕ) → n ≤ m → m < n + k → D (axis (n + k) m) × D (negated (axis (n + k) m))
    axis_within m g l =
        let w : length (axis (n + k) m) ≡ (n + k) + 1 = length-axis (n + k) m l in
        let u : length (negated (axis (n + k) m)) ≡ (n + k) + 1 = length-scale (neg_ℤ (pos 1)) (axis (n + k) m) ∙ w in (
          outside (axis (n + k) m) w (origin (without n (n + k) (axis (n + k) m)) (cut_wide (axis (n + k) m) w) (cut_axis m g l)),
          outside (negated (axis (n + k) m)) u (origin (without n (n + k) (negated (axis (n + k) m))) (cut_wide (negated (axis (n + k) m)) u) (cut_negated m g l)),
        )

    pub free_extension : IsExtension (n + 1) ((n + k) + 1) (with_zeros n k) (without n (n + k)) (new_axes n k) C D
    free_extension = record {
      inside = inside;
      spread = λ v d. spread_over v (inside v d).0;
      outside = λ v w r c. outside v w c;
      free_within = All-from_get_or (λ l. D l × D (negated l)) (new_axes n k) [] (λ i b. let h : i < k = axis_below i b in subst (λ (l : List ℤ). D l × D (negated l)) (sym (new_axis i h)) (axis_within (n + i) (omega arith) (omega (arith, h))));
      free_gone = λ i b j. let h : i < k = axis_below i b in ap (λ (l : List ℤ). cell (without n (n + k) l) j) (new_axis i h) ∙ cut_axis (n + i) (omega arith) (omega (arith, h)) j;
      free_primitive = All-from_get_or IsPrimitive (new_axes n k) [] (λ i b. let h : i < k = axis_below i b in subst IsPrimitive (sym (new_axis i h)) (axis_primitive (n + k) (n + i) (omega (arith, h))));
    }

  -- ---- the new columns are 0
  module _ (C D : List ℤ → Type 0) (inside : (v : List ℤ) → D v → (length v ≡ (n + k) + 1) × C (without n (n + k) v)) (gone : (v : List ℤ) → D v → (j : ℕ) → n ≤ j → j < n + k → cell v j ≡ pos 0) (outside : (v : List ℤ) → length v ≡ (n + k) + 1 → ((j : ℕ) → n ≤ j → j < n + k → cell v j ≡ pos 0) → C (without n (n + k) v) → D v) where
    restored_gone : (v : List ℤ) → length v ≡ (n + k) + 1 → IsRestored (with_zeros n k) (without n (n + k)) v → (j : ℕ) → n ≤ j → j < n + k → cell v j ≡ pos 0
    restored_gone v w r j g l = zero_of_mul r.left (cell v j) r.left_positive (r.same j ∙ ap (λ (z : ℤ). r.right *ℤ z) (cell-within n k (without n (n + k) v) j (omega (arith, cut_wide v w)) g l) ∙ mul-zero r.right)

    pub zero_extension : IsExtension (n + 1) ((n + k) + 1) (with_zeros n k) (without n (n + k)) [] C D
    zero_extension = record {
      inside = inside;
      spread = λ v d. let w : length v ≡ (n + k) + 1 = (inside v d).0 in record {
        left = pos 1;
        left_positive = omega (arith, ints);
        right = pos 1;
        right_positive = omega (arith, ints);
        rest = λ j. pos 0;
        spanned = nothing_spanned;
        same = λ j. once_with_none (cell v j) (cell (with_zeros n k (without n (n + k) v)) j) (ap (λ (u : List ℤ). cell u j) (restored n k v (omega (arith, w)) (gone v d)));
      };
      outside = λ v w r c. outside v w (restored_gone v w r) c;
      free_within = All-nil (λ l. D l × D (negated l));
      free_gone = λ i b. absurd (omega (arith, b));
      free_primitive = All-nil IsPrimitive;
    }
