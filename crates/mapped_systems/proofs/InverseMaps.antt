-- The map that replaces a variable with a part in its expression is undone by one of the same form.
use Rattle.std.proofs.Common.{◌≡◌, ◌≢◌, ◌⊎◌, inl, inr, ℕ, ◌+◌, ◌<◌, List, length, slice_set, ℤ, unsigned_abs, pos, neg_ℤ, ◌+ℤ◌, ◌-ℤ◌, ◌*ℤ◌, ◌^◌, ◌<ℤ◌, refl, sym, ap, ◌∙◌, subst, arith}
use Rattle.std.proofs.lemmas.Int.{ints}
use Rattle.std.proofs.lemmas.Bool.{cases_eq}
use Rattle.std.proofs.lemmas.List.{get_or-set_same, get_or-set_other, length-set}
use Rattle.row_core.specs.Vectors.{cell, dot, scale}
use Rattle.std.specs.Int.{w128}
use mir.Val.{to_z, of_z}
use Rattle.row_core.specs.Range.{InRange}
use Rattle.cone_laws.proofs.Ring.{ring, mul-positive, by_sign}
use Rattle.row_core.proofs.Magnitudes.{magnitude-positive, magnitude-negative, magnitude-neg, back as back_in_range}
use Rattle.cone_laws.proofs.Columns.{cell-scale, length-scale, dot_comm, value, value_linear, value_both, dot_is}
use Rattle.cone_laws.proofs.Factors.{single, cell-single_same, cell-single_other}
use Rattle.mapped_systems.specs.Maps.{substituted}
use Rattle.mapped_systems.specs.CarriedSystems.{IsLinearOn, AreInverse, IsInverseRow}
use Rattle.mapped_systems.proofs.LinearMaps.{IsLinearMap, substitution_linear, substituted_other, dot-single}

-- ---- the value of a row that is a multiple of another but at one column
own_column : (x s e t y u : ℤ) → x ≡ s *ℤ e +ℤ t → y ≡ pos 1 → u ≡ t → x ≡ s *ℤ e +ℤ u *ℤ y
own_column x s e t y u f g h = let m = ap (λ (z : ℤ). u *ℤ z) g in omega (arith, ints, f, m, h)

other_column : (x s e y u : ℤ) → x ≡ s *ℤ e → y ≡ pos 0 → x ≡ s *ℤ e +ℤ u *ℤ y
other_column x s e y u f g = let m = ap (λ (z : ℤ). u *ℤ z) g in omega (arith, ints, f, m)

one_part : (x s y t z w : ℤ) → x ≡ s *ℤ y +ℤ t *ℤ z → z ≡ pos 1 *ℤ w → x ≡ s *ℤ y +ℤ t *ℤ w
one_part x s y t z w e f =
    let g : z ≡ w = omega (arith, ints, f) in
    e ∙ ap (λ (u : ℤ). s *ℤ y +ℤ t *ℤ u) g

-- the row u is s times the row v, and differs from it at the column by t
dot-changed : (u v a : List ℤ) (var : ℕ) (s t : ℤ) → cell u var ≡ s *ℤ cell v var +ℤ t → ((j : ℕ) → j ≢ var → cell u j ≡ s *ℤ cell v j) → dot a u ≡ s *ℤ dot a v +ℤ t *ℤ cell a var
dot-changed u v a var s t own others =
    one_part (dot a u) s (dot a v) t (dot a (single var (pos 1))) (cell a var)
    (dot_is a u
    ∙ value_both (value a) (value_linear a) (cell u) (cell v) (cell (single var (pos 1))) s t (λ j. at j (cases_eq j var))
    ∙ ap (λ (z : ℤ). s *ℤ z +ℤ t *ℤ value a (cell (single var (pos 1)))) (sym (dot_is a v))
    ∙ ap (λ (z : ℤ). s *ℤ dot a v +ℤ t *ℤ z) (sym (dot_is a (single var (pos 1)))))
    (dot_comm a (single var (pos 1)) ∙ dot-single var (pos 1) a)
  where
    at : (j : ℕ) → (j ≡ var) ⊎ (j ≢ var) → cell u j ≡ s *ℤ cell v j +ℤ t *ℤ cell (single var (pos 1)) j
    at j (inl e) =
        subst (λ (n : ℕ). cell u n ≡ s *ℤ cell v n +ℤ t *ℤ cell (single var (pos 1)) n) (sym e)
        (own_column (cell u var) s (cell v var) t (cell (single var (pos 1)) var) t own (cell-single_same var (pos 1)) refl)
    at j (inr ne) = other_column (cell u j) s (cell v j) (cell (single var (pos 1)) j) t (others j ne) (cell-single_other var j (pos 1) ne)

-- ---- numbers
difference : (e k : ℤ) → e ≡ k +ℤ (e +ℤ neg_ℤ k)
difference e k = omega (arith, ints)

neg_one : (x s e : ℤ) → x ≡ neg_ℤ (s *ℤ e) → x ≡ neg_ℤ s *ℤ e
neg_one x s e f = let g : neg_ℤ s *ℤ e ≡ neg_ℤ (s *ℤ e) = simp ring in omega (arith, ints, f, g)

own_part : (x s d a : ℤ) → x ≡ s *ℤ d → x ≡ neg_ℤ s *ℤ a +ℤ (s *ℤ d +ℤ s *ℤ a)
own_part x s d a e = let g : neg_ℤ s *ℤ a ≡ neg_ℤ (s *ℤ a) = simp ring in omega (arith, ints, e, g)

-- s, d, a: the sign, the divisor and the variable's part of the expression; e: the value of the expression; x: the variable
back_value : (s d a e x : ℤ) → neg_ℤ s *ℤ (d *ℤ e +ℤ (e +ℤ neg_ℤ (d *ℤ x)) *ℤ a) +ℤ (s *ℤ d +ℤ s *ℤ a) *ℤ e ≡ ((s *ℤ a) *ℤ d) *ℤ x
back_value s d a e x = simp ring (omega (arith, ints))

forth_value : (s d a e x : ℤ) → (s *ℤ a) *ℤ e +ℤ ((neg_ℤ s *ℤ e +ℤ (s *ℤ d +ℤ s *ℤ a) *ℤ x) +ℤ neg_ℤ ((s *ℤ a) *ℤ x)) *ℤ a ≡ (d *ℤ (s *ℤ a)) *ℤ x
forth_value s d a e x = simp ring (omega (arith, ints))

both_times : (k l x y z : ℤ) → x ≡ k *ℤ y → y ≡ l *ℤ z → x ≡ (k *ℤ l) *ℤ z
both_times k l x y z e f = let g = ap (λ (u : ℤ). k *ℤ u) f in let m : (k *ℤ l) *ℤ z ≡ k *ℤ (l *ℤ z) = simp ring in omega (arith, ints, e, g, m)

-- a linear map of the operators, as one of vectors
pub linear_on : (dim to : ℕ) (f : List ℤ → List ℤ) → IsLinearMap dim to f → IsLinearOn (dim + 1) (to + 1) f
linear_on dim to f lin = record { rows = lin.rows; values = lin.values; wide = lin.wide }

module _ (dim var : ℕ) (expr row : List ℤ) (den size : ℤ) (below : var < dim) (positive : pos 0 <ℤ den) (i : IsInverseRow var expr den row size) where
  own_cell : (e : List ℤ) (d : ℤ) (v : List ℤ) → length v ≡ dim + 1 → cell (substituted var e d v) var ≡ dot e v
  own_cell e d v w = get_or-set_same (scale d v) var (dot e v) (pos 0) (omega (arith, length-scale d v, w, below))

  -- the value of a row where the variable is replaced
  dot_replaced : (a e : List ℤ) (d : ℤ) (v : List ℤ) → length v ≡ dim + 1 → dot a (substituted var e d v) ≡ d *ℤ dot a v +ℤ (dot e v +ℤ neg_ℤ (d *ℤ cell v var)) *ℤ cell a var
  dot_replaced a e d v w = dot-changed (substituted var e d v) v a var d (dot e v +ℤ neg_ℤ (d *ℤ cell v var)) (own_cell e d v w ∙ difference (dot e v) (d *ℤ cell v var)) (λ j ne. substituted_other var e d v j ne)

  -- the value of the inverse row
  dot_inverse : (v : List ℤ) → dot row v ≡ neg_ℤ i.sign *ℤ dot expr v +ℤ (i.sign *ℤ den +ℤ i.sign *ℤ cell expr var) *ℤ cell v var
  dot_inverse v =
      dot_comm row v
      ∙ dot-changed row expr v var (neg_ℤ i.sign) (i.sign *ℤ den +ℤ i.sign *ℤ cell expr var) (own_part (cell row var) i.sign den (cell expr var) i.own) (λ j ne. neg_one (cell row j) i.sign (cell expr j) (i.others j ne))
      ∙ ap (λ (z : ℤ). neg_ℤ i.sign *ℤ z +ℤ (i.sign *ℤ den +ℤ i.sign *ℤ cell expr var) *ℤ cell v var) (dot_comm v expr)

  back_own : (v : List ℤ) → length v ≡ dim + 1 → dot row (substituted var expr den v) ≡ (size *ℤ den) *ℤ cell v var
  back_own v w =
      dot_inverse (substituted var expr den v)
      ∙ ap (λ (z : ℤ). neg_ℤ i.sign *ℤ z +ℤ (i.sign *ℤ den +ℤ i.sign *ℤ cell expr var) *ℤ cell (substituted var expr den v) var) (dot_replaced expr expr den v w)
      ∙ ap (λ (z : ℤ). neg_ℤ i.sign *ℤ (den *ℤ dot expr v +ℤ (dot expr v +ℤ neg_ℤ (den *ℤ cell v var)) *ℤ cell expr var) +ℤ (i.sign *ℤ den +ℤ i.sign *ℤ cell expr var) *ℤ z) (own_cell expr den v w)
      ∙ back_value i.sign den (cell expr var) (dot expr v) (cell v var)
      ∙ ap (λ (z : ℤ). (z *ℤ den) *ℤ cell v var) (sym i.size_is)

  forth_own : (v : List ℤ) → length v ≡ dim + 1 → dot expr (substituted var row size v) ≡ (den *ℤ size) *ℤ cell v var
  forth_own v w =
      dot_replaced expr row size v w
      ∙ ap (λ (z : ℤ). size *ℤ dot expr v +ℤ (z +ℤ neg_ℤ (size *ℤ cell v var)) *ℤ cell expr var) (dot_inverse v)
      ∙ ap (λ (z : ℤ). z *ℤ dot expr v +ℤ ((neg_ℤ i.sign *ℤ dot expr v +ℤ (i.sign *ℤ den +ℤ i.sign *ℤ cell expr var) *ℤ cell v var) +ℤ neg_ℤ (z *ℤ cell v var)) *ℤ cell expr var) i.size_is
      ∙ forth_value i.sign den (cell expr var) (dot expr v) (cell v var)
      ∙ ap (λ (z : ℤ). (den *ℤ z) *ℤ cell v var) (sym i.size_is)

  first_map : IsLinearOn (dim + 1) (dim + 1) (substituted var expr den)
  first_map = linear_on dim dim (substituted var expr den) (substitution_linear dim var expr den below positive)

  second_map : IsLinearOn (dim + 1) (dim + 1) (substituted var row size)
  second_map = linear_on dim dim (substituted var row size) (substitution_linear dim var row size below i.positive)

  back : (v : List ℤ) → length v ≡ dim + 1 → (j : ℕ) → (j ≡ var) ⊎ (j ≢ var) → cell (substituted var row size (substituted var expr den v)) j ≡ (size *ℤ den) *ℤ cell v j
  back v w j (inl e) = subst (λ (n : ℕ). cell (substituted var row size (substituted var expr den v)) n ≡ (size *ℤ den) *ℤ cell v n) (sym e) (own_cell row size (substituted var expr den v) (first_map.wide v w) ∙ back_own v w)
  back v w j (inr ne) = both_times size den (cell (substituted var row size (substituted var expr den v)) j) (cell (substituted var expr den v) j) (cell v j) (substituted_other var row size (substituted var expr den v) j ne) (substituted_other var expr den v j ne)

  forth : (v : List ℤ) → length v ≡ dim + 1 → (j : ℕ) → (j ≡ var) ⊎ (j ≢ var) → cell (substituted var expr den (substituted var row size v)) j ≡ (den *ℤ size) *ℤ cell v j
  forth v w j (inl e) = subst (λ (n : ℕ). cell (substituted var expr den (substituted var row size v)) n ≡ (den *ℤ size) *ℤ cell v n) (sym e) (own_cell expr den (substituted var row size v) (second_map.wide v w) ∙ forth_own v w)
  forth v w j (inr ne) = both_times den size (cell (substituted var expr den (substituted var row size v)) j) (cell (substituted var row size v) j) (cell v j) (substituted_other var expr den (substituted var row size v) j ne) (substituted_other var row size v j ne)

  pub inverse_maps : AreInverse (dim + 1) (substituted var expr den) (substituted var row size)
  inverse_maps = record {
    first_linear = first_map;
    second_linear = second_map;
    second_undoes = record { times = size *ℤ den; positive = mul-positive size den i.positive positive; same = λ v w j. back v w j (cases_eq j var) };
    first_undoes = record { times = den *ℤ size; positive = mul-positive den size positive i.positive; same = λ v w j. forth v w j (cases_eq j var) };
  }

-- the two maps exchanged
pub other_way : (width : ℕ) (f h : List ℤ → List ℤ) → AreInverse width f h → AreInverse width h f
other_way width f h i = record { first_linear = i.second_linear; second_linear = i.first_linear; second_undoes = i.first_undoes; first_undoes = i.second_undoes }

-- ---- the inverse row
size_below : (a : ℤ) → a <ℤ pos 0 → pos (unsigned_abs a) ≡ neg_ℤ (pos 1) *ℤ a
size_below a h = magnitude-negative a h ∙ omega (arith, ints)

size_above : (a : ℤ) → pos 0 <ℤ a → pos (unsigned_abs a) ≡ pos 1 *ℤ a
size_above a h = magnitude-positive a h ∙ omega (arith, ints)

above_below : (n a : ℤ) → n ≡ neg_ℤ a → a <ℤ pos 0 → pos 0 <ℤ n
above_below n a e h = omega (arith, ints, e, h)

above_above : (n a : ℤ) → n ≡ a → pos 0 <ℤ a → pos 0 <ℤ n
above_above n a e h = omega (arith, ints, e, h)

pub inverse_below : (var : ℕ) (expr : List ℤ) (den : ℤ) (row : List ℤ) → var < length expr → cell expr var <ℤ pos 0 → row ≡ slice_set expr var (neg_ℤ den) → IsInverseRow var expr den row (pos (unsigned_abs (cell expr var)))
inverse_below var expr den row below h e = record {
  sign = neg_ℤ (pos 1);
  size_is = size_below (cell expr var) h;
  positive = above_below (pos (unsigned_abs (cell expr var))) (cell expr var) (magnitude-negative (cell expr var) h) h;
  wide = ap length e ∙ length-set expr var (neg_ℤ den);
  own = ap (λ (v : List ℤ). cell v var) e ∙ get_or-set_same expr var (neg_ℤ den) (pos 0) below ∙ omega (arith, ints);
  others = λ j ne. ap (λ (v : List ℤ). cell v j) e ∙ get_or-set_other expr var j (neg_ℤ den) (pos 0) ne ∙ omega (arith, ints);
}

pub inverse_above : (var : ℕ) (expr : List ℤ) (den : ℤ) (row : List ℤ) → var < length expr → pos 0 <ℤ cell expr var → row ≡ slice_set (scale (neg_ℤ (pos 1)) expr) var den → IsInverseRow var expr den row (pos (unsigned_abs (cell expr var)))
inverse_above var expr den row below h e = record {
  sign = pos 1;
  size_is = size_above (cell expr var) h;
  positive = above_above (pos (unsigned_abs (cell expr var))) (cell expr var) (magnitude-positive (cell expr var) h) h;
  wide = ap length e ∙ length-set (scale (neg_ℤ (pos 1)) expr) var den ∙ length-scale (neg_ℤ (pos 1)) expr;
  own = ap (λ (v : List ℤ). cell v var) e ∙ get_or-set_same (scale (neg_ℤ (pos 1)) expr) var den (pos 0) (omega (arith, below, length-scale (neg_ℤ (pos 1)) expr)) ∙ omega (arith, ints);
  others = λ j ne. ap (λ (v : List ℤ). cell v j) e ∙ get_or-set_other (scale (neg_ℤ (pos 1)) expr) var j den (pos 0) ne ∙ cell-scale (neg_ℤ (pos 1)) expr j ∙ omega (arith, ints);
}

pub above_zero : (a : ℤ) → ¬ (a <ℤ pos 0) → a ≢ pos 0 → pos 0 <ℤ a
above_zero a n ne = by (by_sign a)
  where
    by : (pos 0 <ℤ a) ⊎ ((a <ℤ pos 0) ⊎ (a ≡ pos 0)) → pos 0 <ℤ a
    by (inl h) = h
    by (inr (inl h)) = absurd (n h)
    by (inr (inr e)) = absurd (ne e)

pub negated_in_range : (d : ℤ) → InRange d → InRange (neg_ℤ d)
negated_in_range d r = record { size = subst (λ (n : ℕ). n < 2 ^ 127) (sym (magnitude-neg d)) r.size }

-- a number of the range, negated as a machine number is
pub negated_entry : (d : ℤ) → InRange d → to_z w128 (of_z w128 d) ≡ d → to_z w128 (of_z w128 (pos 0 -ℤ to_z w128 (of_z w128 d))) ≡ neg_ℤ d
negated_entry d r e =
    let f : pos 0 -ℤ d ≡ neg_ℤ d = omega (arith, ints) in
    ap (λ (z : ℤ). to_z w128 (of_z w128 (pos 0 -ℤ z))) e ∙ ap (λ (z : ℤ). to_z w128 (of_z w128 z)) f ∙ back_in_range (neg_ℤ d) (negated_in_range d r)
