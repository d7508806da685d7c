-- The value of a row at a point that is moved.
use Rattle.std.proofs.Common.{◌≡◌, ◌≢◌, ◌⊎◌, inl, inr, ℕ, ◌<◌, ◌≤◌, List, ℤ, pos, ◌+ℤ◌, ◌*ℤ◌, ◌≤ℤ◌, ◌<ℤ◌, refl, sym, ap, ◌∙◌, subst, arith}
use Rattle.std.proofs.lemmas.Int.{ints}
use Rattle.std.proofs.lemmas.Bool.{cases_eq, cases_lt}
use Rattle.std.proofs.lemmas.List.{get_or_past}
use Rattle.row_core.specs.Vectors.{cell, dot, add, scale}
use Rattle.row_core.specs.Points.{IsPoint}
use Rattle.row_core.proofs.Ring.{ring, mul-zero, zero-mul, mul-at_least_zero, mul-positive, at_least_zero_of_mul, zero_of_mul, positive_of_mul}
use Rattle.cone_laws.proofs.Columns.{cell-add, cell-scale, length-add, length-scale, dot-add, dot-scale}
use Rattle.cone_laws.proofs.UptoRows.{IsSumOf, dot_sum}
use Rattle.cons_sys.specs.Kinds.{Allows}
use Rattle.cons_sys.specs.declared.kind.ConKind.{ConKind}
use Rattle.cons_sys.specs.declared.kind.ConKind.TheVariants.{Eq, Ge, Gt}
use Rattle.cons_sys.specs.Constraints.{Constraint, Satisfies}
use Rattle.set_laws.proofs.Directions.{slope_least}
use Rattle.elapse.specs.Directions.{levelled}
use Rattle.elapse.specs.ElapsedPoints.{IsMoved}
use Rattle.elapse.proofs.Levelled.{length-levelled, cell-levelled_last, cell-levelled_other}
use Rattle.elapse.proofs.DirectionValues.{level_kind}

-- ---- a moved point as a sum
before_last : (den xd yd vd xj num yj : ℤ) → vd *ℤ (xj *ℤ den *ℤ yd +ℤ num *ℤ yj *ℤ xd) ≡ (vd *ℤ den *ℤ yd) *ℤ xj +ℤ (vd *ℤ num *ℤ xd) *ℤ yj
before_last den xd yd vd xj num yj = simp ring (omega (arith, ints))

at_last : (den xd yd vd t z : ℤ) → z ≡ pos 0 → (xd *ℤ den *ℤ yd) *ℤ vd ≡ (vd *ℤ den *ℤ yd) *ℤ xd +ℤ t *ℤ z
at_last den xd yd vd t z e =
    let f : (xd *ℤ den *ℤ yd) *ℤ vd ≡ (vd *ℤ den *ℤ yd) *ℤ xd = simp ring (omega (arith, ints)) in
    let g : t *ℤ z ≡ pos 0 = ap (λ n. t *ℤ n) e ∙ mul-zero t in
    omega (arith, ints, f, g)

past_last : (t x s y w z : ℤ) → x ≡ pos 0 → y ≡ pos 0 → z ≡ pos 0 → t *ℤ x ≡ s *ℤ y +ℤ w *ℤ z
past_last t x s y w z e f g =
    let a : t *ℤ x ≡ pos 0 = ap (λ n. t *ℤ n) e ∙ mul-zero t in
    let b : s *ℤ y ≡ pos 0 = ap (λ n. s *ℤ n) f ∙ mul-zero s in
    let d : w *ℤ z ≡ pos 0 = ap (λ n. w *ℤ n) g ∙ mul-zero w in
    omega (arith, ints, a, b, d)

zero_sum_of : (kind : ConKind) (t v s x w l : ℤ) → pos 0 <ℤ t → pos 0 <ℤ s → pos 0 ≤ℤ w → t *ℤ v ≡ s *ℤ x +ℤ w *ℤ l → Allows kind x → Allows (level_kind kind) l → Allows kind v
zero_sum_of Eq t v s x w l p q r e f g = zero_of_mul t v p (e ∙ sym (past_last (pos 0) (pos 0) s x w l refl f g))
zero_sum_of Ge t v s x w l p q r e f g =
    let a : pos 0 ≤ℤ (s *ℤ x) = mul-at_least_zero s x (omega (arith, ints, q)) f in
    let b : pos 0 ≤ℤ (w *ℤ l) = mul-at_least_zero w l r g in
    at_least_zero_of_mul t v p (omega (arith, ints, e, a, b))
zero_sum_of Gt t v s x w l p q r e f g =
    let a : pos 0 <ℤ (s *ℤ x) = mul-positive s x q f in
    let b : pos 0 ≤ℤ (w *ℤ l) = mul-at_least_zero w l r g in
    positive_of_mul t v p (omega (arith, ints, e, a, b))

module _ (dim : ℕ) (x y : List ℤ) (x_point : IsPoint dim x) (y_point : IsPoint dim y) where
  abbrev flat : List ℤ
  flat = levelled dim y

  flat_past : (j : ℕ) → j ≢ dim → dim ≤ j → cell flat j ≡ pos 0
  flat_past j ne h = get_or_past flat j (pos 0) (omega (arith, length-levelled dim y, y_point.wide, h, ne))

  module _ (v : List ℤ) (m : IsMoved dim x y v) where
    moved_column : (j : ℕ) → (cell x dim *ℤ m.den *ℤ cell y dim) *ℤ cell v j ≡ (cell v dim *ℤ m.den *ℤ cell y dim) *ℤ cell x j +ℤ (cell v dim *ℤ m.num *ℤ cell x dim) *ℤ cell flat j
    moved_column j = by_place (cases_eq j dim) (cases_lt j dim)
      where
        by_place : (j ≡ dim) ⊎ (j ≢ dim) → (j < dim) ⊎ (dim ≤ j) → (cell x dim *ℤ m.den *ℤ cell y dim) *ℤ cell v j ≡ (cell v dim *ℤ m.den *ℤ cell y dim) *ℤ cell x j +ℤ (cell v dim *ℤ m.num *ℤ cell x dim) *ℤ cell flat j
        by_place (inl e) k =
            subst (λ n. (cell x dim *ℤ m.den *ℤ cell y dim) *ℤ cell v n ≡ (cell v dim *ℤ m.den *ℤ cell y dim) *ℤ cell x n +ℤ (cell v dim *ℤ m.num *ℤ cell x dim) *ℤ cell flat n) (sym e)
            (at_last m.den (cell x dim) (cell y dim) (cell v dim) (cell v dim *ℤ m.num *ℤ cell x dim) (cell flat dim) (cell-levelled_last dim y y_point.wide))
        by_place (inr ne) (inl h) =
            m.columns j h
            ∙ before_last m.den (cell x dim) (cell y dim) (cell v dim) (cell x j) m.num (cell y j)
            ∙ ap (λ z. (cell v dim *ℤ m.den *ℤ cell y dim) *ℤ cell x j +ℤ (cell v dim *ℤ m.num *ℤ cell x dim) *ℤ z) (sym (cell-levelled_other dim y j ne))
        by_place (inr ne) (inr h) =
            past_last (cell x dim *ℤ m.den *ℤ cell y dim) (cell v j) (cell v dim *ℤ m.den *ℤ cell y dim) (cell x j) (cell v dim *ℤ m.num *ℤ cell x dim) (cell flat j)
            (get_or_past v j (pos 0) (omega (arith, m.point.wide, h, ne)))
            (get_or_past x j (pos 0) (omega (arith, x_point.wide, h, ne)))
            (flat_past j ne h)

    moved_sum : IsSumOf v (cell v dim *ℤ m.den *ℤ cell y dim) x (cell v dim *ℤ m.num *ℤ cell x dim) flat
    moved_sum = record {
      times = cell x dim *ℤ m.den *ℤ cell y dim;
      positive = mul-positive (cell x dim *ℤ m.den) (cell y dim) (mul-positive (cell x dim) m.den x_point.positive m.positive) y_point.positive;
      same = moved_column;
    }

    least : (z : ℤ) → pos 0 <ℤ z → pos 0 ≤ℤ z
    least z h = omega (arith, ints, h)

    -- a constraint that holds at the start, and whose row without the constant is as it asks at the velocity
    pub moved_satisfies : (c : Constraint) → Satisfies x c → Allows (level_kind c.1) (dot c.0 flat) → Satisfies v c
    moved_satisfies c h g =
        zero_sum_of c.1 moved_sum.times (dot c.0 v) (cell v dim *ℤ m.den *ℤ cell y dim) (dot c.0 x) (cell v dim *ℤ m.num *ℤ cell x dim) (dot c.0 flat) moved_sum.positive
        (mul-positive (cell v dim *ℤ m.den) (cell y dim) (mul-positive (cell v dim) m.den m.point.positive m.positive) y_point.positive)
        (mul-at_least_zero (cell v dim *ℤ m.num) (cell x dim) (mul-at_least_zero (cell v dim) m.num (least (cell v dim) m.point.positive) m.least) (least (cell x dim) x_point.positive))
        (dot_sum c.0 v (cell v dim *ℤ m.den *ℤ cell y dim) x (cell v dim *ℤ m.num *ℤ cell x dim) flat moved_sum) h g

  -- ---- far points
  abbrev pub far : ℤ → List ℤ
  far t = add x (scale t flat)

  cell-far : (t : ℤ) (j : ℕ) → cell (far t) j ≡ cell x j +ℤ t *ℤ cell flat j
  cell-far t j = cell-add x (scale t flat) j ∙ ap (λ z. cell x j +ℤ z) (cell-scale t flat j)

  still : (f x t z : ℤ) → f ≡ x +ℤ t *ℤ z → z ≡ pos 0 → f ≡ x
  still f x t z e h = let g : t *ℤ z ≡ pos 0 = ap (λ n. t *ℤ n) h ∙ mul-zero t in omega (arith, ints, e, g)

  cell-far_last : (t : ℤ) → cell (far t) dim ≡ cell x dim
  cell-far_last t = still (cell (far t) dim) (cell x dim) t (cell flat dim) (cell-far t dim) (cell-levelled_last dim y y_point.wide)

  far_column : (xd yd xj yj t : ℤ) → (xd *ℤ xd *ℤ yd) *ℤ (xj +ℤ t *ℤ yj) ≡ xd *ℤ (xj *ℤ xd *ℤ yd +ℤ (t *ℤ yd) *ℤ yj *ℤ xd)
  far_column xd yd xj yj t = simp ring (omega (arith, ints))

  pub far_moved : (t : ℤ) → pos 0 ≤ℤ t → IsMoved dim x y (far t)
  far_moved t p = record {
    point = record {
      wide = length-add x (scale t flat) (x_point.wide ∙ sym (length-scale t flat ∙ length-levelled dim y ∙ y_point.wide)) ∙ length-scale t flat ∙ length-levelled dim y ∙ y_point.wide;
      positive = subst (λ z. pos 0 <ℤ z) (sym (cell-far_last t)) x_point.positive;
    };
    num = t *ℤ cell y dim;
    den = cell x dim;
    least = mul-at_least_zero t (cell y dim) p (omega (arith, ints, y_point.positive));
    positive = x_point.positive;
    columns = λ j h.
        ap (λ z. (cell x dim *ℤ cell x dim *ℤ cell y dim) *ℤ z) (cell-far t j ∙ ap (λ z. cell x j +ℤ t *ℤ z) (cell-levelled_other dim y j (omega (arith, h))))
        ∙ far_column (cell x dim) (cell y dim) (cell x j) (cell y j) t
        ∙ ap (λ z. z *ℤ (cell x j *ℤ cell x dim *ℤ cell y dim +ℤ (t *ℤ cell y dim) *ℤ cell y j *ℤ cell x dim)) (sym (cell-far_last t));
  }

  dot-far : (a : List ℤ) (t : ℤ) → dot a (far t) ≡ t *ℤ dot a flat +ℤ dot a x
  dot-far a t = dot-add a x (scale t flat) ∙ ap (λ z. dot a x +ℤ z) (dot-scale a t flat) ∙ turned (dot a x) (t *ℤ dot a flat)
    where
      turned : (u w : ℤ) → u +ℤ w ≡ w +ℤ u
      turned u w = omega (arith, ints)

  start_again : (den xd yd xj z : ℤ) → z ≡ pos 0 → (xd *ℤ den *ℤ yd) *ℤ xj ≡ xd *ℤ (xj *ℤ den *ℤ yd +ℤ z)
  start_again den xd yd xj z e =
      let f : (xd *ℤ den *ℤ yd) *ℤ xj ≡ xd *ℤ (xj *ℤ den *ℤ yd) = simp ring (omega (arith, ints)) in
      f ∙ ap (λ n. xd *ℤ n) (sym (ap (λ n. xj *ℤ den *ℤ yd +ℤ n) e ∙ add_zero (xj *ℤ den *ℤ yd)))
    where
      add_zero : (z : ℤ) → z +ℤ pos 0 ≡ z
      add_zero z = omega (arith, ints)

  no_time : (yj xd : ℤ) → pos 0 *ℤ yj *ℤ xd ≡ pos 0
  no_time yj xd = ap (λ n. n *ℤ xd) (zero-mul yj) ∙ zero-mul xd

  -- the start is moved by no time
  pub start_moved : IsMoved dim x y x
  start_moved = record {
    point = x_point;
    num = pos 0;
    den = pos 1;
    least = omega (arith, ints);
    positive = omega (arith, ints);
    columns = λ j h. start_again (pos 1) (cell x dim) (cell y dim) (cell x j) (pos 0 *ℤ cell y j *ℤ cell x dim) (no_time (cell y j) (cell x dim));
  }

  -- ---- what holds at all of them
  zero_slope : (l u : ℤ) → ((t : ℤ) → pos 0 ≤ℤ t → t *ℤ l +ℤ u ≡ pos 0) → l ≡ pos 0
  zero_slope l u h = let a = h (pos 0) (omega (arith, ints)) in let b = h (pos 1) (omega (arith, ints)) in omega (arith, ints, a, b)

  level_allowed : (kind : ConKind) (l u : ℤ) → ((t : ℤ) → pos 0 ≤ℤ t → Allows kind (t *ℤ l +ℤ u)) → Allows (level_kind kind) l
  level_allowed Eq l u h = zero_slope l u h
  level_allowed Ge l u h = slope_least l u h
  level_allowed Gt l u h = slope_least l u (λ t p. let a = h t p in omega (arith, ints, a))

  pub level_of_moved : (c : Constraint) → ((v : List ℤ) → IsMoved dim x y v → Satisfies v c) → Allows (level_kind c.1) (dot c.0 flat)
  level_of_moved c h = level_allowed c.1 (dot c.0 flat) (dot c.0 x) (λ t p. subst (Allows c.1) (dot-far c.0 t) (h (far t) (far_moved t p)))
