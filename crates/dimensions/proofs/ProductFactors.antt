-- The factors of a product.
use Rattle.std.proofs.Common.{◌≡◌, ℕ, ◌+◌, ◌-◌, List, [], ◌∷◌, ◌++◌, length, take, drop, ℤ, pos, ◌<ℤ◌, refl, sym, ap, ◌∙◌, subst, arith}
use Rattle.std.specs.List.{range_with_len}
use Rattle.std.proofs.lemmas.Int.{ints}
use Rattle.std.proofs.lemmas.List.{take-append-drop, take-append-le, take_all, drop_at, length-take-le, length-append, get_or-append_right}
use Rattle.std.proofs.lemmas.List.FromFn.{length-range_with_len}
use Rattle.row_core.specs.Vectors.{cell, scale}
use Rattle.row_core.specs.Points.{IsPoint, IsSamePoint}
use Rattle.cone_laws.proofs.Ring.{mul-positive, mul_comm, one-mul}
use Rattle.cone_laws.proofs.Columns.{cell-scale, length-scale}
use Rattle.cons_sys.specs.Constraints.{In}
use Rattle.cons_sys.proofs.SystemLemmas.{In-same_point}
use Rattle.stored_systems.specs.PointSets.{IsWithin}
use Rattle.poly_pair.specs.Polyhedra.{Polyhedron}
use Rattle.mapped_systems.specs.Maps.{without, remaining, kept_variables}
use Rattle.dimensions.specs.Results.{IsImage, IsProduct, IsOfBoth}
use Rattle.dimensions.specs.Laws.{IsWithout, FirstFactorIsBack, SecondFactorIsBack}
use Rattle.mapped_systems.proofs.KeptColumns.{last_alone, remaining_back, kept_last}
use Rattle.dimensions.proofs.AddedVariables.{front_in, in_front}
use Rattle.mapped_systems.proofs.SamePoints.{same_points}
use Rattle.mapped_systems.specs.Sources.{HasSource}

scale_one : (u : List ℤ) → scale (pos 1) u ≡ u
scale_one [] = refl
scale_one (x ∷ u) = ap (λ (z : ℤ). z ∷ scale (pos 1) u) (one-mul x) ∙ ap (λ (w : List ℤ). x ∷ w) (scale_one u)

multiple_same : (t : ℤ) (v : List ℤ) → pos 0 <ℤ t → IsSamePoint v (scale t v)
multiple_same t v p = record { left = t; right = pos 1; left_positive = p; right_positive = omega (arith, ints); same = sym (scale_one (scale t v)) }

-- ---- a point of both factors, with one divisor
module _ (n m : ℕ) (v w : List ℤ) (first : IsPoint n v) (second : IsPoint m w) where
  a_wide : length (scale (cell w m) v) ≡ n + 1
  a_wide = length-scale (cell w m) v ∙ first.wide

  b_wide : length (scale (cell v n) w) ≡ m + 1
  b_wide = length-scale (cell v n) w ∙ second.wide

  front_length : length (take n (scale (cell w m) v)) ≡ n
  front_length = length-take-le n (scale (cell w m) v) (omega (arith, a_wide))

  both_wide : length (take n (scale (cell w m) v) ++ scale (cell v n) w) ≡ (n + m) + 1
  both_wide = length-append (take n (scale (cell w m) v)) (scale (cell v n) w) ∙ omega (arith, front_length, b_wide)

  same_divisor : cell (scale (cell w m) v) n ≡ cell (scale (cell v n) w) m
  same_divisor = cell-scale (cell w m) v n ∙ mul_comm (cell w m) (cell v n) ∙ sym (cell-scale (cell v n) w m)

  back_index : (n + m) - n ≡ m
  back_index = omega arith

  last_is : cell (take n (scale (cell w m) v) ++ scale (cell v n) w) (n + m) ≡ cell (scale (cell v n) w) m
  last_is = get_or-append_right (take n (scale (cell w m) v)) (scale (cell v n) w) n (n + m) (pos 0) front_length (omega arith) ∙ ap (cell (scale (cell v n) w)) back_index

  both_point : IsPoint (n + m) (take n (scale (cell w m) v) ++ scale (cell v n) w)
  both_point = record { wide = both_wide; positive = subst (λ (z : ℤ). pos 0 <ℤ z) (sym (last_is ∙ cell-scale (cell v n) w m)) (mul-positive (cell v n) (cell w m) first.positive second.positive) }

  back_is : drop n (take n (scale (cell w m) v) ++ scale (cell v n) w) ≡ scale (cell v n) w
  back_is = drop_at (take n (scale (cell w m) v)) (scale (cell v n) w) n front_length

  front_is : without n (n + m) (take n (scale (cell w m) v) ++ scale (cell v n) w) ≡ scale (cell w m) v
  front_is =
      ap (λ (xs : List ℤ). xs ++ drop (n + m) (take n (scale (cell w m) v) ++ scale (cell v n) w)) (take-append-le n (take n (scale (cell w m) v)) (scale (cell v n) w) (omega (arith, front_length)) ∙ take_all n (take n (scale (cell w m) v)) (omega (arith, front_length)))
      ∙ ap (λ (xs : List ℤ). take n (scale (cell w m) v) ++ xs) (last_alone (n + m) (take n (scale (cell w m) v) ++ scale (cell v n) w) both_wide ∙ ap (λ (z : ℤ). z ∷ []) (last_is ∙ sym same_divisor) ∙ sym (last_alone n (scale (cell w m) v) a_wide))
      ∙ take-append-drop n (scale (cell w m) v)

module _ (p q product : Polyhedron) (i : IsProduct p q product) where
  product_within : (v w : List ℤ) → IsWithin p.cons v → IsWithin q.cons w → IsWithin product.cons (take p.cons.dim (scale (cell w q.cons.dim) v) ++ scale (cell v p.cons.dim) w)
  product_within v w first second =
      let n = p.cons.dim in
      let m = q.cons.dim in
      record {
        point = subst (λ (d : ℕ). IsPoint d (take n (scale (cell w m) v) ++ scale (cell v n) w)) (sym i.over.same_dim) (both_point n m v w first.point second.point);
        holds = (i.points (take n (scale (cell w m) v) ++ scale (cell v n) w) (both_point n m v w first.point second.point)).1 (record {
          front = In-same_point p.cons v (without n (n + m) (take n (scale (cell w m) v) ++ scale (cell v n) w)) (subst (IsSamePoint v) (sym (front_is n m v w first.point second.point)) (multiple_same (cell w m) v second.point.positive)) first.holds;
          back = In-same_point q.cons w (drop n (take n (scale (cell w m) v) ++ scale (cell v n) w)) (subst (IsSamePoint w) (sym (back_is n m v w first.point second.point)) (multiple_same (cell v n) w first.point.positive)) second.holds;
        });
      }

  of_both : (x : List ℤ) → IsWithin product.cons x → IsOfBoth p q x
  of_both x within = (i.points x (subst (λ (d : ℕ). IsPoint d x) i.over.same_dim within.point)).0 within.holds

pub first_factor : FirstFactorIsBack
first_factor p q product r w second i out v pt = (
  (λ h. let first : IsWithin p.cons v = record { point = pt; holds = h } in
      in_front p product r p.cons.dim q.cons.dim i.over.same_dim refl out v (take p.cons.dim (scale (cell w q.cons.dim) v) ++ scale (cell v p.cons.dim) w) pt (product_within p q product i v w first second)
      (subst (IsSamePoint v) (sym (front_is p.cons.dim q.cons.dim v w pt second.point)) (multiple_same (cell w q.cons.dim) v second.point.positive))),
  (λ h. front_in p product r p.cons.dim q.cons.dim i.over.same_dim refl out v pt (λ x within. (of_both p q product i x within).front) h),
)

module _ (p q product r : Polyhedron) (i : IsProduct p q product) (out : IsWithout (range_with_len 0 p.cons.dim) product r) where
  at_sum : IsImage (remaining (p.cons.dim + q.cons.dim) (range_with_len 0 p.cons.dim)) (length (kept_variables (p.cons.dim + q.cons.dim) (range_with_len 0 p.cons.dim))) product r
  at_sum = subst (λ (d : ℕ). IsImage (remaining d (range_with_len 0 p.cons.dim)) (length (kept_variables d (range_with_len 0 p.cons.dim))) product r) i.over.same_dim out

  new_dim : length (kept_variables (p.cons.dim + q.cons.dim) (range_with_len 0 p.cons.dim)) ≡ q.cons.dim
  new_dim = ap length (kept_last p.cons.dim q.cons.dim) ∙ length-range_with_len p.cons.dim q.cons.dim

  at_new : (v : List ℤ) → IsPoint q.cons.dim v → IsPoint (length (kept_variables (p.cons.dim + q.cons.dim) (range_with_len 0 p.cons.dim))) v
  at_new v pt = subst (λ (d : ℕ). IsPoint d v) (sym new_dim) pt

  wide_of : (x : List ℤ) → IsWithin product.cons x → length x ≡ (p.cons.dim + q.cons.dim) + 1
  wide_of x within = within.point.wide ∙ ap (λ (d : ℕ). d + 1) i.over.same_dim

  back_in : (v : List ℤ) → IsPoint q.cons.dim v → In r.cons v → In q.cons v
  back_in v pt h =
      let s : HasSource (remaining (p.cons.dim + q.cons.dim) (range_with_len 0 p.cons.dim)) product.cons v = (at_sum.points v (at_new v pt)).0 h in
      In-same_point q.cons (drop p.cons.dim s.source) v (same_points v (drop p.cons.dim s.source) (subst (IsSamePoint v) (remaining_back p.cons.dim q.cons.dim s.source (wide_of s.source s.within)) s.same)) (of_both p q product i s.source s.within).back

  in_back : (v x : List ℤ) → IsPoint q.cons.dim v → IsWithin product.cons x → IsSamePoint v (drop p.cons.dim x) → In r.cons v
  in_back v x pt within s = (at_sum.points v (at_new v pt)).1 (record { source = x; within = within; same = subst (IsSamePoint v) (sym (remaining_back p.cons.dim q.cons.dim x (wide_of x within))) s })

pub second_factor : SecondFactorIsBack
second_factor p q product r w first i out v pt = (
  (λ h. let second : IsWithin q.cons v = record { point = pt; holds = h } in
      in_back p q product r i out v (take p.cons.dim (scale (cell v q.cons.dim) w) ++ scale (cell w p.cons.dim) v) pt (product_within p q product i w v first second)
      (subst (IsSamePoint v) (sym (back_is p.cons.dim q.cons.dim w v first.point pt)) (multiple_same (cell w p.cons.dim) v first.point.positive))),
  (λ h. back_in p q product r i out v pt h),
)
