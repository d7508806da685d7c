-- The row of the divisor is 0 at the pivots of the equalities, and some inequality has a positive last entry.
use Rattle.std.proofs.Common.{◌≡◌, ◌≢◌, ◌⊎◌, inl, inr, ℕ, ◌+◌, ◌<◌, ◌≤◌, List, [], length, ℤ, pos, ◌+ℤ◌, ◌*ℤ◌, ◌≤ℤ◌, ◌<ℤ◌, sym, ap, ◌∙◌, subst, arith}
use Rattle.std.proofs.lemmas.Int.{ints}
use Rattle.std.proofs.lemmas.Bool.{cases_lt, cases_eq}
use Rattle.std.proofs.lemmas.List.{get_or_past}
use Rattle.std.proofs.lemmas.List.Elements.{All-from_get_or}
use Rattle.row_core.specs.Vectors.{cell, dot, combined}
use Rattle.cone_laws.specs.Cones.{Spans}
use Rattle.cone_laws.specs.Canon.{vector_at, IsEchelon}
use Rattle.cone_laws.proofs.Columns.{dot_comm, dot-multiple}
use Rattle.cone_laws.proofs.Ring.{by_sign, mul-positive, mul_comm, positive_of_mul, zero_of_mul}
use Rattle.cone_laws.proofs.EchelonForm.{zero_left, zero_right}
use Rattle.cone_laws.proofs.Factors.{at_least_zero_from_all, combined-none, combined-one}
use Rattle.cone_laws.proofs.SystemLists.{zero_on_lines}
use Rattle.stored_systems.specs.WorkLists.{divisor_row, HasPoint}
use Rattle.stored_systems.specs.StoredForms.{AreClosedSystems}
use Rattle.stored_systems.proofs.DivisorRow.{dot_divisor, cell-divisor_last, cell-divisor_other}
use Rattle.stored_systems.proofs.ClosedGenerators.{HasPositive, positive_term}
use Rattle.stored_systems.proofs.StoredPair.{inner_point, inner_within, within_cone}
use Rattle.stored_systems.proofs.NeededRows.{combined_zero}

-- a row that is 0 before its last column is a multiple of the row of the divisor
column_of : (dim : ℕ) (l : List ℤ) → length l ≡ dim + 1 → ((j : ℕ) → j < dim → cell l j ≡ pos 0) → (j : ℕ) → cell l j ≡ cell l dim *ℤ cell (divisor_row dim) j
column_of dim l w z j = by_place (cases_eq j dim) (cases_lt j dim)
  where
    at_last : (x y : ℤ) → y ≡ pos 1 → x ≡ x *ℤ y
    at_last x y e = let f = ap (λ (n : ℤ). x *ℤ n) e in omega (arith, ints, f)

    elsewhere : (a x y : ℤ) → a ≡ pos 0 → y ≡ pos 0 → a ≡ x *ℤ y
    elsewhere a x y e f = e ∙ sym (zero_right x y f)

    by_place : (j ≡ dim) ⊎ (j ≢ dim) → (j < dim) ⊎ (dim ≤ j) → cell l j ≡ cell l dim *ℤ cell (divisor_row dim) j
    by_place (inl e) x = subst (λ (n : ℕ). cell l n ≡ cell l dim *ℤ cell (divisor_row dim) n) (sym e) (at_last (cell l dim) (cell (divisor_row dim) dim) (cell-divisor_last dim))
    by_place (inr ne) (inl b) = elsewhere (cell l j) (cell l dim) (cell (divisor_row dim) j) (z j b) (cell-divisor_other dim j ne)
    by_place (inr ne) (inr b) = elsewhere (cell l j) (cell l dim) (cell (divisor_row dim) j) (get_or_past l j (pos 0) (omega (arith, w, b, ne))) (cell-divisor_other dim j ne)

pub second_positive : (f d : ℤ) → pos 0 ≤ℤ f → pos 0 <ℤ (f *ℤ d) → pos 0 <ℤ d
second_positive f d p h = by_case (by_sign f)
  where
    by_case : (pos 0 <ℤ f) ⊎ ((f <ℤ pos 0) ⊎ (f ≡ pos 0)) → pos 0 <ℤ d
    by_case (inl q) = positive_of_mul f d q h
    by_case (inr (inl q)) = absurd (omega (arith, ints))
    by_case (inr (inr q)) = absurd (omega (arith, ints, zero_left f d q, h))

-- equalities that are 0 at a point
module _ (dim : ℕ) (equalities inequalities : List (List ℤ)) (e : IsEchelon equalities inequalities) (wide : (x : ℕ) → x < length equalities → length (vector_at equalities x) ≡ dim + 1) (inner : List ℤ) (flat : (x : ℕ) → x < length equalities → dot inner (vector_at equalities x) ≡ pos 0) (positive : pos 0 <ℤ cell inner dim) where
  not_zero : (d x y z : ℤ) → d ≡ pos 0 → d ≡ x *ℤ y → y ≡ z → pos 0 <ℤ x → pos 0 <ℤ z → ⊥
  not_zero d x y z e f g q r = let m = mul-positive x z q r in omega (arith, ints, e, f, ap (λ (n : ℤ). x *ℤ n) g, m)

  -- a pivot at the last column would make the equality a multiple of the row of the divisor, which isn't 0 at a point
  pub divisor_zero : (x : ℕ) → x < length equalities → cell (divisor_row dim) (e.pivot x) ≡ pos 0
  divisor_zero x b = by_pivot (cases_eq (e.pivot x) dim)
    where
      l : List ℤ
      l = vector_at equalities x

      by_pivot : (e.pivot x ≡ dim) ⊎ (e.pivot x ≢ dim) → cell (divisor_row dim) (e.pivot x) ≡ pos 0
      by_pivot (inr ne) = cell-divisor_other dim (e.pivot x) ne
      by_pivot (inl h) =
          absurd (not_zero (dot inner l) (cell l dim) (dot inner (divisor_row dim)) (cell inner dim)
          (flat x b)
          (dot-multiple inner l (divisor_row dim) (cell l dim) (column_of dim l (wide x b) (λ j c. (e.pivots x b).before j (omega (arith, c, h)))))
          (dot_comm inner (divisor_row dim) ∙ dot_divisor dim inner)
          (subst (λ (n : ℕ). pos 0 <ℤ cell l n) h (e.pivots x b).positive)
          positive)

  line_factor : (t x k l c r : ℤ) → t *ℤ x ≡ c +ℤ r → x ≡ pos 0 → r ≡ pos 0 → c ≡ k *ℤ l → pos 0 <ℤ l → k ≡ pos 0
  line_factor t x k l c r h f g i q = let a = zero_right t x f in zero_of_mul l k q (mul_comm l k ∙ omega (arith, ints, a, h, g, i))

  rays_share : (t d x y : ℤ) → pos 0 <ℤ t → d ≡ pos 1 → t *ℤ d ≡ x +ℤ y → x ≡ pos 0 → pos 0 <ℤ y
  rays_share t d x y p q h f = let a = ap (λ (n : ℤ). t *ℤ n) q in omega (arith, ints, p, a, h, f)

  module _ (s : Spans equalities inequalities (divisor_row dim)) where
    factor_zero : (x : ℕ) → x < length equalities → cell s.line_factors x ≡ pos 0
    factor_zero x b =
        let p = e.pivot x in
        line_factor s.times (cell (divisor_row dim) p) (cell s.line_factors x) (cell (vector_at equalities x) p) (combined s.line_factors equalities p) (combined s.ray_factors inequalities p) (s.sum p) (divisor_zero x b)
        (combined_zero s.ray_factors inequalities p (All-from_get_or (λ r. cell r (e.pivot x) ≡ pos 0) inequalities [] (λ k c. e.rays_zero x k b c)))
        (combined-one s.line_factors equalities x p (λ y k ne. zero_right (cell s.line_factors y) (cell (vector_at equalities y) p) (e.lines_zero x y b k (λ q. ne (sym q)))))
        (e.pivots x b).positive

    term : HasPositive s.ray_factors inequalities dim
    term =
        positive_term s.ray_factors inequalities dim
        (rays_share s.times (cell (divisor_row dim) dim) (combined s.line_factors equalities dim) (combined s.ray_factors inequalities dim) s.positive (cell-divisor_last dim) (s.sum dim)
        (combined-none s.line_factors equalities dim (λ x b. zero_left (cell s.line_factors x) (cell (vector_at equalities x) dim) (factor_zero x b))))

    -- where the row of the divisor is spanned, some inequality has a positive last entry
    pub point_of_divisor : HasPoint dim inequalities
    point_of_divisor = record {
      index = term.index;
      below = term.below;
      positive = second_positive (cell s.ray_factors term.index) (cell (vector_at inequalities term.index) dim) (at_least_zero_from_all s.ray_factors s.at_least_zero term.index) term.above;
    }

pub systems_divisor_zero : (dim : ℕ) (lines rays equalities inequalities : List (List ℤ)) (systems : AreClosedSystems dim lines rays equalities inequalities) (x : ℕ) → x < length equalities → cell (divisor_row dim) (systems.dual.rows.system.echelon.pivot x) ≡ pos 0
systems_divisor_zero dim lines rays equalities inequalities systems =
    let w = inner_within dim lines rays equalities inequalities systems in
    divisor_zero dim equalities inequalities systems.dual.rows.system.echelon (λ x b. (systems.dual.rows.system.generates.lines_within x [] b).0.wide) (inner_point dim lines rays equalities inequalities systems)
    (λ x b. zero_on_lines (dim + 1) equalities inequalities (inner_point dim lines rays equalities inequalities systems) (within_cone dim lines rays equalities inequalities systems (inner_point dim lines rays equalities inequalities systems) w) x [] b) w.point.positive
