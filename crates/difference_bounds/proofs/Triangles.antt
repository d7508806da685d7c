-- Tight tables are those with the triangle inequality.
use Rattle.std.specs.Prelude.{◌≡◌, ℕ, ◌<◌, ℤ, pos, ◌+ℤ◌, ◌-ℤ◌, ◌≤ℤ◌, Some, None, IfSome, unsigned_abs}
use Rattle.std.proofs.Common.{refl, subst}
use Rattle.row_core.proofs.Ring.{mul-positive}
use Rattle.difference_bounds.specs.declared.fraction.Fraction.{Fraction}
use Rattle.difference_bounds.specs.Fractions.{IsFraction, sum}
use Rattle.difference_bounds.specs.Walks.{Bound, Bounds}
use Rattle.difference_bounds.specs.Values.{Values, IsWithin, Meets, IsTightAt, IsTight}
use Rattle.difference_bounds.specs.Tables.{Table, AreFractions, bounds_of}
use Rattle.difference_bounds.specs.TableLaws.{IsAtMostSum, HasTriangles, TightByTriangles}
use Rattle.difference_bounds.proofs.Weights as w
use Rattle.difference_bounds.proofs.Scaling.{IsOver, edge_to, edge_from, over_sum, at_most_to}
use Rattle.difference_bounds.proofs.Denominators.{IsTableOver, table_over}
use Rattle.difference_bounds.proofs.Tightness.{tight_by, zeros_over}
use Rattle.difference_bounds.proofs.PassLemmas.{bound_fraction}
use Rattle.difference_bounds.proofs.Differences.{reached_most, high_gap, within_sum, tight_zeros}

-- ---- tight tables
module _ (b : Bounds) (m i k j : ℕ) (li : i < m) (lk : k < m) (lj : j < m) where
  within_way : (v : Values) → Meets b m v → (g h : Fraction) → b i k ≡ Some g → b k j ≡ Some h → IsFraction g → IsFraction h → IsWithin v i j (sum g h)
  within_way v q g h e f fg fh = within_sum v i k j g h fg.positive fh.positive (q.each i k li lk g e) (q.each k j lk lj h f)

  at_most_sum : (x y z : Bound) → b i k ≡ y → b k j ≡ z → IfSome x IsFraction → IfSome y IsFraction → IfSome z IsFraction → IsTightAt b m i j x → IsAtMostSum x y z
  at_most_sum x None z e f fx fy fz t = tt
  at_most_sum x (Some g) None e f fx fy fz t = tt
  at_most_sum None (Some g) (Some h) e f fx fy fz t =
      let r = t (pos (unsigned_abs (sum g h).num) +ℤ pos 1) in
      high_gap (sum g h).num (sum g h).den r.values.divisor (r.values.at i -ℤ r.values.at j) (mul-positive g.den h.den fy.positive fz.positive) r.meets.positive r.more (within_way r.values r.meets g h e f fy fz)
  at_most_sum (Some x) (Some g) (Some h) e f fx fy fz t =
      reached_most t.values i j x (sum g h) t.meets.positive fx.positive t.same (within_way t.values t.meets g h e f fy fz)

pub triangles_of_tight : (t : Table) (m : ℕ) → AreFractions t.cells → IsTight (bounds_of t) m → HasTriangles (bounds_of t) m
triangles_of_tight t m f h = record {
  zeros = tight_zeros t m f h;
  triangle = λ i k j li lk lj. at_most_sum (bounds_of t) m i k j li lk lj (bounds_of t i j) (bounds_of t i k) (bounds_of t k j) refl refl (bound_fraction t i j f) (bound_fraction t i k f) (bound_fraction t k j f) (h i j li lj);
}

-- ---- tables with the triangle inequality
module _ (b : Bounds) (m : ℕ) (over : IsTableOver b) (h : HasTriangles b m) where
  triangle_weights : (i k j : ℕ) → i < m → k < m → j < m → (y z : ℤ) → over.weights i k ≡ Some y → over.weights k j ≡ Some z → (x : ℤ) × (over.weights i j ≡ Some x) × (x ≤ℤ (y +ℤ z))
  triangle_weights i k j li lk lj y z e f = by (edge_from over.divisor b over.weights over.scaled i k y e) (edge_from over.divisor b over.weights over.scaled k j z f)
    where
      of : (p q : Fraction) → IsOver over.divisor p y → IsOver over.divisor q z → (o : Bound) → b i j ≡ o → IsAtMostSum o (Some p) (Some q) → (x : ℤ) × (over.weights i j ≡ Some x) × (x ≤ℤ (y +ℤ z))
      of p q a c None g t = absurd t
      of p q a c (Some r) g t =
          let s = edge_to over.divisor b over.weights over.scaled i j r g in
          (s.0, s.1, at_most_to over.divisor over.positive r (sum p q) s.0 (y +ℤ z) s.2 (over_sum over.divisor p q y z a c) t)

      by : ((p : Fraction) × (b i k ≡ Some p) × IsOver over.divisor p y) → ((q : Fraction) × (b k j ≡ Some q) × IsOver over.divisor q z) → (x : ℤ) × (over.weights i j ≡ Some x) × (x ≤ℤ (y +ℤ z))
      by (p, ep, a) (q, eq, c) = of p q a c (b i j) refl (subst (λ (u : Bound). IsAtMostSum (b i j) (Some p) u) eq (subst (λ (u : Bound). IsAtMostSum (b i j) u (b k j)) ep (h.triangle i k j li lk lj)))

  pub weights_tight : w.IsTight over.weights m
  weights_tight = record { zero = zeros_over over.divisor b over.weights over.scaled m h.zeros; triangle = triangle_weights }

pub tight_of_triangles : (t : Table) (m : ℕ) → AreFractions t.cells → HasTriangles (bounds_of t) m → IsTight (bounds_of t) m
tight_of_triangles t m f h = tight_by t m (table_over t f) (weights_tight (bounds_of t) m (table_over t f) h)

pub tight_by_triangles : TightByTriangles
tight_by_triangles t m f = (triangles_of_tight t m f, tight_of_triangles t m f)
