-- A shape is that of its points, and each of its bounds a greatest difference.
use Rattle.std.specs.Prelude.{◌≡◌, ◌↔◌, ℕ, ◌+◌, ◌*◌, ◌/◌, ◌%◌, ◌<◌, List, length, ℤ, ◌-ℤ◌, ◌*ℤ◌, ◌≤ℤ◌, Option, Some, None, IfSome, slice_index_or}
use Rattle.std.proofs.Common.{arith, sym, ◌∙◌, ap, refl, subst}
use Rattle.std.proofs.lemmas.Int.{ints}
use Rattle.std.proofs.lemmas.List.{ext_get_or}
use Rattle.std.proofs.Math.Nat.{div-add-mod, mod-lt, div-lt_iff_lt-mul}
use Rattle.row_core.specs.Vectors.{cell}
use Rattle.optimum.proofs.OneBound.{one_form}
use Rattle.difference_bounds.specs.declared.fraction.Fraction.{Fraction}
use Rattle.difference_bounds.specs.Fractions.{IsFraction}
use Rattle.difference_bounds.specs.Walks.{Bound}
use Rattle.difference_bounds.specs.Values.{Values, Meets, IsTightAt}
use Rattle.difference_bounds.specs.Tables.{Table, IsTable, bounds_of}
use Rattle.difference_bounds.specs.Laws.{IsCovered}
use Rattle.difference_bounds.proofs.PassLemmas.{bound_fraction}
use Rattle.difference_bounds.proofs.ChoiceLemmas.{not_below_most}
use Rattle.bd_shape.specs.Shapes.{DifferenceShape, IsIn, IsInBounds, IsShape, IsTightTable, Includes, place_value}
use Rattle.bd_shape.specs.Laws.{IsGreatestAt, BoundsAreGreatest, EmptyWithoutPoints, HasOneShape, ReturnsShape, IncludesPolyhedron}
use Rattle.bd_shape.proofs.PointValues.{point_of, point_is, point_meets, difference_is, divisor_is}
use Rattle.bd_shape.proofs.ShapePoints.{table_of, within_of, is_in_of, includes_covers, zero_inside, empty_contains}
use Rattle.bd_shape.proofs.GivenTables.{same_fraction}

-- ---- greatest differences
module _ (s : DifferenceShape) (t : Table) (h : IsShape s) (e : s.bounds ≡ Some t) (i j : ℕ) (li : i < s.dim + 1) (lj : j < s.dim + 1) where
  inside : (v : Values) → Meets (bounds_of t) (s.dim + 1) v → IsIn s (point_of s.dim v)
  inside v k = is_in_of s t (point_of s.dim v) e (point_is s.dim v k.positive) (point_meets (bounds_of t) s.dim v k)

  moved : (v : Values) (x y : ℤ) → x *ℤ (v.at i -ℤ v.at j) ≡ y *ℤ v.divisor → x *ℤ (place_value (point_of s.dim v) i -ℤ place_value (point_of s.dim v) j) ≡ y *ℤ cell (point_of s.dim v) s.dim
  moved v x y q = ap (λ (z : ℤ). x *ℤ z) (difference_is s.dim v i j li lj) ∙ q ∙ ap (λ (z : ℤ). y *ℤ z) (sym (divisor_is s.dim v))

  moved_least : (v : Values) (x : ℤ) → (x *ℤ v.divisor) ≤ℤ (v.at i -ℤ v.at j) → (x *ℤ cell (point_of s.dim v) s.dim) ≤ℤ (place_value (point_of s.dim v) i -ℤ place_value (point_of s.dim v) j)
  moved_least v x q = subst (λ (z : ℤ). (x *ℤ z) ≤ℤ (place_value (point_of s.dim v) i -ℤ place_value (point_of s.dim v) j)) (sym (divisor_is s.dim v)) (subst (λ (z : ℤ). (x *ℤ v.divisor) ≤ℤ z) (sym (difference_is s.dim v i j li lj)) q)

  greatest : (o : Bound) → bounds_of t i j ≡ o → IsTightAt (bounds_of t) (s.dim + 1) i j o → IsGreatestAt s i j o
  greatest None q k = λ x. let r = k x in record { point = point_of s.dim r.values; inside = inside r.values r.meets; more = moved_least r.values x r.more }
  greatest (Some f) q k = record {
    bound = λ p w. (within_of s t p e w).each i j li lj f q;
    point = point_of s.dim k.values;
    inside = inside k.values k.meets;
    reached = moved k.values f.den f.num k.same;
  }

  pub greatest_at : IsGreatestAt s i j (bounds_of t i j)
  greatest_at = greatest (bounds_of t i j) refl ((table_of s t h e).tight i j li lj)

pub bounds_are_greatest : BoundsAreGreatest
bounds_are_greatest s t h e i j li lj = greatest_at s t h e i j li lj

pub empty_without_points : EmptyWithoutPoints
empty_without_points s h = (λ e p k. subst (λ (o : Option Table). IsInBounds o s.dim p) e k.within, λ n. from n s.bounds refl)
  where
    from : ((p : List ℤ) → ¬ (IsIn s p)) → (o : Option Table) → s.bounds ≡ o → o ≡ None
    from n None e = refl
    from n (Some t) e = let r = zero_inside s t h e in absurd (n r.0 r.1)

-- ---- one shape
most_both : (x y : ℤ) → x ≤ℤ y → y ≤ℤ x → x ≡ y
most_both x y h k = omega (arith, ints, h, k)

covered_same : (x y : Bound) → IfSome x IsFraction → IfSome y IsFraction → IsCovered x y → IsCovered y x → x ≡ y
covered_same None None fx fy c d = refl
covered_same None (Some y) fx fy c d = absurd d
covered_same (Some x) None fx fy c d = absurd c
covered_same (Some x) (Some y) fx fy c d = ap (λ (z : Fraction). Some z) (same_fraction x y (one_form x.num x.den y.num y.den fx.lowest fy.lowest fx.positive fy.positive (most_both (x.num *ℤ y.den) (y.num *ℤ x.den) (not_below_most y x d) (not_below_most x y c))))

same_table : (a b : Table) (m : ℕ) → 0 < m → a.places ≡ m → b.places ≡ m → length a.cells ≡ m * m → length b.cells ≡ m * m → ((i j : ℕ) → i < m → j < m → bounds_of a i j ≡ bounds_of b i j) → a ≡ b
same_table a b m above ea eb la lb h = joined (ea ∙ sym eb) (ext_get_or None a.cells b.cells (la ∙ sym lb) cells)
  where
    joined : a.places ≡ b.places → a.cells ≡ b.cells → a ≡ b
    joined p q = let r : record { places = a.places; cells = a.cells } ≡ record { places = b.places; cells = b.cells } = cc in r

    place : (k : ℕ) (n : ℕ) → n ≡ m → (k / m) * n + k % m ≡ k
    place k n e = ap (λ (z : ℕ). (k / m) * z + k % m) e ∙ (let p = div-add-mod k m in omega (arith, p))

    cells : (k : ℕ) → k < length a.cells → slice_index_or a.cells k None ≡ slice_index_or b.cells k None
    cells k l =
        let less : k < m * m = omega (arith, l, la) in
        ap (λ (z : ℕ). slice_index_or a.cells z None) (sym (place k a.places ea))
        ∙ h (k / m) (k % m) ((div-lt_iff_lt-mul above).1 less) (mod-lt k above)
        ∙ ap (λ (z : ℕ). slice_index_or b.cells z None) (place k b.places eb)

module _ (s r : DifferenceShape) (hs : IsShape s) (hr : IsShape r) (e : r.dim ≡ s.dim) (same : (p : List ℤ) → IsIn r p ↔ IsIn s p) where
  to : Includes s r
  to p k = (same p).0 k

  from : Includes r s
  from p k = (same p).1 k

  joined : s.bounds ≡ r.bounds → r ≡ s
  joined q = let k : record { dim = r.dim; bounds = r.bounds } ≡ record { dim = s.dim; bounds = s.bounds } = cc in k

  tables : (a b : Table) → s.bounds ≡ Some a → r.bounds ≡ Some b → a ≡ b
  tables a b ea eb =
      let ta = table_of s a hs ea in
      let tb : IsTightTable s.dim b = subst (λ (n : ℕ). IsTightTable n b) e (table_of r b hr eb) in
      let ca = includes_covers s r a b hs hr ea eb e to in
      let cb = includes_covers r s b a hr hs eb ea (sym e) from in
      same_table a b (s.dim + 1) (omega arith) ta.places tb.places (ta.table.full ∙ ap (λ (n : ℕ). n * n) ta.places) (tb.table.full ∙ ap (λ (n : ℕ). n * n) tb.places)
      (λ i j li lj. covered_same (bounds_of a i j) (bounds_of b i j) (bound_fraction a i j ta.table.fractions) (bound_fraction b i j tb.table.fractions) (ca i j (subst (λ (n : ℕ). i < n + 1) (sym e) li) (subst (λ (n : ℕ). j < n + 1) (sym e) lj)) (cb i j li lj))

  same_bounds : (o q : Option Table) → s.bounds ≡ o → r.bounds ≡ q → o ≡ q
  same_bounds None None eo eq = refl
  same_bounds None (Some b) eo eq = absurd (empty_contains s r b hr eo eq to)
  same_bounds (Some a) None eo eq = absurd (empty_contains r s a hs eq eo from)
  same_bounds (Some a) (Some b) eo eq = ap (λ (t : Table). Some t) (tables a b eo eq)

  pub same_shape : r ≡ s
  same_shape = joined (same_bounds s.bounds r.bounds refl refl)

pub one_shape : HasOneShape
one_shape s r hs hr e same = same_shape s r hs hr e same

-- ---- there and back
if_table : (s : DifferenceShape) → IsShape s → IfSome s.bounds IsTable
if_table s h = by s.bounds h.tight
  where
    by : (o : Option Table) → IfSome o (IsTightTable s.dim) → IfSome o IsTable
    by None k = tt
    by (Some t) k = k.table

pub returns_shape : ReturnsShape
returns_shape s r p hs hr ep er points small = one_shape s r hs hr (er ∙ ep) (λ q. (small.least s (sym ep) (if_table s hs) (λ v w. (points v).0 w) q, λ k. small.includes q ((points q).1 k)))

pub includes_polyhedron : IncludesPolyhedron
includes_polyhedron p q s small points v w = (points v).1 (small.includes v w)
