-- Inclusion of shapes by their bounds.
use Rattle.std.specs.Prelude.{◌≡◌, ℕ, ◌+◌, ◌<◌, List, ℤ, pos, ◌+ℤ◌, ◌-ℤ◌, ◌<ℤ◌, Some, None, IfSome, unsigned_abs}
use Rattle.std.proofs.Common.{arith, sym, refl, subst, inl, inr}
use Rattle.std.proofs.lemmas.Int.{ints}
use Rattle.row_core.specs.Points.{IsPoint}
use Rattle.difference_bounds.specs.declared.fraction.Fraction.{Fraction}
use Rattle.difference_bounds.specs.Fractions.{IsFraction}
use Rattle.difference_bounds.specs.Walks.{Bound, Bounds, nothing}
use Rattle.difference_bounds.specs.Values.{Values, Meets, IsReached, IsExceeded, IsTightAt, IsTight}
use Rattle.difference_bounds.specs.Tables.{HasZeros}
use Rattle.difference_bounds.specs.Laws.{IsCovered, IsGreater}
use Rattle.difference_bounds.specs.Combining.{AreCovered, AreGreater}
use Rattle.difference_bounds.proofs.Differences.{most_not_below, reached_most, high_gap}
use Rattle.difference_bounds.proofs.ChoiceLemmas.{within_greater, not_below_most, Allows, meets_allows, allows_meets}
use Rattle.bd_shape.specs.Shapes.{values_at}
use Rattle.bd_shape.proofs.PointValues.{point_of, point_is, point_meets, point_within}

-- ---- bounds that are at most others
covered_allows : (v : Values) (i j : ℕ) (a b : Bound) → pos 0 <ℤ v.divisor → IfSome a IsFraction → IfSome b IsFraction → IsCovered a b → Allows v i j b → Allows v i j a
covered_allows v i j None b p fa fb c h = tt
covered_allows v i j (Some x) None p fa fb c h = absurd c
covered_allows v i j (Some x) (Some y) p fa fb c h = within_greater v i j y x p fb.positive fa.positive (not_below_most x y c) h

pub covered_meets : (a b : Bounds) (m : ℕ) → ((i j : ℕ) → IfSome (a i j) IsFraction) → ((i j : ℕ) → IfSome (b i j) IsFraction) → AreCovered a b m → (v : Values) → Meets b m v → Meets a m v
covered_meets a b m fa fb c v h = allows_meets a m v h.positive (λ i j li lj. covered_allows v i j (a i j) (b i j) h.positive (fa i j) (fb i j) (c i j li lj) (meets_allows b m v h i j li lj))

-- ---- and the other way
module _ (dim : ℕ) (a b : Bounds) (fb : (i j : ℕ) → IfSome (b i j) IsFraction) (fa : (i j : ℕ) → IfSome (a i j) IsFraction) (tight : IsTight b (dim + 1)) (inside : (v : Values) → Meets b (dim + 1) v → Meets a (dim + 1) v) where
  covered_at : (i j : ℕ) → i < dim + 1 → j < dim + 1 → (x y : Bound) → a i j ≡ x → IfSome x IsFraction → IfSome y IsFraction → IsTightAt b (dim + 1) i j y → IsCovered x y
  covered_at i j li lj None y e fx fy t = tt
  covered_at i j li lj (Some x) None e fx fy t =
      let r = t (pos (unsigned_abs x.num) +ℤ pos 1) in
      high_gap x.num x.den r.values.divisor (r.values.at i -ℤ r.values.at j) fx.positive r.meets.positive r.more ((inside r.values r.meets).each i j li lj x e)
  covered_at i j li lj (Some x) (Some y) e fx fy t =
      most_not_below x y (reached_most t.values i j y x t.meets.positive fy.positive t.same ((inside t.values t.meets).each i j li lj x e))

  pub covered_by : AreCovered a b (dim + 1)
  covered_by i j li lj = covered_at i j li lj (a i j) (b i j) refl (fa i j) (fb i j) (tight i j li lj)

-- inclusion of points as inclusion of values
pub inside_by : (dim : ℕ) (a b : Bounds) → ((p : List ℤ) → IsPoint dim p → Meets b (dim + 1) (values_at dim p) → Meets a (dim + 1) (values_at dim p)) → (v : Values) → Meets b (dim + 1) v → Meets a (dim + 1) v
inside_by dim a b h v k =
    let r = h (point_of dim v) (point_is dim v k.positive) (point_meets b dim v k) in
    record { positive = k.positive; each = λ i j li lj f e. point_within dim v i j f li lj (r.each i j li lj f e) }

-- ---- the greater bounds
greater_covers : (x y r : Bound) → IsGreater x y r → IsCovered r x × IsCovered r y
greater_covers None y r e = (subst (λ (z : Bound). IsCovered z None) (sym e) tt, subst (λ (z : Bound). IsCovered z y) (sym e) tt)
greater_covers (Some x) None r e = (subst (λ (z : Bound). IsCovered z (Some x)) (sym e) tt, subst (λ (z : Bound). IsCovered z None) (sym e) tt)
greater_covers (Some x) (Some y) r (inl (h, e)) = (subst (λ (z : Bound). IsCovered z (Some x)) (sym e) (λ k. omega (arith, ints, h, k)), subst (λ (z : Bound). IsCovered z (Some y)) (sym e) (λ k. omega (arith, ints, k)))
greater_covers (Some x) (Some y) r (inr (n, e)) = (subst (λ (z : Bound). IsCovered z (Some x)) (sym e) (λ k. omega (arith, ints, k)), subst (λ (z : Bound). IsCovered z (Some y)) (sym e) n)

greater_covered : (u x y r : Bound) → IsGreater x y r → IsCovered u x → IsCovered u y → IsCovered u r
greater_covered u None y r e c d = subst (IsCovered u) (sym e) c
greater_covered u (Some x) None r e c d = subst (IsCovered u) (sym e) d
greater_covered u (Some x) (Some y) r (inl (h, e)) c d = subst (IsCovered u) (sym e) d
greater_covered u (Some x) (Some y) r (inr (n, e)) c d = subst (IsCovered u) (sym e) c

module _ (dim : ℕ) (a b c : Bounds) (fa : (i j : ℕ) → IfSome (a i j) IsFraction) (fb : (i j : ℕ) → IfSome (b i j) IsFraction) (fc : (i j : ℕ) → IfSome (c i j) IsFraction) (greater : AreGreater a b (dim + 1) c) where
  pub first_inside : (v : Values) → Meets a (dim + 1) v → Meets c (dim + 1) v
  first_inside = covered_meets c a (dim + 1) fc fa (λ i j li lj. (greater_covers (a i j) (b i j) (c i j) (greater i j li lj)).0)

  pub second_inside : (v : Values) → Meets b (dim + 1) v → Meets c (dim + 1) v
  second_inside = covered_meets c b (dim + 1) fc fb (λ i j li lj. (greater_covers (a i j) (b i j) (c i j) (greater i j li lj)).1)

  pub least_inside : (u : Bounds) → ((i j : ℕ) → IfSome (u i j) IsFraction) → AreCovered u a (dim + 1) → AreCovered u b (dim + 1) → (v : Values) → Meets c (dim + 1) v → Meets u (dim + 1) v
  least_inside u fu ca cb = covered_meets u c (dim + 1) fu fc (λ i j li lj. greater_covered (u i j) (a i j) (b i j) (c i j) (greater i j li lj) (ca i j li lj) (cb i j li lj))

  abbrev From : Bounds → Type 0
  From t = (v : Values) → Meets t (dim + 1) v → Meets c (dim + 1) v

  reached_in : (t : Bounds) → From t → (i j : ℕ) (f : Fraction) → IsReached t (dim + 1) i j f → IsReached c (dim + 1) i j f
  reached_in t h i j f r = record { values = r.values; meets = h r.values r.meets; same = r.same }

  exceeded_in : (t : Bounds) → From t → (i j : ℕ) → ((x : ℤ) → IsExceeded t (dim + 1) i j x) → (x : ℤ) → IsExceeded c (dim + 1) i j x
  exceeded_in t h i j r x = let s = r x in record { values = s.values; meets = h s.values s.meets; more = s.more }

  tight_at : (i j : ℕ) (x y r : Bound) → IsTightAt a (dim + 1) i j x → IsTightAt b (dim + 1) i j y → IsGreater x y r → IsTightAt c (dim + 1) i j r
  tight_at i j None y r ta tb e = subst (IsTightAt c (dim + 1) i j) (sym e) (exceeded_in a first_inside i j ta)
  tight_at i j (Some x) None r ta tb e = subst (IsTightAt c (dim + 1) i j) (sym e) (exceeded_in b second_inside i j tb)
  tight_at i j (Some x) (Some y) r ta tb (inl (h, e)) = subst (IsTightAt c (dim + 1) i j) (sym e) (reached_in b second_inside i j y tb)
  tight_at i j (Some x) (Some y) r ta tb (inr (n, e)) = subst (IsTightAt c (dim + 1) i j) (sym e) (reached_in a first_inside i j x ta)

  pub greater_tight : IsTight a (dim + 1) → IsTight b (dim + 1) → IsTight c (dim + 1)
  greater_tight ta tb i j li lj = tight_at i j (a i j) (b i j) (c i j) (ta i j li lj) (tb i j li lj) (greater i j li lj)

zero_greater : (r : Bound) → IsGreater (Some nothing) (Some nothing) r → r ≡ Some nothing
zero_greater r (inl (h, e)) = e
zero_greater r (inr (n, e)) = e

pub greater_zeros : (a b c : Bounds) (m : ℕ) → AreGreater a b m c → HasZeros a m → HasZeros b m → HasZeros c m
greater_zeros a b c m h za zb i li = zero_greater (c i i) (subst (λ (x : Bound). IsGreater x (Some nothing) (c i i)) (za i li) (subst (λ (x : Bound). IsGreater (a i i) x (c i i)) (zb i li) (h i i li li)))
