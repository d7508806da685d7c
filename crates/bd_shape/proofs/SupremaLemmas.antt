-- The suprema of differences as the bounds of a shape.
use Rattle.std.specs.Prelude.{◌≡◌, ◌≢◌, ◌⊎◌, ℕ, ◌+◌, ◌*◌, ◌<◌, ◌≤◌, List, [], ◌∷◌, length, take, ℤ, pos, ◌+ℤ◌, ◌-ℤ◌, ◌*ℤ◌, ◌≤ℤ◌, ◌<ℤ◌, Option, Some, None, IfSome, Bool, true, Ok, unsigned_abs}
use Rattle.std.proofs.Common.{arith, sym, ◌∙◌, ap, refl, subst, inl, inr}
use Rattle.std.proofs.lemmas.Int.{ints, unsigned_abs-mul}
use Rattle.std.proofs.lemmas.Bool.{cases_order}
use Rattle.std.proofs.lemmas.Option.{same_Some}
use Rattle.std.proofs.lemmas.List.{take_all}
use Rattle.std.proofs.Math.Nat.{mul-le-mul_left}
use Rattle.row_core.specs.Vectors.{cell, dot}
use Rattle.row_core.specs.Range.{InRange, AllStay, DotStays}
use Rattle.row_core.specs.Content.{IsPrimitive}
use Rattle.gens_sys.specs.Generators.{row_at, kind_at, generator_at, IsGenerator, FitDimension}
use Rattle.gens_sys.specs.declared.kind.GenKind.{GenKind}
use Rattle.gens_sys.specs.declared.kind.GenKind.TheVariants.{Line, Ray, Point, ClosurePoint}
use Rattle.stored_systems.specs.PointSets.{IsWithin, IsClosedGenKind}
use Rattle.stored_systems.specs.StoredForms.{IsStored}
use Rattle.stored_systems.proofs.Stored.{stored_is_closed, pair_point}
use Rattle.poly_pair.specs.Polyhedra.{Polyhedron, IsKept, IsStoredAs}
use Rattle.poly_pair.specs.declared.topology.Topology.{Topology}
use Rattle.poly_pair.specs.declared.topology.Topology.TheVariants.{Closed}
use Rattle.poly_pair.proofs.StoredLemmas.{kept_dim}
use Rattle.optimum.specs.Search.{IsPointKind}
use Rattle.optimum.specs.Suprema.{SupAnswer, IsTrueSup, IsSupremum, HasBeyond, IsFound}
use Rattle.optimum.specs.declared.outcome.Sup.{Sup}
use Rattle.optimum.specs.declared.outcome.Sup.TheVariants as sup
use Rattle.difference_bounds.specs.declared.fraction.Fraction.{Fraction}
use Rattle.difference_bounds.specs.Fractions.{IsFraction}
use Rattle.difference_bounds.specs.Walks.{Bound, Bounds, nothing}
use Rattle.difference_bounds.specs.Values.{IsWithin as IsWithinBound, Meets, IsReached, IsExceeded, IsTightAt, IsTight}
use Rattle.difference_bounds.specs.Tables.{Table, IsTable, HasZeros, bounds_of, Differs}
use Rattle.difference_bounds.specs.Laws.{IsCovered}
use Rattle.difference_bounds.specs.Combining.{AreCovered}
use Rattle.difference_bounds.proofs.FractionLemmas.{IsTimes, lowest_times}
use Rattle.difference_bounds.proofs.PassLemmas.{bound_fraction, here_or, before_less}
use Rattle.poly_pair.specs.declared.topology.TheConstants.{MAX_DIM}
use Rattle.bd_shape.specs.Shapes.{DifferenceShape, IsIn, IsInBounds, IsShape, Includes, place_value, values_at}
use Rattle.bd_shape.specs.Differences.{difference}
use Rattle.bd_shape.specs.Suprema.{IsSupremumOf, AreSuprema, IsSmallest, IsFoundAt, IsFinding, answered}
use Rattle.bd_shape.proofs.DifferenceRows.{length_difference, difference_value}
use Rattle.difference_bounds.proofs.Differences.{most_not_below, reached_most, high_gap}
use Rattle.bd_shape.proofs.Inclusions.{covered_meets}
use Rattle.bd_shape.proofs.ShapePoints.{is_in_of, within_of, meets_over, point_over}

-- ---- a closed polyhedron attains each bound
closed_kind : (p : Polyhedron) → IsKept p → p.topology ≡ Closed → (b : ℕ) → b < length p.gens.list → IsClosedGenKind (kind_at p.gens.list b)
closed_kind p k e b l =
    let s : IsStored p.cons p.gens = subst (λ (t : Topology). IsStoredAs t p.cons p.gens) e k.stored in
    ((stored_is_closed p.cons p.gens s).gens b ([], Line) l).kind

is_point : (g : GenKind) → IsPointKind g → IsClosedGenKind g → g ≡ Point
is_point Line h k = absurd h
is_point Ray h k = absurd h
is_point Point h k = refl
is_point ClosurePoint h k = absurd k

pub attained_is : (p : Polyhedron) → IsKept p → p.topology ≡ Closed → (row : List ℤ) (num den : ℤ) (attained : Bool) (b : ℕ) → IsFound true row p.gens num den attained b → attained ≡ true
attained_is p k e row num den attained b f = f.point.1 (is_point (kind_at p.gens.list b) f.best.kind (closed_kind p k e b f.best.below))

-- ---- its numbers are of the range
times_less : (t x y : ℕ) → 0 < t → y ≡ t * x → x ≤ y
times_less t x y h e = let s : x * 1 ≤ x * t = mul-le-mul_left x h in omega (arith, s, e)

part_in_range : (t x y : ℤ) → pos 0 <ℤ t → y ≡ t *ℤ x → InRange y → InRange x
part_in_range t x y h e r =
    let a : unsigned_abs y ≡ unsigned_abs t * unsigned_abs x = ap unsigned_abs e ∙ unsigned_abs-mul t x in
    let b : 0 < unsigned_abs t = omega (arith, ints) in
    let c = times_less (unsigned_abs t) (unsigned_abs x) (unsigned_abs y) b a in
    let d = r.size in
    record { size = omega (arith, c, d) }

last_stays : (u v : List ℤ) (n : ℕ) → length u ≡ n + 1 → length v ≡ n + 1 → AllStay (DotStays u v) (length u) → InRange (dot u v)
last_stays u v n e f h =
    let s = (h n (omega (arith, e))).sum in
    subst (λ (x : List ℤ). InRange (dot x v)) (take_all (n + 1) u (omega (arith, e))) (subst (λ (x : List ℤ). InRange (dot (take (n + 1) u) x)) (take_all (n + 1) v (omega (arith, f))) s)

pub found_fraction : (p : Polyhedron) → IsKept p → FitDimension p.gens → (row : List ℤ) → length row ≡ p.cons.dim + 1 → (num den : ℤ) (attained : Bool) (b : ℕ) → pos 0 <ℤ den → IsPrimitive (num ∷ den ∷ []) → IsFound true row p.gens num den attained b → IsFraction (record { num = num; den = den })
found_fraction p k fits row w num den attained b above low f =
    let g : IsGenerator p.gens.dim (generator_at p.gens.list b) = fits.each b ([], Line) f.best.below in
    let d = kept_dim p k in
    let t : IsTimes (record { num = dot row (row_at p.gens.list b); den = cell (row_at p.gens.list b) p.gens.dim }) (record { num = num; den = den }) = lowest_times (record { num = dot row (row_at p.gens.list b); den = cell (row_at p.gens.list b) p.gens.dim }) (record { num = num; den = den }) f.lowest in
    let value : InRange (dot row (row_at p.gens.list b)) = last_stays row (row_at p.gens.list b) p.cons.dim w (let e = g.wide in omega (arith, e, d)) (f.reached b f.best.below).stays in
    let divisor : InRange (cell (row_at p.gens.list b) p.gens.dim) = g.in_range p.gens.dim (pos 0) (let e = g.wide in omega (arith, e)) in
    record {
      positive = above;
      lowest = low;
      num = part_in_range t.times num (dot row (row_at p.gens.list b)) t.positive t.num value;
      den = part_in_range t.times den (cell (row_at p.gens.list b) p.gens.dim) t.positive t.den divisor;
    }

-- ---- the bound of an answer
module _ (p : Polyhedron) (k : IsKept p) (closed : p.topology ≡ Closed) (some : p.gens.list ≢ []) (i j : ℕ) where
  abbrev row : List ℤ
  row = difference p.cons.dim i j

  pub bound_supremum : (r : Sup) → SupAnswer true row p.gens (Ok r) → IsTrueSup true row p r → IsSupremumOf p i j (answered r)
  bound_supremum sup.Empty a t = absurd (some a)
  bound_supremum sup.Unbounded a t = t
  bound_supremum (sup.At num den attained index) a t = subst (λ (b : Bool). IsSupremum true row p.cons.dim (IsWithin p.cons) num den b) (attained_is p k closed row num den attained index a) t

  pub bound_fraction_of : FitDimension p.gens → (r : Sup) → SupAnswer true row p.gens (Ok r) → IsTrueSup true row p r → IfSome (answered r) IsFraction
  bound_fraction_of fits sup.Empty a t = tt
  bound_fraction_of fits sup.Unbounded a t = tt
  bound_fraction_of fits (sup.At num den attained index) a t = found_fraction p k fits row (length_difference p.cons.dim i j) num den attained index t.positive t.lowest a

-- ---- the loops
pub finds_more : (p : Polyhedron) (t u : Table) (n r c : ℕ) (x : Bound) → n ≡ p.cons.dim + 1 → r < p.cons.dim + 1 → c < p.cons.dim + 1 → r ≢ c → bounds_of u r c ≡ x → ((a b : ℕ) → a < n → b < n → Differs r c a b → bounds_of u a b ≡ bounds_of t a b) → IsSupremumOf p r c x → IsFoundAt p r c → IsFinding p t r c → IsFinding p u r (c + 1)
finds_more p t u n r c x e lr lc apart here s h f q = record {
  zeros = λ a la. else_where a a la la (λ y. apart (sym y.0 ∙ y.1)) ∙ q.zeros a la;
  suprema = λ a b la lb d y. elim (here_or r c a b) [ inl g ↦ at_here a b g | inr g ↦ subst (IsSupremumOf p a b) (sym (else_where a b la lb g)) (q.suprema a b la lb d (before_less r c a b g y)) ];
  found = λ a b la lb d y. elim (here_or r c a b) [ inl g ↦ subst (λ (z : ℕ). IsFoundAt p z b) (sym g.0) (subst (λ (z : ℕ). IsFoundAt p r z) (sym g.1) f) | inr g ↦ q.found a b la lb d (before_less r c a b g y) ];
}
  where
    else_where : (a b : ℕ) → a < p.cons.dim + 1 → b < p.cons.dim + 1 → Differs r c a b → bounds_of u a b ≡ bounds_of t a b
    else_where a b la lb d = s a b (subst (λ (z : ℕ). a < z) (sym e) la) (subst (λ (z : ℕ). b < z) (sym e) lb) d

    at_here : (a b : ℕ) → (a ≡ r) × (b ≡ c) → IsSupremumOf p a b (bounds_of u a b)
    at_here a b (g, k) = subst (λ (z : ℕ). IsSupremumOf p z b (bounds_of u z b)) (sym g) (subst (λ (z : ℕ). IsSupremumOf p r z (bounds_of u r z)) (sym k) (subst (IsSupremumOf p r c) (sym here) h))

-- ---- the shape
module _ (p : Polyhedron) (t : Table) (table : IsTable t) (zeros : HasZeros (bounds_of t) (p.cons.dim + 1)) (suprema : AreSuprema p (bounds_of t)) where
  abbrev m : ℕ
  m = p.cons.dim + 1

  -- what the row says of the values
  value_is : (i j : ℕ) (q : List ℤ) → i < m → j < m → i ≢ j → IsWithin p.cons q → dot (difference p.cons.dim i j) q ≡ place_value q i -ℤ place_value q j
  value_is i j q li lj d w = difference_value p.cons.dim i j q li lj d w.point.wide

  within_at : (i j : ℕ) (f : Fraction) (q : List ℤ) → i < m → j < m → i ≢ j → IsWithin p.cons q → IsSupremumOf p i j (Some f) → IsWithinBound (values_at p.cons.dim q) i j f
  within_at i j f q li lj d w h = subst (λ (z : ℤ). (f.den *ℤ z) ≤ℤ (f.num *ℤ cell q p.cons.dim)) (value_is i j q li lj d w) (h.bound q w)

  zero_within : (q : List ℤ) (i : ℕ) (f : Fraction) → bounds_of t i i ≡ Some f → i < m → IsWithinBound (values_at p.cons.dim q) i i f
  zero_within q i f e li = subst (λ (g : Fraction). IsWithinBound (values_at p.cons.dim q) i i g) (same_Some nothing f (sym (zeros i li) ∙ e)) (omega (arith, ints))

  pub point_meets_all : (q : List ℤ) → IsWithin p.cons q → Meets (bounds_of t) m (values_at p.cons.dim q)
  point_meets_all q w = record { positive = w.point.positive; each = λ i j li lj f e. by i j li lj f e (cases_order i j) }
    where
      apart : (i j : ℕ) → i < m → j < m → (f : Fraction) → bounds_of t i j ≡ Some f → i ≢ j → IsWithinBound (values_at p.cons.dim q) i j f
      apart i j li lj f e d = within_at i j f q li lj d w (subst (IsSupremumOf p i j) e (suprema i j li lj d))

      by : (i j : ℕ) → i < m → j < m → (f : Fraction) → bounds_of t i j ≡ Some f → (i ≡ j) ⊎ ((i < j) ⊎ (j < i)) → IsWithinBound (values_at p.cons.dim q) i j f
      by i j li lj f e (inl d) = subst (λ (z : ℕ). IsWithinBound (values_at p.cons.dim q) i z f) d (zero_within q i f (ap (λ (z : ℕ). bounds_of t i z) d ∙ e) li)
      by i j li lj f e (inr (inl l)) = apart i j li lj f e (λ z. omega arith)
      by i j li lj f e (inr (inr l)) = apart i j li lj f e (λ z. omega arith)

  reached_by : (i j : ℕ) (f : Fraction) → i < m → j < m → i ≢ j → (q : List ℤ) → IsWithin p.cons q → f.den *ℤ dot (difference p.cons.dim i j) q ≡ f.num *ℤ cell q p.cons.dim → IsReached (bounds_of t) m i j f
  reached_by i j f li lj d q w e = record { values = values_at p.cons.dim q; meets = point_meets_all q w; same = ap (λ (z : ℤ). f.den *ℤ z) (sym (value_is i j q li lj d w)) ∙ e }

  exceeded_by : (i j : ℕ) (x : ℤ) → i < m → j < m → i ≢ j → HasBeyond true (difference p.cons.dim i j) p.cons.dim (IsWithin p.cons) x (pos 1) → IsExceeded (bounds_of t) m i j x
  exceeded_by i j x li lj d (q, w, s) = record { values = values_at p.cons.dim q; meets = point_meets_all q w; more = (let e = value_is i j q li lj d w in omega (arith, ints, e, s)) }

  tight_apart : (i j : ℕ) → i < m → j < m → i ≢ j → (o : Bound) → IsSupremumOf p i j o → IsTightAt (bounds_of t) m i j o
  tight_apart i j li lj d None h = λ x. exceeded_by i j x li lj d (h x)
  tight_apart i j li lj d (Some f) h = let r = h.reached.0 refl in reached_by i j f li lj d r.0 r.1 r.2

  tight_itself : (q : List ℤ) → IsWithin p.cons q → (i : ℕ) → i < m → IsTightAt (bounds_of t) m i i (bounds_of t i i)
  tight_itself q w i li = subst (IsTightAt (bounds_of t) m i i) (sym (zeros i li)) (record { values = values_at p.cons.dim q; meets = point_meets_all q w; same = omega (arith, ints) })

  pub suprema_tight : (q : List ℤ) → IsWithin p.cons q → IsTight (bounds_of t) m
  suprema_tight q w i j li lj = by (cases_order i j)
    where
      by : (i ≡ j) ⊎ ((i < j) ⊎ (j < i)) → IsTightAt (bounds_of t) m i j (bounds_of t i j)
      by (inl d) = subst (λ (z : ℕ). IsTightAt (bounds_of t) m i z (bounds_of t i z)) d (tight_itself q w i li)
      by (inr (inl l)) = tight_apart i j li lj (λ z. omega arith) (bounds_of t i j) (suprema i j li lj (λ z. omega arith))
      by (inr (inr l)) = tight_apart i j li lj (λ z. omega arith) (bounds_of t i j) (suprema i j li lj (λ z. omega arith))

  -- a shape that includes the polyhedron has no lesser bounds
  module _ (a : Bounds) (fa : (i j : ℕ) → IfSome (a i j) IsFraction) (inside : (q : List ℤ) → IsWithin p.cons q → Meets a m (values_at p.cons.dim q)) (q0 : List ℤ) (w0 : IsWithin p.cons q0) where
    covered_apart : (i j : ℕ) → i < m → j < m → i ≢ j → (x y : Bound) → a i j ≡ x → IfSome x IsFraction → IfSome y IsFraction → IsSupremumOf p i j y → IsCovered x y
    covered_apart i j li lj d None y e fx fy h = tt
    covered_apart i j li lj d (Some x) None e fx fy h = beyond (h (pos (unsigned_abs x.num) +ℤ pos 1))
      where
        beyond : HasBeyond true (difference p.cons.dim i j) p.cons.dim (IsWithin p.cons) (pos (unsigned_abs x.num) +ℤ pos 1) (pos 1) → ⊥
        beyond (q, w, s) = high_gap x.num x.den (cell q p.cons.dim) (place_value q i -ℤ place_value q j) fx.positive w.point.positive (let v = value_is i j q li lj d w in omega (arith, ints, v, s)) ((inside q w).each i j li lj x e)
    covered_apart i j li lj d (Some x) (Some y) e fx fy h =
        let r = h.reached.0 refl in
        let same : y.den *ℤ (place_value r.0 i -ℤ place_value r.0 j) ≡ y.num *ℤ cell r.0 p.cons.dim = ap (λ (z : ℤ). y.den *ℤ z) (sym (value_is i j r.0 li lj d r.1)) ∙ r.2 in
        most_not_below x y (reached_most (values_at p.cons.dim r.0) i j y x r.1.point.positive fy.positive same ((inside r.0 r.1).each i j li lj x e))

    covered_itself : (i : ℕ) → i < m → (x : Bound) → a i i ≡ x → IfSome x IsFraction → IsCovered x (Some nothing)
    covered_itself i li None e fx = tt
    covered_itself i li (Some x) e fx =
        most_not_below x nothing (reached_most (values_at p.cons.dim q0) i i nothing x w0.point.positive (omega (arith, ints)) (omega (arith, ints)) ((inside q0 w0).each i i li li x e))

    pub suprema_covered : AreCovered a (bounds_of t) m
    suprema_covered i j li lj = by (cases_order i j)
      where
        by : (i ≡ j) ⊎ ((i < j) ⊎ (j < i)) → IsCovered (a i j) (bounds_of t i j)
        by (inl d) = subst (λ (z : ℕ). IsCovered (a i z) (bounds_of t i z)) d (subst (IsCovered (a i i)) (sym (zeros i li)) (covered_itself i li (a i i) refl (fa i i)))
        by (inr (inl l)) = covered_apart i j li lj (λ z. omega arith) (a i j) (bounds_of t i j) refl (fa i j) (bound_fraction t i j table.fractions) (suprema i j li lj (λ z. omega arith))
        by (inr (inr l)) = covered_apart i j li lj (λ z. omega arith) (a i j) (bounds_of t i j) refl (fa i j) (bound_fraction t i j table.fractions) (suprema i j li lj (λ z. omega arith))

  pub smallest : (q : List ℤ) → IsWithin p.cons q → IsSmallest p (record { dim = p.cons.dim; bounds = Some t })
  smallest q0 w0 = record {
    includes = λ q w. record { point = w.point; within = point_meets_all q w };
    least = λ u eu hu h. least u eu u.bounds refl hu h;
  }
    where
      least : (u : DifferenceShape) → u.dim ≡ p.cons.dim → (o : Option Table) → u.bounds ≡ o → IfSome o IsTable → ((q : List ℤ) → IsWithin p.cons q → IsIn u q) → Includes u (record { dim = p.cons.dim; bounds = Some t })
      least u eu None eo hu h q k = absurd (subst (λ (o : Option Table). IsInBounds o u.dim q0) eo (h q0 w0).within)
      least u eu (Some a) eo hu h q k =
          let fa = λ (x : ℕ) (y : ℕ). bound_fraction a x y hu.fractions in
          let inside = λ (x : List ℤ) (w : IsWithin p.cons x). meets_over u.dim p.cons.dim (bounds_of a) x eu (within_of u a x eo (h x w)) in
          is_in_of u a q eo (point_over p.cons.dim u.dim q (sym eu) k.point)
          (meets_over p.cons.dim u.dim (bounds_of a) q (sym eu) (covered_meets (bounds_of a) (bounds_of t) m fa (λ x y. bound_fraction t x y table.fractions) (suprema_covered (bounds_of a) fa inside q0 w0) (values_at p.cons.dim q) k.within))

-- ---- the whole
pub some_point : (p : Polyhedron) → IsKept p → p.topology ≡ Closed → p.gens.list ≢ [] → (q : List ℤ) × IsWithin p.cons q
some_point p k e n = by (subst (λ (t : Topology). IsStoredAs t p.cons p.gens) e k.stored)
  where
    by : IsStored p.cons p.gens → (q : List ℤ) × IsWithin p.cons q
    by (inl f) = absurd (n f.gens)
    by (inr f) = (_, pair_point p.cons p.gens f)

pub suprema_shape : (p : Polyhedron) (t : Table) → IsKept p → p.topology ≡ Closed → p.gens.list ≢ [] → p.cons.dim ≤ MAX_DIM → IsTable t → t.places ≡ p.cons.dim + 1 → IsFinding p t (p.cons.dim + 1) 0 → IsShape (record { dim = p.cons.dim; bounds = Some t })
suprema_shape p t k e n l h s q =
    let w = some_point p k e n in
    record { narrow = l; tight = record { table = h; places = s; zeros = q.zeros; tight = suprema_tight p t h q.zeros (λ i j li lj d. q.suprema i j li lj d (inl li)) w.0 w.1 } }

pub suprema_smallest : (p : Polyhedron) (t : Table) → IsKept p → p.topology ≡ Closed → p.gens.list ≢ [] → IsTable t → IsFinding p t (p.cons.dim + 1) 0 → IsSmallest p (record { dim = p.cons.dim; bounds = Some t })
suprema_smallest p t k e n h q =
    let w = some_point p k e n in
    smallest p t h q.zeros (λ i j li lj d. q.suprema i j li lj d (inl li)) w.0 w.1
