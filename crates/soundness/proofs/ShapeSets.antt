-- Shapes as sets of points, and the smallest of them.
use Rattle.std.proofs.Common.{◌≡◌, ◌≢◌, ◌↔◌, ◌⊎◌, inl, inr, ℕ, ◌+◌, ◌*◌, ◌<◌, ◌≤◌, refl, sym, ◌∙◌, ap, subst, arith, List, replicate, false}
use Rattle.std.specs.Prelude.{ℤ, pos, negsuc, ◌+ℤ◌, ◌-ℤ◌, ◌*ℤ◌, ◌≤ℤ◌, ◌<ℤ◌, unsigned_abs, Option, None, Some, IfSome, slice_set, slice_index_or}
use Rattle.std.proofs.Math.Nat.{mul-le-mul_left}
use Rattle.std.proofs.lemmas.Int.{ints}
use Rattle.std.proofs.lemmas.Bool.{cases_order}
use Rattle.std.proofs.lemmas.List.{get_or-replicate, length-replicate, get_or-set_same, get_or-set_other}
use Rattle.std.proofs.lemmas.List.Elements.{All-replicate}
use Rattle.row_core.specs.Vectors.{cell, dot}
use Rattle.row_core.specs.Points.{IsPoint}
use Rattle.row_core.proofs.Ring.{mul-zero, mul-at_least_zero, mul-negative, mul_comm}
use Rattle.cons_sys.specs.Constraints.{In}
use Rattle.stored_systems.specs.PointSets.{IsWithin}
use Rattle.poly_pair.specs.Polyhedra.{Polyhedron}
use Rattle.poly_pair.specs.declared.topology.Topology.TheVariants.{Closed}
use Rattle.poly_pair.specs.declared.topology.TheConstants.{MAX_DIM}
use Rattle.difference_bounds.specs.declared.fraction.Fraction.{Fraction}
use Rattle.difference_bounds.specs.Fractions.{IsFraction, IsAtMost}
use Rattle.difference_bounds.specs.Walks.{Bound}
use Rattle.difference_bounds.specs.Values as values
use Rattle.difference_bounds.specs.Tables.{Table, IsTable, bounds_of, Differs}
use Rattle.difference_bounds.proofs.CellPlaces.{other_cell}
use Rattle.difference_bounds.proofs.ChoiceLemmas.{within_greater}
use Rattle.difference_bounds.proofs.Differences.{reached_most, high_gap}
use Rattle.difference_bounds.proofs.PassLemmas.{bound_fraction, here_or}
use Rattle.difference_bounds.proofs.WordLemmas.{table_set}
use Rattle.bd_shape.specs.Shapes.{DifferenceShape, place_value, values_at, IsInBounds, IsIn, IsTightTable, IsShape, IsHull}
use Rattle.bd_shape.specs.Differences.{difference}
use Rattle.bd_shape.specs.Rows.{shape_constraints}
use Rattle.bd_shape.specs.Suprema.{AreSuprema, IsSupremumOf}
use Rattle.bd_shape.specs.Laws.{IsGreatestAt}
use Rattle.bd_shape.proofs.Canonical.{bounds_are_greatest}
use Rattle.bd_shape.proofs.DifferenceRows.{difference_value}
use Rattle.bd_shape.proofs.RowLists.{list_points, closed_rows}
use Rattle.soundness.specs.Points.{PointSet, IsOver, IsSetOf}
use Rattle.soundness.specs.Shapes.{HasBound, IsInSmallestShape}
use Rattle.soundness.proofs.PointLaws.{via, moved, few_variables, for_to}
use Rattle.soundness.proofs.ShapeRows.{shape_fits}

-- ---- the set of a shape
abbrev pub shape_set : DifferenceShape → PointSet
shape_set s = record { nnc = false; cons = shape_constraints s }

pub in_shape : (s : DifferenceShape) → IsShape s → (v : List ℤ) → IsPoint s.dim v → In (shape_constraints s) v ↔ IsIn s v
in_shape s is v point = (λ h. (list_points s is v).0 (point, h), λ i. ((list_points s is v).1 i).1)

pub within_shape : (s : DifferenceShape) → IsShape s → (v : List ℤ) → IsWithin (shape_constraints s) v ↔ IsIn s v
within_shape s is v = (λ w. (list_points s is v).0 (w.point, w.holds), λ i. (let p = (list_points s is v).1 i in record { point = p.0; holds = p.1 }))

shape_over : (dim : ℕ) (s : DifferenceShape) → IsShape s → s.dim ≡ dim → IsOver false dim (shape_set s)
shape_over dim s is e = subst (λ (n : ℕ). IsOver false n (shape_set s)) e (record {
  kind = refl;
  variables = refl;
  narrow = few_variables s.dim s.dim refl is.narrow;
  rows = λ i d h. for_to Closed s.dim (slice_index_or (shape_constraints s).list i d) (record { wide = ((shape_fits s is).each i d h).wide; kind = closed_rows s.dim s.bounds i d h });
})

pub shape_is : (dim : ℕ) (Has : List ℤ → Type 0) (s : DifferenceShape) → IsShape s → s.dim ≡ dim → ((v : List ℤ) → IsPoint dim v → IsIn s v ↔ Has v) → IsSetOf false dim Has (shape_set s)
shape_is dim Has s is e points = record { over = shape_over dim s is e; points = λ v point. via (in_shape s is v (moved dim s.dim v (sym e) point)) (points v point) }

-- ---- a bound that holds where another is reached
abbrev over : ℤ → ℤ → Fraction
over num den = record { num = num; den = den }

reached_bound : (dim i j : ℕ) (f : Fraction) (num den : ℤ) (u : List ℤ) → pos 0 <ℤ f.den → pos 0 <ℤ cell u dim → f.den *ℤ (place_value u i -ℤ place_value u j) ≡ f.num *ℤ cell u dim → HasBound dim i j num den u → IsAtMost f (over num den)
reached_bound dim i j f num den u positive point same h = reached_most (values_at dim u) i j f (over num den) point positive same h

-- ---- a point of the smallest shape is in a shape that includes all
nothing_below : (dim : ℕ) (v : List ℤ) → pos 0 <ℤ cell v dim → HasBound dim 0 0 (negsuc 0) (pos 1) v → ⊥
nothing_below dim v point h = omega (arith, ints, point, h)

pub smallest_from : (r : DifferenceShape) → IsShape r → (Has : List ℤ → Type 0) → ((u : List ℤ) → Has u → IsIn r u) → (v : List ℤ) → IsPoint r.dim v → IsInSmallestShape r.dim Has v → IsIn r v
smallest_from r is Has includes v point least = record { point = point; within = by r.bounds refl is.tight }
  where
    by : (o : Option Table) → r.bounds ≡ o → IfSome o (IsTightTable r.dim) → IsInBounds o r.dim v
    by None e tight = nothing_below r.dim v point.positive (least 0 0 (negsuc 0) (pos 1) (omega arith) (omega arith) (omega (arith, ints)) (λ u h. absurd (subst (λ (o : Option Table). IsInBounds o r.dim u) e (includes u h).within)))
    by (Some t) e tight = record {
      positive = point.positive;
      each = λ i j l m f g.
          (let fraction : IsFraction f = subst (λ (o : Bound). IfSome o IsFraction) g (bound_fraction t i j tight.table.fractions) in
          least i j f.num f.den (omega (arith, l)) (omega (arith, m)) fraction.positive (λ u h. (subst (λ (o : Option Table). IsInBounds o r.dim u) e (includes u h).within).each i j l m f g));
    }

-- a shape is the smallest that includes its own points
pub own_shape : (dim : ℕ) (s : DifferenceShape) → IsShape s → s.dim ≡ dim → IsSetOf false dim (IsInSmallestShape dim (IsWithin (shape_constraints s))) (shape_set s)
own_shape dim s is e = shape_is dim (IsInSmallestShape dim (IsWithin (shape_constraints s))) s is e (λ v point. (
  λ on. λ i j num den li lj positive valid. valid v ((within_shape s is v).1 on),
  λ least. smallest_from s is (IsWithin (shape_constraints s)) (λ u w. (within_shape s is u).0 w) v (moved dim s.dim v (sym e) point) (subst (λ (n : ℕ). IsInSmallestShape n (IsWithin (shape_constraints s)) v) (sym e) least),
))

-- ---- the smallest shape of a set
sign_of : (num : ℤ) → (pos 0 ≤ℤ num) ⊎ (num <ℤ pos 0)
sign_of (pos n) = inl (omega (arith, ints))
sign_of (negsuc n) = inr (omega (arith, ints))

none_less : (a : ℤ) → a -ℤ a ≡ pos 0
none_less a = omega (arith, ints)

same_place : (dim i : ℕ) (num den : ℤ) (v : List ℤ) → pos 0 <ℤ cell v dim → pos 0 ≤ℤ num → HasBound dim i i num den v
same_place dim i num den v point h =
    let e : den *ℤ (place_value v i -ℤ place_value v i) ≡ pos 0 = ap (λ (z : ℤ). den *ℤ z) (none_less (place_value v i)) ∙ mul-zero den in
    subst (λ (z : ℤ). z ≤ℤ (num *ℤ cell v dim)) (sym e) (mul-at_least_zero num (cell v dim) h (omega (arith, ints, point)))

no_place : (dim i : ℕ) (num den : ℤ) (u : List ℤ) → pos 0 <ℤ cell u dim → num <ℤ pos 0 → HasBound dim i i num den u → ⊥
no_place dim i num den u point h k =
    let e : den *ℤ (place_value u i -ℤ place_value u i) ≡ pos 0 = ap (λ (z : ℤ). den *ℤ z) (none_less (place_value u i)) ∙ mul-zero den in
    let less : (cell u dim *ℤ num) <ℤ pos 0 = mul-negative (cell u dim) num point h in
    let c : num *ℤ cell u dim ≡ cell u dim *ℤ num = mul_comm num (cell u dim) in
    omega (arith, ints, k, e, less, c)

once : (z : ℤ) → pos 1 *ℤ z ≡ z
once z = omega (arith, ints)

module _ (p : Polyhedron) (dim i j : ℕ) (num den : ℤ) (e : p.cons.dim ≡ dim) (positive : pos 0 <ℤ den) (valid : (u : List ℤ) → IsWithin p.cons u → HasBound dim i j num den u) (l : i < p.cons.dim + 1) (m : j < p.cons.dim + 1) (apart : i ≢ j) where
  point_of : (u : List ℤ) → IsWithin p.cons u → IsPoint dim u
  point_of u w = moved p.cons.dim dim u e w.point

  value_of : (u : List ℤ) → IsWithin p.cons u → dot (difference p.cons.dim i j) u ≡ place_value u i -ℤ place_value u j
  value_of u w = difference_value p.cons.dim i j u l m apart w.point.wide

  -- the bound of the two places is at most each that holds at all points
  supremum_bound : (f : Fraction) → IsSupremumOf p i j (Some f) → IsAtMost f (over num den) × (pos 0 <ℤ f.den)
  supremum_bound f sup =
      let r = sup.reached.0 refl in
      let same : f.den *ℤ (place_value r.0 i -ℤ place_value r.0 j) ≡ f.num *ℤ cell r.0 dim = ap (λ (z : ℤ). f.den *ℤ z) (sym (value_of r.0 r.1)) ∙ r.2 ∙ ap (λ (n : ℕ). f.num *ℤ cell r.0 n) e in
      (reached_bound dim i j f num den r.0 sup.positive (point_of r.0 r.1).positive same (valid r.0 r.1), sup.positive)

  -- and there is one
  supremum_there : IsSupremumOf p i j None → ⊥
  supremum_there exceeds =
      let q = exceeds (pos (unsigned_abs num) +ℤ pos 1) in
      let same : pos 1 *ℤ dot (difference p.cons.dim i j) q.0 ≡ place_value q.0 i -ℤ place_value q.0 j = once (dot (difference p.cons.dim i j) q.0) ∙ value_of q.0 q.1 in
      let less : ((pos (unsigned_abs num) +ℤ pos 1) *ℤ cell q.0 dim) <ℤ (place_value q.0 i -ℤ place_value q.0 j) = subst (λ (n : ℕ). ((pos (unsigned_abs num) +ℤ pos 1) *ℤ cell q.0 n) <ℤ (place_value q.0 i -ℤ place_value q.0 j)) e (subst (λ (z : ℤ). ((pos (unsigned_abs num) +ℤ pos 1) *ℤ cell q.0 p.cons.dim) <ℤ z) same q.2) in
      high_gap num den (cell q.0 dim) (place_value q.0 i -ℤ place_value q.0 j) positive (point_of q.0 q.1).positive (omega (arith, ints, less)) (valid q.0 q.1)

  supremum_holds : (o : Bound) → IsSupremumOf p i j o → (v : List ℤ) → pos 0 <ℤ cell v dim → ((f : Fraction) → o ≡ Some f → values.IsWithin (values_at dim v) i j f) → HasBound dim i j num den v
  supremum_holds None sup v point h = absurd (supremum_there sup)
  supremum_holds (Some f) sup v point h =
      let most = supremum_bound f sup in
      within_greater (values_at dim v) i j f (over num den) point most.1 positive most.0 (h f refl)

pub smallest_to : (p : Polyhedron) (s : DifferenceShape) → s.dim ≡ p.cons.dim → ((s.bounds ≡ None) ↔ ((u : List ℤ) → ¬ (IsWithin p.cons u))) → IfSome s.bounds (λ t. AreSuprema p (bounds_of t)) → (v : List ℤ) → IsIn s v → IsInSmallestShape s.dim (IsWithin p.cons) v
smallest_to p s e empty suprema v on i j num den li lj positive valid = by s.bounds refl suprema on.within
  where
    equal : (t : Table) → s.bounds ≡ Some t → i ≡ j → HasBound s.dim i j num den v
    equal t some same = subst (λ (k : ℕ). HasBound s.dim i k num den v) same (signs (sign_of num))
      where
        signs : (pos 0 ≤ℤ num) ⊎ (num <ℤ pos 0) → HasBound s.dim i i num den v
        signs (inl h) = same_place s.dim i num den v on.point.positive h
        signs (inr h) =
            let none : s.bounds ≡ None = empty.1 (λ u w. no_place s.dim i num den u (moved p.cons.dim s.dim u (sym e) w.point).positive h (subst (λ (k : ℕ). HasBound s.dim i k num den u) (sym same) (valid u w))) in
            let no : Some t ≡ None = sym some ∙ none in cc

    apart : (t : Table) → AreSuprema p (bounds_of t) → IsInBounds (Some t) s.dim v → i ≢ j → HasBound s.dim i j num den v
    apart t sup meets n =
        supremum_holds p s.dim i j num den (sym e) positive valid (omega (arith, li, e)) (omega (arith, lj, e)) n (bounds_of t i j) (sup i j (omega (arith, li, e)) (omega (arith, lj, e)) n) v on.point.positive
        (λ f g. meets.each i j (omega (arith, li)) (omega (arith, lj)) f g)

    by_order : (t : Table) → s.bounds ≡ Some t → AreSuprema p (bounds_of t) → IsInBounds (Some t) s.dim v → (i ≡ j) ⊎ ((i < j) ⊎ (j < i)) → HasBound s.dim i j num den v
    by_order t some sup meets (inl same) = equal t some same
    by_order t some sup meets (inr (inl less)) = apart t sup meets (λ same. omega (arith, less, same))
    by_order t some sup meets (inr (inr less)) = apart t sup meets (λ same. omega (arith, less, same))

    by : (o : Option Table) → s.bounds ≡ o → IfSome o (λ t. AreSuprema p (bounds_of t)) → IsInBounds o s.dim v → HasBound s.dim i j num den v
    by None some sup within = absurd within
    by (Some t) some sup within = by_order t some sup within (cases_order i j)

-- ---- the shape of one bound
cell_below : (m p q : ℕ) → p < m → q < m → p * m + q < m * m
cell_below m p q lp lq = let s : m * (p + 1) ≤ m * m = mul-le-mul_left m (omega (arith, lp)) in omega (arith, s, lq)

abbrev none : Bound
none = None

abbrev no_cells : ℕ → List Bound
no_cells dim = replicate ((dim + 1) * (dim + 1)) none

abbrev one_table : ℕ → ℕ → ℕ → Fraction → Table
one_table dim i j f = record { places = dim + 1; cells = slice_set (no_cells dim) (i * (dim + 1) + j) (Some f) }

abbrev one_bound : ℕ → ℕ → ℕ → Fraction → DifferenceShape
one_bound dim i j f = record { dim = dim; bounds = Some (one_table dim i j f) }

module _ (dim i j : ℕ) (l : i < dim + 1) (m : j < dim + 1) (f : Fraction) where
  here : bounds_of (one_table dim i j f) i j ≡ Some f
  here = get_or-set_same (no_cells dim) (i * (dim + 1) + j) (Some f) none (subst (λ (n : ℕ). i * (dim + 1) + j < n) (sym (length-replicate ((dim + 1) * (dim + 1)) none)) (cell_below (dim + 1) i j l m))

  elsewhere : (p q : ℕ) → p < dim + 1 → q < dim + 1 → Differs i j p q → bounds_of (one_table dim i j f) p q ≡ none
  elsewhere p q lp lq n =
      get_or-set_other (no_cells dim) (i * (dim + 1) + j) (p * (dim + 1) + q) (Some f) none (other_cell (dim + 1) i j p q m lq n)
      ∙ get_or-replicate ((dim + 1) * (dim + 1)) (p * (dim + 1) + q) none none (cell_below (dim + 1) p q lp lq)

  bound_table : dim ≤ MAX_DIM → IsFraction f → IsTable (one_table dim i j f)
  bound_table narrow fraction = table_set (record { places = dim + 1; cells = no_cells dim }) (i * (dim + 1) + j) (Some f) (record {
    full = length-replicate ((dim + 1) * (dim + 1)) none;
    fractions = All-replicate (λ c. IfSome c IsFraction) ((dim + 1) * (dim + 1)) none tt;
    few = omega (arith, narrow);
  }) fraction

  into_bound : (u : List ℤ) → IsPoint dim u → values.IsWithin (values_at dim u) i j f → IsIn (one_bound dim i j f) u
  into_bound u point h = record { point = point; within = record { positive = point.positive; each = λ p q lp lq g e. at p q lp lq g e (here_or i j p q) } }
    where
      at : (p q : ℕ) → p < dim + 1 → q < dim + 1 → (g : Fraction) → bounds_of (one_table dim i j f) p q ≡ Some g → ((p ≡ i) × (q ≡ j)) ⊎ Differs i j p q → values.IsWithin (values_at dim u) p q g
      at p q lp lq g e (inl (same_p, same_q)) =
          let b : bounds_of (one_table dim i j f) i j ≡ Some g = subst (λ (k : ℕ). bounds_of (one_table dim i j f) i k ≡ Some g) same_q (subst (λ (k : ℕ). bounds_of (one_table dim i j f) k q ≡ Some g) same_p e) in
          let both : Some f ≡ Some g = sym here ∙ b in
          let same : f ≡ g = cc in
          subst (λ (k : ℕ). values.IsWithin (values_at dim u) k q g) (sym same_p) (subst (λ (k : ℕ). values.IsWithin (values_at dim u) i k g) (sym same_q) (subst (λ (x : Fraction). values.IsWithin (values_at dim u) i j x) same h))
      at p q lp lq g e (inr n) = let no : None ≡ Some g = sym (elsewhere p q lp lq n) ∙ e in cc

  from_bound : (u : List ℤ) → IsIn (one_bound dim i j f) u → values.IsWithin (values_at dim u) i j f
  from_bound u on = on.within.each i j l m f here

-- ---- the smallest shape of two
-- a shape has no point, or a greatest difference of the places
record HasGreatest (s : DifferenceShape) (i j : ℕ) (num den : ℤ) : Type 0 where
  bound : Fraction
  fraction : IsFraction bound
  within : (u : List ℤ) → IsIn s u → values.IsWithin (values_at s.dim u) i j bound
  most : IsAtMost bound (over num den)

greatest_of : (s : DifferenceShape) → IsShape s → (i j : ℕ) (num den : ℤ) → i < s.dim + 1 → j < s.dim + 1 → pos 0 <ℤ den → ((u : List ℤ) → IsIn s u → HasBound s.dim i j num den u) → (s.bounds ≡ None) ⊎ HasGreatest s i j num den
greatest_of s is i j num den l m positive valid = by s.bounds refl is.tight
  where
    at : (t : Table) (o : Bound) → bounds_of t i j ≡ o → IfSome o IsFraction → IsGreatestAt s i j o → HasGreatest s i j num den
    at t None e fraction exceeds =
        let q = exceeds (pos (unsigned_abs num) +ℤ pos 1) in
        absurd (high_gap num den (cell q.point s.dim) (place_value q.point i -ℤ place_value q.point j) positive q.inside.point.positive q.more (valid q.point q.inside))
    at t (Some f) e fraction g = record {
      bound = f;
      fraction = fraction;
      within = g.bound;
      most = reached_bound s.dim i j f num den g.point fraction.positive g.inside.point.positive g.reached (valid g.point g.inside);
    }

    by : (o : Option Table) → s.bounds ≡ o → IfSome o (IsTightTable s.dim) → (s.bounds ≡ None) ⊎ HasGreatest s i j num den
    by None e tight = inl e
    by (Some t) e tight = inr (at t (bounds_of t i j) refl (bound_fraction t i j tight.table.fractions) (bounds_are_greatest s t is e i j l m))

nowhere : (s : DifferenceShape) → s.bounds ≡ None → (u : List ℤ) → IsIn s u → ⊥
nowhere s e u on = subst (λ (o : Option Table). IsInBounds o s.dim u) e on.within

at_most_or : (f g : Fraction) → (IsAtMost f g) ⊎ (IsAtMost g f)
at_most_or f g = by (sign_of (g.num *ℤ f.den -ℤ f.num *ℤ g.den))
  where
    by : (pos 0 ≤ℤ (g.num *ℤ f.den -ℤ f.num *ℤ g.den)) ⊎ ((g.num *ℤ f.den -ℤ f.num *ℤ g.den) <ℤ pos 0) → (IsAtMost f g) ⊎ (IsAtMost g f)
    by (inl h) = inl (omega (arith, ints, h))
    by (inr h) = inr (omega (arith, ints, h))

module _ (s t r : DifferenceShape) (is_s : IsShape s) (is_t : IsShape t) (same : t.dim ≡ s.dim) (hull : IsHull s t r) (i j : ℕ) (num den : ℤ) (li : i < s.dim + 1) (lj : j < s.dim + 1) (positive : pos 0 <ℤ den) where
  -- a bound that holds at both holds at the hull
  by_one : (f : Fraction) → IsFraction f → IsAtMost f (over num den) → ((u : List ℤ) → IsIn s u → values.IsWithin (values_at s.dim u) i j f) → ((u : List ℤ) → IsIn t u → values.IsWithin (values_at s.dim u) i j f) → (v : List ℤ) → IsIn r v → pos 0 <ℤ cell v s.dim → HasBound s.dim i j num den v
  by_one f fraction most on_s on_t v on point =
      within_greater (values_at s.dim v) i j f (over num den) point fraction.positive positive most
      (from_bound s.dim i j li lj f v (hull.least (one_bound s.dim i j f) refl (bound_table s.dim i j li lj f is_s.narrow fraction)
      (λ u h. into_bound s.dim i j li lj f u h.point (on_s u h)) (λ u h. into_bound s.dim i j li lj f u (moved t.dim s.dim u same h.point) (on_t u h)) v on))

  over_s : (f : Fraction) (u : List ℤ) → values.IsWithin (values_at t.dim u) i j f → values.IsWithin (values_at s.dim u) i j f
  over_s f u h = subst (λ (n : ℕ). values.IsWithin (values_at n u) i j f) same h

  by_two : (s.bounds ≡ None) ⊎ HasGreatest s i j num den → (t.bounds ≡ None) ⊎ HasGreatest t i j num den → (v : List ℤ) → IsIn r v → pos 0 <ℤ cell v s.dim → HasBound s.dim i j num den v
  by_two (inl e) (inl d) v on point = absurd (hull.least (record { dim = s.dim; bounds = None }) refl tt (λ u h. absurd (nowhere s e u h)) (λ u h. absurd (nowhere t d u h)) v on).within
  by_two (inl e) (inr g) v on point = by_one g.bound g.fraction g.most (λ u h. absurd (nowhere s e u h)) (λ u h. over_s g.bound u (g.within u h)) v on point
  by_two (inr f) (inl d) v on point = by_one f.bound f.fraction f.most f.within (λ u h. absurd (nowhere t d u h)) v on point
  by_two (inr f) (inr g) v on point = choose (at_most_or f.bound g.bound)
    where
      choose : (IsAtMost f.bound g.bound) ⊎ (IsAtMost g.bound f.bound) → HasBound s.dim i j num den v
      choose (inl h) = by_one g.bound g.fraction g.most (λ u k. within_greater (values_at s.dim u) i j f.bound g.bound k.point.positive f.fraction.positive g.fraction.positive h (f.within u k)) (λ u k. over_s g.bound u (g.within u k)) v on point
      choose (inr h) =
          by_one f.bound f.fraction f.most f.within
          (λ u k. within_greater (values_at s.dim u) i j g.bound f.bound (moved t.dim s.dim u same k.point).positive g.fraction.positive f.fraction.positive h (over_s g.bound u (g.within u k))) v on point

pub hull_to : (s t r : DifferenceShape) → IsShape s → IsShape t → t.dim ≡ s.dim → r.dim ≡ s.dim → IsHull s t r → (v : List ℤ) → IsIn r v → IsInSmallestShape s.dim (λ u. IsIn s u ⊎ IsIn t u) v
hull_to s t r is_s is_t same over_r hull v on i j num den li lj positive valid =
    let l : i < s.dim + 1 = omega (arith, li) in
    let m : j < s.dim + 1 = omega (arith, lj) in
    by_two s t r is_s is_t same hull i j num den l m positive
    (greatest_of s is_s i j num den l m positive (λ u h. valid u (inl h)))
    (greatest_of t is_t i j num den (omega (arith, li, same)) (omega (arith, lj, same)) positive (λ u h. subst (λ (n : ℕ). HasBound n i j num den u) (sym same) (valid u (inr h)))) v on
    (moved r.dim s.dim v over_r on.point).positive

-- a property that is the same at each vector gives the same smallest shape
pub smallest_same : (dim : ℕ) (Has Is : List ℤ → Type 0) → ((u : List ℤ) → Has u → Is u) → (v : List ℤ) → IsInSmallestShape dim Has v → IsInSmallestShape dim Is v
smallest_same dim Has Is same v least i j num den li lj positive valid = least i j num den li lj positive (λ u h. valid u (same u h))
