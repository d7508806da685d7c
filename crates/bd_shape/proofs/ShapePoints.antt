-- Shapes by their tables.
use Rattle.std.specs.Prelude.{◌≡◌, ◌↔◌, ℕ, ◌+◌, ◌≤◌, List, ℤ, pos, Option, Some, None, IfSome, Bool, true, false, IsTrue}
use Rattle.std.proofs.Common.{arith, sym, ◌∙◌, ap, refl, subst}
use Rattle.row_core.specs.Points.{IsPoint}
use Rattle.difference_bounds.specs.Fractions.{IsFraction}
use Rattle.difference_bounds.specs.Walks.{Bound, Bounds}
use Rattle.difference_bounds.specs.Values.{Values, Meets, MeetSame, MeetBoth, HasNone, IsTightAt, IsTight}
use Rattle.difference_bounds.specs.Tables.{Table, IsTable, bounds_of}
use Rattle.difference_bounds.specs.Passes.{IsClosed}
use Rattle.difference_bounds.specs.Combining.{AreCovered, AreGreater}
use Rattle.difference_bounds.proofs.PassLemmas.{bound_fraction}
use Rattle.difference_bounds.proofs.Differences.{tight_zeros}
use Rattle.poly_pair.specs.declared.topology.TheConstants.{MAX_DIM}
use Rattle.bd_shape.specs.Shapes.{DifferenceShape, IsIn, IsInBounds, IsTightTable, IsShape, Includes, IsMeet, IsHull, values_at}
use Rattle.bd_shape.proofs.PointValues.{point_of, point_is, point_meets}
use Rattle.bd_shape.proofs.Inclusions.{covered_meets, covered_by, inside_by, first_inside, second_inside, least_inside, greater_tight, greater_zeros}

-- ---- closing
pub closed_shape : (dim : ℕ) (old new : Table) → dim ≤ MAX_DIM → old.places ≡ dim + 1 → new.places ≡ old.places → IsTable new → IsClosed old new old.places true → IsShape (record { dim = dim; bounds = Some new })
closed_shape dim old new l e f t c = record {
  narrow = l;
  tight = (let k : IsTight (bounds_of new) (dim + 1) = subst (IsTight (bounds_of new)) e c.1 in record { table = t; places = f ∙ e; zeros = tight_zeros new (dim + 1) t.fractions k; tight = k });
}

pub closed_points : (dim : ℕ) (old new : Table) → old.places ≡ dim + 1 → IsClosed old new old.places true → (p : List ℤ) → IsIn (record { dim = dim; bounds = Some new }) p ↔ (IsPoint dim p × IsInBounds (Some old) dim p)
closed_points dim old new e c p =
    let same = subst (λ (m : ℕ). MeetSame (bounds_of old) (bounds_of new) m) e c.0 in
    (λ h. (h.point, (same (values_at dim p)).1 h.within), λ h. record { point = h.0; within = (same (values_at dim p)).0 h.1 })

pub empty_points : (dim : ℕ) (old new : Table) → old.places ≡ dim + 1 → IsClosed old new old.places false → (p : List ℤ) → IsIn (record { dim = dim; bounds = None }) p ↔ (IsPoint dim p × IsInBounds (Some old) dim p)
empty_points dim old new e c p =
    let none = subst (λ (m : ℕ). HasNone (bounds_of old) m) e c in
    (λ h. absurd h.within, λ h. absurd (none (values_at dim p) h.1))

-- ---- shapes that have points
pub table_of : (s : DifferenceShape) (a : Table) → IsShape s → s.bounds ≡ Some a → IsTightTable s.dim a
table_of s a h e = subst (λ (o : Option Table). IfSome o (IsTightTable s.dim)) e h.tight

pub within_of : (s : DifferenceShape) (a : Table) (p : List ℤ) → s.bounds ≡ Some a → IsIn s p → Meets (bounds_of a) (s.dim + 1) (values_at s.dim p)
within_of s a p e h = subst (λ (o : Option Table). IsInBounds o s.dim p) e h.within

pub is_in_of : (s : DifferenceShape) (a : Table) (p : List ℤ) → s.bounds ≡ Some a → IsPoint s.dim p → Meets (bounds_of a) (s.dim + 1) (values_at s.dim p) → IsIn s p
is_in_of s a p e h k = record { point = h; within = subst (λ (o : Option Table). IsInBounds o s.dim p) (sym e) k }

-- a shape over a dimension that is another name of its own
moved : (s : DifferenceShape) (d : ℕ) → s.dim ≡ d → DifferenceShape
moved s d e = record { dim = d; bounds = s.bounds }

fractions : (dim : ℕ) (a : Table) → IsTightTable dim a → (i j : ℕ) → IfSome (bounds_of a i j) IsFraction
fractions dim a h i j = bound_fraction a i j h.table.fractions

pub point_over : (d e : ℕ) (p : List ℤ) → d ≡ e → IsPoint d p → IsPoint e p
point_over d e p f h = subst (λ (n : ℕ). IsPoint n p) f h

pub meets_over : (d e : ℕ) (a : Bounds) (p : List ℤ) → d ≡ e → Meets a (d + 1) (values_at d p) → Meets a (e + 1) (values_at e p)
meets_over d e a p f h = subst (λ (n : ℕ). Meets a (n + 1) (values_at n p)) f h

-- inclusion of one shape in another, by the values that meet their tables
pub includes_values : (s t : DifferenceShape) (a : Bounds) (b : Table) → s.dim ≡ t.dim → ((p : List ℤ) → IsIn s p → Meets a (s.dim + 1) (values_at s.dim p)) → t.bounds ≡ Some b → Includes s t → (v : Values) → Meets (bounds_of b) (t.dim + 1) v → Meets a (t.dim + 1) v
includes_values s t a b e f g h = inside_by t.dim a (bounds_of b) (λ p q k. meets_over s.dim t.dim a p e (f p (h p (is_in_of t b p g q k))))

pub includes_covers : (s t : DifferenceShape) (a b : Table) → IsShape s → IsShape t → s.bounds ≡ Some a → t.bounds ≡ Some b → t.dim ≡ s.dim → Includes s t → AreCovered (bounds_of a) (bounds_of b) (t.dim + 1)
includes_covers s t a b hs ht ea eb ed k = covered_by t.dim (bounds_of a) (bounds_of b) (fractions t.dim b (table_of t b ht eb)) (fractions s.dim a (table_of s a hs ea)) (table_of t b ht eb).tight (includes_values s t (bounds_of a) b (sym ed) (λ p q. within_of s a p ea q) eb k)

pub contains_by : (s t : DifferenceShape) (a b : Table) (r : Bool) → IsShape s → IsShape t → s.bounds ≡ Some a → t.bounds ≡ Some b → t.dim ≡ s.dim → IsTrue r ↔ AreCovered (bounds_of a) (bounds_of b) a.places → IsTrue r ↔ Includes s t
contains_by s t a b r hs ht ea eb ed h = (λ k. to (covered k), λ k. h.1 (subst (λ (m : ℕ). AreCovered (bounds_of a) (bounds_of b) m) (sym places) (includes_covers s t a b hs ht ea eb ed k)))
  where
    places : a.places ≡ t.dim + 1
    places = (table_of s a hs ea).places ∙ ap (λ (n : ℕ). n + 1) (sym ed)

    covered : IsTrue r → AreCovered (bounds_of a) (bounds_of b) (t.dim + 1)
    covered k = subst (λ (m : ℕ). AreCovered (bounds_of a) (bounds_of b) m) places (h.0 k)

    to : AreCovered (bounds_of a) (bounds_of b) (t.dim + 1) → Includes s t
    to c p k = is_in_of s a p ea (point_over t.dim s.dim p ed k.point) (meets_over t.dim s.dim (bounds_of a) p ed (covered_meets (bounds_of a) (bounds_of b) (t.dim + 1) (fractions s.dim a (table_of s a hs ea)) (fractions t.dim b (table_of t b ht eb)) c (values_at t.dim p) (within_of t b p eb k)))

-- a shape without points includes none that has one
pub zero_inside : (t : DifferenceShape) (b : Table) → IsShape t → t.bounds ≡ Some b → (p : List ℤ) × IsIn t p
zero_inside t b h e = by (bounds_of b 0 0) ((table_of t b h e).tight 0 0 (omega arith) (omega arith))
  where
    of : (v : Values) → Meets (bounds_of b) (t.dim + 1) v → (p : List ℤ) × IsIn t p
    of v k = (point_of t.dim v, is_in_of t b (point_of t.dim v) e (point_is t.dim v k.positive) (point_meets (bounds_of b) t.dim v k))

    by : (o : Bound) → IsTightAt (bounds_of b) (t.dim + 1) 0 0 o → (p : List ℤ) × IsIn t p
    by None k = let r = k (pos 0) in of r.values r.meets
    by (Some f) k = of k.values k.meets

pub empty_contains : (s t : DifferenceShape) (b : Table) → IsShape t → s.bounds ≡ None → t.bounds ≡ Some b → Includes s t → ⊥
empty_contains s t b h es eb k =
    let r = zero_inside t b h eb in
    subst (λ (o : Option Table). IsInBounds o s.dim r.0) es (k r.0 r.1).within

-- ---- the meet
pub meet_by : (s t r : DifferenceShape) (a b c : Table) → s.bounds ≡ Some a → t.bounds ≡ Some b → t.dim ≡ s.dim → MeetBoth (bounds_of a) (bounds_of b) (bounds_of c) (s.dim + 1) → ((p : List ℤ) → IsIn r p ↔ (IsPoint s.dim p × IsInBounds (Some c) s.dim p)) → IsMeet s t r
meet_by s t r a b c ea eb ed m h p = (to, from)
  where
    to : IsIn r p → IsIn s p × IsIn t p
    to k =
        let q = (h p).0 k in
        let u = (m (values_at s.dim p)).0 q.1 in
        (is_in_of s a p ea q.0 u.0, is_in_of t b p eb (point_over s.dim t.dim p (sym ed) q.0) (meets_over s.dim t.dim (bounds_of b) p (sym ed) u.1))

    from : IsIn s p × IsIn t p → IsIn r p
    from (k, l) = (h p).1 (k.point, (m (values_at s.dim p)).1 (within_of s a p ea k, meets_over t.dim s.dim (bounds_of b) p ed (within_of t b p eb l)))

-- ---- the hull
pub hull_shape : (s t : DifferenceShape) (a b c : Table) → IsShape s → IsShape t → s.bounds ≡ Some a → t.bounds ≡ Some b → t.dim ≡ s.dim → IsTable c → c.places ≡ a.places → AreGreater (bounds_of a) (bounds_of b) a.places (bounds_of c) → IsShape (record { dim = s.dim; bounds = Some c })
hull_shape s t a b c hs ht ea eb ed f e g = record {
  narrow = hs.narrow;
  tight = record {
    table = f;
    places = e ∙ ta.places;
    zeros = greater_zeros (bounds_of a) (bounds_of b) (bounds_of c) (s.dim + 1) greater ta.zeros tb.zeros;
    tight = greater_tight s.dim (bounds_of a) (bounds_of b) (bounds_of c) (fractions s.dim a ta) (fractions s.dim b tb) (λ i j. bound_fraction c i j f.fractions) greater ta.tight tb.tight;
  };
}
  where
    ta : IsTightTable s.dim a
    ta = table_of s a hs ea

    tb : IsTightTable s.dim b
    tb = subst (λ (n : ℕ). IsTightTable n b) ed (table_of t b ht eb)

    greater : AreGreater (bounds_of a) (bounds_of b) (s.dim + 1) (bounds_of c)
    greater = subst (λ (m : ℕ). AreGreater (bounds_of a) (bounds_of b) m (bounds_of c)) ta.places g

pub hull_by : (s t : DifferenceShape) (a b c : Table) → IsShape s → IsShape t → s.bounds ≡ Some a → t.bounds ≡ Some b → t.dim ≡ s.dim → IsTable c → AreGreater (bounds_of a) (bounds_of b) a.places (bounds_of c) → IsHull s t (record { dim = s.dim; bounds = Some c })
hull_by s t a b c hs ht ea eb ed f g = record {
  first = λ p k. record { point = k.point; within = first_inside s.dim (bounds_of a) (bounds_of b) (bounds_of c) fa fb fc greater (values_at s.dim p) (within_of s a p ea k) };
  second = λ p k. record { point = point_over t.dim s.dim p ed k.point; within = second_inside s.dim (bounds_of a) (bounds_of b) (bounds_of c) fa fb fc greater (values_at s.dim p) (meets_over t.dim s.dim (bounds_of b) p ed (within_of t b p eb k)) };
  least = λ u eu hu us ut. least u eu u.bounds refl hu us ut;
}
  where
    ta : IsTightTable s.dim a
    ta = table_of s a hs ea

    tb : IsTightTable s.dim b
    tb = subst (λ (n : ℕ). IsTightTable n b) ed (table_of t b ht eb)

    fa : (i j : ℕ) → IfSome (bounds_of a i j) IsFraction
    fa = fractions s.dim a ta

    fb : (i j : ℕ) → IfSome (bounds_of b i j) IsFraction
    fb = fractions s.dim b tb

    fc : (i j : ℕ) → IfSome (bounds_of c i j) IsFraction
    fc i j = bound_fraction c i j f.fractions

    greater : AreGreater (bounds_of a) (bounds_of b) (s.dim + 1) (bounds_of c)
    greater = subst (λ (m : ℕ). AreGreater (bounds_of a) (bounds_of b) m (bounds_of c)) ta.places g

    least : (u : DifferenceShape) → u.dim ≡ s.dim → (o : Option Table) → u.bounds ≡ o → IfSome o IsTable → Includes u s → Includes u t → Includes u (record { dim = s.dim; bounds = Some c })
    least u eu None eo hu us ut p k = absurd (empty_contains u s a hs eo ea us)
    least u eu (Some d) eo hu us ut p k =
        let fd = λ (i : ℕ) (j : ℕ). bound_fraction d i j hu.fractions in
        let ca : AreCovered (bounds_of d) (bounds_of a) (s.dim + 1) = covered_by s.dim (bounds_of d) (bounds_of a) fa fd ta.tight (includes_values u s (bounds_of d) a eu (λ q l. within_of u d q eo l) ea us) in
        let cb : AreCovered (bounds_of d) (bounds_of b) (t.dim + 1) = covered_by t.dim (bounds_of d) (bounds_of b) fb fd (table_of t b ht eb).tight (includes_values u t (bounds_of d) b (eu ∙ sym ed) (λ q l. within_of u d q eo l) eb ut) in
        is_in_of u d p eo (point_over s.dim u.dim p (sym eu) k.point)
        (meets_over s.dim u.dim (bounds_of d) p (sym eu) (least_inside s.dim (bounds_of a) (bounds_of b) (bounds_of c) fa fb fc greater (bounds_of d) fd ca (subst (λ (n : ℕ). AreCovered (bounds_of d) (bounds_of b) (n + 1)) ed cb) (values_at s.dim p) k.within))
