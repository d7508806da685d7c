-- The least totals over all places as the greatest differences.
use Rattle.std.specs.Prelude.{◌≡◌, ◌⊎◌, ℕ, ◌<◌, ◌≤◌, List, [], ◌∷◌, ℤ, pos, ◌-ℤ◌, ◌≤ℤ◌, ◌<ℤ◌, Option, Some, None}
use Rattle.std.proofs.Math.IntN.{◌*ℤ◌}
use Rattle.std.proofs.Common.{arith, sym, ◌∙◌, ap, refl, subst, inl, inr}
use Rattle.std.proofs.lemmas.Int.{ints}
use Rattle.row_core.proofs.Ring.{ring, mul-at_least_zero, at_least_zero_of_mul, at_least_zero_or_not, mul_comm}
use Rattle.difference_bounds.specs.declared.fraction.Fraction.{Fraction}
use Rattle.difference_bounds.specs.Walks.{Bound, Bounds, AreBelow, HasWalk, nothing, IsNonnegative}
use Rattle.difference_bounds.specs.Values.{Values, IsWithin, Meets, IsReached, IsExceeded, IsTightAt, IsTight, MeetSame}
use Rattle.difference_bounds.specs.Tables.{Table, bounds_of, HasZeros, AreLeast}
use Rattle.difference_bounds.specs.Laws.{Closes, ClosesTables, NegativeHasNone}
use Rattle.difference_bounds.proofs.Weights as w
use Rattle.difference_bounds.proofs.WalkBounds.{least_is_same, least_is_tight, negative_is_empty}
use Rattle.difference_bounds.proofs.Potentials.{is_attained}
use Rattle.difference_bounds.proofs.Scaling.{IsOver, Scaled, AreScaled, edge_to, edge_from, walk_to, walk_from, least_to, sign_to, sign_from}
use Rattle.difference_bounds.proofs.Denominators.{IsTableOver, AreOver, table_over, both_over, scaled_once}

-- ---- values
within_gap : (d n f x e a b : ℤ) → n *ℤ d ≡ x *ℤ f → d *ℤ (n *ℤ e -ℤ f *ℤ (a -ℤ b)) ≡ f *ℤ (e *ℤ x -ℤ (d *ℤ a -ℤ d *ℤ b))
within_gap d n f x e a b h =
    let p : d *ℤ (n *ℤ e -ℤ f *ℤ (a -ℤ b)) ≡ e *ℤ (n *ℤ d) -ℤ f *ℤ (d *ℤ a -ℤ d *ℤ b) = simp ring (omega (arith, ints)) in
    let q : e *ℤ (x *ℤ f) -ℤ f *ℤ (d *ℤ a -ℤ d *ℤ b) ≡ f *ℤ (e *ℤ x -ℤ (d *ℤ a -ℤ d *ℤ b)) = simp ring (omega (arith, ints)) in
    p ∙ ap (λ (z : ℤ). e *ℤ z -ℤ f *ℤ (d *ℤ a -ℤ d *ℤ b)) h ∙ q

module _ (d : ℤ) (above : pos 0 <ℤ d) where
  within_to : (f : Fraction) (x : ℤ) (v : Values) (i j : ℕ) → IsOver d f x → IsWithin v i j f → (d *ℤ v.at i -ℤ d *ℤ v.at j) ≤ℤ (v.divisor *ℤ x)
  within_to f x v i j o h =
      let p = within_gap d f.num f.den x v.divisor (v.at i) (v.at j) o.same in
      let q : pos 0 ≤ℤ (d *ℤ (f.num *ℤ v.divisor -ℤ f.den *ℤ (v.at i -ℤ v.at j))) = mul-at_least_zero d (f.num *ℤ v.divisor -ℤ f.den *ℤ (v.at i -ℤ v.at j)) (omega (arith, ints)) (omega (arith, ints, h)) in
      let r : pos 0 ≤ℤ (v.divisor *ℤ x -ℤ (d *ℤ v.at i -ℤ d *ℤ v.at j)) = at_least_zero_of_mul f.den (v.divisor *ℤ x -ℤ (d *ℤ v.at i -ℤ d *ℤ v.at j)) o.positive (subst (λ (z : ℤ). pos 0 ≤ℤ z) p q) in
      omega (arith, ints, r)

  within_from : (f : Fraction) (x : ℤ) (v : Values) (i j : ℕ) → IsOver d f x → (d *ℤ v.at i -ℤ d *ℤ v.at j) ≤ℤ (v.divisor *ℤ x) → IsWithin v i j f
  within_from f x v i j o h =
      let p = within_gap d f.num f.den x v.divisor (v.at i) (v.at j) o.same in
      let s = o.positive in
      let q : pos 0 ≤ℤ (f.den *ℤ (v.divisor *ℤ x -ℤ (d *ℤ v.at i -ℤ d *ℤ v.at j))) = mul-at_least_zero f.den (v.divisor *ℤ x -ℤ (d *ℤ v.at i -ℤ d *ℤ v.at j)) (omega (arith, ints, s)) (omega (arith, ints, h)) in
      let r : pos 0 ≤ℤ (f.num *ℤ v.divisor -ℤ f.den *ℤ (v.at i -ℤ v.at j)) = at_least_zero_of_mul d (f.num *ℤ v.divisor -ℤ f.den *ℤ (v.at i -ℤ v.at j)) above (subst (λ (z : ℤ). pos 0 ≤ℤ z) (sym p) q) in
      omega (arith, ints, r)

  pub values_to : (b : Bounds) (u : w.Weights) → AreScaled d b u → (m : ℕ) (v : Values) → Meets b m v → w.Meets u m v.divisor (λ i. d *ℤ v.at i)
  values_to b u s m v h i j li lj x e = let r = edge_from d b u s i j x e in within_to r.0 x v i j r.2 (h.each i j li lj r.0 r.1)

  pub values_from : (b : Bounds) (u : w.Weights) → AreScaled d b u → (m : ℕ) (v : Values) → pos 0 <ℤ v.divisor → w.Meets u m v.divisor (λ i. d *ℤ v.at i) → Meets b m v
  values_from b u s m v p h = record { positive = p; each = λ i j li lj f e. let r = edge_to d b u s i j f e in within_from f r.0 v i j r.2 (h i j li lj r.0 r.1) }

  -- integer values that meet the weights, over the divisor
  over_bound : (f : Fraction) (x a : ℤ) → IsOver d f x → a ≤ℤ (pos 1 *ℤ x) → (f.den *ℤ a) ≤ℤ (f.num *ℤ d)
  over_bound f x a o h =
      let s = o.positive in
      let q : pos 0 ≤ℤ (f.den *ℤ (x -ℤ a)) = mul-at_least_zero f.den (x -ℤ a) (omega (arith, ints, s)) (omega (arith, ints, h)) in
      let r : f.den *ℤ (x -ℤ a) ≡ x *ℤ f.den -ℤ f.den *ℤ a = simp ring (omega (arith, ints)) in
      let e = o.same in
      omega (arith, ints, q, r, e)

  pub meets_over : (b : Bounds) (u : w.Weights) → AreScaled d b u → (m : ℕ) (v : ℕ → ℤ) → w.Meets u m (pos 1) v → Meets b m (record { divisor = d; at = v })
  meets_over b u s m v h = record { positive = above; each = λ i j li lj f e. let r = edge_to d b u s i j f e in over_bound f r.0 (v i -ℤ v j) r.2 (h i j li lj r.0 r.1) }

-- ---- a table of integer weights
module _ (t : Table) (m : ℕ) (over : IsTableOver (bounds_of t)) where
  reached_at : (i j : ℕ) (f : Fraction) (x : ℤ) → IsOver over.divisor f x → w.HasDifference over.weights m i j x → IsReached (bounds_of t) m i j f
  reached_at i j f x o h = record {
    values = record { divisor = over.divisor; at = h.values };
    meets = meets_over over.divisor over.positive (bounds_of t) over.weights over.scaled m h.values h.meets;
    same = ap (λ (z : ℤ). f.den *ℤ z) h.difference ∙ mul_comm f.den x ∙ sym o.same;
  }

  exceeded_at : (i j : ℕ) (x : ℤ) → w.HasExcess over.weights m i j (x *ℤ over.divisor) → IsExceeded (bounds_of t) m i j x
  exceeded_at i j x h = record {
    values = record { divisor = over.divisor; at = h.values };
    meets = meets_over over.divisor over.positive (bounds_of t) over.weights over.scaled m h.values h.meets;
    more = h.excess;
  }

  tight_at : w.IsTight over.weights m → (i j : ℕ) → i < m → j < m → (o : Bound) (p : Option ℤ) → over.weights i j ≡ p → Scaled over.divisor o p → IsTightAt (bounds_of t) m i j o
  tight_at h i j li lj None None e c = λ x. exceeded_at i j x ((is_attained over.weights m i j h li lj).1 e (x *ℤ over.divisor))
  tight_at h i j li lj None (Some y) e c = absurd c
  tight_at h i j li lj (Some f) None e c = absurd c
  tight_at h i j li lj (Some f) (Some x) e c = reached_at i j f x c ((is_attained over.weights m i j h li lj).0 x e)

  pub tight_by : w.IsTight over.weights m → IsTight (bounds_of t) m
  tight_by h i j li lj = tight_at h i j li lj (bounds_of t i j) (over.weights i j) refl (over.scaled i j)

-- 0 over the divisor
pub zero_over : (d x : ℤ) → IsOver d nothing x → x ≡ pos 0
zero_over d x o = let e : pos 0 *ℤ d ≡ x *ℤ pos 1 = o.same in omega (arith, ints, e)

pub zeros_over : (d : ℤ) (b : Bounds) (u : w.Weights) → AreScaled d b u → (m : ℕ) → HasZeros b m → (i : ℕ) → i < m → u i i ≡ Some (pos 0)
zeros_over d b u s m z i li = let r = edge_to d b u s i i nothing (z i li) in r.1 ∙ ap (λ (x : ℤ). Some x) (zero_over d r.0 r.2)

-- ---- the least totals
module _ (s t : Table) (m : ℕ) (over : AreOver (bounds_of s) (bounds_of t)) (least : AreLeast (bounds_of s) m m (bounds_of t)) where
  abbrev d : ℤ
  d = over.divisor

  weights_least : (i j : ℕ) → i < m → j < m → w.IsLeast over.first m i j (over.second i j)
  weights_least i j li lj =
      let r = least_to d over.positive (bounds_of s) over.first over.first_scaled m i j (bounds_of t i j) (least i j li lj) in
      subst (w.IsLeast over.first m i j) (scaled_once d (bounds_of t i j) r.0 (over.second i j) r.1 (over.second_scaled i j)) r.2

  same_values : MeetSame (bounds_of s) (bounds_of t) m
  same_values v = (to, from)
    where
      to : Meets (bounds_of s) m v → Meets (bounds_of t) m v
      to h = values_from d over.positive (bounds_of t) over.second over.second_scaled m v h.positive ((least_is_same over.first over.second m weights_least v.divisor h.positive (λ i. d *ℤ v.at i)).0 (values_to d over.positive (bounds_of s) over.first over.first_scaled m v h))

      from : Meets (bounds_of t) m v → Meets (bounds_of s) m v
      from h = values_from d over.positive (bounds_of s) over.first over.first_scaled m v h.positive ((least_is_same over.first over.second m weights_least v.divisor h.positive (λ i. d *ℤ v.at i)).1 (values_to d over.positive (bounds_of t) over.second over.second_scaled m v h))

  nonnegative_weights : IsNonnegative (bounds_of s) m m → (i : ℕ) (x : ℤ) → i < m → w.HasWalk over.first m i i x → pos 0 ≤ℤ x
  nonnegative_weights n i x li h = let r = walk_from d (bounds_of s) over.first over.first_scaled m i i x h in sign_to d over.positive r.0 x r.2 (n i li r.0 r.1)

  tight_weights : HasZeros (bounds_of s) m → IsNonnegative (bounds_of s) m m → w.IsTight over.second m
  tight_weights z n = least_is_tight over.first over.second m (zeros_over d (bounds_of s) over.first over.first_scaled m z) weights_least (nonnegative_weights n)

  pub closes : HasZeros (bounds_of s) m → Closes s t m
  closes z = record { same = same_values; tight = λ n. tight_by t m (record { divisor = d; positive = over.positive; weights = over.second; scaled = over.second_scaled }) (tight_weights z n) }

pub closes_tables : ClosesTables
closes_tables s t m f g z l = closes s t m (both_over (bounds_of s) (bounds_of t) (table_over s f) (table_over t g)) l z

-- ---- a negative closed walk
below_all : (k m : ℕ) (ps : List ℕ) → k ≤ m → AreBelow k ps → AreBelow m ps
below_all k m [] l h = tt
below_all k m (p ∷ ps) l (q, h) = (omega arith, below_all k m ps l h)

negative_sign : (d : ℤ) (f : Fraction) (x : ℤ) → pos 0 <ℤ d → IsOver d f x → f.num <ℤ pos 0 → x <ℤ pos 0
negative_sign d f x p o n = by (at_least_zero_or_not x)
  where
    by : (pos 0 ≤ℤ x) ⊎ (x <ℤ pos 0) → x <ℤ pos 0
    by (inl h) = let q = sign_from d p f x o h in absurd (omega (arith, ints, q, n))
    by (inr h) = h

pub negative_has_none : NegativeHasNone
negative_has_none s m k f l n v h =
    let over = table_over s f in
    let walk : HasWalk (bounds_of s) m n.place n.place n.total = record { inner = n.walk.inner; below = below_all k m n.walk.inner (omega arith) n.walk.below; total = n.walk.total } in
    let r = walk_to over.divisor (bounds_of s) over.weights over.scaled m n.place n.place n.total walk in
    negative_is_empty over.weights m n.place r.0 v.divisor n.below r.1 (negative_sign over.divisor n.total r.0 over.positive r.2 n.negative) h.positive (λ i. over.divisor *ℤ v.at i) (values_to over.divisor over.positive (bounds_of s) over.weights over.scaled m v h)
