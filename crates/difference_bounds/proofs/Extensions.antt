-- Values of some places as values of all.
use Rattle.std.specs.Prelude.{◌≡◌, ◌⊎◌, ℕ, zero, suc, ◌<◌, ◌≤◌, ℤ, pos, ◌+ℤ◌, ◌-ℤ◌, ◌*ℤ◌, ◌≤ℤ◌, ◌<ℤ◌, Option, Some, None, cond, nat_lt}
use Rattle.std.proofs.Common.{arith, sym, ◌∙◌, ap, refl, subst, inl, inr}
use Rattle.std.proofs.lemmas.Int.{ints}
use Rattle.std.proofs.lemmas.Option.{none-some, same_Some}
use Rattle.std.proofs.lemmas.Bool.{cases_lt}
use Rattle.std.proofs.lemmas.Bool.Decides.{nat_tests}
use Rattle.row_core.proofs.Ring.{ring, zero-mul, mul_comm, mul-at_least_zero, mul-positive}
use Rattle.difference_bounds.specs.declared.fraction.Fraction.{Fraction}
use Rattle.difference_bounds.specs.Walks.{Bounds}
use Rattle.difference_bounds.specs.Values.{Meets, IsWithin}
use Rattle.difference_bounds.specs.Tables.{bounds_of}
use Rattle.difference_bounds.specs.TableLaws.{ExtendsValues}
use Rattle.difference_bounds.proofs.Weights as w
use Rattle.difference_bounds.proofs.Potentials.{floor, above_both, last_or, value, value_least, value_reached, value_meets, IsEnd}
use Rattle.difference_bounds.proofs.Scaling.{AreScaled, edge_to}
use Rattle.difference_bounds.proofs.Denominators.{IsTableOver, table_over, times}
use Rattle.difference_bounds.proofs.Tightness.{values_to}
use Rattle.difference_bounds.proofs.Triangles.{weights_tight}

-- a number that none of the first k is above
above_all : (g : ℕ → ℤ) (k : ℕ) → (x : ℤ) × ((a : ℕ) → a < k → g a ≤ℤ x)
above_all g zero = (pos 0, λ a l. absurd (omega arith))
above_all g (suc k) = more (above_all g k)
  where
    more : ((x : ℤ) × ((a : ℕ) → a < k → g a ≤ℤ x)) → (x : ℤ) × ((a : ℕ) → a < suc k → g a ≤ℤ x)
    more (x, h) = of (above_both x (g k))
      where
        of : ((y : ℤ) × (x ≤ℤ y) × (g k ≤ℤ y)) → (y : ℤ) × ((a : ℕ) → a < suc k → g a ≤ℤ y)
        of (y, p, q) = (y, λ a l. by a (last_or k a l))
          where
            by : (a : ℕ) → (a ≡ k) ⊎ (a < k) → g a ≤ℤ y
            by a (inl e) = subst (λ (z : ℕ). g z ≤ℤ y) (sym e) q
            by a (inr l) = let r = h a l in omega (arith, ints, r, p)

-- what is multiplied to a number
times_from : (d : ℤ) (o : Option ℤ) (y : ℤ) → times d o ≡ Some y → (x : ℤ) × (o ≡ Some x) × (y ≡ x *ℤ d)
times_from d None y e = absurd (none-some y e)
times_from d (Some x) y e = (x, refl, sym (same_Some (x *ℤ d) y e))

times_is : (d : ℤ) (o : Option ℤ) (x : ℤ) → o ≡ Some x → times d o ≡ Some (x *ℤ d)
times_is d o x e = ap (times d) e

times_most : (d x y z : ℤ) → pos 0 <ℤ d → x ≤ℤ (y +ℤ z) → (x *ℤ d) ≤ℤ (y *ℤ d +ℤ z *ℤ d)
times_most d x y z p h =
    let q : pos 0 ≤ℤ ((y +ℤ z -ℤ x) *ℤ d) = mul-at_least_zero (y +ℤ z -ℤ x) d (omega (arith, ints, h)) (omega (arith, ints, p)) in
    let e : (y +ℤ z -ℤ x) *ℤ d ≡ y *ℤ d +ℤ z *ℤ d -ℤ x *ℤ d = simp ring (omega (arith, ints)) in
    omega (arith, ints, q, e)

-- ---- integer weights
module _ (u : w.Weights) (m : ℕ) (tight : w.IsTight u m) (k : ℕ) (less : k ≤ m) (d : ℤ) (above : pos 0 <ℤ d) (v : ℕ → ℤ) (meets : w.Meets u k d v) where
  abbrev t : w.Weights
  t i j = times d (u i j)

  times_tight : w.IsTight t m
  times_tight = record { zero = λ i li. times_is d (u i i) (pos 0) (tight.zero i li) ∙ ap (λ (x : ℤ). Some x) (zero-mul d); triangle = triangle }
    where
      triangle : (i j l : ℕ) → i < m → j < m → l < m → (y z : ℤ) → t i j ≡ Some y → t j l ≡ Some z → (x : ℤ) × (t i l ≡ Some x) × (x ≤ℤ (y +ℤ z))
      triangle i j l li lj ll y z e f = by (times_from d (u i j) y e) (times_from d (u j l) z f)
        where
          by : ((a : ℤ) × (u i j ≡ Some a) × (y ≡ a *ℤ d)) → ((b : ℤ) × (u j l ≡ Some b) × (z ≡ b *ℤ d)) → (x : ℤ) × (t i l ≡ Some x) × (x ≤ℤ (y +ℤ z))
          by (a, ea, fa) (b, eb, fb) =
              let s = tight.triangle i j l li lj ll a b ea eb in
              let r = times_most d s.0 a b above s.2 in
              (s.0 *ℤ d, times_is d (u i l) s.0 s.1, omega (arith, ints, r, fa, fb))

  high : (x : ℤ) × ((a : ℕ) → a < k → (v a -ℤ (floor (t a) m).0) ≤ℤ x)
  high = above_all (λ a. v a -ℤ (floor (t a) m).0) k

  abbrev ends : ℕ → ℤ
  ends e = cond (nat_lt e k) (v e) high.0

  end_here : (e : ℕ) → e < k → ends e ≡ v e
  end_here e l = grind (arith, nat_tests)

  end_there : (e : ℕ) → k ≤ e → ends e ≡ high.0
  end_there e l = grind (arith, nat_tests)

  pub extended : ℕ → ℤ
  extended = value t m times_tight ends

  pub extended_same : (a : ℕ) → a < k → extended a ≡ v a
  unfolding extended
  extended_same a la = both (value_least t m times_tight ends a a (omega arith) (pos 0) (times_tight.zero a (omega arith))) (of (value_reached t m times_tight ends a (omega arith)))
    where
      of : IsEnd t m times_tight ends a → v a ≤ℤ value t m times_tight ends a
      of r = by (cases_lt r.place k)
        where
          by : (r.place < k) ⊎ (k ≤ r.place) → v a ≤ℤ value t m times_tight ends a
          by (inl l) =
              let f = times_from d (u a r.place) r.bound r.here in
              let h = meets a r.place la l f.0 f.1 in
              let g = f.2 ∙ mul_comm f.0 d in
              let s = r.sum in
              let e = end_here r.place l in
              omega (arith, ints, h, g, s, e)
          by (inr l) =
              let f = (floor (t a) m).1 r.place r.below r.bound r.here in
              let h = high.1 a la in
              let s = r.sum in
              let e = end_there r.place l in
              omega (arith, ints, f, h, s, e)

      both : value t m times_tight ends a ≤ℤ (pos 0 +ℤ ends a) → v a ≤ℤ value t m times_tight ends a → value t m times_tight ends a ≡ v a
      both p q = let e = end_here a la in omega (arith, ints, p, q, e)

  pub extended_meets : w.Meets u m d extended
  unfolding extended
  extended_meets i j li lj x e =
      let h = value_meets t m times_tight ends i j li lj (x *ℤ d) (times_is d (u i j) x e) in
      let g = mul_comm x d in
      omega (arith, ints, h, g)

-- ---- fractions
over_times_within : (d e n f x a : ℤ) → n *ℤ d ≡ x *ℤ f → f *ℤ (e *ℤ x -ℤ a) ≡ n *ℤ (d *ℤ e) -ℤ f *ℤ a
over_times_within d e n f x a h =
    let p : f *ℤ (e *ℤ x -ℤ a) ≡ e *ℤ (x *ℤ f) -ℤ f *ℤ a = simp ring (omega (arith, ints)) in
    let q : e *ℤ (n *ℤ d) -ℤ f *ℤ a ≡ n *ℤ (d *ℤ e) -ℤ f *ℤ a = simp ring (omega (arith, ints)) in
    p ∙ ap (λ (z : ℤ). e *ℤ z -ℤ f *ℤ a) (sym h) ∙ q

meets_times : (d : ℤ) → pos 0 <ℤ d → (b : Bounds) (u : w.Weights) → AreScaled d b u → (m : ℕ) (e : ℤ) → pos 0 <ℤ e → (v : ℕ → ℤ) → w.Meets u m e v → Meets b m (record { divisor = d *ℤ e; at = v })
meets_times d above b u s m e p v h = record { positive = mul-positive d e above p; each = each }
  where
    each : (i j : ℕ) → i < m → j < m → (f : Fraction) → b i j ≡ Some f → IsWithin (record { divisor = d *ℤ e; at = v }) i j f
    each i j li lj f g =
        let r = edge_to d b u s i j f g in
        let q = h i j li lj r.0 r.1 in
        let o = r.2.positive in
        let l : pos 0 ≤ℤ (f.den *ℤ (e *ℤ r.0 -ℤ (v i -ℤ v j))) = mul-at_least_zero f.den (e *ℤ r.0 -ℤ (v i -ℤ v j)) (omega (arith, ints, o)) (omega (arith, ints, q)) in
        let k = over_times_within d e f.num f.den r.0 (v i -ℤ v j) r.2.same in
        omega (arith, ints, l, k)

pub extends_values : ExtendsValues
extends_values t m k v f l h g = record {
  values = record { divisor = over.divisor *ℤ v.divisor; at = extended over.weights m tight k l v.divisor g.positive start met };
  extends = record { times = over.divisor; positive = over.positive; divisor = refl; same = extended_same over.weights m tight k l v.divisor g.positive start met };
  meets = meets_times over.divisor over.positive (bounds_of t) over.weights over.scaled m v.divisor g.positive (extended over.weights m tight k l v.divisor g.positive start met) (extended_meets over.weights m tight k l v.divisor g.positive start met);
}
  where
    over : IsTableOver (bounds_of t)
    over = table_over t f

    tight : w.IsTight over.weights m
    tight = weights_tight (bounds_of t) m over h

    start : ℕ → ℤ
    start i = over.divisor *ℤ v.at i

    met : w.Meets over.weights k v.divisor start
    met = values_to over.divisor over.positive (bounds_of t) over.weights over.scaled k v g
