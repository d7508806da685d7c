-- Bounds that no values meet have a negative closed walk.
use Rattle.std.specs.Prelude.{◌≡◌, ◌⊎◌, ℕ, zero, suc, ◌+◌, ◌<◌, ◌≤◌, List, [], ◌∷◌, ℤ, pos, ◌+ℤ◌, ◌-ℤ◌, ◌≤ℤ◌, ◌<ℤ◌, Option, Some, None, cond, int_lt}
use Rattle.std.proofs.Common.{arith, sym, ◌∙◌, refl, subst, inl, inr}
use Rattle.std.proofs.lemmas.Int.{ints}
use Rattle.std.proofs.lemmas.Option.{same_Some, none-some}
use Rattle.row_core.proofs.Ring.{at_least_zero_or_not}
use Rattle.difference_bounds.specs.declared.fraction.Fraction.{Fraction}
use Rattle.difference_bounds.specs.Walks.{IsNegative}
use Rattle.difference_bounds.specs.Values.{HasNone}
use Rattle.difference_bounds.specs.Tables.{bounds_of}
use Rattle.difference_bounds.specs.TableLaws.{NoneByNegative}
use Rattle.difference_bounds.proofs.Weights as w
use Rattle.difference_bounds.proofs.WeightSteps.{step_law, edge_walk}
use Rattle.difference_bounds.proofs.WalkBounds.{least_is_same, least_is_tight}
use Rattle.difference_bounds.proofs.Potentials.{last_or, value, value_meets}
use Rattle.difference_bounds.proofs.Scaling.{IsOver, walk_from, sign_to}
use Rattle.difference_bounds.proofs.Denominators.{IsTableOver, table_over}
use Rattle.difference_bounds.proofs.Tightness.{zeros_over, meets_over, negative_has_none}

-- ---- walks over more places
below_all : (k m : ℕ) (ps : List ℕ) → k ≤ m → w.AreBelow k ps → w.AreBelow m ps
below_all k m [] l h = tt
below_all k m (p ∷ ps) l (q, h) = (omega arith, below_all k m ps l h)

walk_all : (u : w.Weights) (k m i j : ℕ) (x : ℤ) → k ≤ m → w.HasWalk u k i j x → w.HasWalk u m i j x
walk_all u k m i j x l h = record { inner = h.inner; below = below_all k m h.inner l h.below; total = h.total }

direct : (u : w.Weights) (i j : ℕ) (x : ℤ) (ps : List ℕ) → w.AreBelow 0 ps → w.HasTotal u i ps j x → u i j ≡ Some x
direct u i j x [] l e = e
direct u i j x (p ∷ ps) (l, h) e = absurd (omega arith)

-- ---- the lesser of a number and a sum
abbrev relaxed : Option ℤ → Option ℤ → Option ℤ → Option ℤ
relaxed a None c = a
relaxed a (Some y) None = a
relaxed None (Some y) (Some z) = Some (y +ℤ z)
relaxed (Some x) (Some y) (Some z) = cond (int_lt (y +ℤ z) x) (Some (y +ℤ z)) (Some x)

lesser_falls : (x s : ℤ) → s <ℤ x → cond (int_lt s x) (Some s) (Some x) ≡ Some s
lesser_falls x s h = grind (arith, ints)

lesser_stays : (x s : ℤ) → x ≤ℤ s → cond (int_lt s x) (Some s) (Some x) ≡ Some x
lesser_stays x s h = grind (arith, ints)

module _ (u : w.Weights) (k i j : ℕ) (closed : w.IsNonnegativeAt u k) where
  relaxed_least : (a b c : Option ℤ) → w.IsLeast u k i j a → w.IsLeast u k i k b → w.IsLeast u k k j c → w.IsLeast u (k + 1) i j (relaxed a b c)
  relaxed_least a None c la lb lc = (step_law u k i j a None c closed la lb lc).0 tt
  relaxed_least a (Some y) None la lb lc = (step_law u k i j a (Some y) None closed la lb lc).0 tt
  relaxed_least None (Some y) (Some z) la lb lc = (step_law u k i j None (Some y) (Some z) closed la lb lc).1 y z refl refl tt
  relaxed_least (Some x) (Some y) (Some z) la lb lc = by (at_least_zero_or_not (y +ℤ z -ℤ x))
    where
      by : (pos 0 ≤ℤ (y +ℤ z -ℤ x)) ⊎ ((y +ℤ z -ℤ x) <ℤ pos 0) → w.IsLeast u (k + 1) i j (relaxed (Some x) (Some y) (Some z))
      by (inl h) = subst (w.IsLeast u (k + 1) i j) (sym (lesser_stays x (y +ℤ z) (omega (arith, ints, h)))) ((step_law u k i j (Some x) (Some y) (Some z) closed la lb lc).0 (omega (arith, ints, h)))
      by (inr h) = subst (w.IsLeast u (k + 1) i j) (sym (lesser_falls x (y +ℤ z) (omega (arith, ints, h)))) ((step_law u k i j (Some x) (Some y) (Some z) closed la lb lc).1 y z refl refl (omega (arith, ints, h)))

-- ---- a negative closed walk, or least totals
module _ (u : w.Weights) (m : ℕ) where
  record HasNegative : Type 0 where
    place : ℕ
    below : place < m
    total : ℤ
    walk : w.HasWalk u m place place total
    negative : total <ℤ pos 0

  abbrev least : ℕ → w.Weights
  least zero = u
  least (suc k) = λ i j. relaxed (least k i j) (least k i k) (least k k j)

  abbrev AreLeast : ℕ → Type 0
  AreLeast k = (i j : ℕ) → i < m → j < m → w.IsLeast u k i j (least k i j)

  starts : AreLeast zero
  starts i j li lj = by (u i j) refl
    where
      by : (o : Option ℤ) → u i j ≡ o → w.IsLeast u 0 i j o
      by None e = λ t h. none-some t (sym e ∙ direct u i j t h.inner h.below h.total)
      by (Some x) e = (edge_walk u 0 i j x e, λ t h. let s = same_Some x t (sym e ∙ direct u i j t h.inner h.below h.total) in omega (arith, ints, s))

  -- the closed walks at a place
  closed_at : (k q : ℕ) → k ≤ m → q < m → (o : Option ℤ) → w.IsLeast u k q q o → HasNegative ⊎ ((x : ℤ) → w.HasWalk u k q q x → pos 0 ≤ℤ x)
  closed_at k q l lq None h = inr (λ x g. absurd (h x g))
  closed_at k q l lq (Some z) h = by (at_least_zero_or_not z)
    where
      by : (pos 0 ≤ℤ z) ⊎ (z <ℤ pos 0) → HasNegative ⊎ ((x : ℤ) → w.HasWalk u k q q x → pos 0 ≤ℤ x)
      by (inl p) = inr (λ x g. let s = h.1 x g in omega (arith, ints, s, p))
      by (inr n) = inl (record { place = q; below = lq; total = z; walk = walk_all u k m q q z l h.0; negative = n })

  steps : (k : ℕ) → suc k ≤ m → AreLeast k → HasNegative ⊎ AreLeast (suc k)
  steps k l h = by (closed_at k k (omega arith) (omega arith) (least k k k) (h k k (omega arith) (omega arith)))
    where
      by : HasNegative ⊎ ((x : ℤ) → w.HasWalk u k k k x → pos 0 ≤ℤ x) → HasNegative ⊎ AreLeast (suc k)
      by (inl n) = inl n
      by (inr c) = inr (λ i j li lj. subst (λ (n : ℕ). w.IsLeast u n i j (least (suc k) i j)) (omega arith) (relaxed_least u k i j c (least k i j) (least k i k) (least k k j) (h i j li lj) (h i k li (omega arith)) (h k j (omega arith) lj)))

  passes : (k : ℕ) → k ≤ m → HasNegative ⊎ AreLeast k
  passes zero l = inr starts
  passes (suc k) l = by (passes k (omega arith))
    where
      by : HasNegative ⊎ AreLeast k → HasNegative ⊎ AreLeast (suc k)
      by (inl n) = inl n
      by (inr h) = steps k l h

  abbrev AreNonnegative : ℕ → Type 0
  AreNonnegative n = (q : ℕ) (x : ℤ) → q < n → w.HasWalk u m q q x → pos 0 ≤ℤ x

  signs : AreLeast m → (n : ℕ) → n ≤ m → HasNegative ⊎ AreNonnegative n
  signs h zero l = inr (λ q x lq g. absurd (omega arith))
  signs h (suc n) l = by (signs h n (omega arith)) (closed_at m n (omega arith) (omega arith) (least m n n) (h n n (omega arith) (omega arith)))
    where
      more : AreNonnegative n → ((x : ℤ) → w.HasWalk u m n n x → pos 0 ≤ℤ x) → AreNonnegative (suc n)
      more a b q x lq g = of (last_or n q lq)
        where
          of : (q ≡ n) ⊎ (q < n) → pos 0 ≤ℤ x
          of (inl e) = b x (subst (λ (z : ℕ). w.HasWalk u m z z x) e g)
          of (inr s) = a q x s g

      by : HasNegative ⊎ AreNonnegative n → HasNegative ⊎ ((x : ℤ) → w.HasWalk u m n n x → pos 0 ≤ℤ x) → HasNegative ⊎ AreNonnegative (suc n)
      by (inl s) t = inl s
      by (inr a) (inl t) = inl t
      by (inr a) (inr b) = inr (more a b)

  -- or some values
  valued : ((i : ℕ) → i < m → u i i ≡ Some (pos 0)) → HasNegative ⊎ ((v : ℕ → ℤ) × w.Meets u m (pos 1) v)
  valued z = of (passes m (omega arith))
    where
      values : AreLeast m → AreNonnegative m → (v : ℕ → ℤ) × w.Meets u m (pos 1) v
      values h n =
          let tight = least_is_tight u (least m) m z h (λ i x l g. n i x l g) in
          let v = value (least m) m tight (λ (_ : ℕ). pos 0) in
          (v, (least_is_same u (least m) m h (pos 1) (omega (arith, ints)) v).1 (value_meets (least m) m tight (λ (_ : ℕ). pos 0)))

      by : AreLeast m → HasNegative ⊎ AreNonnegative m → HasNegative ⊎ ((v : ℕ → ℤ) × w.Meets u m (pos 1) v)
      by h (inl s) = inl s
      by h (inr n) = inr (values h n)

      of : HasNegative ⊎ AreLeast m → HasNegative ⊎ ((v : ℕ → ℤ) × w.Meets u m (pos 1) v)
      of (inl s) = inl s
      of (inr h) = by h (signs h m (omega arith))

-- ---- fractions
negative_from : (d : ℤ) → pos 0 <ℤ d → (f : Fraction) (x : ℤ) → IsOver d f x → x <ℤ pos 0 → f.num <ℤ pos 0
negative_from d p f x o n = by (at_least_zero_or_not f.num)
  where
    by : (pos 0 ≤ℤ f.num) ⊎ (f.num <ℤ pos 0) → f.num <ℤ pos 0
    by (inl h) = let s = sign_to d p f x o h in absurd (omega (arith, ints, s, n))
    by (inr h) = h

pub none_by_negative : NoneByNegative
none_by_negative t m f z = (λ h. to h (valued over.weights m (zeros_over over.divisor (bounds_of t) over.weights over.scaled m z)), negative_has_none t m m f (omega arith))
  where
    over : IsTableOver (bounds_of t)
    over = table_over t f

    to : HasNone (bounds_of t) m → HasNegative over.weights m ⊎ ((v : ℕ → ℤ) × w.Meets over.weights m (pos 1) v) → IsNegative (bounds_of t) m m
    to h (inl n) =
        let r = walk_from over.divisor (bounds_of t) over.weights over.scaled m n.place n.place n.total n.walk in
        record { place = n.place; below = n.below; total = r.0; walk = r.1; negative = negative_from over.divisor over.positive r.0 n.total r.2 n.negative }
    to h (inr (v, k)) = absurd (h (record { divisor = over.divisor; at = v }) (meets_over over.divisor over.positive (bounds_of t) over.weights over.scaled m v k))
