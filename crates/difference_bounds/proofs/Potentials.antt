-- The value of a place as the least of a row of the table, each bound with a potential of its end.
use Rattle.std.specs.Prelude.{◌≡◌, ◌≢◌, ◌⊎◌, ℕ, zero, suc, ◌<◌, ℤ, pos, ◌+ℤ◌, ◌-ℤ◌, ◌≤ℤ◌, ◌<ℤ◌, Option, Some, None}
use Rattle.std.proofs.Common.{arith, sym, ◌∙◌, ap, refl, inl, inr}
use Rattle.std.proofs.lemmas.Int.{ints}
use Rattle.std.specs.Prelude.{cond, nat_eq}
use Rattle.std.proofs.lemmas.Option.{none-some}
use Rattle.std.proofs.lemmas.Bool.{cases_order}
use Rattle.std.proofs.lemmas.Bool.Decides.{nat_tests}
use Rattle.row_core.proofs.Ring.{at_least_zero_or_not}
use Rattle.difference_bounds.proofs.Weights.{Weights, IsTight, Meets, HasDifference, HasExcess, IsAttained}

same_value : (o : Option ℤ) (x y : ℤ) → o ≡ Some x → o ≡ Some y → x ≡ y
same_value o x y e f = cc

-- the least of the numbers that a function has below m
data Best (f : ℕ → Option ℤ) (m : ℕ) : Type 0 where
  nowhere : ((b : ℕ) → b < m → (y : ℤ) → f b ≡ Some y → ⊥) → Best f m
  at : (b : ℕ) (x : ℤ) → b < m → f b ≡ Some x → ((e : ℕ) → e < m → (y : ℤ) → f e ≡ Some y → x ≤ℤ y) → Best f m

pub last_or : (m e : ℕ) → e < suc m → (e ≡ m) ⊎ (e < m)
last_or m e h = by (cases_order e m)
  where
    by : (e ≡ m) ⊎ ((e < m) ⊎ (m < e)) → (e ≡ m) ⊎ (e < m)
    by (inl p) = inl p
    by (inr (inl p)) = inr p
    by (inr (inr p)) = absurd (omega arith)

module _ (f : ℕ → Option ℤ) (m : ℕ) where
  -- what holds of m and below it
  abbrev Least : ℤ → ℕ → Type 0
  Least x n = (e : ℕ) → e < n → (y : ℤ) → f e ≡ Some y → x ≤ℤ y

  least_more : (x : ℤ) → Least x m → ((y : ℤ) → f m ≡ Some y → x ≤ℤ y) → Least x (suc m)
  least_more x l h e p y q = by (last_or m e p)
    where
      by : (e ≡ m) ⊎ (e < m) → x ≤ℤ y
      by (inl s) = h y (ap f (sym s) ∙ q)
      by (inr s) = l e s y q

  best_more : Best f m → (o : Option ℤ) → f m ≡ o → Best f (suc m)
  best_more (nowhere n) None e = nowhere (λ b p y q. elim (last_or m b p) [ inl s ↦ none-some y (sym e ∙ (ap f (sym s) ∙ q)) | inr s ↦ n b s y q ])
  best_more (nowhere n) (Some z) e = at m z (omega arith) e (least_more z (λ b p y q. absurd (n b p y q)) (λ y q. let s = same_value (f m) z y e q in omega (arith, ints)))
  best_more (at b x l q h) None e = at b x (omega arith) q (least_more x h (λ y r. absurd (none-some y (sym e ∙ r))))
  best_more (at b x l q h) (Some z) e = by (at_least_zero_or_not (z -ℤ x))
    where
      by : (pos 0 ≤ℤ (z -ℤ x)) ⊎ ((z -ℤ x) <ℤ pos 0) → Best f (suc m)
      by (inl s) = at b x (omega arith) q (least_more x h (λ y r. let u = same_value (f m) z y e r in omega (arith, ints)))
      by (inr s) = at m z (omega arith) e (least_more z (λ k p y r. let u = h k p y r in omega (arith, ints)) (λ y r. let u = same_value (f m) z y e r in omega (arith, ints)))

best : (f : ℕ → Option ℤ) (m : ℕ) → Best f m
best f zero = nowhere (λ b p y q. absurd (omega arith))
best f (suc m) = best_more f m (best f m) (f m) refl

abbrev least_value : (f : ℕ → Option ℤ) (m : ℕ) → Best f m → ℤ
least_value f m (nowhere n) = pos 0
least_value f m (at b x l q h) = x

least_is : (f : ℕ → Option ℤ) (m : ℕ) (r : Best f m) (e : ℕ) → e < m → (y : ℤ) → f e ≡ Some y → least_value f m r ≤ℤ y
least_is f m (nowhere n) e p y q = absurd (n e p y q)
least_is f m (at b x l q h) e p y r = h e p y r

-- where it is reached
pub record IsReached (f : ℕ → Option ℤ) (m : ℕ) (x : ℤ) : Type 0 where
  pub place : ℕ
  pub below : place < m
  pub same : f place ≡ Some x

least_reached : (f : ℕ → Option ℤ) (m : ℕ) (r : Best f m) (e : ℕ) → e < m → (y : ℤ) → f e ≡ Some y → IsReached f m (least_value f m r)
least_reached f m (nowhere n) e p y q = absurd (n e p y q)
least_reached f m (at b x l q h) e p y r = record { place = b; below = l; same = q }

-- ---- potentials
abbrev raised : Option ℤ → ℤ → Option ℤ
raised None c = None
raised (Some x) c = Some (x +ℤ c)

raised_is : (o : Option ℤ) (c x : ℤ) → o ≡ Some x → raised o c ≡ Some (x +ℤ c)
raised_is o c x e = ap (λ (p : Option ℤ). raised p c) e

-- what is raised to a number
pub record IsRaised (o : Option ℤ) (c y : ℤ) : Type 0 where
  pub number : ℤ
  pub before : o ≡ Some number
  pub sum : y ≡ number +ℤ c

raised_from : (o : Option ℤ) (c y : ℤ) → raised o c ≡ Some y → IsRaised o c y
raised_from None c y e = absurd (none-some y e)
raised_from (Some x) c y e = record { number = x; before = refl; sum = same_value (Some (x +ℤ c)) y (x +ℤ c) e refl }

module _ (t : Weights) (m : ℕ) (tight : IsTight t m) (c : ℕ → ℤ) where
  abbrev ends : ℕ → ℕ → Option ℤ
  ends a b = raised (t a b) (c b)

  pub value : ℕ → ℤ
  value a = least_value (ends a) m (best (ends a) m)

  pub value_least : (a b : ℕ) → b < m → (x : ℤ) → t a b ≡ Some x → value a ≤ℤ (x +ℤ c b)
  unfolding value
  value_least a b l x e = least_is (ends a) m (best (ends a) m) b l (x +ℤ c b) (raised_is (t a b) (c b) x e)

  pub record IsEnd (a : ℕ) : Type 0 where
    pub place : ℕ
    pub below : place < m
    pub bound : ℤ
    pub here : t a place ≡ Some bound
    pub sum : value a ≡ bound +ℤ c place

  pub value_reached : (a : ℕ) → a < m → IsEnd a
  unfolding value
  value_reached a l =
      let r : IsReached (ends a) m (value a) = least_reached (ends a) m (best (ends a) m) a l (pos 0 +ℤ c a) (raised_is (t a a) (c a) (pos 0) (tight.zero a l)) in
      let s : IsRaised (t a r.place) (c r.place) (value a) = raised_from (t a r.place) (c r.place) (value a) r.same in
      record { place = r.place; below = r.below; bound = s.number; here = s.before; sum = s.sum }

  pub value_meets : Meets t m (pos 1) value
  value_meets a b la lb y e =
      let r = value_reached b lb in
      let s = tight.triangle a b r.place la lb r.below y r.bound e r.here in
      let u = value_least a r.place r.below s.0 s.1 in
      let v = s.2 in
      let z = r.sum in
      omega (arith, ints)

-- ---- the potential that is 0 at one place and high elsewhere
abbrev high_but : ℕ → ℤ → ℕ → ℤ
high_but j h b = cond (nat_eq b j) (pos 0) h

high_here : (j : ℕ) (h : ℤ) → high_but j h j ≡ pos 0
high_here j h = grind (arith, nat_tests)

high_there : (j : ℕ) (h : ℤ) (b : ℕ) → b ≢ j → high_but j h b ≡ h
high_there j h b n = grind (arith, nat_tests)

pub floor : (f : ℕ → Option ℤ) (m : ℕ) → (x : ℤ) × ((e : ℕ) → e < m → (y : ℤ) → f e ≡ Some y → x ≤ℤ y)
floor f m = (least_value f m (best f m), least_is f m (best f m))

pub above_both : (a b : ℤ) → (x : ℤ) × (a ≤ℤ x) × (b ≤ℤ x)
above_both a b = by (at_least_zero_or_not (a -ℤ b))
  where
    by : (pos 0 ≤ℤ (a -ℤ b)) ⊎ ((a -ℤ b) <ℤ pos 0) → (x : ℤ) × (a ≤ℤ x) × (b ≤ℤ x)
    by (inl h) = (a, omega (arith, ints), omega (arith, ints))
    by (inr h) = (b, omega (arith, ints), omega (arith, ints))

here_or : (a b : ℕ) → (a ≡ b) ⊎ (a ≢ b)
here_or a b = by (cases_order a b)
  where
    by : (a ≡ b) ⊎ ((a < b) ⊎ (b < a)) → (a ≡ b) ⊎ (a ≢ b)
    by (inl e) = inl e
    by (inr (inl h)) = inr (λ e. omega arith)
    by (inr (inr h)) = inr (λ e. omega arith)

module _ (t : Weights) (m : ℕ) (tight : IsTight t m) (i j : ℕ) (li : i < m) (lj : j < m) where
  abbrev of : ℤ → ℕ → ℤ
  of h = value t m tight (high_but j h)

  at_most : (h : ℤ) (a : ℕ) (x : ℤ) → t a j ≡ Some x → of h a ≤ℤ x
  at_most h a x e = let u = value_least t m tight (high_but j h) a j lj x e in let z = high_here j h in omega (arith, ints)

  at_least : (h : ℤ) (a : ℕ) → a < m → (x : ℤ) → ((y : ℤ) → t a j ≡ Some y → x ≤ℤ y) → ((b : ℕ) → b < m → (y : ℤ) → t a b ≡ Some y → x ≤ℤ (y +ℤ h)) → x ≤ℤ of h a
  at_least h a la x p q = of_end (value_reached t m tight (high_but j h) a la)
    where
      of_end : IsEnd t m tight (high_but j h) a → x ≤ℤ of h a
      of_end r = by (here_or r.place j)
        where
          by : (r.place ≡ j) ⊎ (r.place ≢ j) → x ≤ℤ of h a
          by (inl e) =
              let u = p r.bound (ap (t a) (sym e) ∙ r.here) in
              let z : high_but j h r.place ≡ pos 0 = ap (high_but j h) e ∙ high_here j h in
              let s = r.sum in
              omega (arith, ints)
          by (inr n) =
              let u = q r.place r.below r.bound r.here in
              let z = high_there j h r.place n in
              let s = r.sum in
              omega (arith, ints)

  pub attained : (x : ℤ) → t i j ≡ Some x → HasDifference t m i j x
  attained x e =
      let fi = floor (t i) m in
      let fj = floor (t j) m in
      let h = above_both (x -ℤ fi.0) (pos 0 -ℤ fj.0) in
      let h1 = h.1 in
      let h2 = h.2 in
      let pi : of h.0 i ≤ℤ x = at_most h.0 i x e in
      let pj : of h.0 j ≤ℤ pos 0 = at_most h.0 j (pos 0) (tight.zero j lj) in
      let qi : x ≤ℤ of h.0 i = at_least h.0 i li x (λ y p. let s = same_value (t i j) x y e p in omega (arith, ints)) (λ b l y p. let s = fi.1 b l y p in omega (arith, ints)) in
      let qj : pos 0 ≤ℤ of h.0 j = at_least h.0 j lj (pos 0) (λ y p. let s = same_value (t j j) (pos 0) y (tight.zero j lj) p in omega (arith, ints)) (λ b l y p. let s = fj.1 b l y p in omega (arith, ints)) in
      record { values = of h.0; meets = value_meets t m tight (high_but j h.0); difference = omega (arith, ints) }

  pub exceeded : t i j ≡ None → (x : ℤ) → HasExcess t m i j x
  exceeded e x =
      let fi = floor (t i) m in
      let h = x -ℤ fi.0 in
      let pj : of h j ≤ℤ pos 0 = at_most h j (pos 0) (tight.zero j lj) in
      let qi : x ≤ℤ of h i = at_least h i li x (λ y p. absurd (none-some y (sym e ∙ p))) (λ b l y p. let s = fi.1 b l y p in omega (arith, ints)) in
      record { values = of h; meets = value_meets t m tight (high_but j h); excess = omega (arith, ints) }

pub is_attained : IsAttained
is_attained w m i j tight li lj = (attained w m tight i j li lj, exceeded w m tight i j li lj)
