-- Differences of values, and the fractions that bound them.
use Rattle.std.specs.Prelude.{◌≡◌, ℕ, [], ◌∷◌, ℤ, pos, negsuc, ◌+ℤ◌, ◌-ℤ◌, ◌*ℤ◌, ◌≤ℤ◌, ◌<ℤ◌, Some, None, IfSome, unsigned_abs}
use Prim.Native.Nat.{◌∣◌}
use Rattle.std.proofs.Common.{arith, sym, ◌∙◌, ap, subst, inl, inr}
use Rattle.std.proofs.lemmas.Int.{ints}
use Rattle.std.proofs.lemmas.Nat.Gcd.{dvd_refl, dvd-zero}
use Rattle.std.proofs.lemmas.List.Elements.{All-nil, All-cons}
use Rattle.row_core.proofs.Ring.{ring, mul-at_least_zero, at_least_zero_of_mul, mul-positive, zero_of_mul, mul-zero, mul_comm}
use Rattle.row_core.specs.Content.{IsPrimitive}
use Rattle.difference_bounds.specs.declared.fraction.Fraction.{Fraction}
use Rattle.difference_bounds.specs.Fractions.{IsFraction, IsAtMost, IsBelow, sum}
use Rattle.difference_bounds.specs.Walks.{Bound, Bounds, nothing}
use Rattle.difference_bounds.specs.Values.{Values, IsWithin, IsTightAt, IsTight}
use Rattle.difference_bounds.specs.Tables.{Table, AreFractions, HasZeros, bounds_of}
use Rattle.difference_bounds.proofs.PassLemmas.{bound_fraction}

pub most_not_below : (x y : Fraction) → IsAtMost y x → ¬ (IsBelow x y)
most_not_below x y h k = omega (arith, ints, h, k)

-- a reached difference that is within a fraction is at most it
reached_within : (yn yd xn xd d a : ℤ) → yd *ℤ a ≡ yn *ℤ d → d *ℤ (xn *ℤ yd -ℤ yn *ℤ xd) ≡ yd *ℤ (xn *ℤ d -ℤ xd *ℤ a)
reached_within yn yd xn xd d a e =
    let p : d *ℤ (xn *ℤ yd -ℤ yn *ℤ xd) ≡ yd *ℤ (xn *ℤ d) -ℤ xd *ℤ (yn *ℤ d) = simp ring (omega (arith, ints)) in
    let q : yd *ℤ (xn *ℤ d) -ℤ xd *ℤ (yd *ℤ a) ≡ yd *ℤ (xn *ℤ d -ℤ xd *ℤ a) = simp ring (omega (arith, ints)) in
    p ∙ ap (λ (z : ℤ). yd *ℤ (xn *ℤ d) -ℤ xd *ℤ z) (sym e) ∙ q

below_gap : (d yd x y z : ℤ) → pos 0 <ℤ d → pos 0 <ℤ yd → d *ℤ x ≡ yd *ℤ y → pos 0 ≤ℤ y → pos 0 ≤ℤ x
below_gap d yd x y z p q e h =
    let r : pos 0 ≤ℤ (yd *ℤ y) = mul-at_least_zero yd y (omega (arith, ints)) h in
    at_least_zero_of_mul d x p (subst (λ (u : ℤ). pos 0 ≤ℤ u) (sym e) r)

pub reached_most : (v : Values) (i j : ℕ) (y x : Fraction) → pos 0 <ℤ v.divisor → pos 0 <ℤ y.den → y.den *ℤ (v.at i -ℤ v.at j) ≡ y.num *ℤ v.divisor → IsWithin v i j x → IsAtMost y x
reached_most v i j y x p q e h =
    let g = reached_within y.num y.den x.num x.den v.divisor (v.at i -ℤ v.at j) e in
    let r = below_gap v.divisor y.den (x.num *ℤ y.den -ℤ y.num *ℤ x.den) (x.num *ℤ v.divisor -ℤ x.den *ℤ (v.at i -ℤ v.at j)) (pos 0) p q g (omega (arith, ints, h)) in
    omega (arith, ints, r)

-- no fraction bounds differences that exceed its numerator
pub high_gap : (xn xd d a : ℤ) → pos 0 <ℤ xd → pos 0 <ℤ d → ((pos (unsigned_abs xn) +ℤ pos 1) *ℤ d) ≤ℤ a → (xd *ℤ a) ≤ℤ (xn *ℤ d) → ⊥
high_gap xn xd d a p q h k =
    let m = pos (unsigned_abs xn) +ℤ pos 1 in
    let s : xn <ℤ m = omega (arith, ints) in
    let r : pos 0 <ℤ (d *ℤ (m -ℤ xn)) = mul-positive d (m -ℤ xn) q (omega (arith, ints)) in
    let t : pos 0 ≤ℤ ((xd -ℤ pos 1) *ℤ a) = mul-at_least_zero (xd -ℤ pos 1) a (omega (arith, ints)) (let u : pos 0 ≤ℤ (m *ℤ d) = mul-at_least_zero m d (omega (arith, ints)) (omega (arith, ints)) in omega (arith, ints, u, h)) in
    let e : d *ℤ (m -ℤ xn) ≡ m *ℤ d -ℤ xn *ℤ d = simp ring (omega (arith, ints)) in
    let f : (xd -ℤ pos 1) *ℤ a ≡ xd *ℤ a -ℤ a = simp ring (omega (arith, ints)) in
    omega (arith, ints, r, t, e, f, h, k)

-- the differences by way of a third place
sum_gap : (gn gd hn hd d a b c : ℤ) → (hd *ℤ gn +ℤ gd *ℤ hn) *ℤ d -ℤ (gd *ℤ hd) *ℤ (a -ℤ c) ≡ hd *ℤ (gn *ℤ d -ℤ gd *ℤ (a -ℤ b)) +ℤ gd *ℤ (hn *ℤ d -ℤ hd *ℤ (b -ℤ c))
sum_gap gn gd hn hd d a b c = simp ring (omega (arith, ints))

pub within_sum : (v : Values) (i k j : ℕ) (g h : Fraction) → pos 0 <ℤ g.den → pos 0 <ℤ h.den → IsWithin v i k g → IsWithin v k j h → IsWithin v i j (sum g h)
within_sum v i k j g h pg ph a b =
    let p : pos 0 ≤ℤ (h.den *ℤ (g.num *ℤ v.divisor -ℤ g.den *ℤ (v.at i -ℤ v.at k))) = mul-at_least_zero h.den (g.num *ℤ v.divisor -ℤ g.den *ℤ (v.at i -ℤ v.at k)) (omega (arith, ints)) (omega (arith, ints, a)) in
    let q : pos 0 ≤ℤ (g.den *ℤ (h.num *ℤ v.divisor -ℤ h.den *ℤ (v.at k -ℤ v.at j))) = mul-at_least_zero g.den (h.num *ℤ v.divisor -ℤ h.den *ℤ (v.at k -ℤ v.at j)) (omega (arith, ints)) (omega (arith, ints, b)) in
    let e = sum_gap g.num g.den h.num h.den v.divisor (v.at i) (v.at k) (v.at j) in
    omega (arith, ints, p, q, e)

-- ---- a tight table has 0 from each place to itself
abs_one : (n : ℤ) → pos 0 <ℤ n → unsigned_abs n ≡ 1 → n ≡ pos 1
abs_one (pos n) p e = ap (λ (x : ℕ). pos x) e
abs_one (negsuc n) p e = absurd (omega (arith, ints))

lowest_zero : (den : ℤ) → pos 0 <ℤ den → IsPrimitive (pos 0 ∷ den ∷ []) → den ≡ pos 1
lowest_zero den p (inl h) = absurd (let e : den ≡ pos 0 = h 1 (pos 0) (omega arith) in omega (arith, ints))
lowest_zero den p (inr h) = abs_one den p (h (unsigned_abs den) (All-cons (λ (z : ℤ). unsigned_abs den ∣ unsigned_abs z) (pos 0) (den ∷ []) (dvd-zero (unsigned_abs den)) (All-cons (λ (z : ℤ). unsigned_abs den ∣ unsigned_abs z) den [] (dvd_refl (unsigned_abs den)) (All-nil (λ (z : ℤ). unsigned_abs den ∣ unsigned_abs z)))))

no_difference : (x d a : ℤ) → x *ℤ (a -ℤ a) ≡ d → d ≡ pos 0
no_difference x d a e = let f : a -ℤ a ≡ pos 0 = omega (arith, ints) in sym e ∙ ap (λ (z : ℤ). x *ℤ z) f ∙ mul-zero x

same_fraction : (f g : Fraction) → f.num ≡ g.num → f.den ≡ g.den → f ≡ g
same_fraction f g e h =
    let p : record { num = f.num; den = f.den } ≡ record { num = g.num; den = g.den } = cc in p

zero_at : (b : Bounds) (m i : ℕ) (o : Bound) → IfSome o IsFraction → IsTightAt b m i i o → o ≡ Some nothing
zero_at b m i None f t =
    let r = t (pos 1) in
    let p = r.meets.positive in
    let q = r.more in
    absurd (omega (arith, ints, p, q))
zero_at b m i (Some f) g t =
    let e : f.num *ℤ t.values.divisor ≡ pos 0 = no_difference f.den (f.num *ℤ t.values.divisor) (t.values.at i) t.same in
    let n : f.num ≡ pos 0 = zero_of_mul t.values.divisor f.num t.meets.positive (mul_comm t.values.divisor f.num ∙ e) in
    let l : IsPrimitive (pos 0 ∷ f.den ∷ []) = subst (λ (z : ℤ). IsPrimitive (z ∷ f.den ∷ [])) n g.lowest in
    ap (λ (z : Fraction). Some z) (same_fraction f nothing n (lowest_zero f.den g.positive l))

pub tight_zeros : (t : Table) (m : ℕ) → AreFractions t.cells → IsTight (bounds_of t) m → HasZeros (bounds_of t) m
tight_zeros t m h k i li = zero_at (bounds_of t) m i (bounds_of t i i) (bound_fraction t i i h) (k i i li li)
