-- The integers as an ordered commutative ring. `simp ring (omega (arith, ints))` proves an equation
-- between polynomials: `ring` multiplies out and sorts the factors, and `omega` compares the sums.
use Rattle.std.proofs.Common.{◌≡◌, ◌≢◌, ◌⊎◌, inl, inr, ℕ, zero, suc, ◌+◌, ◌*◌, ◌<◌, ℤ, pos, negsuc, ◌+ℤ◌, ◌-ℤ◌, ◌*ℤ◌, neg_ℤ, ◌≤ℤ◌, ◌<ℤ◌, unsigned_abs, refl, ap, ◌∙◌, arith, mul-pos}
use Rattle.std.proofs.lemmas.Int.{ints}
use borrow.Author.Differences.{up, down, same_in, sum_is_lem, product_is, neg_is}

up-mul : (a b : ℤ) → up (a *ℤ b) ≡ up a * up b + down a * down b
up-mul a b = (product_is a b).0

down-mul : (a b : ℤ) → down (a *ℤ b) ≡ up a * down b + down a * up b
down-mul a b = (product_is a b).1

pub mul_comm : (a b : ℤ) → a *ℤ b ≡ b *ℤ a
mul_comm a b = same_in (a *ℤ b) (b *ℤ a) (simp (up-mul, down-mul) (omega arith))

pub mul_assoc : (a b c : ℤ) → (a *ℤ b) *ℤ c ≡ a *ℤ (b *ℤ c)
mul_assoc a b c = same_in ((a *ℤ b) *ℤ c) (a *ℤ (b *ℤ c)) (simp (up-mul, down-mul) (omega arith))

pub mul_left_comm : (a b c : ℤ) → a *ℤ (b *ℤ c) ≡ b *ℤ (a *ℤ c)
mul_left_comm a b c =
    same_in (a *ℤ (b *ℤ c)) (b *ℤ (a *ℤ c)) (simp (up-mul, down-mul) (omega arith))

pub mul-add : (a b c : ℤ) → a *ℤ (b +ℤ c) ≡ a *ℤ b +ℤ a *ℤ c
mul-add a b c =
    let e = ap (λ (n : ℕ). up a * n) (sum_is_lem b c) in
    let f = ap (λ (n : ℕ). down a * n) (sum_is_lem b c) in
    omega (arith, ints, e, f)

pub add-mul : (a b c : ℤ) → (a +ℤ b) *ℤ c ≡ a *ℤ c +ℤ b *ℤ c
add-mul a b c =
    let e = ap (λ (n : ℕ). n * up c) (sum_is_lem a b) in
    let f = ap (λ (n : ℕ). n * down c) (sum_is_lem a b) in
    omega (arith, ints, e, f)

pub neg-mul : (a b : ℤ) → neg_ℤ a *ℤ b ≡ neg_ℤ (a *ℤ b)
neg-mul a b =
    let e = ap (λ (n : ℕ). n * up b) (neg_is a).0 in
    let f = ap (λ (n : ℕ). n * down b) (neg_is a).0 in
    let g = ap (λ (n : ℕ). n * up b) (neg_is a).1 in
    let h = ap (λ (n : ℕ). n * down b) (neg_is a).1 in
    omega (arith, ints, e, f, g, h)

pub mul-neg : (a b : ℤ) → a *ℤ neg_ℤ b ≡ neg_ℤ (a *ℤ b)
mul-neg a b = mul_comm a (neg_ℤ b) ∙ neg-mul b a ∙ ap neg_ℤ (mul_comm b a)

-- products multiplied out, with their factors sorted
pub ruleset ring = (mul_comm, mul_assoc, mul_left_comm, mul-add, add-mul, neg-mul, mul-neg)

pub zero-mul : (a : ℤ) → pos 0 *ℤ a ≡ pos 0
zero-mul a = omega (arith, ints)

pub mul-zero : (a : ℤ) → a *ℤ pos 0 ≡ pos 0
mul-zero a = omega (arith, ints)

pub one-mul : (a : ℤ) → pos 1 *ℤ a ≡ a
one-mul a = omega (arith, ints)

pub mul-at_least_zero : (a b : ℤ) → pos 0 ≤ℤ a → pos 0 ≤ℤ b → pos 0 ≤ℤ (a *ℤ b)
mul-at_least_zero (pos a) (pos b) h k = omega (arith, ints)
mul-at_least_zero (pos a) (negsuc b) h k = absurd (omega (arith, ints))
mul-at_least_zero (negsuc a) b h k = absurd (omega (arith, ints))

pub mul-positive : (a b : ℤ) → pos 0 <ℤ a → pos 0 <ℤ b → pos 0 <ℤ (a *ℤ b)
mul-positive (pos a) (pos b) h k =
    let p : 0 < a = omega (arith, ints) in
    let q : 0 < b = omega (arith, ints) in
    omega (arith, ints, mul-pos p q)
mul-positive (pos a) (negsuc b) h k = absurd (omega (arith, ints))
mul-positive (negsuc a) b h k = absurd (omega (arith, ints))

pub mul-negative : (a b : ℤ) → pos 0 <ℤ a → b <ℤ pos 0 → (a *ℤ b) <ℤ pos 0
mul-negative (pos a) (pos b) h k = absurd (omega (arith, ints))
mul-negative (pos a) (negsuc b) h k =
    let p : 0 < a = omega (arith, ints) in
    let q : 0 < suc b = omega arith in
    omega (arith, ints, mul-pos p q)
mul-negative (negsuc a) b h k = absurd (omega (arith, ints))

-- the sign of a number
pub by_sign : (a : ℤ) → (pos 0 <ℤ a) ⊎ ((a <ℤ pos 0) ⊎ (a ≡ pos 0))
by_sign (pos zero) = inr (inr refl)
by_sign (pos (suc n)) = inl (omega (arith, ints))
by_sign (negsuc n) = inr (inl (omega (arith, ints)))

pub at_least_zero_or_not : (a : ℤ) → (pos 0 ≤ℤ a) ⊎ (a <ℤ pos 0)
at_least_zero_or_not (pos n) = inl (omega (arith, ints))
at_least_zero_or_not (negsuc n) = inr (omega (arith, ints))

pub same_or_not : (a b : ℤ) → (a ≡ b) ⊎ (a ≢ b)
same_or_not a b = same_by_sign a b (by_sign (a -ℤ b))
  where
    same_by_sign : (a b : ℤ) → (pos 0 <ℤ (a -ℤ b)) ⊎ (((a -ℤ b) <ℤ pos 0) ⊎ (a -ℤ b ≡ pos 0)) →
        (a ≡ b) ⊎ (a ≢ b)
    same_by_sign a b (inl h) = inr (λ e. omega (arith, ints))
    same_by_sign a b (inr (inl h)) = inr (λ e. omega (arith, ints))
    same_by_sign a b (inr (inr h)) = inl (omega (arith, ints))

-- ---- a positive factor cancels
pub at_least_zero_of_mul : (a b : ℤ) → pos 0 <ℤ a → pos 0 ≤ℤ (a *ℤ b) → pos 0 ≤ℤ b
at_least_zero_of_mul a (pos b) h k = omega (arith, ints)
at_least_zero_of_mul a (negsuc b) h k =
    let p : pos 0 <ℤ (a *ℤ neg_ℤ (negsuc b)) =
    mul-positive a (neg_ℤ (negsuc b)) h (omega (arith, ints)) in
    absurd (omega (arith, ints, mul-neg a (negsuc b)))

pub positive_of_mul : (a b : ℤ) → pos 0 <ℤ a → pos 0 <ℤ (a *ℤ b) → pos 0 <ℤ b
positive_of_mul a (pos zero) h k = absurd (omega (arith, ints, mul-zero a))
positive_of_mul a (pos (suc b)) h k = omega (arith, ints)
positive_of_mul a (negsuc b) h k =
    let p : pos 0 <ℤ (a *ℤ neg_ℤ (negsuc b)) =
    mul-positive a (neg_ℤ (negsuc b)) h (omega (arith, ints)) in
    absurd (omega (arith, ints, mul-neg a (negsuc b)))

pub zero_of_mul : (a b : ℤ) → pos 0 <ℤ a → a *ℤ b ≡ pos 0 → b ≡ pos 0
zero_of_mul a (pos zero) h e = refl
zero_of_mul a (pos (suc b)) h e =
    let p : pos 0 <ℤ (a *ℤ pos (suc b)) = mul-positive a (pos (suc b)) h (omega (arith, ints)) in
    absurd (omega (arith, ints))
zero_of_mul a (negsuc b) h e =
    let p : pos 0 <ℤ (a *ℤ neg_ℤ (negsuc b)) =
    mul-positive a (neg_ℤ (negsuc b)) h (omega (arith, ints)) in
    absurd (omega (arith, ints, mul-neg a (negsuc b)))

-- not zero: the magnitude is positive, and the square
pub magnitude_positive : (a : ℤ) → a ≢ pos 0 → pos 0 <ℤ pos (unsigned_abs a)
magnitude_positive (pos zero) h = absurd (h refl)
magnitude_positive (pos (suc n)) h = omega (arith, ints)
magnitude_positive (negsuc n) h = omega (arith, ints)

pub square_positive : (a : ℤ) → a ≢ pos 0 → pos 0 <ℤ (a *ℤ a)
square_positive (pos zero) h = absurd (h refl)
square_positive (pos (suc n)) h =
    mul-positive (pos (suc n)) (pos (suc n)) (omega (arith, ints)) (omega (arith, ints))
square_positive (negsuc n) h =
    let p : pos 0 <ℤ (neg_ℤ (negsuc n) *ℤ neg_ℤ (negsuc n)) = mul-positive (neg_ℤ (negsuc n))
    (neg_ℤ (negsuc n)) (omega (arith, ints)) (omega (arith, ints)) in
    omega (arith, ints)
