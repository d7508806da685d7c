-- Magnitudes and signs of numbers.
use Rattle.std.specs.Prelude.{◌≡◌, ◌≢◌, ℕ, zero, suc, ◌+◌, ◌/◌, ◌^◌, ◌<◌, ◌≤◌, ℤ, pos, negsuc, neg_ℤ, ◌+ℤ◌, ◌*ℤ◌, ◌<ℤ◌, ◌≤ℤ◌, unsigned_abs, int_div}
use Rattle.std.specs.Int.{w128}
use Rattle.std.proofs.Common.{refl, sym, arith, to_z, of_z}
use Rattle.std.proofs.lemmas.Int.{ints, to_z-of_z, to_z_pos, fits_signed_from_abs}
use native.Mathlib.Nat.{div-le_self}
use mir.Syntax.{Width}
use Rattle.row_core.specs.Range.{InRange}
use Rattle.row_core.specs.Signs.{sign}
use Rattle.row_core.proofs.Ring.{one-mul}

pub magnitude_above : (u : ℤ) → u ≢ pos 0 → 0 < unsigned_abs u
magnitude_above (pos zero) ne = absurd (ne refl)
magnitude_above (pos (suc n)) ne = omega arith
magnitude_above (negsuc n) ne = omega arith

pub magnitude-positive : (u : ℤ) → pos 0 <ℤ u → pos (unsigned_abs u) ≡ u
magnitude-positive (pos n) h = refl
magnitude-positive (negsuc n) h = absurd (omega (arith, ints, h))

pub magnitude-negative : (u : ℤ) → u <ℤ pos 0 → pos (unsigned_abs u) ≡ neg_ℤ u
magnitude-negative (pos n) h = absurd (omega (arith, ints, h))
magnitude-negative (negsuc n) h = refl

pub magnitude-neg : (u : ℤ) → unsigned_abs (neg_ℤ u) ≡ unsigned_abs u
magnitude-neg (pos zero) = refl
magnitude-neg (pos (suc n)) = refl
magnitude-neg (negsuc n) = refl

-- a quotient by a number above 0 is of the range
pub int_div-in_range : (x d : ℤ) → pos 0 <ℤ d → InRange x → InRange (int_div x d)
int_div-in_range (pos a) (pos b) above h = record { size = omega (arith, div-le_self a b, h.size) }
int_div-in_range (negsuc a) (pos b) above h =
    record { size = omega (arith, magnitude-neg (pos (suc a / b)), div-le_self (suc a) b, h.size) }
int_div-in_range x (negsuc b) above h = absurd above.lt

-- a number above 0 isn't 0 in code
pub of_z-above : (w : Width) (d : ℤ) → pos 0 <ℤ d → 0 < of_z w d
of_z-above w (pos n) above = let e : 0 < n = omega (arith, ints, above) in e
of_z-above w (negsuc n) above = absurd above.lt

-- a number of the range, as code passes it on
pub back : (z : ℤ) → InRange z → to_z w128 (of_z w128 z) ≡ z
back z h = to_z-of_z w128 z (fits_signed_from_abs w128 z h.size)

-- a natural number below the range's end, as a signed one
pub back_pos : (n : ℕ) → n < 2 ^ 127 → to_z w128 n ≡ pos n
back_pos n h = to_z_pos w128 n h

pub sign_times : (u : ℤ) → sign u *ℤ u ≡ pos (unsigned_abs u)
sign_times (pos zero) = refl
sign_times (pos (suc n)) = omega (arith, ints)
sign_times (negsuc n) = omega (arith, ints)

pub sign_above : (u x : ℤ) → pos 0 <ℤ u → x ≡ sign u *ℤ x
sign_above (pos zero) x h = absurd (omega (arith, ints, h))
sign_above (pos (suc n)) x h = sym (one-mul x)
sign_above (negsuc n) x h = absurd (omega (arith, ints, h))

-- ---- the size of a sum
at_most_size : (z : ℤ) (n : ℕ) → unsigned_abs z ≤ n → z ≤ℤ pos n
at_most_size (pos a) n h = omega (arith, ints)
at_most_size (negsuc a) n h = omega (arith, ints)

at_least_size : (z : ℤ) (n : ℕ) → unsigned_abs z ≤ n → neg_ℤ (pos n) ≤ℤ z
at_least_size (pos a) n h = omega (arith, ints)
at_least_size (negsuc a) n h = omega (arith, ints)

size_between : (z : ℤ) (n : ℕ) → z ≤ℤ pos n → neg_ℤ (pos n) ≤ℤ z → unsigned_abs z ≤ n
size_between (pos a) n h k = omega (arith, ints)
size_between (negsuc a) n h k = omega (arith, ints)

pub unsigned_abs-add : (a b : ℤ) (m n : ℕ) → unsigned_abs a ≤ m → unsigned_abs b ≤ n →
    unsigned_abs (a +ℤ b) ≤ m + n
unsigned_abs-add a b m n h k =
    size_between (a +ℤ b) (m + n)
    (omega (arith, ints, at_most_size a m h, at_most_size b n k))
    (omega (arith, ints, at_least_size a m h, at_least_size b n k))
