-- Tests of a number against 0, and numbers of the range.
use Rattle.std.specs.Prelude.{◌≡◌, ◌≢◌, ℤ, pos, negsuc, ◌<ℤ◌, int_lt, ltb, true, false}
use Rattle.std.specs.Int.{w128}
use Rattle.std.proofs.Common.{zero, suc, refl, sym, arith}
use Rattle.std.proofs.lemmas.Bool.{false≢true, ltb-false, ltb-true}
use Rattle.std.proofs.lemmas.Int.{ints, fits_signed_from_abs}
use mir.Val.{SFits}
use Rattle.row_core.specs.Range.{InRange}

-- a number of the range is one of an i128
pub fits : (z : ℤ) → InRange z → SFits w128 z
fits z h = fits_signed_from_abs w128 z h.size

pub above_zero : (u : ℤ) → int_lt (pos 0) u ≡ true → pos 0 <ℤ u
above_zero (pos zero) e = absurd (let f : false ≡ true = e in false≢true f)
above_zero (pos (suc n)) e = omega (arith, ints)
above_zero (negsuc n) e = absurd (let f : false ≡ true = e in false≢true f)

pub below_zero : (u : ℤ) → u ≢ pos 0 → int_lt (pos 0) u ≡ false → u <ℤ pos 0
below_zero (pos zero) ne e = absurd (ne refl)
below_zero (pos (suc n)) ne e = absurd (let f = ltb-false 0 (suc n) e in omega (arith, f))
below_zero (negsuc n) ne e = omega (arith, ints)

pub not_above : (u : ℤ) → int_lt (pos 0) u ≡ false → ¬ (pos 0 <ℤ u)
not_above u e above =
    let below : u <ℤ pos 0 = below_zero u (λ z. omega (arith, ints, above, z)) e in
    omega (arith, ints, above, below)

pub under_zero : (u : ℤ) → int_lt u (pos 0) ≡ true → u <ℤ pos 0
under_zero (pos n) e = absurd (let f : ltb n 0 ≡ true = e in omega (arith, ltb-true n 0 f))
under_zero (negsuc n) e = omega (arith, ints)

pub not_under : (u : ℤ) → int_lt u (pos 0) ≡ false → ¬ (u <ℤ pos 0)
not_under (pos n) e under = omega (arith, ints, under)
not_under (negsuc n) e under = let f : true ≡ false = e in false≢true (sym f)
