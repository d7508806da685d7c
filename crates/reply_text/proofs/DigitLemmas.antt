-- Numbers of one digit.
use Rattle.std.specs.Prelude.{◌≡◌, ℕ, ◌+◌, ◌<◌, [], ◌∷◌, ℤ, pos, negsuc, ◌<ℤ◌, ◌≤ℤ◌, unsigned_abs}
use Prim.Native.Nat.{suc}
use Rattle.std.specs.Fmt.{signed_decimal}
use Rattle.std.proofs.Common.{ap, arith}
use Rattle.std.proofs.lemmas.Fmt.{decimal_digit}
use Rattle.std.proofs.lemmas.Int.{ints}

pub signed_decimal-digit : (z : ℤ) → pos 0 ≤ℤ z → unsigned_abs z < 10 → signed_decimal z ≡ (48 + unsigned_abs z) ∷ []
signed_decimal-digit (pos n) h small = decimal_digit n small
signed_decimal-digit (negsuc n) h small = absurd (omega (arith, ints, h))

pub signed_decimal-negative : (z : ℤ) → z <ℤ pos 0 → unsigned_abs z < 10 → signed_decimal z ≡ 45 ∷ (48 + unsigned_abs z) ∷ []
signed_decimal-negative (pos n) h small = absurd (omega (arith, ints, h))
signed_decimal-negative (negsuc n) h small = ap (λ bs. 45 ∷ bs) (decimal_digit (suc n) small)
