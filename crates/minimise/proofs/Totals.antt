-- Bounds on the numbers of combinations.
use Rattle.std.proofs.Common.{ℕ, ◌+◌, ◌*◌, ◌≤◌, arith}
use Rattle.std.proofs.Math.Nat.{mul-le-mul_left}

-- two passes over the flat rows and one over the others
pub total_bound : (f k e w n : ℕ) → e ≤ w → f + k ≤ n → 2 * (f * w) + k * e ≤ 2 * (n * w)
total_bound f k e w n h g =
    let a : k * e ≤ k * w = mul-le-mul_left k h in
    let b : w * (f + k) ≤ w * n = mul-le-mul_left w g in
    omega (arith, a, b)
