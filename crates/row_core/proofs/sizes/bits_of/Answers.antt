use Rattle.std.specs.Prelude.{◌≡◌, ℕ, ◌+◌, ◌*◌, ◌-◌, ◌^◌, ◌<◌, ◌≤◌}
use Rattle.std.specs.Int.Count.{count_leading_zeros}
use Rattle.std.proofs.Common.{arith, subst}
use Rattle.std.proofs.lemmas.Nat.{leading_length}
use Rattle.row_core.proofs.sizes.bits_of.Goals as goal

pub returns : goal.returns
returns c =
    let p = leading_length 128 c.args.n (omega (arith, c.ranges.n)) in
    let e : p.0 ≡ 128 - count_leading_zeros 128 c.args.n = omega (arith, p.1) in
    record {
      below = subst (λ (k : ℕ). c.args.n < 2 ^ k) e p.2;
      least = subst (λ (k : ℕ). 2 ^ k ≤ 2 * c.args.n + 1) e p.3;
    }
