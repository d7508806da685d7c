use Rattle.std.proofs.Common.{◌≡◌, ◌+◌, ◌-◌, ◌*◌, ℕ, take, drop, ap, arith}
use Rattle.sat_bits.proofs.searches.row_at.Goals as goal

pub returns-clause-value : goal.returns-clause-value
returns-clause-value c =
    let size : c.args.i * c.args.width + c.args.width - c.args.i * c.args.width ≡ c.args.width = omega arith in
    ap (λ (n : ℕ). take n (drop (c.args.i * c.args.width) c.args.cells.now)) size
