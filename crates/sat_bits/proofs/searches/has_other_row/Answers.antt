use Rattle.std.proofs.Common.{◌≡◌, arith}
use Rattle.sat_bits.proofs.RowSearches.{other_of_three, other_of_two}
use Rattle.sat_bits.proofs.searches.has_other_row.Goals as goal

pub returns-then-rows-gt2 : goal.returns-then-rows-gt2
returns-then-rows-gt2 c = (λ t. other_of_three c.args.rows c.args.i c.args.j c.if-rows-gt2.true, λ h. grind (arith, c.if-rows-gt2.true))

pub returns-then-rows-eq2 : goal.returns-then-rows-eq2
returns-then-rows-eq2 c = (
  λ t. other_of_two c.args.rows c.args.i c.args.j c.if-rows-eq2.true c.requires.first (grind (arith, t)),
  λ h. let same : c.args.i ≡ c.args.j = omega (arith, c.if-rows-eq2.true, c.requires.first, c.requires.second, h.1, h.2, h.3) in grind (arith, same),
)
