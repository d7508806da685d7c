use Rattle.std.proofs.Common.{ℕ, ◌∙◌, ap, sym, arith}
use Rattle.std.proofs.lemmas.Nat.Gcd.{le_of_dvd}
use Rattle.cdd_reading.specs.Fractions.{gcd}
use Rattle.cdd_reading.proofs.Divisors.{gcd_same, divisor_positive, one_is_gcd}
use Rattle.cdd_reading.proofs.quotients.common_divisor.Goals as goal

pub returns-then-b-eq1-clause-value : goal.returns-then-b-eq1-clause-value
returns-then-b-eq1-clause-value c = gcd_same c.args.a 1 1 (omega arith) (one_is_gcd c.args.a) ∙ ap (λ (n : ℕ). gcd c.args.a n) (sym c.if-b-eq1.true)

pub returns-clause-value : goal.returns-clause-value
returns-clause-value c = gcd_same c.args.a c.args.b c.gcd.result c.requires c.gcd.ensures

pub returns-clause-positive : goal.returns-clause-positive
returns-clause-positive c = divisor_positive c.gcd.result c.args.b c.requires c.gcd.ensures.1

pub returns-clause-small : goal.returns-clause-small
returns-clause-small c = le_of_dvd c.requires c.gcd.ensures.1
