use Rattle.std.proofs.Common.{ℕ, ◌*◌, ◌&&◌, length, arith}
use Rattle.sat_bits.specs.Places.{place}
use Rattle.sat_bits.proofs.CountLemmas.{true_places-le}
use Rattle.worked_cases.proofs.bits.shared.Goals as goal

pub count_and-requires-clause-few : goal.count_and-requires-clause-few
count_and-requires-clause-few c = omega (arith, true_places-le (λ (i : ℕ). place c.args.a.now i && place c.args.b.now i) (length c.args.a.now * 64), c.requires.few)
