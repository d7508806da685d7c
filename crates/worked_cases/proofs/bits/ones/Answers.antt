use Rattle.std.proofs.Common.{◌*◌, length, arith}
use Rattle.sat_bits.specs.Places.{place}
use Rattle.sat_bits.proofs.CountLemmas.{true_places-le}
use Rattle.worked_cases.proofs.bits.ones.Goals as goal

pub count-requires : goal.count-requires
count-requires c = omega (arith, true_places-le (place c.args.row.now) (length c.args.row.now * 64), c.requires)
