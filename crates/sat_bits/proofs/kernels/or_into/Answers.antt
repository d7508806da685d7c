use Rattle.std.proofs.Common.{arith}
use Rattle.sat_bits.proofs.PlaceLemmas.{ors_none, places_or}
use Rattle.sat_bits.proofs.kernels.or_into.Goals as goal

pub loop-word-init : goal.loop-word-init
loop-word-init c = ors_none c.args.dst.now c.args.row.now

pub returns-clause-places : goal.returns-clause-places
returns-clause-places c = places_or c.args.dst.now c.args.row.now c.loop-word.dst c.loop-word.word c.requires (omega (arith, c.loop-word-test.false, c.requires)) c.loop-word.invariant
