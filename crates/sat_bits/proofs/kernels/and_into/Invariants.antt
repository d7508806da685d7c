use Rattle.std.proofs.Common.{◌≡◌, ◌*◌, length}
use Rattle.sat_bits.proofs.PlaceLemmas.{AreAnds}
use Rattle.sat_bits.proofs.kernels.and_into.Given as goal

abbrev pub invariant-loop-block : goal.invariant-loop-block
invariant-loop-block l = (length l.dst ≡ length l.fn.a) × AreAnds l.fn.a l.fn.b l.dst (l.block * 8)

abbrev pub invariant-loop-word : goal.invariant-loop-word
invariant-loop-word l = (length l.dst ≡ length l.fn.a) × AreAnds l.fn.a l.fn.b l.dst l.word
