use Rattle.std.proofs.Common.{◌*◌, ◌+◌, ◌/◌, length}
use Rattle.sat_bits.specs.Places.{AreCovered}
use Rattle.sat_bits.proofs.kernels.is_subset_of_and.Given as goal

abbrev pub invariant-loop-block : goal.invariant-loop-block
invariant-loop-block l = AreCovered l.fn.a l.fn.b l.fn.c (l.block * 8)

abbrev pub invariant-loop-word : goal.invariant-loop-word
invariant-loop-word l = AreCovered l.fn.a l.fn.b l.fn.c (length l.fn.a / 8 * 8 + l.word)
