use Rattle.sat_bits.specs.Places.{AreCovered}
use Rattle.sat_bits.proofs.kernels.is_subset_by_words.Given as goal

abbrev pub invariant-loop-word : goal.invariant-loop-word
invariant-loop-word l = AreCovered l.a l.b l.c l.word
