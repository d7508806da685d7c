use Rattle.sat_bits.proofs.PlaceLemmas.{AreOrs}
use Rattle.sat_bits.proofs.kernels.or_into.Given as goal

abbrev pub invariant-loop-word : goal.invariant-loop-word
invariant-loop-word l = AreOrs l.initial.dst l.row l.dst l.word
