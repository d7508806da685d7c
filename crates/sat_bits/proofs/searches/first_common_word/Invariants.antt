use Rattle.std.proofs.Common.{ℕ, ◌<◌}
use Rattle.sat_bits.specs.Searches.{HaveCommonBit}
use Rattle.sat_bits.proofs.searches.first_common_word.Given as goal

abbrev pub invariant-loop-word : goal.invariant-loop-word
invariant-loop-word l = (k : ℕ) → k < l.word → ¬ (HaveCommonBit l.first l.second k)
