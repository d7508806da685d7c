use Rattle.std.proofs.Common.{ℕ, IsTrue}
use Rattle.sat_bits.specs.Places.{bit_in}
use Rattle.sat_bits.specs.Cells.{IsMarked}
use Rattle.sat_bits.proofs.CellLemmas.{IsTaken}
use Rattle.sat_bits.proofs.cells.mark_word.Given as goal

abbrev pub invariant-loop-rest : goal.invariant-loop-rest
invariant-loop-rest l = record {
  marked : IsMarked l.width l.column (IsTaken l.index l.word l.rest) l.initial.cells l.cells;
  left : (j : ℕ) → IsTrue (bit_in l.rest j) → IsTrue (bit_in l.word j);
}

abbrev pub decreases-loop-rest : goal.decreases-loop-rest
decreases-loop-rest l = l.rest
