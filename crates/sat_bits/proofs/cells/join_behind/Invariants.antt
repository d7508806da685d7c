use Rattle.sat_bits.specs.Cells.{IsJoined}
use Rattle.sat_bits.proofs.CellLemmas.{IsAmongFirst}
use Rattle.sat_bits.proofs.cells.join_behind.Given as goal

abbrev pub invariant-loop-index : goal.invariant-loop-index
invariant-loop-index l = IsJoined l.width l.fn.row l.front (IsAmongFirst l.words l.index) l.initial.cells l.cells
