use Rattle.std.proofs.Common.{◌/◌, ◌<◌, IsTrue}
use Rattle.sat_bits.specs.Places.{place}
use Rattle.sat_bits.specs.Cells.{IsMarked}
use Rattle.sat_bits.proofs.cells.mark_column.Given as goal

abbrev pub invariant-loop-index : goal.invariant-loop-index
invariant-loop-index l = IsMarked l.width l.column (λ i. (i / 64 < l.index) × IsTrue (place l.words i)) l.initial.cells l.cells
