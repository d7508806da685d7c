use Rattle.sat_bits.specs.Cells.{IsZeroColumn}
use Rattle.sat_bits.proofs.cells.mark_zeros.Given as goal

abbrev pub invariant-loop-row : goal.invariant-loop-row
invariant-loop-row l = IsZeroColumn l.width l.column l.values l.row l.initial.cells l.cells
