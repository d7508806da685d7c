use Rattle.std.proofs.Common.{◌*◌}
use Rattle.sat_bits.specs.Cells.{IsFrontFilled}
use Rattle.sat_bits.proofs.cells.fill_front.Given as goal

abbrev pub invariant-loop-word : goal.invariant-loop-word
invariant-loop-word l = IsFrontFilled l.width l.fn.row (l.word * 64) l.initial.cells l.cells
