use Rattle.std.proofs.Common.{take, All}
use Rattle.line_values.specs.Proper.{IsProper}
use Rattle.line_values.proofs.proper.are_proper.Given as goal

abbrev pub invariant-loop-index : goal.invariant-loop-index
invariant-loop-index l = All IsProper (take l.index l.sets)
