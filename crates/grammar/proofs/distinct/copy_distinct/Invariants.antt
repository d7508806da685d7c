use Rattle.std.proofs.Common.{take}
use Rattle.grammar.specs.Rows.{shapes_of}
use Rattle.grammar.specs.SameRows.{SameRows}
use Rattle.grammar.proofs.distinct.copy_distinct.Given as goal

abbrev pub invariant-loop-index : goal.invariant-loop-index
invariant-loop-index l = SameRows (take l.index (shapes_of l.rows)) (shapes_of l.out)
