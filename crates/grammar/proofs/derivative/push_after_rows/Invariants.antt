use Rattle.std.proofs.Common.{◌≡◌, ◌++◌, take}
use Rattle.grammar.specs.Derivative.{after_rows}
use Rattle.grammar.specs.Rows.{shapes_of}
use Rattle.grammar.proofs.derivative.push_after_rows.Given as goal

abbrev pub invariant-loop-index : goal.invariant-loop-index
invariant-loop-index l = shapes_of l.out ≡ shapes_of l.initial.out ++ after_rows l.byte (take l.index (shapes_of l.rows))
