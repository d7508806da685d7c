use Rattle.std.proofs.Common.{◌≡◌, false, take}
use Rattle.grammar.specs.Derivative.{some_ends}
use Rattle.grammar.specs.Rows.{shapes_of}
use Rattle.grammar.proofs.column.some_ends.Given as goal

abbrev pub invariant-loop-index : goal.invariant-loop-index
invariant-loop-index l = some_ends (take l.index (shapes_of l.rows)) ≡ false
