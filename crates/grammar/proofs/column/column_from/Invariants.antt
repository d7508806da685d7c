use Rattle.std.proofs.Common.{◌≡◌, [], take}
use Rattle.grammar.specs.Shape.{shape}
use Rattle.grammar.specs.Rows.{shapes_of}
use Rattle.grammar.proofs.Columns.{Means}
use Rattle.grammar.proofs.column.column_from.Given as goal

abbrev pub invariant-loop-index : goal.invariant-loop-index
invariant-loop-index l = record {
  means : Means (shape l.form) (take l.index l.text) (shapes_of l.rows);
  some : shapes_of l.rows ≡ [] → ⊥;
}
