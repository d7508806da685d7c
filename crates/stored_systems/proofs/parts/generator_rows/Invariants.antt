use Rattle.std.proofs.Common.{◌≡◌, ◌+◌, take, map, filter}
use Rattle.stored_systems.specs.WorkLists.{generator_row}
use Rattle.stored_systems.specs.Marks.{has_mark}
use Rattle.stored_systems.proofs.parts.generator_rows.Given as goal

abbrev pub invariant-loop-index : goal.invariant-loop-index
invariant-loop-index l = record {
  width : l.part.width ≡ l.gens.dim + 1;
  rows : l.part.rows ≡ filter (has_mark l.lines) (map generator_row (take l.index l.gens.list));
}
