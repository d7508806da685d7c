use Rattle.std.proofs.Common.{◌≡◌, take, map, false}
use Rattle.stored_systems.specs.WorkLists.{generator_row}
use Rattle.stored_systems.specs.Marks.{has_mark}
use Rattle.stored_systems.proofs.parts.ray_marks.Given as goal

abbrev pub invariant-loop-index : goal.invariant-loop-index
invariant-loop-index l = l.marks.items ≡ map (has_mark false) (map generator_row (take l.index l.gens.list))
