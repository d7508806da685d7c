use Rattle.std.proofs.Common.{◌≡◌, ◌∷◌, take, map, true, false}
use Rattle.stored_systems.specs.WorkLists.{constraint_row}
use Rattle.stored_systems.specs.Marks.{has_mark}
use Rattle.stored_systems.proofs.parts.inequality_marks.Given as goal

abbrev pub invariant-loop-index : goal.invariant-loop-index
invariant-loop-index l = l.marks.items ≡ true ∷ map (has_mark false) (map constraint_row (take l.index l.cons.list))
