use Rattle.std.proofs.Common.{◌≡◌, map, take}
use Rattle.cdd_text.specs.Written.{is_equality_constraint}
use Rattle.cdd_text.proofs.write.equalities.Given as goal

abbrev pub invariant-loop-i : goal.invariant-loop-i
invariant-loop-i l = l.marks.items ≡ map is_equality_constraint (take l.i l.cons.list)
