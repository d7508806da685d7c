use Rattle.std.proofs.Common.{◌≡◌, map, take}
use Rattle.cdd_text.specs.Written.{is_line_generator}
use Rattle.cdd_text.proofs.write.lines.Given as goal

abbrev pub invariant-loop-i : goal.invariant-loop-i
invariant-loop-i l = l.marks.items ≡ map is_line_generator (take l.i l.gens.list)
