use Rattle.std.proofs.Common.{◌≡◌, ◌+◌, ◌∷◌, ◌++◌, [], drop}
use Rattle.cdd_text.specs.Written.{linearity_text}
use Rattle.cdd_text.proofs.WrittenLaws.{mark_words}
use Rattle.cdd_text.proofs.write.push_linearity.Given as goal

abbrev pub invariant-loop-i : goal.invariant-loop-i
invariant-loop-i l = l.text ++ (mark_words (l.i + 1) (drop l.i l.marks) ++ 10 ∷ []) ≡ l.fn.text ++ linearity_text l.marks
