use Rattle.std.specs.Prelude.{ℕ, ◌<◌, pos, get_or}
use Rattle.difference_bounds.specs.Words.{IsCoveredWord}
use Rattle.difference_bounds.proofs.words.all_covered.Given as goal

abbrev pub invariant-loop-q : goal.invariant-loop-q
invariant-loop-q l = (p : ℕ) → p < l.q → IsCoveredWord (get_or l.left p (pos 0)) (get_or l.right p (pos 0))
