use Rattle.std.specs.Prelude.{◌≡◌, ℕ, ◌<◌, ◌≤◌, length, pos, get_or}
use Rattle.difference_bounds.specs.Words.{IsRaised}
use Rattle.difference_bounds.proofs.words.raise.Given as goal

abbrev pub invariant-loop-q : goal.invariant-loop-q
invariant-loop-q l = record {
  full : length l.left ≡ length l.fn.left;
  before : (p : ℕ) → p < l.q → IsRaised (get_or l.fn.left p (pos 0)) (get_or l.right p (pos 0)) (get_or l.left p (pos 0));
  rest : (p : ℕ) → l.q ≤ p → get_or l.left p (pos 0) ≡ get_or l.fn.left p (pos 0);
}
