use Rattle.std.specs.Prelude.{ℕ, pos, get_or}
use borrow.Author.Count.{below_more}
use Rattle.difference_bounds.specs.Words.{IsCoveredWord}
use Rattle.difference_bounds.proofs.WordLemmas.{covered_read}
use Rattle.difference_bounds.proofs.words.all_covered.Goals as goal

pub loop-q-preserved : goal.loop-q-preserved
loop-q-preserved c = below_more (λ (p : ℕ). IsCoveredWord (get_or c.args.left.now p (pos 0)) (get_or c.args.right.now p (pos 0))) c.loop-q.q c.loop-q.invariant (covered_read (get_or c.args.left.now c.loop-q.q (pos 0)) (get_or c.args.right.now c.loop-q.q (pos 0)) c.if-left-q.false c.if-right-q.false)
