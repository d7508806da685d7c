use Rattle.std.proofs.Common.{arith, refl}
use Rattle.loop_bounds.proofs.ReadingLemmas.{none_strict}
use Rattle.loop_bounds.proofs.reading.are_closed.Goals as goal

pub returns : goal.returns
returns c = (λ ended. none_strict c.args.cons.now.list (λ i below. c.loop-index.invariant i (omega (arith, below, c.len-index-end.ensures, c.loop-index-test.false))), λ closed. refl)
