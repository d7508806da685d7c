use Rattle.enclosures.specs.Ways.{ways}
use Rattle.enclosures.specs.Differences.{IsJoinTo}
use Rattle.enclosures.proofs.differences.difference.Given as goal

abbrev pub invariant-loop-index : goal.invariant-loop-index
invariant-loop-index g l = IsJoinTo l.p (ways l.cons).list l.index l.made
