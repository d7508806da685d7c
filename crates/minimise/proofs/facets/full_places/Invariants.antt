use Rattle.minimise.proofs.Splits.{AreSplitBefore}
use Rattle.minimise.proofs.facets.full_places.Given as goal

abbrev pub invariant-loop-row : goal.invariant-loop-row
invariant-loop-row l = AreSplitBefore l.table.rows l.row l.full.items l.others.items
