use Rattle.std.proofs.Common.{◌≡◌, take, map}
use Rattle.minimise.specs.Facets.{counted_row}
use Rattle.minimise.proofs.facets.counted_rows.Given as goal

abbrev pub invariant-loop-index : goal.invariant-loop-index
invariant-loop-index l = l.counted.items ≡ map (counted_row l.table.rows) (take l.index l.places)
