use Rattle.std.proofs.Common.{◌-◌, ◌≤◌, length}
use Rattle.minimise.specs.Facets.{AreKept}
use Rattle.minimise.proofs.facets.keep_greatest.Given as goal

abbrev pub invariant-loop-at : goal.invariant-loop-at
invariant-loop-at l = record {
  within : l.at ≤ length l.places.items;
  fewer : length l.places.items ≤ length l.initial.places.items;
  kept : AreKept l.table.rows l.places.items l.at;
}

abbrev pub decreases-loop-at : goal.decreases-loop-at
decreases-loop-at l = length l.places.items - l.at
