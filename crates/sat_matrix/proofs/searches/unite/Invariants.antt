use Rattle.std.proofs.Common.{◌≡◌, length}
use Rattle.sat_matrix.specs.Near.{IsUnionOf}
use Rattle.sat_matrix.proofs.searches.unite.Given as goal

abbrev pub invariant-loop-position : goal.invariant-loop-position
invariant-loop-position l = record {
  wide : length l.union.items ≡ l.rows.width;
  union : IsUnionOf l.rows.rows l.outer l.from l.position l.union.items;
}
