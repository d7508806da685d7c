use Rattle.std.proofs.Common.{sym, subst, arith}
use Rattle.std.specs.Int.{w128}
use Rattle.std.proofs.lemmas.Int.{to_z-of_z}
use Rattle.row_core.specs.Range.{InRange}
use Rattle.mapped_systems.proofs.InverseMaps.{negated_entry, negated_in_range}
use Rattle.affine_maps.proofs.related.relation_row.Goals as goal

pub with_entry-requires : goal.with_entry-requires
with_entry-requires c = record {
  column = omega (arith, c.requires.wide);
  narrow = omega (arith, c.requires.wide, c.requires.narrow);
  in_range = c.requires.in_range;
  entry_in_range = subst InRange (sym (negated_entry c.args.den c.requires.den_in_range (to_z-of_z w128 c.args.den c.ranges.den))) (negated_in_range c.args.den c.requires.den_in_range);
}
