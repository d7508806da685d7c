use Rattle.std.specs.Prelude.{pos, slice_index_or}
use Rattle.std.specs.Int.{w128}
use Rattle.std.proofs.Common.{rules}
use Rattle.std.proofs.lemmas.Int.{to_z-of_z}
use mir.Val.{SFits}
use Rattle.optimum.proofs.OptimumLemmas.{lowest_pair}
use Rattle.optimum.proofs.bounds.lowest.Goals as goal

pub returns : goal.returns
returns c =
    let first : SFits w128 (slice_index_or c.make_primitive.new.row 0 (pos 0)) = search rules in
    let second : SFits w128 (slice_index_or c.make_primitive.new.row 1 (pos 0)) = search rules in
    let num_fits : SFits w128 c.args.num = search rules in
    let den_fits : SFits w128 c.args.den = search rules in
    let multiple = simp to_z-of_z at c.make_primitive.ensures.multiple in
    simp to_z-of_z (lowest_pair c.args.num c.args.den c.make_primitive.new.row c.make_primitive.ensures.width multiple c.make_primitive.ensures.primitive)
