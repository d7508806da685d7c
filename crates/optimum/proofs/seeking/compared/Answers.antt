use Rattle.std.specs.Prelude.{pos, get_or}
use Rattle.std.specs.Int.{w128}
use Rattle.std.proofs.Common.{rules}
use Rattle.std.proofs.lemmas.Int.{to_z-of_z}
use mir.Val.{SFits}
use Rattle.optimum.proofs.SeekLemmas.{chosen}
use Rattle.optimum.proofs.seeking.compared.Goals as goal

pub returns : goal.returns
returns c =
    let old_fits : SFits w128 c.args.best.value = search rules in
    let new_fits : SFits w128 c.args.value = search rules in
    let new_cell : SFits w128 (get_or c.row-new.result.now c.dim-dim.result (pos 0)) = search rules in
    let old_cell : SFits w128 (get_or c.row-old.result.now c.dim-dim.result (pos 0)) = search rules in
    let left_fits : SFits w128 c.in-Some-Some.left = search rules in
    let right_fits : SFits w128 c.in-Some-Some.right = search rules in
    let l = simp to_z-of_z at c.in-Some-Some.ensures in
    let r = simp to_z-of_z at c.in-Some-Some.ensures' in
    let p = simp to_z-of_z at c.replaces-taken.ensures in
    let e = simp to_z-of_z at c.either.ensures in
    chosen c.args.up c.args.gens.now.dim c.args.gens.now.list c.args.best c.args.i c.args.value c.either.result c.row-new.result.now c.row-old.result.now c.dim-dim.result c.in-Some-Some.left c.in-Some-Some.right c.kind.result c.kind-2.result c.replaces-taken.result
    c.row-new.ensures.value c.row-old.ensures.value c.dim-dim.ensures.value l r c.kind.ensures c.kind-2.ensures p e
