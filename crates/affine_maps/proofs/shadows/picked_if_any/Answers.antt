use Rattle.std.proofs.Common.{length, subst}
use Rattle.poly_pair.specs.Spanning.{IsSpanningIfAny}
use Rattle.mapped_systems.specs.Maps.{picked}
use Rattle.mapped_systems.proofs.LinearMaps.{picking_linear}
use Rattle.affine_maps.proofs.ShadowSets.{picked_system, shadow_spanned}
use Rattle.affine_maps.proofs.shadows.picked_if_any.Goals as goal

pub returns-in_default : goal.returns-in_default
returns-in_default c = subst (IsSpanningIfAny c.args.topology c.args.cons.now) c.in_default.is c.requires.found

pub returns : goal.returns
returns c =
    let cs = c.args.cons.now in
    let gs = c.in-Some.gens in
    let columns = c.args.columns.now in
    let new = c.in_ok-mapped.mapped in
    let spanning = subst (IsSpanningIfAny c.args.topology cs) c.in-Some.is c.requires.found in
    shadow_spanned c.args.topology (picked columns cs.dim) (length columns) cs (picking_linear cs.dim columns) gs c.in_ok-mapped.ensures.fit spanning new (picked_system c.args.topology columns cs gs new spanning c.in_ok-mapped.ensures.system)
