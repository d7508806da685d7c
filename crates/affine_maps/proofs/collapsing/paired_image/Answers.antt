use Rattle.std.proofs.Common.{inr, ap}
use Rattle.std.specs.Int.{w128}
use Rattle.std.proofs.lemmas.Int.{to_z-of_z}
use mir.Val.{SFits, of_z}
use Rattle.affine_maps.proofs.collapsing.paired_image.Goals as goal

pub returns-clause-conversion : goal.returns-clause-conversion
returns-clause-conversion g c =
    let den_fits : SFits w128 c.args.den = c.ranges.den in
    let carried = simp to_z-of_z at c.carried_image.ensures.conversion in
    inr ((λ z. c.if-expr-var-eq0.false (ap (of_z w128) z)), carried)
