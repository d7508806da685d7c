use Rattle.std.specs.Prelude.{◌≡◌}
use Rattle.std.specs.Int.{w64, w128}
use Rattle.std.proofs.lemmas.Int.{to_z-of_z}
use mir.Val.{SFits}
use Rattle.difference_bounds.proofs.WordLemmas.{short_wide, short_fraction}
use Rattle.difference_bounds.proofs.words.fraction_of.Goals as goal

pub returns-clause-fraction : goal.returns-clause-fraction
returns-clause-fraction c =
    let fits : SFits w64 c.args.number = c.ranges.number in
    let wide : SFits w128 c.args.number = short_wide c.args.number c.requires.least c.requires.most in
    let same : c.from.result ≡ c.args.number = simp to_z-of_z at c.from.ensures in
    rw same (simp to_z-of_z (short_fraction c.args.number c.requires))
