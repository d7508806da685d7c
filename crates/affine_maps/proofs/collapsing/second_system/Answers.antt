use Rattle.std.proofs.Common.{◌++◌, subst}
use Rattle.minimise.specs.Simplified.{IsSimplified}
use Rattle.affine_maps.proofs.CanonicalForms.{second_of_system}
use Rattle.affine_maps.proofs.collapsing.second_system.Goals as goal

pub returns-in-Done-clause-system : goal.returns-in-Done-clause-system
returns-in-Done-clause-system g c =
    let first = c.args.first.now in
    let list = c.args.list.now in
    second_of_system list.width first c.in-Done.lines c.in-Done.rays c.in-Done.sat c.requires.lists (subst (IsSimplified list.width list.rows (first.lines.rows ++ first.rays.rows)) c.in-Done.is c.in_ok-lines.ensures.simplified)
