use Rattle.std.proofs.Common.{subst}
use Rattle.row_core.specs.Lists.{vectors}
use Rattle.stored_systems.specs.WorkLists.{HasPoint, HaveNoPoint}
use Rattle.poly_pair.proofs.SpanningSystems.{hold_nowhere, system_spanning}
use Rattle.poly_pair.proofs.spanning.generators_if_any.Goals as goal

pub returns-then-not-has_point : goal.returns-then-not-has_point
returns-then-not-has_point c =
    let cs = c.args.cons.now in
    let rays = vectors c.args.system.rays.rows in
    hold_nowhere c.args.topology cs (vectors c.args.system.lines.rows) rays c.requires.kinds c.dim.ensures.rows c.requires.cone.canon
    (subst (λ n. HaveNoPoint n rays) c.dim.ensures.value c.if-not-has_point.ensures)

pub returns : goal.returns
returns c =
    let cs = c.args.cons.now in
    let rays = vectors c.args.system.rays.rows in
    system_spanning c.args.topology cs c.args.system.lines.rows c.args.system.rays.rows c.in_ok-gens.gens c.requires.kinds c.dim.ensures.rows c.requires.wide c.requires.cone.canon
    (subst (λ n. HasPoint n rays) c.dim.ensures.value c.if-not-has_point.ensures)
    c.in_ok-gens.ensures.dim c.in_ok-gens.ensures.stand

pub system_generators-requires-clause-point : goal.system_generators-requires-clause-point
system_generators-requires-clause-point c = subst (λ n. HasPoint n (vectors c.args.system.rays.rows)) c.dim.ensures.value c.if-not-has_point.ensures

pub system_generators-requires-clause-wide : goal.system_generators-requires-clause-wide
system_generators-requires-clause-wide c = c.requires.wide
