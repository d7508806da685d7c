use Rattle.std.proofs.Common.{refl, subst}
use Rattle.poly_pair.specs.Work.{Work, ConvertsFirst}
use Rattle.poly_pair.proofs.WorkLemmas.{begun_unknown}
use Rattle.poly_pair.proofs.spanning.spanning_generators_from.Goals as goal

pub returns-then-is_empty-clause-conversion : goal.returns-then-is_empty-clause-conversion
returns-then-is_empty-clause-conversion g c =
    subst (λ (work : Work). ConvertsFirst work c.args.steps.now c.spanning_generators.new.steps c.spanning_generators.result) (begun_unknown c.args.p.now c.args.cons.now c.requires.closed (c.if-is_empty.ensures.no_generator.0 refl)) c.spanning_generators.ensures.conversion
