use Rattle.std.proofs.Common.{subst}
use Rattle.cons_sys.specs.Constraints as cons
use Rattle.cons_sys.specs.Constraints.{Constraints}
use Rattle.gens_sys.specs.Generators as gens
use Rattle.gens_sys.specs.Generators.{Generators}
use Rattle.job_texts.proofs.SampleLaws.{sample_is_closed, polyhedron_of}
use Rattle.job_texts.proofs.samples.sampled.Goals as goal

pub from_cons-requires-clause-kinds : goal.from_cons-requires-clause-kinds
from_cons-requires-clause-kinds g c = sample_is_closed c.args.n c.in_ok-system.system c.in_ok-system.ensures

pub line_of_sample-requires : goal.line_of_sample-requires
line_of_sample-requires g c =
    let p = c.in-Ok.made in
    let fit : cons.FitDimension p.cons = subst (λ (cs : Constraints). cons.FitDimension cs) c.cons.ensures.value c.dim-in-Ok.ensures.rows in
    let fits : gens.FitDimension p.gens = subst (λ (gs : Generators). gens.FitDimension gs) c.gens.ensures.value c.dim-in-Ok-2.ensures.rows in
    polyhedron_of c.kept_is_pair.ensures c.args.n c.in_ok-system.system p c.in_ok-system.ensures c.in-Ok.ensures.points c.dim.ensures.kept fit fits
