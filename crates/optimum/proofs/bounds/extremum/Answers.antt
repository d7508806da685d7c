use Rattle.std.proofs.Common.{sym, subst}
use Rattle.gens_sys.specs.Generators.{Generators, FitDimension}
use Rattle.set_laws.specs.Asking.{IsProper}
use Rattle.optimum.specs.Suprema.{SupAnswer}
use Rattle.optimum.proofs.MemberLemmas.{proper}
use Rattle.optimum.proofs.OptimumLemmas.{sup_true, sup_empty, sup_unbounded, sup_over}
use Rattle.optimum.proofs.bounds.extremum.Goals as goal

pub answered-requires-clause-proper : goal.answered-requires-clause-proper
answered-requires-clause-proper c = subst IsProper (sym c.gens-gens.ensures.value) (proper c.args.p.now c.gens-gens.ensures.kept)

pub returns-clause-holds : goal.returns-clause-holds
returns-clause-holds c = sup_true c.args.up c.args.row.now c.args.p.now c.gens-gens.ensures.kept (subst FitDimension c.gens-gens.ensures.value c.dim-dim.ensures.rows) c.answered.result (subst (λ (g : Generators). SupAnswer c.args.up c.args.row.now g c.answered.result) c.gens-gens.ensures.value c.answered.ensures)

pub returns-clause-empty : goal.returns-clause-empty
returns-clause-empty c = sup_empty c.args.up c.args.row.now c.args.p.now c.gens-gens.ensures.kept (subst FitDimension c.gens-gens.ensures.value c.dim-dim.ensures.rows) c.answered.result (subst (λ (g : Generators). SupAnswer c.args.up c.args.row.now g c.answered.result) c.gens-gens.ensures.value c.answered.ensures)

pub returns-clause-unbounded : goal.returns-clause-unbounded
returns-clause-unbounded c = sup_unbounded c.args.up c.args.row.now c.args.p.now c.gens-gens.ensures.kept (subst FitDimension c.gens-gens.ensures.value c.dim-dim.ensures.rows) c.answered.result (subst (λ (g : Generators). SupAnswer c.args.up c.args.row.now g c.answered.result) c.gens-gens.ensures.value c.answered.ensures)

pub returns-clause-over : goal.returns-clause-over
returns-clause-over c = sup_over c.args.up c.args.row.now c.args.p.now c.gens-gens.ensures.kept (subst FitDimension c.gens-gens.ensures.value c.dim-dim.ensures.rows) c.answered.result (subst (λ (g : Generators). SupAnswer c.args.up c.args.row.now g c.answered.result) c.gens-gens.ensures.value c.answered.ensures)
