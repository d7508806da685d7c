use Rattle.std.specs.Prelude.{Ok, Err}
use Rattle.std.proofs.Common.{subst}
use Rattle.std.proofs.lemmas.Result.{err_from_is_err_and}
use Rattle.gens_sys.specs.Generators.{Generators}
use Rattle.optimum.specs.Values.{RowLeaves}
use Rattle.optimum.proofs.RelationLemmas.{relation_answer, refused_exactly}
use Rattle.optimum.proofs.relating.relation.Goals as goal

pub returns-clause-answer : goal.returns-clause-answer
returns-clause-answer c = relation_answer c.args.p.now c.gens-gens.ensures.kept c.gens-gens.result.now c.gens-gens.ensures.value c.dim-dim.ensures.rows c.args.row.now c.in_ok-found.found c.in_ok-found.ensures c.args.kind c.flags.result c.flags.ensures

pub returns-clause-holds : goal.returns-clause-holds
returns-clause-holds c = (relation_answer c.args.p.now c.gens-gens.ensures.kept c.gens-gens.result.now c.gens-gens.ensures.value c.dim-dim.ensures.rows c.args.row.now c.in_ok-found.found c.in_ok-found.ensures c.args.kind c.flags.result c.flags.ensures).1

pub returns-clause-over : goal.returns-clause-over
returns-clause-over c = refused_exactly c.args.row.now c.args.kind c.args.p.now (Ok c.flags.result) (relation_answer c.args.p.now c.gens-gens.ensures.kept c.gens-gens.result.now c.gens-gens.ensures.value c.dim-dim.ensures.rows c.args.row.now c.in_ok-found.found c.in_ok-found.ensures c.args.kind c.flags.result c.flags.ensures)

pub returns-in_err-found : goal.returns-in_err-found
returns-in_err-found c =
    let p = err_from_is_err_and c.from_residual.result c.from_residual.ensures.1 in
    let leaves : RowLeaves c.args.row.now c.args.p.now.gens.list c.in_err-found.field-0.0 = subst (λ (gs : Generators). RowLeaves c.args.row.now gs.list c.in_err-found.field-0.0) c.gens-gens.ensures.value c.in_err-found.ensures in
    rw (p.1, p.2) (record { answer = leaves; holds = tt; over = refused_exactly c.args.row.now c.args.kind c.args.p.now (Err c.in_err-found.field-0.0) leaves })
