use Rattle.std.proofs.Common.{ℕ, Err, sym, ◌∙◌, subst}
use Rattle.poly_pair.specs.Polyhedra.{Polyhedron}
use Rattle.poly_pair.specs.TopologyLists.{AreGeneratorsFor}
use Rattle.poly_pair.specs.declared.topology.Topology.{Topology}
use Rattle.line_values.specs.Texts.{generators_fault, IsTextRefusal, ReadsGenerators}
use Rattle.poly_makers.proofs.MakerLemmas.{addgen_refused, addgen_made, addgen_refuses}
use Rattle.poly_pair.proofs.WorkLemmas.{gen_overflow_clause}
use Rattle.std.specs.Prelude.{◌≡◌, ◌↔◌, IfOk, Result}
use Rattle.poly_pair.specs.declared.errors.GenErr.{GenErr}
use Rattle.poly_pair.specs.declared.errors.GenErr.TheVariants as generators
use Rattle.poly_pair.specs.Additions.{with_generators, AddsNoPoint}
use Rattle.poly_pair.specs.Polyhedra.{IsOfGenerators}
use Rattle.poly_pair.specs.Parts.{AreStoredOfGenerators}
use Rattle.poly_pair.specs.Work.{GenConverts, added_gens}
use Rattle.line_values.specs.Refusals.{refusal_of_generators}
use Rattle.poly_makers.specs.Makers.{addgen}
use Rattle.poly_makers.proofs.MakerLemmas.{turned}
use Rattle.poly_makers.proofs.makers.addgen.Goals as goal

pub returns-in-Err : goal.returns-in-Err
returns-in-Err g c =
    let at = subst (λ (k : ℕ). IsTextRefusal (generators_fault c.topology-topology.result k c.args.part.now) c.in-Err.cause) c.dim.ensures.gens c.in-Err.ensures in
    let fault = subst (λ (t : Topology). IsTextRefusal (generators_fault t c.args.p.now.gens.dim c.args.part.now) c.in-Err.cause) c.topology-topology.ensures.value at in
    addgen_refused c.args.part.now c.args.p.now c.in-Err.cause fault

pub add_gens-requires-clause-kinds : goal.add_gens-requires-clause-kinds
add_gens-requires-clause-kinds g c = subst (λ (t : Topology). AreGeneratorsFor t c.in-Ok.more) c.topology-topology.ensures.value c.in-Ok.ensures.kinds

pub returns : goal.returns
returns g c =
    let at = subst (λ (k : ℕ). ReadsGenerators c.topology-topology.result k c.args.part.now c.in-Ok.more) c.dim.ensures.gens c.in-Ok.ensures in
    let p = c.args.p.now in
    let more = c.in-Ok.more in
    let read = subst (λ (t : Topology). ReadsGenerators t p.gens.dim c.args.part.now more) c.topology-topology.ensures.value at in
    let dims = sym c.dim.ensures.value ∙ c.dim.ensures.gens in
    turned (addgen c.args.part.now p) refusal_of_generators
    (λ (r : Result Polyhedron GenErr). IfOk r (IsOfGenerators p.topology (with_generators p more)) × (IfOk r (AreStoredOfGenerators p.topology (with_generators p more)) × (((r ≡ Err generators.NoPoint) ↔ AddsNoPoint p more) × GenConverts (added_gens p more) c.args.steps.now c.add_gens.new.steps r)))
    c.add_gens.result c.map_err.result c.map_err.ensures.cases (c.add_gens.ensures.points, (c.add_gens.ensures.stored, (c.add_gens.ensures.no_point, c.add_gens.ensures.conversion)))
    (λ made is. addgen_made c.args.part.now p more made c.one_answer.ensures.gens read dims c.dim.ensures.kept is.1.1.0 (record { set = is.0; stored = is.1.0 }))
    (λ cause is. addgen_refuses c.args.part.now p more cause c.one_answer.ensures.gens read dims c.dim.ensures.kept is.1.1.0 (gen_overflow_clause {T = Polyhedron} _ _ _ (Err cause) is.1.1.1))
