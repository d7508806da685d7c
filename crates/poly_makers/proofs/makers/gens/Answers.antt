use Rattle.std.proofs.Common.{ℕ, ◌≤◌, Err, subst}
use Rattle.poly_pair.specs.declared.topology.TheConstants.{MAX_DIM}
use Rattle.line_values.specs.Texts.{generators_fault, IsTextRefusal, ReadsGenerators}
use Rattle.line_values.proofs.PerformedLemmas.{not_full}
use Rattle.poly_makers.proofs.MakerLemmas.{gens_refused, gens_lack, gens_full, gens_made, gens_leaves}
use Rattle.poly_pair.proofs.WorkLemmas.{gen_overflow_clause}
use Rattle.poly_pair.specs.Polyhedra.{Polyhedron}
use Rattle.std.specs.Prelude.{◌≡◌, ◌↔◌, IfOk, Result}
use Rattle.poly_pair.specs.declared.errors.GenErr.{GenErr}
use Rattle.poly_pair.specs.declared.errors.GenErr.TheVariants as generators
use Rattle.poly_pair.specs.FirstLists.{LacksPoint}
use Rattle.poly_pair.specs.Polyhedra.{IsOfGenerators}
use Rattle.poly_pair.specs.Parts.{AreStoredOfGenerators}
use Rattle.poly_pair.specs.Work.{GenConverts, gens_work}
use Rattle.line_values.specs.Refusals.{refusal_of_generators}
use Rattle.poly_makers.specs.Makers.{gens}
use Rattle.poly_makers.proofs.MakerLemmas.{turned}
use Rattle.poly_makers.proofs.makers.gens.Goals as goal

pub returns-in-Err : goal.returns-in-Err
returns-in-Err g c =
    let small = subst (λ (k : ℕ). k ≤ MAX_DIM) c.in-Some.ensures.0 c.in-Some.ensures.1 in
    gens_refused c.args.full c.args.topology c.args.n c.args.part.now c.in-Err.cause small (subst (λ (k : ℕ). IsTextRefusal (generators_fault c.args.topology k c.args.part.now) c.in-Err.cause) c.in-Some.ensures.0 c.in-Err.ensures)

pub returns-then-lacks_point : goal.returns-then-lacks_point
returns-then-lacks_point g c =
    let small = subst (λ (k : ℕ). k ≤ MAX_DIM) c.in-Some.ensures.0 c.in-Some.ensures.1 in
    let read = subst (λ (k : ℕ). ReadsGenerators c.args.topology k c.args.part.now c.in-Ok.system) c.in-Some.ensures.0 c.in-Ok.ensures in
    gens_lack c.args.full c.args.topology c.args.n c.args.part.now c.in-Ok.system small read c.if-lacks_point.ensures

pub returns-then-full : goal.returns-then-full
returns-then-full g c =
    let small = subst (λ (k : ℕ). k ≤ MAX_DIM) c.in-Some.ensures.0 c.in-Some.ensures.1 in
    let read = subst (λ (k : ℕ). ReadsGenerators c.args.topology k c.args.part.now c.in-Ok.system) c.in-Some.ensures.0 c.in-Ok.ensures in
    gens_full c.args.full c.args.topology c.args.n c.args.part.now c.in-Ok.system c.one_answer.ensures.gens small read c.if-lacks_point.ensures c.if-full.true

pub returns : goal.returns
returns g c =
    let small = subst (λ (k : ℕ). k ≤ MAX_DIM) c.in-Some.ensures.0 c.in-Some.ensures.1 in
    let read = subst (λ (k : ℕ). ReadsGenerators c.args.topology k c.args.part.now c.in-Ok.system) c.in-Some.ensures.0 c.in-Ok.ensures in
    let room = not_full c.args.full c.if-full.false in
    let t = c.args.topology in
    let system = c.in-Ok.system in
    turned (gens c.args.full t c.args.n c.args.part.now) refusal_of_generators
    (λ (r : Result Polyhedron GenErr). IfOk r (IsOfGenerators t system) × (IfOk r (AreStoredOfGenerators t system) × (((r ≡ Err generators.NoPoint) ↔ LacksPoint system.list) × GenConverts (gens_work t system) c.args.steps.now c.from_gens.new.steps r)))
    c.from_gens.result c.map_err.result c.map_err.ensures.cases (c.from_gens.ensures.points, (c.from_gens.ensures.stored, (c.from_gens.ensures.no_point, c.from_gens.ensures.conversion)))
    (λ made is. gens_made c.args.full t c.args.n c.args.part.now system made c.one_answer.ensures.gens small read c.if-lacks_point.ensures room (record { set = is.0; stored = is.1.0 }))
    (λ cause is. gens_leaves c.args.full t c.args.n c.args.part.now system cause c.one_answer.ensures.gens small read c.if-lacks_point.ensures room is.1.1.0 (gen_overflow_clause {T = Polyhedron} _ _ _ (Err cause) is.1.1.1))
