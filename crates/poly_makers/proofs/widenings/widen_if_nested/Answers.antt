use Rattle.std.proofs.Common.{◌≡◌, ◌∙◌, ap, subst, rules, Bool, true, false, Ok}
use Rattle.cons_sys.specs.Constraints.{Constraints}
use Rattle.gens_sys.specs.Generators.{Generators}
use Rattle.lattice_ops.specs.Questions.{Answers}
use Rattle.line_values.specs.Pairs.{shown_rows}
use Rattle.poly_makers.specs.Widening.{widen}
use Rattle.line_values.proofs.PairLemmas.{pair_refused}
use Rattle.poly_makers.proofs.WideningLemmas.{other_tests, widened, overflows, shows_pair}
use Rattle.std.specs.Prelude.{IfOk, IfErr, Result}
use Rattle.row_core.specs.declared.errors.ConvErr.{ConvErr}
use Rattle.poly_pair.specs.Polyhedra.{Polyhedron}
use Rattle.widening.specs.Widenings.{IsWidening}
use Rattle.widening.specs.Overflows.{IsWideningOverflow}
use Rattle.line_values.specs.Refusals.{refusal_of_conversion}
use Rattle.poly_makers.proofs.MakerLemmas.{turned}
use Rattle.poly_makers.proofs.widenings.widen_if_nested.Goals as goal

pub returns-in-Err : goal.returns-in-Err
returns-in-Err g c =
    let tests = other_tests c.args.p.now c.args.q.now c.requires.topology c.requires.dim in
    pair_refused (widen false c.args.p.now c.args.q.now) c.cons.result.now c.gens.result.now c.in-Err.pair c.refusal_of_pair.result (λ over rows. shows_pair c.one_answer.ensures c.args.p.now c.args.q.now tests c.requires.closed c.in-Err.pair over c.in-Err.ensures.answer (rows ∙ ap (λ (cs : Constraints). shown_rows cs c.gens.result.now c.in-Err.pair) c.cons.ensures.value ∙ ap (λ (gs : Generators). shown_rows c.args.q.now.cons gs c.in-Err.pair) c.gens.ensures.value)) c.refusal_of_pair.ensures

pub returns : goal.returns
returns g c =
    let p = c.args.p.now in
    let q = c.args.q.now in
    let tests = other_tests p q c.requires.topology c.requires.dim in
    let holds : c.in-Ok.holds ≡ true = search rules in
    let yes : Answers q.cons.list p.gens.list false (Ok true) = subst (λ (b : Bool). Answers q.cons.list p.gens.list false (Ok b)) holds c.in-Ok.ensures.answer in
    turned (widen false p q) refusal_of_conversion
    (λ (r : Result Polyhedron ConvErr). IfOk r (IsWidening p q) × IfErr r (IsWideningOverflow p q))
    c.widen.result c.map_err.result c.map_err.ensures.cases (c.widen.ensures.points, c.widen.ensures.overflow)
    (λ made is. widened c.one_answer.ensures p q tests c.requires.closed made yes (c.in-Ok.ensures.holds.0 holds) is.0)
    (λ cause is. overflows c.one_answer.ensures p q tests c.requires.closed cause yes is.1)
