use Rattle.std.proofs.Common.{ℕ, List, ◌≡◌, ◌∙◌, ap, false}
use Rattle.cons_sys.specs.Constraints.{Constraints}
use Rattle.gens_sys.specs.Generators.{Generators}
use Rattle.poly_pair.specs.Polyhedra.{IsIncluded}
use Rattle.lattice_ops.specs.Questions.{Answers}
use Rattle.line_values.specs.Meaning.{answer_line}
use Rattle.line_values.proofs.PerformedLemmas.{answered}
use Rattle.poly_questions.specs.Lattice.{contains}
use Rattle.line_values.specs.Pairs.{shown_rows}
use Rattle.poly_questions.proofs.LatticeLemmas.{alike_pass, tested, shows_first}
use Rattle.line_values.proofs.PairLemmas.{pair_refused}
use Rattle.poly_questions.proofs.lattice.contains.Goals as goal

pub returns-in-Ok : goal.returns-in-Ok
returns-in-Ok c =
    let passes = alike_pass c.args.p.now c.args.q.now c.requires.topology c.requires.dim in
    answered (contains c.args.p.now c.args.q.now) (λ (text : List ℕ). text ≡ answer_line c.in-Ok.holds) c.answer.result (λ text said. (passes, tested (Answers c.args.p.now.cons.list c.args.q.now.gens.list false) (IsIncluded c.args.q.now c.args.p.now) c.in-Ok.holds text c.in-Ok.ensures.answer c.in-Ok.ensures.holds said)) c.answer.ensures

pub returns-in-Err : goal.returns-in-Err
returns-in-Err c =
    let passes = alike_pass c.args.p.now c.args.q.now c.requires.topology c.requires.dim in
    pair_refused (contains c.args.p.now c.args.q.now) c.cons.result.now c.gens.result.now c.in-Err.pair c.refusal_of_pair.result (λ over rows. (passes, shows_first c.args.p.now c.args.q.now c.in-Err.pair over c.in-Err.ensures.answer (rows ∙ ap (λ (cs : Constraints). shown_rows cs c.gens.result.now c.in-Err.pair) c.cons.ensures.value ∙ ap (λ (gs : Generators). shown_rows c.args.p.now.cons gs c.in-Err.pair) c.gens.ensures.value))) c.refusal_of_pair.ensures
