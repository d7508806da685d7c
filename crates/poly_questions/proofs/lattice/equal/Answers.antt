use Rattle.std.proofs.Common.{ℕ, List, ◌≡◌, ◌∙◌, ap, true, false}
use Rattle.cons_sys.specs.Constraints.{Constraints}
use Rattle.gens_sys.specs.Generators.{Generators}
use Rattle.poly_pair.specs.Polyhedra.{HaveSamePoints}
use Rattle.lattice_ops.specs.Questions.{AnswersEqual}
use Rattle.line_values.specs.Meaning.{answer_line}
use Rattle.line_values.proofs.PerformedLemmas.{answered}
use Rattle.poly_questions.specs.Lattice.{equal}
use Rattle.line_values.specs.Pairs.{shown_rows}
use Rattle.poly_questions.proofs.LatticeLemmas.{alike_pass, tested}
use Rattle.line_values.proofs.PairLemmas.{shows, pair_refused}
use Rattle.poly_questions.proofs.lattice.equal.Goals as goal

pub returns-in-Ok : goal.returns-in-Ok
returns-in-Ok c =
    let passes = alike_pass c.args.p.now c.args.q.now c.requires.topology c.requires.dim in
    answered (equal c.args.p.now c.args.q.now) (λ (text : List ℕ). text ≡ answer_line c.in-Ok.holds) c.answer.result (λ text said. (passes, tested (AnswersEqual c.args.p.now.topology c.args.p.now c.args.q.now) (HaveSamePoints c.args.p.now c.args.q.now) c.in-Ok.holds text c.in-Ok.ensures.answer c.in-Ok.ensures.holds said)) c.answer.ensures

pub returns-in-Err : goal.returns-in-Err
returns-in-Err c =
    let passes = alike_pass c.args.p.now c.args.q.now c.requires.topology c.requires.dim in
    pair_refused (equal c.args.p.now c.args.q.now) c.cons.result.now c.gens.result.now c.in-Err.pair c.refusal_of_pair.result (λ over rows. (passes, shows (AnswersEqual c.args.p.now.topology c.args.p.now c.args.q.now) c.args.p.now c.args.q.now c.in-Err.pair true over c.in-Err.ensures.answer c.if-pair.true (rows ∙ ap (λ (cs : Constraints). shown_rows cs c.gens.result.now c.in-Err.pair) c.cons.ensures.value ∙ ap (λ (gs : Generators). shown_rows c.args.q.now.cons gs c.in-Err.pair) c.gens.ensures.value))) c.refusal_of_pair.ensures

pub returns-in-Err-2 : goal.returns-in-Err-2
returns-in-Err-2 c =
    let passes = alike_pass c.args.p.now c.args.q.now c.requires.topology c.requires.dim in
    pair_refused (equal c.args.p.now c.args.q.now) c.cons-in-Err-2.result.now c.gens-in-Err-2.result.now c.in-Err.pair c.refusal_of_pair-in-Err-2.result (λ over rows. (passes, shows (AnswersEqual c.args.p.now.topology c.args.p.now c.args.q.now) c.args.p.now c.args.q.now c.in-Err.pair false over c.in-Err.ensures.answer c.if-pair.false (rows ∙ ap (λ (cs : Constraints). shown_rows cs c.gens-in-Err-2.result.now c.in-Err.pair) c.cons-in-Err-2.ensures.value ∙ ap (λ (gs : Generators). shown_rows c.args.p.now.cons gs c.in-Err.pair) c.gens-in-Err-2.ensures.value))) c.refusal_of_pair-in-Err-2.ensures
