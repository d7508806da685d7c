use Rattle.std.proofs.Common.{◌≡◌, ℕ, List, Ok, IsTrue, ◌↔◌, subst}
use Rattle.std.specs.Prelude.{ℤ}
use Rattle.cons_sys.specs.Constraints.{Constraints, In}
use Rattle.cons_sys.specs.Testing.{Answers}
use Rattle.line_values.specs.Meaning.{answer_line}
use Rattle.poly_questions.specs.Questions.{has}
use Rattle.line_values.specs.Texts.{point_fault, IsTextRefusal, ReadsPoint}
use Rattle.line_values.proofs.PerformedLemmas.{answered}
use Rattle.poly_questions.proofs.PointLemmas.{has_refused, has_told}
use Rattle.poly_questions.proofs.questions.has.Goals as goal

pub returns-in-Err : goal.returns-in-Err
returns-in-Err c =
    let fault = subst (λ (k : ℕ). IsTextRefusal (point_fault k c.args.part.now) c.in-Err.cause) c.dim.ensures.value c.in-Err.ensures in
    has_refused c.args.part.now c.args.p.now c.in-Err.cause fault

pub returns-in-Ok-holds_at : goal.returns-in-Ok-holds_at
returns-in-Ok-holds_at c =
    let read = subst (λ (k : ℕ). ReadsPoint k c.args.part.now c.in-Ok.point) c.dim.ensures.value c.in-Ok.ensures in
    let at = subst (λ (v : List ℤ). Answers c.cons.result.now.list v (Ok c.in-Ok-holds_at.holds)) c.cells.ensures.value c.in-Ok-holds_at.ensures.answer in
    let tested = subst (λ (cs : Constraints). Answers cs.list c.in-Ok.point (Ok c.in-Ok-holds_at.holds)) c.cons.ensures.value at in
    let true_at = subst (λ (v : List ℤ). IsTrue c.in-Ok-holds_at.holds ↔ In c.cons.result.now v) c.cells.ensures.value c.in-Ok-holds_at.ensures.holds in
    let true_of = subst (λ (cs : Constraints). IsTrue c.in-Ok-holds_at.holds ↔ In cs c.in-Ok.point) c.cons.ensures.value true_at in
    answered (has c.args.part.now c.args.p.now) (λ (text : List ℕ). text ≡ answer_line c.in-Ok-holds_at.holds) c.answer.result (λ text said. has_told c.args.part.now c.args.p.now c.in-Ok.point c.in-Ok-holds_at.holds text read tested true_of said) c.answer.ensures
