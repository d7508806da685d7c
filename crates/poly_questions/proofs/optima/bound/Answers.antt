use Rattle.std.proofs.Common.{ℕ, List, Ok, Err, ap, ◌∙◌, subst}
use Rattle.std.specs.Prelude.{ℤ}
use Rattle.gens_sys.specs.Generators.{Generators, FitDimension}
use Rattle.optimum.specs.Suprema.{SupAnswer, IsTrueSup}
use Rattle.optimum.specs.Showing.{shown_values}
use Rattle.line_values.specs.Meaning.{line}
use Rattle.poly_questions.specs.Optima.{bound_text}
use Rattle.line_values.specs.Texts.{expression_fault, IsTextRefusal, ReadsExpression}
use Rattle.poly_questions.proofs.OptimaLemmas.{bound_refused, bound_told, bound_leaves}
use Rattle.poly_questions.proofs.optima.bound.Goals as goal

pub returns-in-Err : goal.returns-in-Err
returns-in-Err c =
    let fault = subst (λ (k : ℕ). IsTextRefusal (expression_fault k c.args.part.now) c.in-Err.cause) c.dim.ensures.value c.in-Err.ensures in
    bound_refused c.args.up c.args.part.now c.args.p.now c.in-Err.cause fault

pub returns-in_ok-bound_line-in-Ok-extremum : goal.returns-in_ok-bound_line-in-Ok-extremum
returns-in_ok-bound_line-in-Ok-extremum c =
    let read = subst (λ (k : ℕ). ReadsExpression k c.args.part.now c.in-Ok.row) c.dim.ensures.value c.in-Ok.ensures in
    let fit = subst FitDimension c.gens-gens.ensures.value c.dim-dim.ensures.rows in
    let answer = subst (λ (v : List ℤ). SupAnswer c.args.up v c.args.p.now.gens (Ok c.in-Ok-extremum.bound)) c.cells.ensures.value c.in-Ok-extremum.ensures.answer in
    let true_of = subst (λ (v : List ℤ). IsTrueSup c.args.up v c.args.p.now c.in-Ok-extremum.bound) c.cells.ensures.value c.in-Ok-extremum.ensures.holds in
    let said = c.in_ok-bound_line-in-Ok-extremum.ensures ∙ ap (λ (gs : Generators). line (bound_text gs c.in-Ok-extremum.bound)) c.gens-gens.ensures.value in
    bound_told c.args.up c.args.part.now c.args.p.now c.in-Ok.row c.in-Ok-extremum.bound c.in_ok-bound_line-in-Ok-extremum.field-0 read fit answer true_of said

pub returns-in_ok-shown-in-Err-extremum : goal.returns-in_ok-shown-in-Err-extremum
returns-in_ok-shown-in-Err-extremum c =
    let read = subst (λ (k : ℕ). ReadsExpression k c.args.part.now c.in-Ok.row) c.dim.ensures.value c.in-Ok.ensures in
    let fit = subst FitDimension c.gens-gens.ensures.value c.dim-dim.ensures.rows in
    let leaves = subst (λ (v : List ℤ). SupAnswer c.args.up v c.args.p.now.gens (Err c.in-Err-extremum.pair)) c.cells.ensures.value c.in-Err-extremum.ensures.answer in
    let rows = c.in_ok-shown-in-Err-extremum.ensures ∙ ap (λ (gs : Generators). shown_values c.in-Ok.row gs c.in-Err-extremum.pair) c.gens-gens.ensures.value in
    bound_leaves c.args.up c.args.part.now c.args.p.now c.in-Ok.row c.in-Err-extremum.pair c.in_ok-shown-in-Err-extremum.field-0 read fit leaves rows
