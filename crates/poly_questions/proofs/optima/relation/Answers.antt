use Rattle.std.proofs.Common.{ℕ, List, Ok, refl, ap, ◌∙◌, subst}
use Rattle.std.specs.Prelude.{ℤ}
use Rattle.gens_sys.specs.Generators.{Generators}
use Rattle.optimum.specs.Showing.{shown_values}
use Rattle.optimum.specs.Values.{RowLeaves}
use Rattle.optimum.specs.Relations.{RelationAnswer}
use Rattle.line_values.specs.Texts.{constraint_fault, IsTextRefusal, ReadsConstraint}
use Rattle.poly_questions.proofs.OptimaLemmas.{relation_refused, relation_told, relation_leaves}
use Rattle.poly_questions.proofs.optima.relation.Goals as goal

pub returns-in-Err : goal.returns-in-Err
returns-in-Err c =
    let fault = subst (λ (k : ℕ). IsTextRefusal (constraint_fault k c.args.part.now) c.in-Err.cause) c.dim.ensures.value c.in-Err.ensures in
    relation_refused c.args.part.now c.args.p.now c.in-Err.cause fault

pub returns-in_ok-relation_line-in-Ok-relation : goal.returns-in_ok-relation_line-in-Ok-relation
returns-in_ok-relation_line-in-Ok-relation c =
    let read = subst (λ (k : ℕ). ReadsConstraint k c.args.part.now c.in-Ok.con.row c.in-Ok.con.kind) c.dim.ensures.value c.in-Ok.ensures in
    let answer = subst (λ (v : List ℤ). RelationAnswer v c.in-Ok.con.kind c.args.p.now (Ok c.in-Ok-relation.flags)) c.cells.ensures.value c.in-Ok-relation.ensures.answer in
    relation_told c.args.part.now c.args.p.now c.in-Ok.con.row c.in-Ok.con.kind c.in-Ok-relation.flags c.in_ok-relation_line-in-Ok-relation.field-0 read answer c.in_ok-relation_line-in-Ok-relation.ensures

pub returns-in_ok-shown-in-Err-relation : goal.returns-in_ok-shown-in-Err-relation
returns-in_ok-shown-in-Err-relation c =
    let read = subst (λ (k : ℕ). ReadsConstraint k c.args.part.now c.in-Ok.con.row c.in-Ok.con.kind) c.dim.ensures.value c.in-Ok.ensures in
    let leaves = subst (λ (v : List ℤ). RowLeaves v c.args.p.now.gens.list c.in-Err-relation.pair) c.cells.ensures.value ((c.in-Err-relation.ensures.over c.in-Err-relation.pair).0 refl) in
    let rows = c.in_ok-shown-in-Err-relation.ensures ∙ ap (λ (gs : Generators). shown_values c.in-Ok.con.row gs c.in-Err-relation.pair) c.gens.ensures.value in
    relation_leaves c.args.part.now c.args.p.now c.in-Ok.con.row c.in-Ok.con.kind c.in-Err-relation.pair c.in_ok-shown-in-Err-relation.field-0 read leaves rows
