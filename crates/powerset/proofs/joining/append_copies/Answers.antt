use Rattle.std.proofs.Common.{List, ◌∷◌, [], ◌++◌, take, sym, ap, ◌∙◌, arith}
use Rattle.std.proofs.lemmas.List.{append_assoc, take_more}
use Rattle.std.proofs.lemmas.Result.{err_from_is_err_and}
use Rattle.poly_pair.specs.Polyhedra.{Polyhedron}
use Rattle.powerset.proofs.joining.append_copies.Goals as goal

pub loop-index-preserved : goal.loop-index-preserved
loop-index-preserved c =
    let members = c.args.members.now in
    let first = take c.loop-index.index members in
    let member = c.index-members-index in
    c.in_ok-push.ensures.items
    ∙ ap (λ (ps : List Polyhedron). ps ++ c.in_ok-try_copy.field-0 ∷ []) c.loop-index.invariant
    ∙ append_assoc c.args.all.now.items first (c.in_ok-try_copy.field-0 ∷ [])
    ∙ ap (λ (p : Polyhedron). c.args.all.now.items ++ (first ++ p ∷ [])) (c.in_ok-try_copy.ensures ∙ member.is)
    ∙ ap (λ (ps : List Polyhedron). c.args.all.now.items ++ ps) (sym (take_more members c.loop-index.index member.result (omega arith)))

pub returns-in_err-try_copy : goal.returns-in_err-try_copy
returns-in_err-try_copy c = let p = err_from_is_err_and c.from_residual.result c.from_residual.ensures.1 in rw p.1 tt

pub returns-in_err-push : goal.returns-in_err-push
returns-in_err-push c = let p = err_from_is_err_and c.from_residual-in_err-push.result c.from_residual-in_err-push.ensures.1 in rw p.1 tt
