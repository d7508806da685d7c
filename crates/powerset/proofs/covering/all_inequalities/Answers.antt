use Rattle.std.proofs.Common.{List, ◌∷◌, [], ◌++◌, get_or, take, sym, ap, ◌∙◌, arith}
use Rattle.std.proofs.lemmas.List.{map-append, take_more}
use Rattle.std.proofs.lemmas.Result.{err_from_is_err_and}
use Rattle.cons_sys.specs.Constraints.{Constraints}
use Rattle.poly_pair.specs.Polyhedra.{Polyhedron}
use Rattle.cover_search.specs.Inequalities.{inequalities}
use Rattle.powerset.specs.Covers.{systems_of}
use Rattle.powerset.proofs.covering.all_inequalities.Goals as goal

pub loop-index-preserved : goal.loop-index-preserved
loop-index-preserved c =
    let members = c.args.members.now in
    let first = take c.loop-index.index members in
    let member = c.index-members-index in
    c.in_ok-push.ensures.items
    ∙ ap (λ (systems : List Constraints). systems ++ c.in_ok-of.field-0 ∷ []) c.loop-index.invariant
    ∙ ap (λ (cs : Constraints). systems_of first ++ cs ∷ []) (c.in_ok-of.ensures ∙ ap inequalities c.cons.ensures.value ∙ ap (λ (p : Polyhedron). inequalities p.cons) member.is)
    ∙ sym (ap systems_of (take_more members c.loop-index.index member.result (omega arith)) ∙ map-append (λ (p : Polyhedron). inequalities p.cons) first (get_or members c.loop-index.index member.result ∷ []))

pub returns-in_err-of : goal.returns-in_err-of
returns-in_err-of c = let p = err_from_is_err_and c.from_residual.result c.from_residual.ensures.1 in rw p.1 tt

pub returns-in_err-push : goal.returns-in_err-push
returns-in_err-push c = let p = err_from_is_err_and c.from_residual-in_err-push.result c.from_residual-in_err-push.ensures.1 in rw p.1 tt
