use Rattle.std.proofs.Common.{List, ◌∷◌, [], ◌++◌, take, sym, ap, ◌∙◌, arith}
use Rattle.std.proofs.lemmas.List.{take_more}
use Rattle.std.proofs.lemmas.Result.{err_from_is_err_and}
use Rattle.poly_pair.specs.Polyhedra.{Polyhedron}
use Rattle.trans_sys.proofs.system.copied_sets.Goals as goal

pub loop-location-preserved : goal.loop-location-preserved
loop-location-preserved c =
    let sets = c.args.sets.now in
    let place = c.loop-location.location in
    let set = c.index-sets-location in
    c.in_ok-push.ensures.items
    ∙ ap (λ (ps : List Polyhedron). ps ++ c.in_ok-try_copy.field-0 ∷ []) c.loop-location.invariant
    ∙ ap (λ (p : Polyhedron). take place sets ++ p ∷ []) (c.in_ok-try_copy.ensures ∙ set.is)
    ∙ sym (take_more sets place set.result (omega arith))

pub returns-in_err-try_copy : goal.returns-in_err-try_copy
returns-in_err-try_copy c = let p = err_from_is_err_and c.from_residual.result c.from_residual.ensures.1 in rw p.1 tt

pub returns-in_err-push : goal.returns-in_err-push
returns-in_err-push c = let p = err_from_is_err_and c.from_residual-in_err-push.result c.from_residual-in_err-push.ensures.1 in rw p.1 tt
