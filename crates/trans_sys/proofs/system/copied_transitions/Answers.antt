use Rattle.std.proofs.Common.{List, ◌∷◌, [], ◌++◌, take, sym, ap, ◌∙◌, arith}
use Rattle.std.proofs.lemmas.List.{take_more}
use Rattle.std.proofs.lemmas.Result.{err_from_is_err_and}
use Rattle.trans_sys.specs.declared.transition.Transition.{Transition}
use Rattle.trans_sys.proofs.system.copied_transitions.Goals as goal

pub loop-index-preserved : goal.loop-index-preserved
loop-index-preserved c =
    let transitions = c.args.transitions.now in
    let place = c.loop-index.index in
    let transition = c.index-transitions-index in
    c.in_ok-push.ensures.items
    ∙ ap (λ (ts : List Transition). ts ++ c.in_ok-try_copy.field-0 ∷ []) c.loop-index.invariant
    ∙ ap (λ (t : Transition). take place transitions ++ t ∷ []) (c.in_ok-try_copy.ensures ∙ transition.is)
    ∙ sym (take_more transitions place transition.result (omega arith))

pub returns-in_err-try_copy : goal.returns-in_err-try_copy
returns-in_err-try_copy c = let p = err_from_is_err_and c.from_residual.result c.from_residual.ensures.1 in rw p.1 tt

pub returns-in_err-push : goal.returns-in_err-push
returns-in_err-push c = let p = err_from_is_err_and c.from_residual-in_err-push.result c.from_residual-in_err-push.ensures.1 in rw p.1 tt
