use Rattle.std.proofs.lemmas.Result.{err_from_is_err_and}
use Rattle.std.specs.Prelude.{◌≡◌, ◌++◌, ◌∷◌, [], List, ℤ, pos}
use Rattle.std.proofs.Common.{arith, rules, ap, sym, subst, replicate, ◌∙◌}
use Rattle.std.proofs.lemmas.List.Elements.{All-push, All-replicate}
use Rattle.row_core.specs.Range.{InRange, AllInRange}
use Rattle.nnc_enc.proofs.encoding.push_bound_row.Goals as goal

one_in_range : InRange (pos 1)
one_in_range = record { size = omega arith }

zero_in_range : InRange (pos 0)
zero_in_range = record { size = omega arith }

pub returns-in_err-push-clause-rows : goal.returns-in_err-push-clause-rows
returns-in_err-push-clause-rows c = let p = err_from_is_err_and c.from_residual-in_err-push.result c.from_residual-in_err-push.ensures.1 in rw p.1 tt

pub returns-in_err-row-clause-rows : goal.returns-in_err-row-clause-rows
returns-in_err-row-clause-rows c = let p = err_from_is_err_and c.from_residual.result c.from_residual.ensures.1 in rw p.1 tt

pub push_raised-requires-clause-in_range : goal.push_raised-requires-clause-in_range
push_raised-requires-clause-in_range c =
    let zeros : c.in_ok-row.row.items ≡ replicate c.args.dim (pos 0) = search rules in
    subst AllInRange (sym (c.deref.ensures.value ∙ c.in_ok-push.ensures.items ∙ ap (λ (row : List ℤ). row ++ pos 1 ∷ []) zeros)) (All-push InRange (replicate c.args.dim (pos 0)) (pos 1) (All-replicate InRange c.args.dim (pos 0) zero_in_range) one_in_range)
