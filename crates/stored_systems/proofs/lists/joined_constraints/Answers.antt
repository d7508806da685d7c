use Rattle.std.proofs.Common.{ℕ, ◌+◌, List, ℤ, false, ◌∷◌, [], ◌++◌, length, map, sym, ap, ◌∙◌, subst}
use Rattle.std.proofs.lemmas.List.{map-append}
use Rattle.std.proofs.lemmas.Result.{err_from_is_err_and}
use Rattle.row_core.specs.Range.{AllInRange}
use Rattle.row_core.specs.Lists.{Row}
use Rattle.stored_systems.specs.WorkLists.{divisor_row, constraint_row}
use Rattle.stored_systems.proofs.lists.joined_constraints.Goals as goal

pub returns-clause-rows : goal.returns-clause-rows
returns-clause-rows c =
    let own = map constraint_row c.args.cons.now.list in
    let others = map constraint_row c.args.more.now.list in
    c.in_ok-push_constraints-2.ensures.rows
    ∙ ap (λ (rs : List Row). rs ++ others) (c.in_ok-push_constraints.ensures.rows ∙ ap (λ (rs : List Row). rs ++ own) (c.in_ok-push.ensures.rows ∙ ap (λ (rs : List Row). rs ++ (c.deref.result.now, false) ∷ []) c.in_ok-list.ensures.empty))
    ∙ ap (λ (v : List ℤ). (v, false) ∷ own ++ others) (c.deref.ensures.value ∙ c.in_ok-divisor_row.ensures.row ∙ ap divisor_row c.dim-4.ensures.value)
    ∙ ap (λ (rs : List Row). (divisor_row c.args.cons.now.dim, false) ∷ rs) (sym (map-append constraint_row c.args.cons.now.list c.args.more.now.list))

pub returns-in_err-list : goal.returns-in_err-list
returns-in_err-list c = let p = err_from_is_err_and c.from_residual.result c.from_residual.ensures.1 in rw p.1 (record { width = tt; rows = tt; fit = c.dim-2.ensures.rows; more_fit = c.dim.ensures.rows })

pub returns-in_err-divisor_row : goal.returns-in_err-divisor_row
returns-in_err-divisor_row c = let p = err_from_is_err_and c.from_residual-in_err-divisor_row.result c.from_residual-in_err-divisor_row.ensures.1 in rw p.1 (record { width = tt; rows = tt; fit = c.dim-2.ensures.rows; more_fit = c.dim.ensures.rows })

pub returns-in_err-push : goal.returns-in_err-push
returns-in_err-push c = let p = err_from_is_err_and c.from_residual-in_err-push.result c.from_residual-in_err-push.ensures.1 in rw p.1 (record { width = tt; rows = tt; fit = c.dim-2.ensures.rows; more_fit = c.dim.ensures.rows })

pub returns-in_err-push_constraints : goal.returns-in_err-push_constraints
returns-in_err-push_constraints c = let p = err_from_is_err_and c.from_residual-in_err-push_constraints.result c.from_residual-in_err-push_constraints.ensures.1 in rw p.1 (record { width = tt; rows = tt; fit = c.dim-2.ensures.rows; more_fit = c.dim.ensures.rows })

pub returns-in_err-push_constraints-2 : goal.returns-in_err-push_constraints-2
returns-in_err-push_constraints-2 c = let p = err_from_is_err_and c.from_residual-in_err-push_constraints-2.result c.from_residual-in_err-push_constraints-2.ensures.1 in rw p.1 (record { width = tt; rows = tt; fit = c.dim-2.ensures.rows; more_fit = c.dim.ensures.rows })

pub push-requires : goal.push-requires
push-requires c = record {
  wide = ap (λ (v : List ℤ). length v) c.deref.ensures.value ∙ c.in_ok-divisor_row.ensures.wide ∙ ap (λ (n : ℕ). n + 1) (c.dim-4.ensures.value ∙ sym c.dim-3.ensures.value) ∙ sym c.in_ok-list.ensures.width;
  in_range = subst AllInRange (sym c.deref.ensures.value) c.in_ok-divisor_row.ensures.in_range;
}

pub push_constraints-requires : goal.push_constraints-requires
push_constraints-requires c = c.in_ok-push.ensures.width ∙ c.in_ok-list.ensures.width ∙ ap (λ (n : ℕ). n + 1) c.dim-3.ensures.value

pub push_constraints-requires-2 : goal.push_constraints-requires-2
push_constraints-requires-2 c = c.in_ok-push_constraints.ensures.width ∙ c.in_ok-push.ensures.width ∙ c.in_ok-list.ensures.width ∙ ap (λ (n : ℕ). n + 1) (c.dim-3.ensures.value ∙ sym c.requires)

pub returns-clause-width : goal.returns-clause-width
returns-clause-width c = c.in_ok-push_constraints-2.ensures.width ∙ c.in_ok-push_constraints.ensures.width ∙ c.in_ok-push.ensures.width ∙ c.in_ok-list.ensures.width ∙ ap (λ (n : ℕ). n + 1) c.dim-3.ensures.value
