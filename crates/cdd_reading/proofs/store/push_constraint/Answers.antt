use Rattle.std.proofs.lemmas.Result.{err_from_is_err_and}
use Rattle.cdd_reading.proofs.store.push_constraint.Goals as goal

pub returns-in_err-push_row-clause-list : goal.returns-in_err-push_row-clause-list
returns-in_err-push_row-clause-list c = let p = err_from_is_err_and c.from_residual-in_err-push_row.result c.from_residual-in_err-push_row.ensures.1 in rw p.1 tt

pub returns-in_err-row-clause-list : goal.returns-in_err-row-clause-list
returns-in_err-row-clause-list c = let p = err_from_is_err_and c.from_residual.result c.from_residual.ensures.1 in rw p.1 tt
