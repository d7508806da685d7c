use Rattle.std.proofs.lemmas.Result.{err_from_is_err_and}
use Rattle.nnc_enc.proofs.encoding.encode_cons.Goals as goal

pub returns-in_err-list : goal.returns-in_err-list
returns-in_err-list c = let p = err_from_is_err_and c.from_residual.result c.from_residual.ensures.1 in rw p.1 (record { width = tt; rows = tt })

pub returns-in_err-buffer : goal.returns-in_err-buffer
returns-in_err-buffer c = let p = err_from_is_err_and c.from_residual-in_err-buffer.result c.from_residual-in_err-buffer.ensures.1 in rw p.1 (record { width = tt; rows = tt })

pub returns-in_err-push_bound_row : goal.returns-in_err-push_bound_row
returns-in_err-push_bound_row c = let p = err_from_is_err_and c.from_residual-in_err-push_bound_row.result c.from_residual-in_err-push_bound_row.ensures.1 in rw p.1 (record { width = tt; rows = tt })

pub returns-in_err-push_constraints : goal.returns-in_err-push_constraints
returns-in_err-push_constraints c = let p = err_from_is_err_and c.from_residual-in_err-push_constraints.result c.from_residual-in_err-push_constraints.ensures.1 in rw p.1 (record { width = tt; rows = tt })

pub returns-in_err-push_height_row : goal.returns-in_err-push_height_row
returns-in_err-push_height_row c = let p = err_from_is_err_and c.from_residual-in_err-push_height_row.result c.from_residual-in_err-push_height_row.ensures.1 in rw p.1 (record { width = tt; rows = tt })
