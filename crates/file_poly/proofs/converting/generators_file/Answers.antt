use Rattle.std.proofs.Common.{ℕ, ◌<◌, ◌^◌, subst}
use Rattle.std.proofs.lemmas.Result.{err_from_is_err_and}
use Rattle.file_poly.proofs.OtherFiles.{overflow_of_constraints, no_closure_point, file_of_generators}
use Rattle.file_poly.proofs.converting.generators_file.Goals as goal

pub generators_alone-requires : goal.generators_alone-requires
generators_alone-requires g c = record { narrow = c.requires.narrow; closed = c.requires.closed }

pub returns-in-Err : goal.returns-in-Err
returns-in-Err g c = let e = c.in-Err.ensures in record { file = tt; overflow = overflow_of_constraints c.args.cons.now c.in-Err.cause e.overflow; no_fewer = e.no_fewer; counted = e.counted; counted_before = e.counted_before }

pub write_ext-requires : goal.write_ext-requires
write_ext-requires g c = no_closure_point c.stored_is_closed.ensures c.args.cons.now c.in-Ok.gens c.in-Ok.ensures.stored

pub returns-clause-file : goal.returns-clause-file
returns-clause-file g c = file_of_generators c.stored_is_closed.ensures c.kept_is_pair.ensures c.kept_is_empty.ensures c.generators_are_read_back.ensures c.args.cons.now c.in-Ok.gens c.in_ok-write_ext.field-0 c.in-Ok.ensures.stored c.dim-dim.ensures.rows (subst (λ (n : ℕ). n < 2 ^ 64) c.len-rows.ensures c.len-rows.type_inv) c.in_ok-write_ext.ensures

pub returns-in_err-write_ext : goal.returns-in_err-write_ext
returns-in_err-write_ext g c =
    let p = err_from_is_err_and c.from_residual.result c.from_residual.ensures.1 in
    let e = c.in-Ok.ensures in
    rw (p.1, p.2) (record { file = tt; overflow = tt; no_fewer = e.no_fewer; counted = e.counted; counted_before = tt })

pub returns-clause-counted : goal.returns-clause-counted
returns-clause-counted g c = c.in-Ok.ensures.counted
