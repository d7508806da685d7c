use Rattle.std.proofs.Common.{ℕ, ◌<◌, ◌^◌, subst}
use Rattle.std.proofs.lemmas.Result.{err_from_is_err_and}
use Rattle.file_poly.proofs.OtherFiles.{overflow_of_generators, no_strict, file_of_constraints}
use Rattle.file_poly.proofs.converting.constraints_file.Goals as goal

pub constraints_alone-requires : goal.constraints_alone-requires
constraints_alone-requires g c = record { narrow = c.requires.narrow; kinds = c.requires.kinds; point = c.requires.point }

pub returns-in-Err : goal.returns-in-Err
returns-in-Err g c = let e = c.in-Err.ensures in record { file = tt; overflow = overflow_of_generators c.args.gens.now c.in-Err.cause e.overflow; no_fewer = e.no_fewer; counted = e.counted; counted_before = e.counted_before }

pub write_ine-requires : goal.write_ine-requires
write_ine-requires g c = no_strict c.stored_is_closed.ensures c.args.gens.now c.in-Ok.cons c.in-Ok.ensures.stored

pub returns-clause-file : goal.returns-clause-file
returns-clause-file g c = file_of_constraints c.stored_is_closed.ensures c.constraints_are_read_back.ensures c.args.gens.now c.in-Ok.cons c.in_ok-write_ine.field-0 c.in-Ok.ensures.stored c.dim-dim.ensures.rows (subst (λ (n : ℕ). n < 2 ^ 64) c.len-rows.ensures c.len-rows.type_inv) c.in_ok-write_ine.ensures

pub returns-in_err-write_ine : goal.returns-in_err-write_ine
returns-in_err-write_ine g c =
    let p = err_from_is_err_and c.from_residual.result c.from_residual.ensures.1 in
    let e = c.in-Ok.ensures in
    rw (p.1, p.2) (record { file = tt; overflow = tt; no_fewer = e.no_fewer; counted = e.counted; counted_before = tt })

pub returns-clause-counted : goal.returns-clause-counted
returns-clause-counted g c = c.in-Ok.ensures.counted
