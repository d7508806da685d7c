use Rattle.std.proofs.lemmas.Result.{err_from_is_err_and}
use Rattle.lattice_ops.proofs.KeptSets.{proper_without_lack, hull_with_generators}
use Rattle.lattice_ops.proofs.growing.hull_with.Goals as goal

pub add_gens_with_point-requires-clause-point : goal.add_gens_with_point-requires-clause-point
add_gens_with_point-requires-clause-point g c adds = c.requires.point adds.lacks

pub returns-clause-points : goal.returns-clause-points
returns-clause-points g c =
    let p = c.args.p.now in
    let gs = c.args.gens.now in
    hull_with_generators p c.in_ok-made.made gs c.rows_fit.ensures.kept c.rows_fit-2.ensures.kept c.rows_fit.ensures.gens c.dim-fit.ensures.rows (proper_without_lack gs c.requires.point) c.rows_fit-2.ensures.cons c.requires.dim c.in_ok-made.ensures.points

pub returns-in_err-made-clause-points : goal.returns-in_err-made-clause-points
returns-in_err-made-clause-points g c = let p = err_from_is_err_and c.from_residual.result c.from_residual.ensures.1 in rw p.1 tt

pub returns-in_err-made-clause-kept : goal.returns-in_err-made-clause-kept
returns-in_err-made-clause-kept g c = let p = err_from_is_err_and c.from_residual.result c.from_residual.ensures.1 in rw p.1 tt

pub returns-in_err-made-clause-conversion : goal.returns-in_err-made-clause-conversion
returns-in_err-made-clause-conversion g c =
    let p = err_from_is_err_and c.from_residual.result c.from_residual.ensures.1 in
    rw (p.1, p.2) c.in_err-made.ensures.conversion
