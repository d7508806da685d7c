use Rattle.std.proofs.lemmas.Result.{err_from_is_err_and}
use Rattle.affine_maps.proofs.shadows.shadow_generators_from.Goals as goal

pub returns-in_ok-picked_if_any-in-Ok-clause-conversion : goal.returns-in_ok-picked_if_any-in-Ok-clause-conversion
returns-in_ok-picked_if_any-in-Ok-clause-conversion g c = c.in-Ok.ensures.conversion

pub returns-in-Err-clause-conversion : goal.returns-in-Err-clause-conversion
returns-in-Err-clause-conversion g c = c.in-Err.ensures.conversion

pub returns-in_err-picked_if_any-in-Ok-clause-conversion : goal.returns-in_err-picked_if_any-in-Ok-clause-conversion
returns-in_err-picked_if_any-in-Ok-clause-conversion g c =
    let p = err_from_is_err_and c.from_residual.result c.from_residual.ensures.1 in
    rw (p.1, p.2) c.in-Ok.ensures.conversion
