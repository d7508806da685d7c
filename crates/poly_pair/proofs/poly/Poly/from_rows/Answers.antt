use Rattle.std.proofs.lemmas.Result.{err_from_is_err_and}
use Rattle.poly_pair.proofs.poly.Poly.from_rows.Goals as goal

pub of_row_systems-requires-clause-fit : goal.of_row_systems-requires-clause-fit
of_row_systems-requires-clause-fit g c = c.in_ok-found.ensures.fit

pub returns-in_err-found-clause-conversion : goal.returns-in_err-found-clause-conversion
returns-in_err-found-clause-conversion g c = let p = err_from_is_err_and c.from_residual.result c.from_residual.ensures.1 in rw (p.1, p.2) c.in_err-found.ensures.conversion

pub returns-in_err-of_row_systems-clause-conversion : goal.returns-in_err-of_row_systems-clause-conversion
returns-in_err-of_row_systems-clause-conversion g c =
    let p = err_from_is_err_and c.from_residual-in_err-of_row_systems.result c.from_residual-in_err-of_row_systems.ensures.1 in rw (p.1, p.2) c.in_ok-found.ensures.conversion

pub returns-clause-conversion : goal.returns-clause-conversion
returns-clause-conversion g c = c.in_ok-found.ensures.conversion

pub of_row_systems-requires-clause-width : goal.of_row_systems-requires-clause-width
of_row_systems-requires-clause-width g c = c.requires.width

pub of_row_systems-requires-clause-narrow : goal.of_row_systems-requires-clause-narrow
of_row_systems-requires-clause-narrow g c = c.requires.narrow

pub of_row_systems-requires-clause-list : goal.of_row_systems-requires-clause-list
of_row_systems-requires-clause-list g c = c.requires.list

pub of_row_systems-requires-clause-systems : goal.of_row_systems-requires-clause-systems
of_row_systems-requires-clause-systems g c = c.in_ok-found.ensures.systems

pub returns-clause-points : goal.returns-clause-points
returns-clause-points g c = c.in_ok-of_row_systems.ensures.points

pub returns-clause-stored : goal.returns-clause-stored
returns-clause-stored g c = c.in_ok-of_row_systems.ensures.stored
