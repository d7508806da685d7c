use Rattle.std.proofs.lemmas.Result.{err_from_is_err_and}
use Rattle.poly_pair.proofs.spanning.spanning_from_pair.Goals as goal

pub generators_if_any-found-requires-clause-cone : goal.generators_if_any-found-requires-clause-cone
generators_if_any-found-requires-clause-cone g c = c.in_ok-added.ensures.cone

pub returns-in_err-found : goal.returns-in_err-found
returns-in_err-found g c =
    let p = err_from_is_err_and c.from_residual-in_err-found.result c.from_residual-in_err-found.ensures.1 in
    rw (p.1, p.2) (record { generators = tt; conversion = c.in_ok-added.ensures.conversion })

pub returns-in_err-added : goal.returns-in_err-added
returns-in_err-added g c =
    let p = err_from_is_err_and c.from_residual.result c.from_residual.ensures.1 in
    rw (p.1, p.2) (record { generators = tt; conversion = c.in_err-added.ensures.conversion })

pub generators_if_any-found-requires-clause-wide : goal.generators_if_any-found-requires-clause-wide
generators_if_any-found-requires-clause-wide g c = c.in_ok-added.ensures.wide

pub generators_if_any-found-requires-clause-kinds : goal.generators_if_any-found-requires-clause-kinds
generators_if_any-found-requires-clause-kinds g c = c.requires.kinds

pub returns-clause-generators : goal.returns-clause-generators
returns-clause-generators g c = c.in_ok-found.ensures
