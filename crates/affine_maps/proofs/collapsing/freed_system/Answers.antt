use Rattle.std.proofs.Common.{length, ap, ◌∙◌}
use Rattle.std.proofs.lemmas.Result.{err_from_is_err_and}
use Rattle.gens_sys.specs.Generators.{Generators}
use Rattle.affine_maps.proofs.FreedStarts.{freed_start, freed_unconverted}
use Rattle.affine_maps.proofs.collapsing.freed_system.Goals as goal

pub returns-in_err-start-clause-conversion : goal.returns-in_err-start-clause-conversion
returns-in_err-start-clause-conversion g c =
    let e = err_from_is_err_and c.from_residual.result c.from_residual.ensures.1 in
    rw (e.1, e.2) (freed_unconverted c.args.p.now c.args.var c.args.steps.now)

pub returns-in_err-list-clause-conversion : goal.returns-in_err-list-clause-conversion
returns-in_err-list-clause-conversion g c =
    let e = err_from_is_err_and c.from_residual-in_err-list.result c.from_residual-in_err-list.ensures.1 in
    rw (e.1, e.2) (freed_unconverted c.args.p.now c.args.var c.args.steps.now)

pub add_rows_from-requires-clause-system : goal.add_rows_from-requires-clause-system
add_rows_from-requires-clause-system g c =
    (freed_start c.args.p.now c.args.var c.in_ok-start.start c.in_ok-list.list c.len-from.result c.in_ok-list.ensures.width c.in_ok-list.ensures.rows (c.len-from.ensures ∙ ap (λ (gs : Generators). length gs.list) c.gens.ensures.value) c.in_ok-start.ensures).system

pub add_rows_from-requires-clause-sat : goal.add_rows_from-requires-clause-sat
add_rows_from-requires-clause-sat g c =
    (freed_start c.args.p.now c.args.var c.in_ok-start.start c.in_ok-list.list c.len-from.result c.in_ok-list.ensures.width c.in_ok-list.ensures.rows (c.len-from.ensures ∙ ap (λ (gs : Generators). length gs.list) c.gens.ensures.value) c.in_ok-start.ensures).zeros
