use Rattle.std.proofs.Common.{◌∷◌, [], ℕ, ◌+◌, ◌-◌, ap, ◌∙◌, sym, arith}
use Rattle.std.proofs.lemmas.Bool.{false≢true}
use Rattle.row_core.specs.Lists.{vectors}
use Rattle.cons_sys.specs.declared.kind.ConKind.TheVariants.{Ge}
use Rattle.stored_systems.specs.WorkLists.{generator_list}
use Rattle.poly_pair.proofs.CountLemmas.{upto_none}
use Rattle.stored_systems.specs.StoredForms.{stored_constraints, false_row}
use Rattle.poly_pair.specs.FirstLists.{HasPointKind}
use Rattle.file_poly.proofs.OtherSystems.{constraints_of_system, constraints_of_none}
use Rattle.poly_pair.proofs.PointKinds.{some_point}
use Rattle.poly_pair.proofs.StoredLemmas.{empty_list}
use Rattle.std.proofs.lemmas.Result.{err_from_is_err_and}
use Rattle.file_poly.proofs.other_system.constraints_alone.Goals as goal

pub returns-then-is_empty-clause-stored : goal.returns-then-is_empty-clause-stored
returns-then-is_empty-clause-stored g c =
    let gs = c.args.gens.now in
    let made = c.in_ok-false_constraints in
    constraints_of_none gs made.field-0 c.requires.narrow ((empty_list gs.list c.is_empty.result c.is_empty.ensures).0 c.if-is_empty.true)
    (made.ensures.dim ∙ c.dim.ensures.value)
    (made.ensures.list ∙ ap (λ (n : ℕ). (false_row n, Ge) ∷ []) c.dim.ensures.value)

pub returns-clause-stored : goal.returns-clause-stored
returns-clause-stored g c =
    let gs = c.args.gens.now in
    let lines = vectors c.in_ok-system.system.lines.rows in
    let rays = vectors c.in_ok-system.system.rays.rows in
    let made = c.in_ok-made in
    let point : HasPointKind gs.list = some_point gs.list (λ e. false≢true (sym c.if-is_empty.false ∙ (empty_list gs.list c.is_empty.result c.is_empty.ensures).1 e)) c.requires.point in
    constraints_of_system gs lines rays made.field-0 c.requires.narrow c.requires.kinds c.dim-dim.ensures.rows point c.in_ok-system.ensures.canon
    (made.ensures.dim ∙ c.dim-dim.ensures.value)
    (made.ensures.list ∙ ap (λ (n : ℕ). stored_constraints n lines rays) c.dim-dim.ensures.value)

pub returns-in_err-false_constraints : goal.returns-in_err-false_constraints
returns-in_err-false_constraints g c =
    let gs = c.args.gens.now in
    let p = err_from_is_err_and c.from_residual.result c.from_residual.ensures.1 in
    rw (p.1, p.2) (record { stored = tt; overflow = tt; no_fewer = omega arith; counted = upto_none (gs.dim + 1) (generator_list gs) (c.args.steps.now - c.args.steps.now) (omega arith); counted_before = tt })

pub returns-in_err-made : goal.returns-in_err-made
returns-in_err-made g c =
    let p = err_from_is_err_and c.from_residual-in_err-made.result c.from_residual-in_err-made.ensures.1 in
    rw (p.1, p.2) (record { stored = tt; overflow = tt; no_fewer = c.generator_system.ensures.no_fewer; counted = c.generator_system.ensures.counted; counted_before = tt })

pub returns-in_err-system : goal.returns-in_err-system
returns-in_err-system g c =
    let all = c.in_err-system.ensures in
    let p = err_from_is_err_and c.from_residual-in_err-system.result c.from_residual-in_err-system.ensures.1 in
    rw (p.1, p.2) (record { stored = tt; overflow = all.overflow; no_fewer = all.no_fewer; counted = all.counted; counted_before = all.counted_before })
