use Rattle.std.specs.Prelude.{ℕ, length}
use Rattle.std.proofs.Common.{refl, subst, ◌∙◌, sym}
use Rattle.std.proofs.lemmas.Result.{err_from_is_err_and}
use Rattle.row_core.proofs.RowListLemmas.{length-vectors}
use Rattle.chernikova.specs.Conversion.{IsState}
use Rattle.chernikova.proofs.Prefixes.{state_moved}
use Rattle.chernikova.proofs.Rankings.{rearranged_converted}
use Rattle.chernikova.proofs.Costs.{rows_not_begun, rows_done, rows_then_memory, rows_refused, all_done, all_refused}
use Rattle.chernikova.proofs.conversion.convert.Goals as goal

pub take_rows-requires-clause-state : goal.take_rows-requires-clause-state
take_rows-requires-clause-state g c = subst (λ (w : ℕ). IsState w c.args.rows.now.rows 0 c.in_ok-cone.cone) (sym c.requires.width) c.in_ok-cone.ensures

pub sorted_cone-requires-clause-as_many : goal.sorted_cone-requires-clause-as_many
sorted_cone-requires-clause-as_many g c = c.in_ok-take_rows.ensures.state.zeros.each.as_many ∙ length-vectors c.take_rows.new.cone.rays.rows

pub returns-clause-cone : goal.returns-clause-cone
returns-clause-cone g c =
    let rows = c.args.rows.now.rows in
    let system = c.take_rows.new.cone in
    let state : IsState c.args.width rows (length rows) system = state_moved c.args.rows.now.width c.args.width rows rows (length rows) (length rows) system system c.requires.width refl refl refl c.in_ok-take_rows.ensures.state in
    rearranged_converted c.args.width rows system c.in_ok-sorted_cone.field-0 state c.in_ok-sorted_cone.ensures

pub returns-in_err-cone-clause-conversion : goal.returns-in_err-cone-clause-conversion
returns-in_err-cone-clause-conversion g c =
    let p = err_from_is_err_and c.from_residual.result c.from_residual.ensures.1 in
    rw (p.1, p.2) (rows_not_begun c.args.width c.args.rows.now.rows c.args.steps.now)

pub returns-in_err-take_rows-clause-conversion : goal.returns-in_err-take_rows-clause-conversion
returns-in_err-take_rows-clause-conversion g c =
    let error = c.in_err-take_rows.field-0.0 in
    let p = err_from_is_err_and c.from_residual-in_err-take_rows.result c.from_residual-in_err-take_rows.ensures.1 in
    rw (p.1, p.2) (rows_refused c.args.width c.args.rows.now.rows c.args.steps.now c.take_rows.new.steps error
    (all_refused c.args.rows.now.width c.args.width c.args.rows.now.rows c.args.steps.now c.take_rows.new.steps error c.requires.width c.in_err-take_rows.ensures.conversion))

pub returns-in_err-sorted_cone-clause-conversion : goal.returns-in_err-sorted_cone-clause-conversion
returns-in_err-sorted_cone-clause-conversion g c =
    let p = err_from_is_err_and c.from_residual-in_err-sorted_cone.result c.from_residual-in_err-sorted_cone.ensures.1 in
    rw (p.1, p.2) (rows_then_memory c.args.width c.args.rows.now.rows c.args.steps.now c.take_rows.new.steps _
    (all_done c.args.rows.now.width c.args.width c.args.rows.now.rows c.args.steps.now c.take_rows.new.steps _ c.requires.width c.in_ok-take_rows.ensures.conversion))

pub returns-clause-conversion : goal.returns-clause-conversion
returns-clause-conversion g c =
    rows_done c.args.width c.args.rows.now.rows c.args.steps.now c.take_rows.new.steps _ _
    (all_done c.args.rows.now.width c.args.width c.args.rows.now.rows c.args.steps.now c.take_rows.new.steps _ c.requires.width c.in_ok-take_rows.ensures.conversion)
