use Rattle.std.proofs.Common.{◌∙◌}
use Rattle.std.proofs.lemmas.Result.{err_from_is_err_and}
use Rattle.row_core.proofs.RowListLemmas.{length-vectors}
use Rattle.chernikova.proofs.NextStates.{reopened_state}
use Rattle.chernikova.proofs.Rankings.{rearranged_converted}
use Rattle.chernikova.proofs.Costs.{further_done, further_then_memory, further_refused}
use Rattle.chernikova.proofs.conversion.add_rows_from.Goals as goal

pub take_rows-requires-clause-state : goal.take_rows-requires-clause-state
take_rows-requires-clause-state g c =
    reopened_state c.args.rows.now.width c.args.rows.now.rows c.args.from c.args.cone c.system_of_cone-system.result c.width.ensures.narrow c.requires.lists c.requires.system c.requires.sat c.system_of_cone-system.ensures

pub sorted_cone-requires-clause-as_many : goal.sorted_cone-requires-clause-as_many
sorted_cone-requires-clause-as_many g c = c.in_ok-changed.ensures.state.zeros.each.as_many ∙ length-vectors c.take_rows.new.cone.rays.rows

pub returns-clause-cone : goal.returns-clause-cone
returns-clause-cone g c = rearranged_converted _ _ c.take_rows.new.cone c.in_ok-cone.cone c.in_ok-changed.ensures.state c.in_ok-cone.ensures

pub returns-in_err-changed-clause-conversion : goal.returns-in_err-changed-clause-conversion
returns-in_err-changed-clause-conversion g c =
    let p = err_from_is_err_and c.from_residual.result c.from_residual.ensures.1 in
    rw (p.1, p.2) (further_refused c.args.rows.now.width c.args.rows.now.rows c.args.from c.args.steps.now c.take_rows.new.steps c.in_err-changed.field-0.0 c.in_err-changed.ensures.conversion)

pub returns-in_err-cone-clause-conversion : goal.returns-in_err-cone-clause-conversion
returns-in_err-cone-clause-conversion g c =
    let p = err_from_is_err_and c.from_residual-in_err-cone.result c.from_residual-in_err-cone.ensures.1 in
    rw (p.1, p.2) (further_then_memory c.args.rows.now.width c.args.rows.now.rows c.args.from c.args.steps.now c.take_rows.new.steps _ c.in_ok-changed.ensures.conversion)

pub returns-clause-conversion : goal.returns-clause-conversion
returns-clause-conversion g c = further_done c.args.rows.now.width c.args.rows.now.rows c.args.from c.args.steps.now c.take_rows.new.steps _ _ c.in_ok-changed.ensures.conversion
