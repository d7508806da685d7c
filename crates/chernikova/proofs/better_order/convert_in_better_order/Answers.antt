use Rattle.std.specs.Prelude.{◌≡◌, ℕ, length, IfOk, Ok, Err}
use Rattle.std.proofs.Common.{sym, subst, arith, ◌∙◌}
use Rattle.std.proofs.lemmas.Result.{err_from_is_err_and}
use Rattle.row_core.proofs.RowListLemmas.{length-vectors}
use Rattle.chernikova.specs.Conversion.{IsState, IsConverted, ConvertsRows}
use Rattle.chernikova.proofs.Rankings.{rearranged_converted}
use Rattle.chernikova.proofs.Costs.{rows_not_begun, rows_done, rows_then_memory, rows_refused}
use Rattle.chernikova.proofs.better_order.convert_in_better_order.Goals as goal

pub run-requires-clause-state : goal.run-requires-clause-state
run-requires-clause-state g c =
    let P : ℕ → Type 0 = λ w. IsState w c.args.rows.now.rows 0 c.in_ok-system.system in
    subst P (sym c.requires.width) c.in_ok-system.ensures

pub race_from-requires-clause-taken : goal.race_from-requires-clause-taken
race_from-requires-clause-taken g c = c.in_ok-taken.ensures.taken.taken

pub race_from-requires-clause-state : goal.race_from-requires-clause-state
race_from-requires-clause-state g c = c.in_ok-taken.ensures.taken.state

pub sorted_cone-requires-clause-as_many : goal.sorted_cone-requires-clause-as_many
sorted_cone-requires-clause-as_many g c = c.in_ok-taken.ensures.taken.state.zeros.each.as_many ∙ length-vectors c.run.new.self.system.rays.rows

pub sorted_cone-requires-clause-rays : goal.sorted_cone-requires-clause-rays
sorted_cone-requires-clause-rays g c = c.in_ok-taken.ensures.taken.state.lists.rays_marked

pub returns-then-taken-len-clause-cone : goal.returns-then-taken-len-clause-cone
returns-then-taken-len-clause-cone g c =
    subst (λ (w : ℕ). IfOk c.race_from.result (IsConverted w c.args.rows.now.rows)) c.requires.width c.race_from.ensures.cone

pub returns-then-taken-len-clause-conversion : goal.returns-then-taken-len-clause-conversion
returns-then-taken-len-clause-conversion g c =
    subst (λ (w : ℕ). ConvertsRows w c.args.rows.now.rows c.args.steps.now c.race_from.new.steps c.race_from.result) c.requires.width (c.race_from.ensures.conversion c.args.steps.now c.in_ok-taken.ensures.taken)

pub returns-clause-cone : goal.returns-clause-cone
returns-clause-cone g c =
    let rows = c.args.rows.now.rows in
    let cone = c.in_ok-sorted_cone.field-0 in
    let is : c.in_ok-taken.taken ≡ length rows = omega (arith, c.in_ok-taken.ensures.taken.taken, c.len.ensures) in
    let P : ℕ → Type 0 = λ k. IsState c.args.rows.now.width rows k c.run.new.self.system in
    subst (λ (w : ℕ). IsConverted w rows cone) c.requires.width (rearranged_converted c.args.rows.now.width rows c.run.new.self.system cone (subst P is c.in_ok-taken.ensures.taken.state) c.in_ok-sorted_cone.ensures)

pub returns-in_err-system-clause-conversion : goal.returns-in_err-system-clause-conversion
returns-in_err-system-clause-conversion g c =
    let p = err_from_is_err_and c.from_residual.result c.from_residual.ensures.1 in
    rw (p.1, p.2) (rows_not_begun c.args.width c.args.rows.now.rows c.args.steps.now)

pub returns-in_err-taken-clause-conversion : goal.returns-in_err-taken-clause-conversion
returns-in_err-taken-clause-conversion g c =
    let p = err_from_is_err_and c.from_residual-in_err-taken.result c.from_residual-in_err-taken.ensures.1 in
    rw (p.1, p.2) (rows_refused c.args.width c.args.rows.now.rows c.args.steps.now c.run.new.steps c.in_err-taken.field-0.0
    (subst (λ (w : ℕ). ConvertsRows {T = ℕ} w c.args.rows.now.rows c.args.steps.now c.run.new.steps (Err c.in_err-taken.field-0.0)) c.requires.width c.in_err-taken.ensures.conversion))

pub returns-in_err-sorted_cone-clause-conversion : goal.returns-in_err-sorted_cone-clause-conversion
returns-in_err-sorted_cone-clause-conversion g c =
    let p = err_from_is_err_and c.from_residual-in_err-sorted_cone.result c.from_residual-in_err-sorted_cone.ensures.1 in
    rw (p.1, p.2) (rows_then_memory c.args.width c.args.rows.now.rows c.args.steps.now c.run.new.steps c.in_ok-taken.taken
    (subst (λ (w : ℕ). ConvertsRows w c.args.rows.now.rows c.args.steps.now c.run.new.steps (Ok c.in_ok-taken.taken)) c.requires.width c.in_ok-taken.ensures.conversion))

pub returns-clause-conversion : goal.returns-clause-conversion
returns-clause-conversion g c =
    rows_done c.args.width c.args.rows.now.rows c.args.steps.now c.run.new.steps c.in_ok-taken.taken _
    (subst (λ (w : ℕ). ConvertsRows w c.args.rows.now.rows c.args.steps.now c.run.new.steps (Ok c.in_ok-taken.taken)) c.requires.width c.in_ok-taken.ensures.conversion)
