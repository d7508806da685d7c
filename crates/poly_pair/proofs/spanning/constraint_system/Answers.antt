use Rattle.std.proofs.Common.{ℕ, ◌≡◌, ◌<◌, ◌∙◌, length, arith}
use Rattle.std.specs.Prelude.{IfOk}
use Rattle.std.proofs.lemmas.Result.{IfOk-weaker, err_from_is_err_and}
use Rattle.row_core.specs.Lists.{row_at}
use Rattle.chernikova.specs.Conversion.{IsConverted}
use Rattle.poly_pair.specs.TopologyLists.{list_width, constraints_of}
use Rattle.poly_pair.specs.Work.{cons_work, rows_work, ConvertsFirst}
use Rattle.poly_pair.proofs.SpanningSystems.{wide_at}
use Rattle.poly_pair.proofs.Additions.{moved}
use Rattle.poly_pair.proofs.WorkLemmas.{first_unconverted, first_of_rows}
use Rattle.poly_pair.proofs.spanning.constraint_system.Goals as goal

pub returns-in_err-rows : goal.returns-in_err-rows
returns-in_err-rows g c =
    let p = err_from_is_err_and c.from_residual.result c.from_residual.ensures.1 in
    rw (p.1, p.2) (record { cone = tt; wide = tt; conversion = first_unconverted (cons_work c.args.topology c.args.cons.now) c.args.steps.now (omega arith) })

pub returns-clause-cone : goal.returns-clause-cone
returns-clause-cone g c =
    let cs = c.args.cons.now in
    moved (λ w rs. IfOk c.convert_in_better_order.result (IsConverted w rs)) c.width.result (list_width c.args.topology cs.dim) c.in_ok-rows.rows.rows (constraints_of c.args.topology cs) (c.width.ensures.value ∙ c.in_ok-rows.ensures.width) c.in_ok-rows.ensures.rows c.convert_in_better_order.ensures.cone

pub returns-clause-wide : goal.returns-clause-wide
returns-clause-wide g c =
    let cs = c.args.cons.now in
    let t = c.args.topology in
    IfOk-weaker c.convert_in_better_order.result (IsConverted c.width.result c.in_ok-rows.rows.rows) (λ s. (j : ℕ) → j < length (constraints_of t cs) → length (row_at (constraints_of t cs) j) ≡ list_width t cs.dim)
    (λ s h. wide_at t cs c.in_ok-rows.rows c.width.ensures.rows c.in_ok-rows.ensures.width c.in_ok-rows.ensures.rows) c.convert_in_better_order.ensures.cone

pub returns-clause-conversion : goal.returns-clause-conversion
returns-clause-conversion g c =
    let cs = c.args.cons.now in
    moved (λ w rs. ConvertsFirst (rows_work w cs.dim rs 0) c.args.steps.now c.convert_in_better_order.new.steps c.convert_in_better_order.result) c.width.result (list_width c.args.topology cs.dim) c.in_ok-rows.rows.rows (constraints_of c.args.topology cs) (c.width.ensures.value ∙ c.in_ok-rows.ensures.width) c.in_ok-rows.ensures.rows
    (first_of_rows c.width.result cs.dim c.in_ok-rows.rows.rows c.args.steps.now c.convert_in_better_order.new.steps c.convert_in_better_order.result c.convert_in_better_order.ensures.conversion)
