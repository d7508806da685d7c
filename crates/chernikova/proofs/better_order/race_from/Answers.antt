use Rattle.std.specs.Prelude.{length}
use Rattle.std.proofs.Common.{◌∙◌, sym, subst}
use Rattle.std.proofs.lemmas.Result.{err_from_is_err_and}
use Rattle.row_core.proofs.RowListLemmas.{length-vectors}
use Rattle.chernikova.specs.Beside.{IsBeside, IsDone}
use Rattle.chernikova.specs.Conversion.{IsState}
use Rattle.chernikova.proofs.Rankings.{rearranged_converted}
use Rattle.chernikova.proofs.PlacedCones.{beside_idle, placed_converted, done_places, done_state, first_of, second_of}
use Rattle.chernikova.proofs.Costs.{rows_done, rows_then_memory, rows_refused}
use Rattle.chernikova.specs.declared.beside.Beside.{Beside}
use Rattle.chernikova.proofs.better_order.race_from.Goals as goal
use Rattle.chernikova.proofs.better_order.race_from.Goals.{in-Ok, in-Err}

pub run-requires-clause-beside : goal.run-requires-clause-beside
run-requires-clause-beside g c =
    let P : Beside → Type 0 = λ b. IsBeside c.args.rows.now.width c.args.rows.now.rows b in
    elim c.match-of_list.branch [
      | in-Ok w ↦ subst P (sym w.beside-is) w.in-Ok.ensures
      | in-Err w ↦ subst P (sym w.beside-is) (beside_idle c.args.rows.now.width c.args.rows.now.rows w.idle-beside.result w.idle-beside.ensures)
    ]

pub returns-then-other-clause-cone : goal.returns-then-other-clause-cone
returns-then-other-clause-cone g c =
    let width = c.args.rows.now.width in
    let rows = c.args.rows.now.rows in
    let cone = c.in_ok-cone_of_other_order.field-0 in
    let done : IsDone width rows c.run.new.self.beside = first_of c.in_ok-other.other (IsDone width rows c.run.new.self.beside) (IsState width rows (length rows) c.run.new.self.first.system) c.if-other.true c.in_ok-other.ensures.done in
    placed_converted width rows c.run.new.self.beside cone done c.in_ok-cone_of_other_order.ensures

pub returns-clause-cone : goal.returns-clause-cone
returns-clause-cone g c =
    let width = c.args.rows.now.width in
    let rows = c.args.rows.now.rows in
    let cone = c.in_ok-sorted_cone.field-0 in
    let state : IsState width rows (length rows) c.run.new.self.first.system = second_of c.in_ok-other.other (IsDone width rows c.run.new.self.beside) (IsState width rows (length rows) c.run.new.self.first.system) c.if-other.false c.in_ok-other.ensures.done in
    rearranged_converted width rows c.run.new.self.first.system cone state c.in_ok-sorted_cone.ensures

pub cone_of_other_order-requires-clause-as_many : goal.cone_of_other_order-requires-clause-as_many
cone_of_other_order-requires-clause-as_many g c =
    let width = c.args.rows.now.width in
    let rows = c.args.rows.now.rows in
    let done : IsDone width rows c.run.new.self.beside = first_of c.in_ok-other.other (IsDone width rows c.run.new.self.beside) (IsState width rows (length rows) c.run.new.self.first.system) c.if-other.true c.in_ok-other.ensures.done in
    (done_state width rows c.run.new.self.beside done).zeros.each.as_many ∙ length-vectors c.run.new.self.beside.system.rays.rows

pub cone_of_other_order-requires-clause-rays : goal.cone_of_other_order-requires-clause-rays
cone_of_other_order-requires-clause-rays g c =
    let width = c.args.rows.now.width in
    let rows = c.args.rows.now.rows in
    let done : IsDone width rows c.run.new.self.beside = first_of c.in_ok-other.other (IsDone width rows c.run.new.self.beside) (IsState width rows (length rows) c.run.new.self.first.system) c.if-other.true c.in_ok-other.ensures.done in
    (done_state width rows c.run.new.self.beside done).lists.rays_marked

pub cone_of_other_order-requires-clause-places : goal.cone_of_other_order-requires-clause-places
cone_of_other_order-requires-clause-places g c =
    let width = c.args.rows.now.width in
    let rows = c.args.rows.now.rows in
    let done : IsDone width rows c.run.new.self.beside = first_of c.in_ok-other.other (IsDone width rows c.run.new.self.beside) (IsState width rows (length rows) c.run.new.self.first.system) c.if-other.true c.in_ok-other.ensures.done in
    done_places width rows c.run.new.self.beside done

pub sorted_cone-requires-clause-as_many : goal.sorted_cone-requires-clause-as_many
sorted_cone-requires-clause-as_many g c =
    let width = c.args.rows.now.width in
    let rows = c.args.rows.now.rows in
    let state : IsState width rows (length rows) c.run.new.self.first.system = second_of c.in_ok-other.other (IsDone width rows c.run.new.self.beside) (IsState width rows (length rows) c.run.new.self.first.system) c.if-other.false c.in_ok-other.ensures.done in
    state.zeros.each.as_many ∙ length-vectors c.run.new.self.first.system.rays.rows

pub sorted_cone-requires-clause-rays : goal.sorted_cone-requires-clause-rays
sorted_cone-requires-clause-rays g c =
    let width = c.args.rows.now.width in
    let rows = c.args.rows.now.rows in
    let state : IsState width rows (length rows) c.run.new.self.first.system = second_of c.in_ok-other.other (IsDone width rows c.run.new.self.beside) (IsState width rows (length rows) c.run.new.self.first.system) c.if-other.false c.in_ok-other.ensures.done in
    state.lists.rays_marked

pub returns-in_err-other-clause-conversion : goal.returns-in_err-other-clause-conversion
returns-in_err-other-clause-conversion g c = λ before h.
    let p = err_from_is_err_and c.from_residual.result c.from_residual.ensures.1 in
    rw (p.1, p.2) (rows_refused c.args.rows.now.width c.args.rows.now.rows before c.run.new.steps c.in_err-other.field-0.0 (c.in_err-other.ensures.conversion before h))

pub returns-in_err-cone_of_other_order-clause-conversion : goal.returns-in_err-cone_of_other_order-clause-conversion
returns-in_err-cone_of_other_order-clause-conversion g c = λ before h.
    let p = err_from_is_err_and c.from_residual-in_err-cone_of_other_order.result c.from_residual-in_err-cone_of_other_order.ensures.1 in
    rw (p.1, p.2) (rows_then_memory c.args.rows.now.width c.args.rows.now.rows before c.run.new.steps c.in_ok-other.other (c.in_ok-other.ensures.conversion before h))

pub returns-in_err-sorted_cone-clause-conversion : goal.returns-in_err-sorted_cone-clause-conversion
returns-in_err-sorted_cone-clause-conversion g c = λ before h.
    let p = err_from_is_err_and c.from_residual-in_err-sorted_cone.result c.from_residual-in_err-sorted_cone.ensures.1 in
    rw (p.1, p.2) (rows_then_memory c.args.rows.now.width c.args.rows.now.rows before c.run.new.steps c.in_ok-other.other (c.in_ok-other.ensures.conversion before h))

pub returns-then-other-clause-conversion : goal.returns-then-other-clause-conversion
returns-then-other-clause-conversion g c = λ before h.
    rows_done c.args.rows.now.width c.args.rows.now.rows before c.run.new.steps c.in_ok-other.other _ (c.in_ok-other.ensures.conversion before h)

pub returns-clause-conversion : goal.returns-clause-conversion
returns-clause-conversion g c = λ before h.
    rows_done c.args.rows.now.width c.args.rows.now.rows before c.run.new.steps c.in_ok-other.other _ (c.in_ok-other.ensures.conversion before h)
