use Rattle.sat_matrix.specs.ZeroTables.{IsZeroTable}
use Rattle.cone_laws.specs.Canon.{IsSystem}
use Rattle.cone_laws.specs.Cones.{Upto}
use Rattle.row_core.specs.Lists.{vectors}
use Rattle.std.proofs.Common.{ℕ, ◌-◌, Ok, Err, length, subst, sym}
use Rattle.std.proofs.lemmas.Result.{err_from_is_err_and}
use Rattle.chernikova.specs.Conversion.{ConvertsFrom}
use Rattle.poly_pair.specs.Work.{overflow_in, conv_overflow}
use Rattle.poly_pair.proofs.CountLemmas.{none_between}
use Rattle.poly_pair.proofs.WorkLemmas.{none_left, second_moved}
use Rattle.poly_pair.proofs.systems.systems_of_start.Goals as goal

pub returns-in_err-added : goal.returns-in_err-added
returns-in_err-added g c =
    let list = c.args.list.now in
    let e = c.in_err-added.field-0.0 in
    let p = err_from_is_err_and c.from_residual.result c.from_residual.ensures.1 in
    rw (p.1, p.2) (record {
      systems = tt;
      conversion = none_left list.width c.args.column list.rows c.args.steps.now c.add_rows_from.new.steps (Err e)
          (subst (λ (n : ℕ). ConvertsFrom list.width list.rows n c.args.steps.now c.add_rows_from.new.steps (Err e)) c.len.ensures c.in_err-added.ensures.conversion);
    })

pub returns-clause-conversion : goal.returns-clause-conversion
returns-clause-conversion g c =
    let list = c.args.list.now in
    let first : ConvertsFrom list.width list.rows (length list.rows) c.args.steps.now c.add_rows_from.new.steps (Ok c.in_ok-added.added) =
    subst (λ (n : ℕ). ConvertsFrom list.width list.rows n c.args.steps.now c.add_rows_from.new.steps (Ok c.in_ok-added.added)) c.len.ensures c.in_ok-added.ensures.conversion in
    second_moved list.width c.args.column list.rows c.args.steps.now c.add_rows_from.new.steps c.systems_from.new.steps (overflow_in conv_overflow c.systems_from.result) first.no_fewer
    (none_between list.width list.rows (length list.rows) (c.add_rows_from.new.steps - c.args.steps.now) first.counted) c.systems_from.ensures.conversion

pub add_rows_from-requires-clause-system : goal.add_rows_from-requires-clause-system
add_rows_from-requires-clause-system g c =
    let list = c.args.list.now in
    subst (λ (n : ℕ). IsSystem (Upto list.width list.rows n) (vectors c.args.start.lines.rows) (vectors c.args.start.rays.rows)) (sym c.len.ensures) c.requires.start.system

pub systems_from-requires-clause-first : goal.systems_from-requires-clause-first
systems_from-requires-clause-first g c = c.in_ok-added.ensures.cone

pub systems_from-requires-clause-column : goal.systems_from-requires-clause-column
systems_from-requires-clause-column g c = c.requires.column

pub returns-clause-systems : goal.returns-clause-systems
returns-clause-systems g c = c.systems_from.ensures.systems

pub add_rows_from-requires-clause-sat : goal.add_rows_from-requires-clause-sat
add_rows_from-requires-clause-sat g c = subst (λ (n : ℕ). IsZeroTable c.args.list.now.rows n (vectors c.args.start.rays.rows) c.args.start.sat) (sym c.len.ensures) c.requires.start.zeros
