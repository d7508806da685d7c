use Rattle.std.proofs.lemmas.Result.{err_from_is_err_and}
use Rattle.cdd_reading.proofs.TableLaws.{table_refused, ine_read}
use Rattle.cdd_reading.specs.declared.format.Format.TheVariants.{Ine}
use Rattle.cdd_reading.proofs.read.read_ine.Goals as goal

pub returns-in_err-table : goal.returns-in_err-table
returns-in_err-table c =
    let p = err_from_is_err_and c.from_residual.result c.from_residual.ensures.1 in
    rw (p.1, p.2) (table_refused Ine c.args.bytes.now c.in_err-table.field-0.0 c.in_err-table.ensures)

pub returns : goal.returns
returns c =
    let table = c.in_ok-table.table in
    let stored = c.in_ok-store_constraints in
    ine_read c.args.bytes.now table.width table.marks.items table.values.items stored.field-0 c.in_ok-table.ensures stored.ensures.0 stored.ensures.1
