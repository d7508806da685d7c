use Rattle.std.proofs.lemmas.Result.{err_from_is_err_and, MatchResult-weaker}
use Rattle.cdd_reading.proofs.TableLaws.{table_refused, ext_refused, ext_read}
use Rattle.cdd_reading.specs.declared.format.Format.TheVariants.{Ext}
use Rattle.cdd_reading.proofs.read.read_ext.Goals as goal

pub returns-in_err-table : goal.returns-in_err-table
returns-in_err-table c =
    let p = err_from_is_err_and c.from_residual.result c.from_residual.ensures.1 in
    rw (p.1, p.2) (table_refused Ext c.args.bytes.now c.in_err-table.field-0.0 c.in_err-table.ensures)

pub returns : goal.returns
returns c =
    let bytes = c.args.bytes.now in
    let table = c.in_ok-table.table in
    MatchResult-weaker c.store_generators.result c.store_generators.ensures
    (λ gs h. ext_read bytes table.width table.marks.items table.values.items gs c.in_ok-table.ensures h.0 h.1)
    (λ e h. ext_refused bytes table.width table.marks.items table.values.items e c.in_ok-table.ensures h)
