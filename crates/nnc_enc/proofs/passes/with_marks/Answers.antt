use Rattle.std.specs.Prelude.{ℕ, ◌+◌, true, slice_set}
use Rattle.std.proofs.Common.{ap, sym, subst, ◌∙◌}
use Rattle.sat_matrix.specs.Tables.{Table, bits_of}
use Rattle.nnc_enc.proofs.MarkRows.{HasMarksUpto, marks_set, marks_passed, marks_all}
use Rattle.nnc_enc.proofs.passes.with_marks.Goals.{then-marks-column, else-marks-column}
use Rattle.nnc_enc.proofs.passes.with_marks.Goals as goal

pub loop-column-preserved : goal.loop-column-preserved
loop-column-preserved c =
    let marks = c.args.marks.now in
    let rows = c.args.sat.now.rows in
    let old = c.loop-column.table in
    let column = c.loop-column.column in
    let inv = c.loop-column.invariant in
    elim c.if-marks-column.branch [
      | then-marks-column w ↦ record {
        columns = ap (λ (t : Table). t.columns) (w.table-is ∙ w.set.ensures) ∙ inv.columns;
        marked = marks_set marks rows old.rows column c.loop-column-test.true inv.marked c.if-marks-column.table.rows w.if-marks-column.true (ap (λ (t : Table). t.rows) (w.table-is ∙ w.set.ensures) ∙ ap (λ (k : ℕ). slice_set old.rows k (slice_set (bits_of old.rows k) column true)) c.len-row.ensures);
      }
      | else-marks-column w ↦ record {
        columns = ap (λ (t : Table). t.columns) w.table-is ∙ inv.columns;
        marked = subst (λ (t : Table). HasMarksUpto marks rows t.rows (column + 1)) (sym w.table-is) (marks_passed marks rows old.rows column c.loop-column-test.true inv.marked w.if-marks-column.false);
      }
    ]

pub returns : goal.returns
returns c = marks_all c.args.marks.now c.args.sat.now.rows c.loop-column.table.rows c.loop-column.column c.loop-column-test.false c.loop-column.invariant.marked
