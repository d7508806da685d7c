use Rattle.std.proofs.Common.{◌∙◌, arith}
use Rattle.stored_systems.proofs.ZeroTables.{kept_row_more}
use Rattle.stored_systems.proofs.zeros.push_kept_rows.Goals as goal

pub loop-index-preserved : goal.loop-index-preserved
loop-index-preserved c =
    let inv = c.loop-index.invariant in
    record {
      columns = c.push_kept_row.ensures.columns ∙ inv.columns;
      rows = kept_row_more c.args.dim c.args.from c.loop-index.index c.args.rays.now.rows c.args.zeros.now.rows c.reserve.new.self.rows c.loop-index.table.rows c.push_kept_row.new.table.rows c.row.result.now (omega arith) c.requires.rows c.row.ensures.value inv.rows c.push_kept_row.ensures.rows;
      spare = omega (arith, inv.spare, c.push_kept_row.ensures.spare);
    }
