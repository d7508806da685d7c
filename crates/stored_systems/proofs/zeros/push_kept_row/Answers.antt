use Rattle.sat_matrix.specs.Tables.{bits_of}
use Rattle.stored_systems.proofs.ZeroTables.{row_kept, row_skipped}
use Rattle.stored_systems.proofs.zeros.push_kept_row.Goals as goal

pub returns-then-is_divisor-clause-rows : goal.returns-then-is_divisor-clause-rows
returns-then-is_divisor-clause-rows c = row_skipped c.args.dim c.args.ray.now c.is_divisor.result c.args.table.now.rows (bits_of c.args.zeros.now.rows c.args.row) c.is_divisor.ensures c.requires.wide c.if-is_divisor.true

pub returns-clause-rows : goal.returns-clause-rows
returns-clause-rows c = row_kept c.args.dim c.args.ray.now c.is_divisor.result c.args.table.now.rows c.push_row_of.new.self.rows (bits_of c.args.zeros.now.rows c.args.row) c.is_divisor.ensures c.requires.wide c.if-is_divisor.false c.push_row_of.ensures.rows
