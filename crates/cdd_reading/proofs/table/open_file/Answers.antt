use Rattle.std.specs.Str.Lines.{lines}
use Rattle.std.proofs.Common.{rules}
use Rattle.cdd_reading.proofs.Forms.{fault_open}
use Rattle.cdd_reading.proofs.table.open_file.Goals as goal

pub returns-then-not-are_short : goal.returns-then-not-are_short
returns-then-not-are_short c = fault_open c.args.bytes.now (lines c.in-Some.cut.file.now) (lines c.in-Some.cut.behind.now) c.in-Some.ensures.0 (search rules)
