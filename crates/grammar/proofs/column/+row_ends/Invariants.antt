use Rattle.std.proofs.Common.{length}
use Rattle.grammar.proofs.column.+row_ends.Given as goal

abbrev pub decreases-row_ends : goal.decreases-row_ends
decreases-row_ends l = length l.row.now
