use Rattle.std.proofs.Common.{length}
use Rattle.grammar.proofs.derivative.+push_after_row.Given as goal

abbrev pub decreases-push_after_row : goal.decreases-push_after_row
decreases-push_after_row l = length l.row.now
