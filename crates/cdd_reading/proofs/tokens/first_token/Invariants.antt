use Rattle.std.proofs.Common.{◌≡◌, ◌+◌, ◌≤◌, length}
use Rattle.cdd_reading.specs.Tokens.{left}
use Rattle.cdd_reading.proofs.tokens.first_token.Given as goal

abbrev pub invariant-loop-line : goal.invariant-loop-line
invariant-loop-line l = record {
  same : left l.line l.after l.number ≡ left l.initial.line l.initial.after l.initial.number;
  short : l.number + length l.after ≤ l.initial.number + length l.initial.after;
  both : length l.line + length l.after ≤ length l.initial.line + length l.initial.after;
}

abbrev pub decreases-loop-line : goal.decreases-loop-line
decreases-loop-line l = length l.after
