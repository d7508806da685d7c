use Rattle.std.proofs.Common.{◌≡◌, ◌≤◌, length}
use Rattle.cdd_reading.specs.Tokens.{tokens}
use Rattle.cdd_reading.proofs.cuts.split_token.Given as goal

abbrev pub invariant-loop-rest : goal.invariant-loop-rest
invariant-loop-rest l = record {
  same : tokens l.rest ≡ tokens l.line;
  short : length l.rest ≤ length l.line;
}

abbrev pub decreases-loop-rest : goal.decreases-loop-rest
decreases-loop-rest l = length l.rest
