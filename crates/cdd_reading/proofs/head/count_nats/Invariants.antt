use Rattle.std.proofs.Common.{◌≡◌, ◌+◌, ◌≤◌, length}
use Rattle.std.specs.List.{list_all}
use Rattle.cdd_reading.specs.Tokens.{tokens}
use Rattle.plain_text.specs.Digits.{is_nat}
use Rattle.cdd_reading.proofs.head.count_nats.Given as goal

abbrev pub invariant-loop-token : goal.invariant-loop-token
invariant-loop-token l = record {
  all : list_all is_nat (tokens l.rest) ≡ list_all is_nat (tokens l.text);
  count : l.count + length (tokens l.rest) ≡ length (tokens l.text);
  short : l.count + length l.rest ≤ length l.text;
}

abbrev pub decreases-loop-token : goal.decreases-loop-token
decreases-loop-token l = length l.rest
