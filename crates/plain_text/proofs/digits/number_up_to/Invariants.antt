use Rattle.std.proofs.Common.{◌≡◌, ◌≤◌, drop, min}
use Rattle.plain_text.specs.Digits.{number_after, number}
use Rattle.plain_text.proofs.digits.number_up_to.Given as goal

abbrev pub invariant-loop-byte : goal.invariant-loop-byte
invariant-loop-byte l = record {
  value : min (number_after l.number (drop l.byte-index l.digits)) l.most ≡ min (number l.digits) l.most;
  most : l.number ≤ l.most;
}
