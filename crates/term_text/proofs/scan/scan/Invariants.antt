use Rattle.std.proofs.Common.{◌≡◌, take}
use Rattle.term_text.specs.Reading.{emitted, start, final}
use Rattle.term_text.specs.Sums.{HasSummed}
use Rattle.term_text.proofs.scan.scan.Given as goal

abbrev pub invariant-loop-byte : goal.invariant-loop-byte
invariant-loop-byte l = record {
  summed : HasSummed (emitted start (take l.byte-index l.text)) l.sum;
  over : l.sum.dim ≡ l.initial.sum.dim;
  state : l.state ≡ final start (take l.byte-index l.text);
}
