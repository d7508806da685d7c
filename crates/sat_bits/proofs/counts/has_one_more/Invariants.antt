use Rattle.std.proofs.Common.{◌≡◌, ◌*◌, ◌≤◌}
use Rattle.std.specs.List.{range_with_len, count_by}
use Rattle.sat_bits.proofs.CountLemmas.{apart_at}
use Rattle.sat_bits.proofs.counts.has_one_more.Given as goal

abbrev pub invariant-loop-word : goal.invariant-loop-word
invariant-loop-word l = record {
  few : l.apart ≤ 1;
  apart : l.apart ≡ count_by (apart_at l.a l.b) (range_with_len 0 (l.word * 64));
}
