use Rattle.std.proofs.Common.{◌≡◌, ◌*◌}
use Rattle.std.specs.List.{range_with_len, count_by}
use Rattle.sat_bits.specs.Places.{place}
use Rattle.sat_bits.proofs.counts.count.Given as goal

abbrev pub invariant-loop-word : goal.invariant-loop-word
invariant-loop-word l = record {
  total : l.total ≡ count_by (place l.a) (range_with_len 0 (l.word * 64));
}
