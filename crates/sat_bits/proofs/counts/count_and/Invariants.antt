use Rattle.std.proofs.Common.{◌≡◌, ◌*◌, ◌&&◌}
use Rattle.std.specs.List.{range_with_len, count_by}
use Rattle.sat_bits.specs.Places.{place}
use Rattle.sat_bits.proofs.counts.count_and.Given as goal

abbrev pub invariant-loop-word : goal.invariant-loop-word
invariant-loop-word l = record {
  total : l.total ≡ count_by (λ i. place l.a i && place l.b i) (range_with_len 0 (l.word * 64));
}
