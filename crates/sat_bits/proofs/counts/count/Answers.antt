use Rattle.std.proofs.Common.{◌≡◌, ◌*◌, ℕ, length, slice_index_or, ap, arith}
use Rattle.std.specs.List.{range_with_len, count_by}
use Rattle.sat_bits.specs.Places.{place}
use Rattle.sat_bits.proofs.CountLemmas.{count_more, count_fits}
use Rattle.sat_bits.proofs.PlaceLemmas.{place_of}
use Rattle.sat_bits.proofs.counts.count.Goals as goal

pub returns-then-a-eq1 : goal.returns-then-a-eq1
returns-then-a-eq1 c =
    let word : ℕ = slice_index_or c.args.a.now 0 0 in
    let more = count_more (place c.args.a.now) 0 word (c.type_inv.a 0).fits (λ j h. place_of c.args.a.now 0 j h) in
    let whole : count_by (place c.args.a.now) (range_with_len 0 (length c.args.a.now * 64)) ≡ count_by (place c.args.a.now) (range_with_len 0 64) = ap (λ (n : ℕ). count_by (place c.args.a.now) (range_with_len 0 (n * 64))) c.if-a-eq1.true in
    omega (arith, c.bits.ensures, whole, more)

pub overflow_add-total : goal.overflow_add-total
overflow_add-total c =
    let fits = count_fits (place c.args.a.now) c.loop-word.word (length c.args.a.now) (slice_index_or c.args.a.now c.loop-word.word 0) c.loop-word.total (c.type_inv.a c.loop-word.word).fits
    (λ j h. place_of c.args.a.now c.loop-word.word j h) (omega arith) c.requires c.loop-word.invariant.total in
    omega (arith, fits)

pub loop-word-preserved : goal.loop-word-preserved
loop-word-preserved c =
    let more = count_more (place c.args.a.now) c.loop-word.word (slice_index_or c.args.a.now c.loop-word.word 0) (c.type_inv.a c.loop-word.word).fits (λ j h. place_of c.args.a.now c.loop-word.word j h) in
    omega (arith, c.loop-word.invariant.total, more)
