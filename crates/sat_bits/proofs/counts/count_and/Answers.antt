use Rattle.std.proofs.Common.{◌≡◌, ◌*◌, ℕ, Bool, length, slice_index_or, bit_and, ◌&&◌, arith, ap}
use Rattle.std.specs.List.{range_with_len, count_by}
use Rattle.std.proofs.lemmas.Nat.{and_le_l}
use Rattle.sat_bits.specs.Places.{place}
use Rattle.sat_bits.proofs.CountLemmas.{count_more, count_fits, both_in}
use Rattle.sat_bits.proofs.counts.count_and.Goals as goal

pub returns-then-a-eq1 : goal.returns-then-a-eq1
returns-then-a-eq1 c =
    let both : ℕ → Bool = λ i. place c.args.a.now i && place c.args.b.now i in
    let word : ℕ = bit_and (slice_index_or c.args.a.now 0 0) (slice_index_or c.args.b.now 0 0) in
    let more = count_more both 0 word (omega (arith, and_le_l (slice_index_or c.args.a.now 0 0) (slice_index_or c.args.b.now 0 0), (c.type_inv.a 0).fits)) (λ j h. both_in c.args.a.now c.args.b.now 0 j h) in
    let whole : count_by both (range_with_len 0 (length c.args.a.now * 64)) ≡ count_by both (range_with_len 0 64) = ap (λ (n : ℕ). count_by both (range_with_len 0 (n * 64))) c.if-a-eq1.true in
    omega (arith, c.bits.ensures, whole, more)

pub overflow_add-total : goal.overflow_add-total
overflow_add-total c =
    let fits = count_fits (λ (i : ℕ). place c.args.a.now i && place c.args.b.now i) c.loop-word.word (length c.args.a.now) (bit_and (slice_index_or c.args.a.now c.loop-word.word 0) (slice_index_or c.args.b.now c.loop-word.word 0)) c.loop-word.total (omega (arith, and_le_l (slice_index_or c.args.a.now c.loop-word.word 0) (slice_index_or c.args.b.now c.loop-word.word 0), (c.type_inv.a c.loop-word.word).fits))
    (λ j h. both_in c.args.a.now c.args.b.now c.loop-word.word j h) (omega arith) c.requires.few c.loop-word.invariant.total in
    omega (arith, fits)

pub loop-word-preserved : goal.loop-word-preserved
loop-word-preserved c =
    let more = count_more (λ (i : ℕ). place c.args.a.now i && place c.args.b.now i) c.loop-word.word (bit_and (slice_index_or c.args.a.now c.loop-word.word 0) (slice_index_or c.args.b.now c.loop-word.word 0)) (omega (arith, and_le_l (slice_index_or c.args.a.now c.loop-word.word 0) (slice_index_or c.args.b.now c.loop-word.word 0), (c.type_inv.a c.loop-word.word).fits)) (λ j h. both_in c.args.a.now c.args.b.now c.loop-word.word j h) in
    omega (arith, c.loop-word.invariant.total, more)
