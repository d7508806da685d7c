use Rattle.std.proofs.Common.{◌≡◌, ℕ, ◌+◌, ◌*◌, ◌/◌, [], length, slice_index_or, refl, ◌∙◌, ap, subst, arith}
use Rattle.sat_bits.specs.Places.{AreCovered}
use Rattle.sat_bits.proofs.BlockLemmas.{block_at, rest_at}
use Rattle.sat_bits.proofs.PlaceLemmas.{subset_from_words, none_in_block, none_in_word, covered_more, covered_word_more, says_no}
use Rattle.sat_bits.proofs.kernels.is_subset_of_and.Goals as goal

pub returns-then-not-is_block_covered : goal.returns-then-not-is_block_covered
returns-then-not-is_block_covered c = says_no c.is_block_covered.result c.if-not-is_block_covered.true c.is_block_covered.ensures
    (none_in_block c.args.a.now c.args.b.now c.args.c.now _ _ _ c.loop-block.block (λ k. (c.type_inv.a k).fits) (λ k. (c.type_inv.c k).fits)
    (block_at c.args.a.now c.as_chunks.result.0.now c.loop-block.block [] c.as_chunks.ensures.front (omega (arith, c.as_chunks.ensures.front_len, c.loop-block-test.true)))
    (block_at c.args.b.now c.as_chunks-2.result.0.now c.loop-block.block [] c.as_chunks-2.ensures.front (omega (arith, c.as_chunks.ensures.front_len, c.requires.second, c.loop-block-test.true)))
    (block_at c.args.c.now c.as_chunks-3.result.0.now c.loop-block.block [] c.as_chunks-3.ensures.front (omega (arith, c.as_chunks.ensures.front_len, c.requires.third, c.loop-block-test.true))))

pub loop-block-preserved : goal.loop-block-preserved
loop-block-preserved c = covered_more c.args.a.now c.args.b.now c.args.c.now _ _ _ c.loop-block.block (λ k. (c.type_inv.a k).fits) (λ k. (c.type_inv.c k).fits) c.loop-block.invariant
    (block_at c.args.a.now c.as_chunks.result.0.now c.loop-block.block [] c.as_chunks.ensures.front (omega (arith, c.as_chunks.ensures.front_len, c.loop-block-test.true)))
    (block_at c.args.b.now c.as_chunks-2.result.0.now c.loop-block.block [] c.as_chunks-2.ensures.front (omega (arith, c.as_chunks.ensures.front_len, c.requires.second, c.loop-block-test.true)))
    (block_at c.args.c.now c.as_chunks-3.result.0.now c.loop-block.block [] c.as_chunks-3.ensures.front (omega (arith, c.as_chunks.ensures.front_len, c.requires.third, c.loop-block-test.true)))
    (c.if-not-is_block_covered.ensures.0 refl)

pub returns-then-not-is_word_covered : goal.returns-then-not-is_word_covered
returns-then-not-is_word_covered c = says_no c.is_word_covered.result c.if-not-is_word_covered.true c.is_word_covered.ensures
    (none_in_word c.args.a.now c.args.b.now c.args.c.now _ _ _ (length c.args.a.now / 8 * 8 + c.loop-word.word) (λ k. (c.type_inv.a k).fits) (λ k. (c.type_inv.c k).fits)
    (rest_at c.args.a.now c.as_chunks.result.1.now c.loop-word.word c.as_chunks.ensures.back)
    (rest_at c.args.b.now c.as_chunks-2.result.1.now c.loop-word.word c.as_chunks-2.ensures.back ∙ ap (λ (n : ℕ). slice_index_or c.args.b.now (n / 8 * 8 + c.loop-word.word) 0) c.requires.second)
    (rest_at c.args.c.now c.as_chunks-3.result.1.now c.loop-word.word c.as_chunks-3.ensures.back ∙ ap (λ (n : ℕ). slice_index_or c.args.c.now (n / 8 * 8 + c.loop-word.word) 0) c.requires.third))

pub loop-word-preserved : goal.loop-word-preserved
loop-word-preserved c =
    let e : length c.args.a.now / 8 * 8 + c.loop-word.word + 1 ≡ length c.args.a.now / 8 * 8 + (c.loop-word.word + 1) = omega arith in
    subst (λ (n : ℕ). AreCovered c.args.a.now c.args.b.now c.args.c.now n) e
    (covered_word_more c.args.a.now c.args.b.now c.args.c.now _ _ _ (length c.args.a.now / 8 * 8 + c.loop-word.word) (λ k. (c.type_inv.a k).fits) (λ k. (c.type_inv.c k).fits) c.loop-word.invariant
    (rest_at c.args.a.now c.as_chunks.result.1.now c.loop-word.word c.as_chunks.ensures.back)
    (rest_at c.args.b.now c.as_chunks-2.result.1.now c.loop-word.word c.as_chunks-2.ensures.back ∙ ap (λ (n : ℕ). slice_index_or c.args.b.now (n / 8 * 8 + c.loop-word.word) 0) c.requires.second)
    (rest_at c.args.c.now c.as_chunks-3.result.1.now c.loop-word.word c.as_chunks-3.ensures.back ∙ ap (λ (n : ℕ). slice_index_or c.args.c.now (n / 8 * 8 + c.loop-word.word) 0) c.requires.third)
    (c.if-not-is_word_covered.ensures.0 refl))

pub returns : goal.returns
returns c = (λ h. subset_from_words c.args.a.now c.args.b.now c.args.c.now c.requires.second c.requires.third (λ k l. c.loop-word.invariant k (omega (arith, l, c.loop-word-test.false, c.as_chunks.ensures.back_len))), λ h. refl)
