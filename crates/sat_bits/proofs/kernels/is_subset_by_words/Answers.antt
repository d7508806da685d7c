use Rattle.std.proofs.Common.{refl, arith}
use Rattle.sat_bits.proofs.PlaceLemmas.{subset_from_words, none_in_word, covered_word_more, says_no}
use Rattle.sat_bits.proofs.kernels.is_subset_by_words.Goals as goal

pub returns-then-not-is_word_covered : goal.returns-then-not-is_word_covered
returns-then-not-is_word_covered c = says_no c.is_word_covered.result c.if-not-is_word_covered.true c.is_word_covered.ensures
    (none_in_word c.args.a.now c.args.b.now c.args.c.now _ _ _ c.loop-word.word (λ k. (c.type_inv.a k).fits) (λ k. (c.type_inv.c k).fits) refl refl refl)

pub loop-word-preserved : goal.loop-word-preserved
loop-word-preserved c =
    covered_word_more c.args.a.now c.args.b.now c.args.c.now _ _ _ c.loop-word.word (λ k. (c.type_inv.a k).fits) (λ k. (c.type_inv.c k).fits) c.loop-word.invariant refl refl refl (c.if-not-is_word_covered.ensures.0 refl)

pub returns : goal.returns
returns c = (λ h. subset_from_words c.args.a.now c.args.b.now c.args.c.now c.requires.second c.requires.third (λ k l. c.loop-word.invariant k (omega (arith, l, c.loop-word-test.false))), λ h. refl)
