use Rattle.std.proofs.Common.{◌≡◌, ◌+◌, ◌*◌, ℕ, length, ap, ◌∙◌, arith}
use Rattle.std.specs.List.{range_with_len, count_by}
use Rattle.std.proofs.lemmas.Bool.{false≢true}
use Rattle.sat_bits.proofs.CountLemmas.{apart_at, apart_more, one_apart, two_apart}
use Rattle.sat_bits.proofs.counts.has_one_more.Goals as goal

pub returns-then-apart-gt1 : goal.returns-then-apart-gt1
returns-then-apart-gt1 c =
    let more = apart_more c.args.a.now c.args.b.now c.loop-word.word (c.type_inv.a c.loop-word.word).fits (c.type_inv.b c.loop-word.word).fits in
    ((λ h. absurd (false≢true h)), λ h. absurd (two_apart c.args.a.now c.args.b.now (c.loop-word.word + 1) _ (omega arith) (omega (arith, c.loop-word.invariant.apart, more)) c.if-apart-gt1.true h))

pub loop-word-preserved : goal.loop-word-preserved
loop-word-preserved c =
    let more = apart_more c.args.a.now c.args.b.now c.loop-word.word (c.type_inv.a c.loop-word.word).fits (c.type_inv.b c.loop-word.word).fits in
    record {
      few = omega (arith, c.if-apart-gt1.false);
      apart = omega (arith, c.loop-word.invariant.apart, more);
    }

pub returns : goal.returns
returns c =
    let end : c.loop-word.word ≡ length c.args.a.now = omega (arith, c.loop-word-test.false) in
    one_apart c.args.a.now c.args.b.now c.loop-word.apart (c.loop-word.invariant.apart ∙ ap (λ (n : ℕ). count_by (apart_at c.args.a.now c.args.b.now) (range_with_len 0 (n * 64))) end)
