use Rattle.std.specs.Prelude.{◌≡◌, ℤ, pos, unsigned_abs}
use Rattle.std.specs.Int.{w64}
use Rattle.std.proofs.Common.{arith, sym, subst}
use Rattle.std.proofs.lemmas.Int.{to_z_pos}
use mir.Val.{to_z}
use Rattle.row_core.specs.Vectors.{scale}
use Rattle.row_core.specs.Content.{DividesAll}
use Rattle.row_core.proofs.ContentLemmas.{IsMultipleOf-refl, primitive_as_it_is, primitive_quotient}
use Rattle.row_core.proofs.SizeLemmas.{HaveBits-more}
use Rattle.row_core.proofs.primitive.make_primitive_within.Goals as goal

pub words_content-divisor-requires : goal.words_content-divisor-requires
words_content-divisor-requires c =
    HaveBits-more c.args.within 62 c.args.row.now (omega arith) c.requires.within

pub divide_words-requires-clause-words : goal.divide_words-requires-clause-words
divide_words-requires-clause-words c =
    HaveBits-more c.args.within 62 c.args.row.now (omega arith) c.requires.within

pub divide_words-requires-clause-divides : goal.divide_words-requires-clause-divides
divide_words-requires-clause-divides c =
    let value : to_z w64 c.words_content-divisor.result ≡ pos c.words_content-divisor.result =
    to_z_pos w64 c.words_content-divisor.result
    (omega (arith, c.words_content-divisor.ensures.below)) in
    subst (λ (z : ℤ). DividesAll (unsigned_abs z) c.args.row.now) (sym value)
    c.words_content-divisor.ensures.divides

pub returns-then-divisor-gt1-clause-primitive : goal.returns-then-divisor-gt1-clause-primitive
returns-then-divisor-gt1-clause-primitive c =
    let value : to_z w64 c.words_content-divisor.result ≡ pos c.words_content-divisor.result =
    to_z_pos w64 c.words_content-divisor.result
    (omega (arith, c.words_content-divisor.ensures.below)) in
    primitive_quotient c.args.row.now c.divide_words.new.row c.words_content-divisor.result
    (omega arith)
    (subst (λ (z : ℤ). c.args.row.now ≡ scale z c.divide_words.new.row) value
    c.divide_words.ensures.multiple)
    c.words_content-divisor.ensures.greatest

pub returns-clause-multiple : goal.returns-clause-multiple
returns-clause-multiple c = IsMultipleOf-refl c.args.row.now

pub returns-clause-primitive : goal.returns-clause-primitive
returns-clause-primitive c =
    primitive_as_it_is c.args.row.now c.words_content-divisor.result (omega arith)
    c.words_content-divisor.ensures.divides c.words_content-divisor.ensures.greatest
