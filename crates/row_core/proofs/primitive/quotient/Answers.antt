use Rattle.std.specs.Prelude.{◌≡◌, ℤ, ◌*ℤ◌, int_div}
use Rattle.std.specs.Int.{w64, w128}
use Rattle.std.proofs.Common.{arith, sym, ◌∙◌, ap, subst, to_z, of_z}
use Rattle.std.proofs.lemmas.Int.{quot_is, quot_fits, to_z-of_z, fits_signed_from_abs}
use mir.Val.{SFits}
use Rattle.row_core.specs.Range.{InRange}
use Rattle.row_core.proofs.ContentLemmas.{exact_quotient, quotient_by_one}
use Rattle.row_core.proofs.Magnitudes.{back, int_div-in_range, of_z-above}
use Rattle.row_core.proofs.SizeLemmas.{size_left, size_right}
use Rattle.row_core.proofs.primitive.quotient.Goals as goal

pub returns-then-divisor-eq1-clause-value : goal.returns-then-divisor-eq1-clause-value
returns-then-divisor-eq1-clause-value c =
    let one = sym (to_z-of_z w128 c.args.divisor c.ranges.divisor) ∙
    ap (to_z w128) c.if-divisor-eq1.true in
    quotient_by_one c.args.x c.args.divisor one ∙
    ap (λ (q : ℤ). c.args.divisor *ℤ q) (sym (to_z-of_z w128 c.args.x c.ranges.x))

pub returns-then-divisor-eq1-clause-in_range : goal.returns-then-divisor-eq1-clause-in_range
returns-then-divisor-eq1-clause-in_range c =
    subst InRange (sym (back c.args.x c.requires.in_range)) c.requires.in_range

-- both are words
words : (c : goal.Then-bits_of-le63) → SFits w64 c.args.x × SFits w64 c.args.divisor
words c =
    let x_is = rw (to_z-of_z w128 c.args.x c.ranges.x) at c.unsigned_abs.ensures.value in
    let divisor_is = rw (to_z-of_z w128 c.args.divisor c.ranges.divisor) at
    c.unsigned_abs-2.ensures.value in (
      fits_signed_from_abs w64 c.args.x (size_left c.args.x c.unsigned_abs.result
          c.unsigned_abs-2.result c.bits_of.result x_is c.bits_of.ensures.below (omega arith)),
      fits_signed_from_abs w64 c.args.divisor (size_right c.args.divisor c.unsigned_abs.result
          c.unsigned_abs-2.result c.bits_of.result divisor_is c.bits_of.ensures.below (omega arith)),
    )

pub overflow_cast-x : goal.overflow_cast-x
overflow_cast-x c = rw (to_z-of_z w128 c.args.x c.ranges.x) (words c).0

pub overflow_cast-divisor : goal.overflow_cast-divisor
overflow_cast-divisor c =
    rw (to_z-of_z w128 c.args.divisor c.ranges.divisor) (words c).1

pub nonzero_div-x : goal.nonzero_div-x
nonzero_div-x c =
    let x_word = (words c).0 in
    let divisor_word = (words c).1 in
    rw (
      to_z-of_z w128 c.args.x c.ranges.x,
      to_z-of_z w128 c.args.divisor c.ranges.divisor,
      to_z-of_z w64 c.args.x x_word,
      to_z-of_z w64 c.args.divisor divisor_word,
    ) (
      of_z-above w64 c.args.divisor c.requires.positive,
      quot_fits w64 c.args.x c.args.divisor x_word c.requires.positive,
    )

-- what the words' quotient is
word : (c : goal.After-from) → c.from.result ≡ int_div c.args.x c.args.divisor
word c =
    let x_is = rw (to_z-of_z w128 c.args.x c.ranges.x) at c.unsigned_abs.ensures.value in
    let divisor_is = rw (to_z-of_z w128 c.args.divisor c.ranges.divisor) at
    c.unsigned_abs-2.ensures.value in
    let x_word = fits_signed_from_abs w64 c.args.x (size_left c.args.x c.unsigned_abs.result
    c.unsigned_abs-2.result c.bits_of.result x_is c.bits_of.ensures.below (omega arith)) in
    let divisor_word = fits_signed_from_abs w64 c.args.divisor (size_right c.args.divisor
    c.unsigned_abs.result c.unsigned_abs-2.result c.bits_of.result divisor_is c.bits_of.ensures.below
    (omega arith)) in
    let fits = quot_fits w64 c.args.x c.args.divisor x_word c.requires.positive in
    (rw (to_z-of_z w128 c.args.x c.ranges.x, to_z-of_z w128 c.args.divisor c.ranges.divisor) at
    c.from.ensures) ∙
    quot_is w64 c.args.x c.args.divisor x_word divisor_word fits

-- as it is passed on
passed : (c : goal.After-from) →
    to_z w128 (of_z w128 c.from.result) ≡ int_div c.args.x c.args.divisor
passed c =
    ap (λ (q : ℤ). to_z w128 (of_z w128 q)) (word c) ∙
    back (int_div c.args.x c.args.divisor)
    (int_div-in_range c.args.x c.args.divisor c.requires.positive c.requires.in_range)

pub returns-then-bits_of-le63-clause-value : goal.returns-then-bits_of-le63-clause-value
returns-then-bits_of-le63-clause-value c =
    exact_quotient c.args.x c.args.divisor c.requires.divides ∙
    ap (λ (q : ℤ). c.args.divisor *ℤ q) (sym (passed c))

pub returns-then-bits_of-le63-clause-in_range : goal.returns-then-bits_of-le63-clause-in_range
returns-then-bits_of-le63-clause-in_range c =
    subst InRange (sym (passed c))
    (int_div-in_range c.args.x c.args.divisor c.requires.positive c.requires.in_range)

pub nonzero_div-result : goal.nonzero_div-result
nonzero_div-result c =
    rw (to_z-of_z w128 c.args.x c.ranges.x, to_z-of_z w128 c.args.divisor c.ranges.divisor) (
      of_z-above w128 c.args.divisor c.requires.positive,
      quot_fits w128 c.args.x c.args.divisor c.ranges.x c.requires.positive,
    )

-- what the quotient is
whole : (c : goal.Else-bits_of-le63) →
    to_z w128 (of_z w128 (int_div (to_z w128 (of_z w128 c.args.x))
    (to_z w128 (of_z w128 c.args.divisor)))) ≡ int_div c.args.x c.args.divisor
whole c =
    let fits = quot_fits w128 c.args.x c.args.divisor c.ranges.x c.requires.positive in
    quot_is w128 c.args.x c.args.divisor c.ranges.x c.ranges.divisor fits

pub returns-clause-value : goal.returns-clause-value
returns-clause-value c =
    exact_quotient c.args.x c.args.divisor c.requires.divides ∙
    ap (λ (q : ℤ). c.args.divisor *ℤ q) (sym (whole c))

pub returns-clause-in_range : goal.returns-clause-in_range
returns-clause-in_range c =
    subst InRange (sym (whole c))
    (int_div-in_range c.args.x c.args.divisor c.requires.positive c.requires.in_range)
