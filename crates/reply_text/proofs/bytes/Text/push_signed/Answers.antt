use Rattle.std.proofs.Common.{◌≡◌, ◌+◌, ◌∷◌, [], sym, ap, ◌∙◌, arith, rules}
use Rattle.std.specs.Prelude.{pos, ◌<ℤ◌, ◌≤ℤ◌, unsigned_abs}
use Rattle.std.specs.Fmt.{signed_decimal}
use Rattle.std.specs.Int.{w128}
use Rattle.std.proofs.lemmas.Int.{ints, to_z-of_z}
use mir.Val.{SFits}
use Rattle.reply_text.proofs.DigitLemmas.{signed_decimal-digit, signed_decimal-negative}
use Rattle.reply_text.proofs.bytes.Text.push_signed.Goals as goal

pub returns-then-number-lt0 : goal.returns-then-number-lt0
returns-then-number-lt0 c =
    let fits : SFits w128 c.args.number = search rules in
    let size : c.unsigned_abs-size.result ≡ unsigned_abs c.args.number = simp to_z-of_z at c.unsigned_abs-size.ensures.value in
    let negative : c.args.number <ℤ pos 0 = omega (arith, ints) in
    let written : signed_decimal c.args.number ≡ 45 ∷ (48 + c.unsigned_abs-size.result) ∷ [] = signed_decimal-negative c.args.number negative (omega (arith, size, c.if-size-ge10.false)) ∙ ap (λ n. 45 ∷ (48 + n) ∷ []) (sym size) in
    rw written c.push-then-number-lt0.ensures

pub returns-else-number-lt0 : goal.returns-else-number-lt0
returns-else-number-lt0 c =
    let fits : SFits w128 c.args.number = search rules in
    let size : c.unsigned_abs-size.result ≡ unsigned_abs c.args.number = simp to_z-of_z at c.unsigned_abs-size.ensures.value in
    let other : pos 0 ≤ℤ c.args.number = omega (arith, ints) in
    let written : signed_decimal c.args.number ≡ (48 + c.unsigned_abs-size.result) ∷ [] = signed_decimal-digit c.args.number other (omega (arith, size, c.if-size-ge10.false)) ∙ ap (λ n. (48 + n) ∷ []) (sym size) in
    rw written c.push_byte.ensures
