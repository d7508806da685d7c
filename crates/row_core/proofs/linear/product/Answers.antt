use Rattle.std.specs.Prelude.{◌≡◌, ◌*ℤ◌}
use Rattle.std.specs.Int.{w64, w128}
use Rattle.std.proofs.Common.{arith, refl}
use Rattle.std.proofs.lemmas.Int.{to_z-of_z, fits_signed_from_abs}
use mir.Val.{SFits}
use Rattle.row_core.proofs.SizeLemmas.{size_left, size_right, InRange-word_product}
use Rattle.row_core.proofs.linear.product.Goals as goal

pub overflow_cast-a : goal.overflow_cast-a
overflow_cast-a c =
    let a_fits : SFits w128 c.args.a = c.ranges.a in
    let size = simp to_z-of_z at c.unsigned_abs.ensures.value in
    simp to_z-of_z (fits_signed_from_abs w64 c.args.a
    (size_left c.args.a c.unsigned_abs.result c.unsigned_abs-2.result c.bits_of.result size
    c.bits_of.ensures.below (omega arith)))

pub overflow_cast-b : goal.overflow_cast-b
overflow_cast-b c =
    let b_fits : SFits w128 c.args.b = c.ranges.b in
    let size = simp to_z-of_z at c.unsigned_abs-2.ensures.value in
    simp to_z-of_z (fits_signed_from_abs w64 c.args.b
    (size_right c.args.b c.unsigned_abs.result c.unsigned_abs-2.result c.bits_of.result size
    c.bits_of.ensures.below (omega arith)))

pub overflow_mul-result : goal.overflow_mul-result
overflow_mul-result c =
    let a_fits : SFits w128 c.args.a = c.ranges.a in
    let b_fits : SFits w128 c.args.b = c.ranges.b in
    let a_is = simp to_z-of_z at c.unsigned_abs.ensures.value in
    let b_is = simp to_z-of_z at c.unsigned_abs-2.ensures.value in
    let a_size = size_left c.args.a c.unsigned_abs.result c.unsigned_abs-2.result c.bits_of.result
    a_is c.bits_of.ensures.below (omega arith) in
    let b_size = size_right c.args.b c.unsigned_abs.result c.unsigned_abs-2.result c.bits_of.result
    b_is c.bits_of.ensures.below (omega arith) in
    let a_word : SFits w64 c.args.a = fits_signed_from_abs w64 c.args.a a_size in
    let b_word : SFits w64 c.args.b = fits_signed_from_abs w64 c.args.b b_size in
    let in_range = InRange-word_product c.args.a c.args.b a_size b_size in
    let product_fits : SFits w128 (c.args.a *ℤ c.args.b) =
    fits_signed_from_abs w128 (c.args.a *ℤ c.args.b) in_range.size in
    let left : c.from.result ≡ c.args.a = simp to_z-of_z at c.from.ensures in
    let right : c.from-then-bits_of-le63.result ≡ c.args.b =
    simp to_z-of_z at c.from-then-bits_of-le63.ensures in
    rw left (rw right (simp to_z-of_z product_fits))

pub returns-then-bits_of-le63 : goal.returns-then-bits_of-le63
returns-then-bits_of-le63 c =
    let a_fits : SFits w128 c.args.a = c.ranges.a in
    let b_fits : SFits w128 c.args.b = c.ranges.b in
    let a_is = simp to_z-of_z at c.unsigned_abs.ensures.value in
    let b_is = simp to_z-of_z at c.unsigned_abs-2.ensures.value in
    let a_size = size_left c.args.a c.unsigned_abs.result c.unsigned_abs-2.result c.bits_of.result
    a_is c.bits_of.ensures.below (omega arith) in
    let b_size = size_right c.args.b c.unsigned_abs.result c.unsigned_abs-2.result c.bits_of.result
    b_is c.bits_of.ensures.below (omega arith) in
    let a_word : SFits w64 c.args.a = fits_signed_from_abs w64 c.args.a a_size in
    let b_word : SFits w64 c.args.b = fits_signed_from_abs w64 c.args.b b_size in
    let in_range = InRange-word_product c.args.a c.args.b a_size b_size in
    let product_fits : SFits w128 (c.args.a *ℤ c.args.b) =
    fits_signed_from_abs w128 (c.args.a *ℤ c.args.b) in_range.size in
    let left : c.from.result ≡ c.args.a = simp to_z-of_z at c.from.ensures in
    let right : c.from-then-bits_of-le63.result ≡ c.args.b =
    simp to_z-of_z at c.from-then-bits_of-le63.ensures in
    rw left (rw right (simp to_z-of_z (in_range, refl)))
