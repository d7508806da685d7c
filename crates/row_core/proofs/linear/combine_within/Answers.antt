use Rattle.std.specs.Prelude.{◌≡◌, ℕ, ◌+◌, ◌^◌, ◌<◌, ◌≤◌, ℤ, bit_or, unsigned_abs, length}
use Rattle.std.specs.Int.{w64, w128}
use Rattle.std.proofs.Common.{arith}
use Rattle.std.proofs.Math.Pow.{pow_mono}
use Rattle.std.proofs.lemmas.Int.{to_z-of_z, fits_signed_from_abs}
use Rattle.std.proofs.lemmas.Nat.{le_or_l, le_or_r}
use mir.Val.{SFits}
use Rattle.row_core.specs.Range.{CombineStays, AllStay}
use Rattle.row_core.specs.Sizes.{IsWithin}
use Rattle.row_core.proofs.SizeLemmas.{AllStay-combined_of_words, AllStay-combined_words, AllStay-combined_within}
use Rattle.row_core.proofs.linear.combine_within.Goals as goal
use Rattle.row_core.proofs.linear.combine_within.Goals.{then-all-gt125+in_ok-check_combination, else-all-gt125}

-- the sizes of two numbers, of which the or has so many bits
left_of : (s : ℤ) (a b f : ℕ) → a ≡ unsigned_abs s → bit_or a b < 2 ^ f → IsWithin (2 ^ f) s
left_of s a b f e below = record { size = omega (arith, e, below, le_or_l a b) }

right_of : (t : ℤ) (a b f : ℕ) → b ≡ unsigned_abs t → bit_or a b < 2 ^ f → IsWithin (2 ^ f) t
right_of t a b f e below = record { size = omega (arith, e, below, le_or_r a b) }

-- a number of so few bits is a word
word_of : (z : ℤ) (f : ℕ) → f ≤ 61 → IsWithin (2 ^ f) z → SFits w64 z
word_of z f few h =
    let most : 2 ^ f ≤ 2 ^ 61 = pow_mono {j = 61} few in
    fits_signed_from_abs w64 z (omega (arith, h.size, most))

pub overflow_cast-s : goal.overflow_cast-s
overflow_cast-s g c =
    let s_fits : SFits w128 c.args.s = c.ranges.s in
    let size = simp to_z-of_z at c.unsigned_abs.ensures.value in
    simp to_z-of_z (word_of c.args.s c.bits_of-factors.result (omega arith)
    (left_of c.args.s c.unsigned_abs.result c.unsigned_abs-2.result c.bits_of-factors.result size
    c.bits_of-factors.ensures.below))

pub overflow_cast-t : goal.overflow_cast-t
overflow_cast-t g c =
    let t_fits : SFits w128 c.args.t = c.ranges.t in
    let size = simp to_z-of_z at c.unsigned_abs-2.ensures.value in
    simp to_z-of_z (word_of c.args.t c.bits_of-factors.result (omega arith)
    (right_of c.args.t c.unsigned_abs.result c.unsigned_abs-2.result c.bits_of-factors.result size
    c.bits_of-factors.ensures.below))

pub words_onto-requires-clause-words : goal.words_onto-requires-clause-words
words_onto-requires-clause-words g c =
    let s_fits : SFits w128 c.args.s = c.ranges.s in
    let t_fits : SFits w128 c.args.t = c.ranges.t in
    let f : ℕ = c.bits_of-factors.result in
    let few : f + c.args.within ≤ 61 = omega arith in
    let s_size = simp to_z-of_z at c.unsigned_abs.ensures.value in
    let t_size = simp to_z-of_z at c.unsigned_abs-2.ensures.value in
    let s_within = left_of c.args.s c.unsigned_abs.result c.unsigned_abs-2.result f s_size
    c.bits_of-factors.ensures.below in
    let t_within = right_of c.args.t c.unsigned_abs.result c.unsigned_abs-2.result f t_size
    c.bits_of-factors.ensures.below in
    let s_word : SFits w64 c.args.s = word_of c.args.s f (omega arith) s_within in
    let t_word : SFits w64 c.args.t = word_of c.args.t f (omega arith) t_within in
    simp to_z-of_z (AllStay-combined_of_words f c.args.within c.args.dst.now c.args.s c.args.v.now
    c.args.t c.requires.same_width s_within t_within c.requires.within.0 c.requires.within.1 few)

pub returns-then-all-le61-clause-combined : goal.returns-then-all-le61-clause-combined
returns-then-all-le61-clause-combined g c =
    let s_fits : SFits w128 c.args.s = c.ranges.s in
    let t_fits : SFits w128 c.args.t = c.ranges.t in
    let f : ℕ = c.bits_of-factors.result in
    let few : f + c.args.within ≤ 61 = omega arith in
    let s_size = simp to_z-of_z at c.unsigned_abs.ensures.value in
    let t_size = simp to_z-of_z at c.unsigned_abs-2.ensures.value in
    let s_within = left_of c.args.s c.unsigned_abs.result c.unsigned_abs-2.result f s_size
    c.bits_of-factors.ensures.below in
    let t_within = right_of c.args.t c.unsigned_abs.result c.unsigned_abs-2.result f t_size
    c.bits_of-factors.ensures.below in
    let s_word : SFits w64 c.args.s = word_of c.args.s f (omega arith) s_within in
    let t_word : SFits w64 c.args.t = word_of c.args.t f (omega arith) t_within in (
      simp to_z-of_z at c.words_onto.ensures.combined,
      AllStay-combined_words c.args.dst.now c.args.s c.args.v.now c.args.t
          (AllStay-combined_of_words f c.args.within c.args.dst.now c.args.s c.args.v.now
          c.args.t c.requires.same_width s_within t_within c.requires.within.0
          c.requires.within.1 few),
    )

pub write_onto-requires-clause-stays : goal.write_onto-requires-clause-stays
write_onto-requires-clause-stays g c =
    let s_fits : SFits w128 c.args.s = c.ranges.s in
    let t_fits : SFits w128 c.args.t = c.ranges.t in
    let f : ℕ = c.bits_of-factors.result in
    let s_size = simp to_z-of_z at c.unsigned_abs.ensures.value in
    let t_size = simp to_z-of_z at c.unsigned_abs-2.ensures.value in
    let s_within = left_of c.args.s c.unsigned_abs.result c.unsigned_abs-2.result f s_size
    c.bits_of-factors.ensures.below in
    let t_within = right_of c.args.t c.unsigned_abs.result c.unsigned_abs-2.result f t_size
    c.bits_of-factors.ensures.below in
    elim c.if-all-gt125.branch [
      | then-all-gt125+in_ok-check_combination w ↦ w.in_ok-check_combination.ensures
      | else-all-gt125 w ↦
          let few : f + c.args.within ≤ 125 = omega (arith, w.if-all-gt125.false) in
          simp to_z-of_z (AllStay-combined_within f c.args.within c.args.dst.now c.args.s
          c.args.v.now c.args.t c.requires.same_width s_within t_within c.requires.within.0
          c.requires.within.1 few)
    ]

pub returns-clause-combined : goal.returns-clause-combined
returns-clause-combined g c =
    let s_fits : SFits w128 c.args.s = c.ranges.s in
    let t_fits : SFits w128 c.args.t = c.ranges.t in
    let f : ℕ = c.bits_of-factors.result in
    let s_size = simp to_z-of_z at c.unsigned_abs.ensures.value in
    let t_size = simp to_z-of_z at c.unsigned_abs-2.ensures.value in
    let s_within = left_of c.args.s c.unsigned_abs.result c.unsigned_abs-2.result f s_size
    c.bits_of-factors.ensures.below in
    let t_within = right_of c.args.t c.unsigned_abs.result c.unsigned_abs-2.result f t_size
    c.bits_of-factors.ensures.below in
    let stay : AllStay (CombineStays c.args.dst.now c.args.s c.args.v.now c.args.t)
    (length c.args.dst.now) = elim c.if-all-gt125.branch [
      | then-all-gt125+in_ok-check_combination w ↦ simp to_z-of_z at w.in_ok-check_combination.ensures
      | else-all-gt125 w ↦
          let few : f + c.args.within ≤ 125 = omega (arith, w.if-all-gt125.false) in
          AllStay-combined_within f c.args.within c.args.dst.now c.args.s
          c.args.v.now c.args.t c.requires.same_width s_within t_within c.requires.within.0
          c.requires.within.1 few
    ] in
    (simp to_z-of_z at c.write_onto.ensures.combined, stay)
