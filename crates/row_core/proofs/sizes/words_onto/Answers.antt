use Rattle.std.specs.Prelude.{◌≡◌, ◌<◌, ◌-◌, ◌^◌, ℕ, ℤ, pos, length, get_or, bit_or, ◌+ℤ◌, ◌*ℤ◌}
use Rattle.std.specs.Int.{w64, w128}
use Rattle.std.specs.Int.Count.{count_leading_zeros}
use Rattle.std.proofs.Common.{rules, arith, ap, ◌∙◌, sym, subst}
use Rattle.std.proofs.lemmas.Int.{to_z-of_z, fits_signed_from_abs}
use Rattle.std.proofs.lemmas.Nat.{le_or_l, le_or_r, leading_length}
use Rattle.std.proofs.lemmas.List.{get_or-set_other}
use Rattle.std.proofs.lemmas.List.Elements.{All-from_get_or}
use mir.Val.{SFits}
use Rattle.row_core.specs.Vectors.{cell}
use Rattle.row_core.specs.Range.{InRange}
use Rattle.row_core.specs.Sizes.{IsWord, IsWithin, ColumnIsOfWords}
use Rattle.row_core.proofs.CellLemmas.{combination_from_cells, written_more}
use Rattle.row_core.proofs.SizeLemmas.{AllStay-combined_words, to_z-of_cut}
use Rattle.row_core.proofs.sizes.words_onto.Goals as goal

-- a word fits one
fits : (x : ℤ) → IsWord x → SFits w64 x
fits x h = fits_signed_from_abs w64 x h.size

pub overflow_cast-entry : goal.overflow_cast-entry
overflow_cast-entry c =
    let x : ℤ = get_or c.loop-j.dst c.loop-j.j (pos 0) in
    let y : ℤ = get_or c.args.v.now c.loop-j.j (pos 0) in
    let entry_fits : SFits w128 x = search rules in
    let words : ColumnIsOfWords c.args.s x c.args.t y =
    subst (λ (z : ℤ). ColumnIsOfWords c.args.s z c.args.t y)
    (sym (c.loop-j.invariant.rest c.loop-j.j (omega arith)))
    (c.requires.words c.loop-j.j c.loop-j-test.true) in
    rw (to_z-of_z w128 x entry_fits) (fits x words.entries.0)

pub overflow_mul-entry : goal.overflow_mul-entry
overflow_mul-entry c =
    let x : ℤ = get_or c.loop-j.dst c.loop-j.j (pos 0) in
    let y : ℤ = get_or c.args.v.now c.loop-j.j (pos 0) in
    let entry_fits : SFits w128 x = search rules in
    let words : ColumnIsOfWords c.args.s x c.args.t y =
    subst (λ (z : ℤ). ColumnIsOfWords c.args.s z c.args.t y)
    (sym (c.loop-j.invariant.rest c.loop-j.j (omega arith)))
    (c.requires.words c.loop-j.j c.loop-j-test.true) in
    rw (to_z-of_z w64 c.args.s c.ranges.s, to_z-of_cut x entry_fits (fits x words.entries.0))
    (fits (c.args.s *ℤ x) words.left)

pub overflow_cast-entry-in-loop-j : goal.overflow_cast-entry-in-loop-j
overflow_cast-entry-in-loop-j c =
    let x : ℤ = get_or c.loop-j.dst c.loop-j.j (pos 0) in
    let y : ℤ = get_or c.args.v.now c.loop-j.j (pos 0) in
    let entry_fits : SFits w128 y = search rules in
    let words : ColumnIsOfWords c.args.s x c.args.t y =
    subst (λ (z : ℤ). ColumnIsOfWords c.args.s z c.args.t y)
    (sym (c.loop-j.invariant.rest c.loop-j.j (omega arith)))
    (c.requires.words c.loop-j.j c.loop-j-test.true) in
    rw (to_z-of_z w128 y entry_fits) (fits y words.entries.1)

pub overflow_mul-entry-in-loop-j : goal.overflow_mul-entry-in-loop-j
overflow_mul-entry-in-loop-j c =
    let x : ℤ = get_or c.loop-j.dst c.loop-j.j (pos 0) in
    let y : ℤ = get_or c.args.v.now c.loop-j.j (pos 0) in
    let entry_fits : SFits w128 y = search rules in
    let words : ColumnIsOfWords c.args.s x c.args.t y =
    subst (λ (z : ℤ). ColumnIsOfWords c.args.s z c.args.t y)
    (sym (c.loop-j.invariant.rest c.loop-j.j (omega arith)))
    (c.requires.words c.loop-j.j c.loop-j-test.true) in
    rw (to_z-of_z w64 c.args.t c.ranges.t, to_z-of_cut y entry_fits (fits y words.entries.1))
    (fits (c.args.t *ℤ y) words.right)

pub overflow_add-entry : goal.overflow_add-entry
overflow_add-entry c =
    let x : ℤ = get_or c.loop-j.dst c.loop-j.j (pos 0) in
    let y : ℤ = get_or c.args.v.now c.loop-j.j (pos 0) in
    let s_fits : SFits w64 c.args.s = c.ranges.s in
    let t_fits : SFits w64 c.args.t = c.ranges.t in
    let x_fits : SFits w128 x = search rules in
    let y_fits : SFits w128 y = search rules in
    let words : ColumnIsOfWords c.args.s x c.args.t y =
    subst (λ (z : ℤ). ColumnIsOfWords c.args.s z c.args.t y)
    (sym (c.loop-j.invariant.rest c.loop-j.j (omega arith)))
    (c.requires.words c.loop-j.j c.loop-j-test.true) in
    let x_word : SFits w64 x = fits_signed_from_abs w64 x words.entries.0.size in
    let y_word : SFits w64 y = fits_signed_from_abs w64 y words.entries.1.size in
    let left : SFits w64 (c.args.s *ℤ x) = fits_signed_from_abs w64 (c.args.s *ℤ x) words.left.size in
    let right : SFits w64 (c.args.t *ℤ y) =
    fits_signed_from_abs w64 (c.args.t *ℤ y) words.right.size in
    let both : SFits w64 (c.args.s *ℤ x +ℤ c.args.t *ℤ y) =
    fits_signed_from_abs w64 (c.args.s *ℤ x +ℤ c.args.t *ℤ y) words.sum.size in
    simp to_z-of_z both

pub loop-j-preserved : goal.loop-j-preserved
loop-j-preserved c =
    let x : ℤ = get_or c.loop-j.dst c.loop-j.j (pos 0) in
    let y : ℤ = get_or c.args.v.now c.loop-j.j (pos 0) in
    let entry : ℤ = c.args.s *ℤ x +ℤ c.args.t *ℤ y in
    let s_fits : SFits w64 c.args.s = c.ranges.s in
    let t_fits : SFits w64 c.args.t = c.ranges.t in
    let x_fits : SFits w128 x = search rules in
    let y_fits : SFits w128 y = search rules in
    let old : x ≡ cell c.args.dst.now c.loop-j.j =
    c.loop-j.invariant.rest c.loop-j.j (omega arith) in
    let words : ColumnIsOfWords c.args.s x c.args.t y =
    subst (λ (z : ℤ). ColumnIsOfWords c.args.s z c.args.t y) (sym old)
    (c.requires.words c.loop-j.j c.loop-j-test.true) in
    let x_word : SFits w64 x = fits_signed_from_abs w64 x words.entries.0.size in
    let y_word : SFits w64 y = fits_signed_from_abs w64 y words.entries.1.size in
    let left : SFits w64 (c.args.s *ℤ x) = fits_signed_from_abs w64 (c.args.s *ℤ x) words.left.size in
    let right : SFits w64 (c.args.t *ℤ y) =
    fits_signed_from_abs w64 (c.args.t *ℤ y) words.right.size in
    let both : SFits w64 entry = fits_signed_from_abs w64 entry words.sum.size in
    let wide : SFits w128 entry =
    fits_signed_from_abs w128 entry (omega (arith, words.sum.size)) in
    let value : c.from.result ≡ entry = simp to_z-of_z at c.from.ensures in
    let size = simp to_z-of_z at c.unsigned_abs-sizes.ensures.value in
    let before = le_or_l c.loop-j.sizes c.unsigned_abs-sizes.result in
    let here = le_or_r c.loop-j.sizes c.unsigned_abs-sizes.result in
    let within : c.loop-j.j < length c.loop-j.dst = omega arith in
    let done = simp to_z-of_z at c.loop-j.invariant.done in
    rw value (simp to_z-of_z (record {
      done = written_more (λ (k : ℕ) (z : ℤ). z ≡ c.args.s *ℤ cell c.args.dst.now
          k +ℤ c.args.t *ℤ cell c.args.v.now k) c.loop-j.dst c.loop-j.j entry within done
          (ap (λ (z : ℤ). c.args.s *ℤ z +ℤ c.args.t *ℤ cell c.args.v.now c.loop-j.j) old);
      rest = λ k h. get_or-set_other c.loop-j.dst c.loop-j.j k entry
          (pos 0) (λ e. absurd (omega (arith, h, e))) ∙
          c.loop-j.invariant.rest k (omega (arith, h));
      within = written_more (λ (k : ℕ) (z : ℤ).
          IsWithin (bit_or c.loop-j.sizes c.unsigned_abs-sizes.result) z) c.loop-j.dst c.loop-j.j
          entry within
          (λ k h. record { size = omega (arith, (c.loop-j.invariant.within k h).size, before) })
          (record { size = omega (arith, size, here) });
    }))

pub returns-clause-combined : goal.returns-clause-combined
returns-clause-combined c =
    let s_fits : SFits w64 c.args.s = c.ranges.s in
    let t_fits : SFits w64 c.args.t = c.ranges.t in
    let done = simp to_z-of_z at c.loop-j.invariant.done in
    combination_from_cells c.loop-j.dst c.args.dst.now c.args.v.now c.args.s c.args.t (omega arith)
    c.requires.same_width
    (λ k h. done k (omega arith))

pub returns-clause-in_range : goal.returns-clause-in_range
returns-clause-in_range c =
    let s_fits : SFits w64 c.args.s = c.ranges.s in
    let t_fits : SFits w64 c.args.t = c.ranges.t in
    let done = simp to_z-of_z at c.loop-j.invariant.done in
    let stay = AllStay-combined_words c.args.dst.now c.args.s c.args.v.now c.args.t
    c.requires.words in
    All-from_get_or InRange c.loop-j.dst (pos 0)
    (λ k h. subst InRange (sym (done k (omega arith))) (stay k (omega arith)).sum)

pub returns-clause-bits : goal.returns-clause-bits
returns-clause-bits c =
    let p = leading_length 64 c.loop-j.sizes (omega (arith, c.loop-j.auto.sizes-fits)) in
    let e : p.0 ≡ 64 - count_leading_zeros 64 c.loop-j.sizes = omega (arith, p.1) in
    let below = subst (λ (k : ℕ). c.loop-j.sizes < 2 ^ k) e p.2 in
    All-from_get_or (IsWithin (2 ^ (64 - count_leading_zeros 64 c.loop-j.sizes))) c.loop-j.dst
    (pos 0)
    (λ k h. record {
      size = omega (arith, (c.loop-j.invariant.within k (omega (arith, h))).size, below);
    })
