use Rattle.std.specs.Prelude.{◌≡◌, ◌<◌, ◌≢◌, ◌^◌, ℕ, ℤ, pos, length, get_or, ◌*ℤ◌, unsigned_abs, int_div}
use Rattle.std.specs.Int.{w64, w128}
use Rattle.std.proofs.Common.{rules, arith, sym, ◌∙◌, subst, get_or-set_other}
use Rattle.std.proofs.lemmas.Int.{to_z-of_z, fits_signed_from_abs, quot_is, quot_fits}
use Rattle.std.proofs.lemmas.List.Elements.{All-from_get_or, All-get_or}
use mir.Val.{SFits}
use Rattle.row_core.specs.Vectors.{cell}
use Rattle.row_core.specs.Range.{InRange}
use Rattle.row_core.specs.Sizes.{IsWithin}
use Rattle.row_core.proofs.CellLemmas.{written_more}
use Rattle.row_core.proofs.ContentLemmas.{Divides, scale_from_cells, exact_quotient}
use Rattle.row_core.proofs.Magnitudes.{int_div-in_range}
use Rattle.row_core.proofs.SizeLemmas.{word_of_bits}
use Rattle.row_core.proofs.primitive.divide_words.Goals as goal

pub loop-j-preserved : goal.loop-j-preserved
loop-j-preserved c =
    let x : ℤ = get_or c.loop-j.row c.loop-j.j (pos 0) in
    let d : ℤ = c.args.divisor in
    let d_fits : SFits w64 c.args.divisor = c.ranges.divisor in
    let x_fits : SFits w128 x = search rules in
    let within : c.loop-j.j < length c.loop-j.row = omega arith in
    let below : c.loop-j.j < length c.args.row.now = omega arith in
    let old : x ≡ cell c.args.row.now c.loop-j.j =
    c.loop-j.invariant.rest c.loop-j.j (omega arith) in
    let few : IsWithin (2 ^ 62) x = subst (IsWithin (2 ^ 62)) (sym old)
    (All-get_or (IsWithin (2 ^ 62)) c.args.row.now c.loop-j.j (pos 0) below c.requires.words) in
    let x_word : SFits w64 x = word_of_bits x few in
    let divides : Divides (unsigned_abs d) x = subst (Divides (unsigned_abs d)) (sym old)
    (All-get_or (Divides (unsigned_abs d)) c.args.row.now c.loop-j.j (pos 0) below
    c.requires.divides) in
    let x_in_range : InRange x = record { size = omega (arith, few.size) } in
    let q_in_range : InRange (int_div x d) = int_div-in_range x d c.requires.positive x_in_range in
    let q_fits : SFits w128 (int_div x d) =
    fits_signed_from_abs w128 (int_div x d) q_in_range.size in
    let is = quot_is w64 x d x_word d_fits (quot_fits w64 x d x_word c.requires.positive) in
    let value : c.from.result ≡ int_div x d =
    (rw (to_z-of_z w128 x x_fits) at c.from.ensures) ∙ is in
    let done = simp to_z-of_z at c.loop-j.invariant.done in
    rw value (simp to_z-of_z (record {
      done = written_more (λ (k : ℕ) (z : ℤ). cell c.args.row.now k ≡ c.args.divisor *ℤ z)
          c.loop-j.row c.loop-j.j (int_div x d) within done
          (sym old ∙ exact_quotient x d divides);
      in_range = written_more (λ (k : ℕ) (z : ℤ). InRange z) c.loop-j.row c.loop-j.j
          (int_div x d) within c.loop-j.invariant.in_range q_in_range;
      rest = λ k h. let apart : k ≢ c.loop-j.j = omega arith in
          get_or-set_other c.loop-j.row c.loop-j.j k (int_div x d) (pos 0) apart ∙
          c.loop-j.invariant.rest k (omega arith);
    }))

pub returns-clause-multiple : goal.returns-clause-multiple
returns-clause-multiple c =
    let d_fits : SFits w64 c.args.divisor = c.ranges.divisor in
    let done = simp to_z-of_z at c.loop-j.invariant.done in
    scale_from_cells c.args.row.now c.loop-j.row c.args.divisor (omega arith)
    (λ k h. done k (omega arith))

pub returns-clause-in_range : goal.returns-clause-in_range
returns-clause-in_range c =
    All-from_get_or InRange c.loop-j.row (pos 0)
    (λ k h. c.loop-j.invariant.in_range k (omega arith))
