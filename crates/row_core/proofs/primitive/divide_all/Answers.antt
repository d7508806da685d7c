use Rattle.std.specs.Prelude.{◌≡◌, ◌<◌, ◌≢◌, ℕ, ℤ, pos, length, get_or, ◌*ℤ◌, unsigned_abs}
use Rattle.std.specs.Int.{w128}
use Rattle.std.proofs.Common.{rules, arith, sym, ◌∙◌, subst, get_or-set_other}
use Rattle.std.proofs.lemmas.Int.{to_z-of_z, fits_signed_from_abs}
use Rattle.std.proofs.lemmas.List.Elements.{All-from_get_or, All-get_or}
use mir.Val.{SFits}
use Rattle.row_core.specs.Vectors.{cell}
use Rattle.row_core.specs.Range.{InRange}
use Rattle.row_core.proofs.CellLemmas.{written_more}
use Rattle.row_core.proofs.ContentLemmas.{Divides, scale_from_cells}
use Rattle.row_core.proofs.primitive.divide_all.Goals as goal

pub quotient-requires-clause-divides : goal.quotient-requires-clause-divides
quotient-requires-clause-divides c =
    let divisor_fits : SFits w128 c.args.divisor = c.ranges.divisor in
    let fits : SFits w128 (get_or c.loop-j.row c.loop-j.j (pos 0)) = search rules in
    let within : c.loop-j.j < length c.args.row.now = omega arith in
    simp to_z-of_z (subst (Divides (unsigned_abs c.args.divisor))
    (sym (c.loop-j.invariant.rest c.loop-j.j (omega arith)))
    (All-get_or (Divides (unsigned_abs c.args.divisor)) c.args.row.now c.loop-j.j (pos 0) within
    c.requires.divides))

pub loop-j-preserved : goal.loop-j-preserved
loop-j-preserved c =
    let divisor_fits : SFits w128 c.args.divisor = c.ranges.divisor in
    let fits : SFits w128 (get_or c.loop-j.row c.loop-j.j (pos 0)) = search rules in
    let within : c.loop-j.j < length c.loop-j.row = omega arith in
    let in_range : InRange c.quotient.result = c.quotient.ensures.in_range in
    let result_fits : SFits w128 c.quotient.result =
    fits_signed_from_abs w128 c.quotient.result in_range.size in
    let value = simp to_z-of_z at c.quotient.ensures.value in
    let done = simp to_z-of_z at c.loop-j.invariant.done in
    simp to_z-of_z (record {
      done = written_more (λ (k : ℕ) (z : ℤ). cell c.args.row.now k ≡ c.args.divisor *ℤ z)
          c.loop-j.row c.loop-j.j c.quotient.result within done
          (sym (c.loop-j.invariant.rest c.loop-j.j (omega arith)) ∙ value);
      in_range = written_more (λ (k : ℕ) (z : ℤ). InRange z) c.loop-j.row c.loop-j.j
          c.quotient.result within c.loop-j.invariant.in_range in_range;
      rest = λ k h. let apart : k ≢ c.loop-j.j = omega arith in
          get_or-set_other c.loop-j.row c.loop-j.j k c.quotient.result (pos 0) apart ∙
          c.loop-j.invariant.rest k (omega arith);
    })

pub returns-clause-multiple : goal.returns-clause-multiple
returns-clause-multiple c =
    let divisor_fits : SFits w128 c.args.divisor = c.ranges.divisor in
    let done = simp to_z-of_z at c.loop-j.invariant.done in
    scale_from_cells c.args.row.now c.loop-j.row c.args.divisor (omega arith)
    (λ k h. done k (omega arith))

pub returns-clause-in_range : goal.returns-clause-in_range
returns-clause-in_range c =
    All-from_get_or InRange c.loop-j.row (pos 0)
    (λ k h. c.loop-j.invariant.in_range k (omega arith))
