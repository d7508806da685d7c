use Rattle.std.specs.Prelude.{◌≡◌, ◌<◌, ℕ, ℤ, pos, length, get_or, ◌+ℤ◌, ◌*ℤ◌}
use Rattle.std.specs.Int.{w128}
use Rattle.std.proofs.Common.{rules, arith, ap, ◌∙◌, sym, subst}
use Rattle.std.proofs.lemmas.Int.{to_z-of_z, fits_signed_from_abs}
use Rattle.std.proofs.lemmas.List.{get_or-set_other}
use Rattle.std.proofs.lemmas.List.Elements.{All-from_get_or}
use mir.Val.{SFits}
use Rattle.row_core.specs.Vectors.{cell}
use Rattle.row_core.specs.Range.{InRange, ColumnStays}
use Rattle.row_core.proofs.CellLemmas.{combination_from_cells, written_more}
use Rattle.row_core.proofs.linear.write_onto.Goals as goal

-- what is computed fits
fits : (z : ℤ) → InRange z → SFits w128 z
fits z h = fits_signed_from_abs w128 z h.size

pub overflow_mul-dst : goal.overflow_mul-dst
overflow_mul-dst c =
    let x : ℤ = get_or c.loop-j.dst c.loop-j.j (pos 0) in
    let y : ℤ = get_or c.args.v.now c.loop-j.j (pos 0) in
    let entry_fits : SFits w128 x = search rules in
    let stays : ColumnStays c.args.s x c.args.t y =
    subst (λ (z : ℤ). ColumnStays c.args.s z c.args.t y)
    (sym (c.loop-j.invariant.rest c.loop-j.j (omega arith)))
    (c.requires.stays c.loop-j.j c.loop-j-test.true) in
    rw (to_z-of_z w128 c.args.s c.ranges.s, to_z-of_z w128 x entry_fits)
    (fits (c.args.s *ℤ x) stays.left)

pub overflow_mul-dst-in-loop-j : goal.overflow_mul-dst-in-loop-j
overflow_mul-dst-in-loop-j c =
    let x : ℤ = get_or c.loop-j.dst c.loop-j.j (pos 0) in
    let y : ℤ = get_or c.args.v.now c.loop-j.j (pos 0) in
    let entry_fits : SFits w128 y = search rules in
    let stays : ColumnStays c.args.s x c.args.t y =
    subst (λ (z : ℤ). ColumnStays c.args.s z c.args.t y)
    (sym (c.loop-j.invariant.rest c.loop-j.j (omega arith)))
    (c.requires.stays c.loop-j.j c.loop-j-test.true) in
    rw (to_z-of_z w128 c.args.t c.ranges.t, to_z-of_z w128 y entry_fits)
    (fits (c.args.t *ℤ y) stays.right)

pub overflow_add-dst : goal.overflow_add-dst
overflow_add-dst c =
    let x : ℤ = get_or c.loop-j.dst c.loop-j.j (pos 0) in
    let y : ℤ = get_or c.args.v.now c.loop-j.j (pos 0) in
    let s_fits : SFits w128 c.args.s = c.ranges.s in
    let t_fits : SFits w128 c.args.t = c.ranges.t in
    let x_fits : SFits w128 x = search rules in
    let y_fits : SFits w128 y = search rules in
    let old : x ≡ cell c.args.dst.now c.loop-j.j =
    c.loop-j.invariant.rest c.loop-j.j (omega arith) in
    let stays : ColumnStays c.args.s x c.args.t y =
    subst (λ (z : ℤ). ColumnStays c.args.s z c.args.t y) (sym old)
    (c.requires.stays c.loop-j.j c.loop-j-test.true) in
    let left : SFits w128 (c.args.s *ℤ x) = fits (c.args.s *ℤ x) stays.left in
    let right : SFits w128 (c.args.t *ℤ y) = fits (c.args.t *ℤ y) stays.right in
    simp to_z-of_z (fits (c.args.s *ℤ x +ℤ c.args.t *ℤ y) stays.sum)

pub loop-j-preserved : goal.loop-j-preserved
loop-j-preserved c =
    let x : ℤ = get_or c.loop-j.dst c.loop-j.j (pos 0) in
    let y : ℤ = get_or c.args.v.now c.loop-j.j (pos 0) in
    let s_fits : SFits w128 c.args.s = c.ranges.s in
    let t_fits : SFits w128 c.args.t = c.ranges.t in
    let x_fits : SFits w128 x = search rules in
    let y_fits : SFits w128 y = search rules in
    let old : x ≡ cell c.args.dst.now c.loop-j.j =
    c.loop-j.invariant.rest c.loop-j.j (omega arith) in
    let stays : ColumnStays c.args.s x c.args.t y =
    subst (λ (z : ℤ). ColumnStays c.args.s z c.args.t y) (sym old)
    (c.requires.stays c.loop-j.j c.loop-j-test.true) in
    let left : SFits w128 (c.args.s *ℤ x) = fits (c.args.s *ℤ x) stays.left in
    let right : SFits w128 (c.args.t *ℤ y) = fits (c.args.t *ℤ y) stays.right in
    let entry : ℤ = c.args.s *ℤ x +ℤ c.args.t *ℤ y in
    let entry_fits : SFits w128 entry = fits entry stays.sum in
    let within : c.loop-j.j < length c.loop-j.dst = omega arith in
    let done = simp to_z-of_z at c.loop-j.invariant.done in
    simp to_z-of_z (record {
      done = written_more (λ (k : ℕ) (z : ℤ). z ≡ c.args.s *ℤ cell c.args.dst.now
          k +ℤ c.args.t *ℤ cell c.args.v.now k) c.loop-j.dst c.loop-j.j entry within done
          (ap (λ (z : ℤ). c.args.s *ℤ z +ℤ c.args.t *ℤ cell c.args.v.now c.loop-j.j) old);
      rest = λ k h. get_or-set_other c.loop-j.dst c.loop-j.j k entry (pos 0)
          (λ e. absurd (omega (arith, h, e))) ∙ c.loop-j.invariant.rest k (omega (arith, h));
      in_range = written_more (λ (k : ℕ) (z : ℤ). InRange z) c.loop-j.dst c.loop-j.j
          entry within c.loop-j.invariant.in_range stays.sum;
    })

pub returns-clause-combined : goal.returns-clause-combined
returns-clause-combined c =
    let s_fits : SFits w128 c.args.s = c.ranges.s in
    let t_fits : SFits w128 c.args.t = c.ranges.t in
    let done = simp to_z-of_z at c.loop-j.invariant.done in
    combination_from_cells c.loop-j.dst c.args.dst.now c.args.v.now c.args.s c.args.t (omega arith)
    c.requires.same_width
    (λ k h. done k (omega arith))

pub returns-clause-in_range : goal.returns-clause-in_range
returns-clause-in_range c =
    All-from_get_or InRange c.loop-j.dst (pos 0)
    (λ k h. c.loop-j.invariant.in_range k (omega arith))
