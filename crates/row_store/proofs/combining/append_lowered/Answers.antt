use Rattle.std.specs.Prelude.{◌≡◌, ℕ, List, length, ℤ, pos, refl, IfOk}
use Rattle.std.specs.Int.{w128}
use Rattle.std.proofs.Common.{sym, subst, ap, ◌∙◌, to_z, arith}
use Rattle.std.proofs.lemmas.Int.{to_z-of_z}
use Rattle.std.proofs.lemmas.List.{length_push}
use mir.Val.{SFits}
use Rattle.flat_rows.specs.Flat.{entries_at}
use Rattle.row_core.specs.Range.{InRange}
use Rattle.row_core.specs.Sizes.{HaveBits}
use Rattle.row_core.proofs.SignTests.{fits}
use Rattle.row_core.proofs.Magnitudes.{back}
use Rattle.row_store.proofs.ChangeLemmas.{combined_zero}
use Rattle.row_store.proofs.CombinedRows.{ended_as, last_stays, pushed_last}
use native.Mathlib.Nat.{le_refl}
use Rattle.row_store.proofs.combining.append_lowered.Goals as goal

pub returns-then-v-eq0-clause-combined : goal.returns-then-v-eq0-clause-combined
returns-then-v-eq0-clause-combined g c =
    let is_zero : c.args.v ≡ pos 0 = sym (back c.args.v c.requires.in_range.1) ∙ ap (to_z w128) c.if-v-eq0.true in
    record {
      row = c.args.vector.now;
      is = combined_zero c.args.crossing.value c.args.v c.args.crossing.line.now c.args.vector.now c.args.vector.now c.requires.nonzero is_zero c.requires.vector.1 refl;
      width = c.push_reserved.ensures.width;
      rows = c.push_reserved.ensures.rows;
      spare = c.push_reserved.ensures.spare;
    }

pub returns-then-v-eq0-clause-bits : goal.returns-then-v-eq0-clause-bits
returns-then-v-eq0-clause-bits g c =
    let rows = c.args.store.now.rows in
    subst (HaveBits c.bits.result) (sym (ap (λ (rs : List (List ℤ)). entries_at rs (length rows)) c.push_reserved.ensures.rows ∙ pushed_last rows c.args.vector.now (length rows) refl)) c.bits.ensures.within

pub combine_with-combined-requires-clause-bits : goal.combine_with-combined-requires-clause-bits
combine_with-combined-requires-clause-bits g c =
    let rows = c.args.store.now.rows in (
      subst (HaveBits c.args.crossing.bits) (sym (ap (λ (rs : List (List ℤ)). entries_at rs c.len-last.result) c.push_reserved.ensures.rows ∙ pushed_last rows c.args.vector.now c.len-last.result c.len-last.ensures)) c.requires.vector_bits,
      c.requires.line_bits,
    )

pub end_combination-requires-clause-last : goal.end_combination-requires-clause-last
end_combination-requires-clause-last g c =
    last_stays _ _ _ _ c.len-last.result c.args.store.now c.push_reserved.new.self c.combine_with-combined.new.self c.combine_with-combined.result c.len-last.ensures c.push_reserved.ensures.rows c.combine_with-combined.ensures.combined

pub returns-clause-bits : goal.returns-clause-bits
returns-clause-bits g c =
    subst (λ (n : ℕ). IfOk c.end_combination.result (λ bits. HaveBits bits (entries_at c.end_combination.new.store.rows n))) c.len-last.ensures c.end_combination.ensures.bits

pub returns-clause-combined : goal.returns-clause-combined
returns-clause-combined g c =
    let u_fits : SFits w128 c.args.crossing.value = fits c.args.crossing.value c.requires.in_range.0 in
    let v_fits : SFits w128 c.args.v = c.ranges.v in
    let factors = simp to_z-of_z at c.factors-factors.ensures.factors in
    ended_as c.args.crossing.value c.args.v c.factors-factors.result.0 c.factors-factors.result.1 c.args.crossing.line.now c.args.vector.now c.len-last.result c.args.store.now c.push_reserved.new.self c.combine_with-combined.new.self c.end_combination.new.store c.combine_with-combined.result c.end_combination.result
    factors c.requires.nonzero (c.requires.line ∙ sym c.requires.wide) (c.requires.wide ∙ sym c.push_reserved.ensures.width) c.len-last.ensures c.push_reserved.ensures.width c.push_reserved.ensures.rows c.push_reserved.ensures.spare
    c.combine_with-combined.ensures.combined c.end_combination.ensures.ok c.end_combination.ensures.same c.end_combination.ensures.primitive c.end_combination.ensures.dropped

pub push_reserved-requires-clause-spare : goal.push_reserved-requires-clause-spare
push_reserved-requires-clause-spare g c = c.requires.spare

pub push_reserved-requires-clause-wide : goal.push_reserved-requires-clause-wide
push_reserved-requires-clause-wide g c = c.requires.wide

pub push_reserved-requires-clause-in_range : goal.push_reserved-requires-clause-in_range
push_reserved-requires-clause-in_range g c = c.requires.vector.0

pub returns-then-v-eq0-clause-counted : goal.returns-then-v-eq0-clause-counted
returns-then-v-eq0-clause-counted g c = (le_refl _, omega arith)

pub factors-factors-requires-clause-first_in_range : goal.factors-factors-requires-clause-first_in_range
factors-factors-requires-clause-first_in_range g c = subst InRange (sym (to_z-of_z w128 c.args.crossing.value (fits c.args.crossing.value c.requires.in_range.0))) c.requires.in_range.0

pub factors-factors-requires-clause-second_in_range : goal.factors-factors-requires-clause-second_in_range
factors-factors-requires-clause-second_in_range g c = subst InRange (sym (to_z-of_z w128 c.args.v c.ranges.v)) c.requires.in_range.1

pub factors-factors-requires-clause-nonzero : goal.factors-factors-requires-clause-nonzero
factors-factors-requires-clause-nonzero g c = λ e. c.requires.nonzero (sym (to_z-of_z w128 c.args.crossing.value (fits c.args.crossing.value c.requires.in_range.0)) ∙ e)

pub combine_with-combined-requires-clause-row : goal.combine_with-combined-requires-clause-row
combine_with-combined-requires-clause-row g c = omega (arith, c.len-last.ensures, ap length c.push_reserved.ensures.rows ∙ length_push c.args.store.now.rows c.args.vector.now)

pub combine_with-combined-requires-clause-wide : goal.combine_with-combined-requires-clause-wide
combine_with-combined-requires-clause-wide g c = c.requires.line ∙ sym c.push_reserved.ensures.width

pub end_combination-requires-clause-bits : goal.end_combination-requires-clause-bits
end_combination-requires-clause-bits g c = c.combine_with-combined.ensures.bits

pub returns-clause-counted : goal.returns-clause-counted
returns-clause-counted g c = (omega (arith, c.combine_with-combined.ensures.counted), omega (arith, c.combine_with-combined.ensures.counted))
