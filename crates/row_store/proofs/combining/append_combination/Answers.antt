use Rattle.std.specs.Prelude.{◌≡◌, ℕ, ℤ, List, [], length, IfOk, MatchResult}
use Rattle.std.proofs.Common.{sym, subst, ap, ◌∙◌, arith}
use Rattle.std.specs.Int.{w128}
use Rattle.std.proofs.lemmas.Int.{to_z-of_z}
use Rattle.std.proofs.lemmas.List.{length_push}
use mir.Val.{SFits}
use Rattle.row_core.specs.Range.{InRange}
use Rattle.row_core.specs.Sizes.{HaveBits}
use Rattle.flat_rows.specs.Flat.{entries_at}
use Rattle.row_store.specs.Stores.{IsCombinedWith, IsRefusedAt}
use Rattle.row_store.proofs.CombinedRows.{ended_as, last_stays, pushed_last, pushed_before}
use Rattle.row_store.proofs.combining.append_combination.Goals as goal

pub combine_rows_within-combined-requires-clause-first_bits : goal.combine_rows_within-combined-requires-clause-first_bits
combine_rows_within-combined-requires-clause-first_bits g c =
    let rows = c.args.store.now.rows in
    subst (HaveBits c.args.within) (sym (ap (λ (rs : List (List ℤ)). entries_at rs c.len-last.result) c.push_copy.ensures.rows ∙ pushed_last rows (entries_at rows c.args.pair.1) c.len-last.result c.len-last.ensures)) (c.requires.within c.args.pair.1 [] c.requires.rows.1)

pub combine_rows_within-combined-requires-clause-second_bits : goal.combine_rows_within-combined-requires-clause-second_bits
combine_rows_within-combined-requires-clause-second_bits g c =
    let rows = c.args.store.now.rows in
    subst (HaveBits c.args.within) (sym (ap (λ (rs : List (List ℤ)). entries_at rs c.args.pair.0) c.push_copy.ensures.rows ∙ pushed_before rows (entries_at rows c.args.pair.1) c.args.pair.0 c.requires.rows.0)) (c.requires.within c.args.pair.0 [] c.requires.rows.0)

pub end_combination-requires-clause-last : goal.end_combination-requires-clause-last
end_combination-requires-clause-last g c =
    last_stays _ _ _ _ c.len-last.result c.args.store.now c.push_copy.new.self c.combine_rows_within-combined.new.self c.combine_rows_within-combined.result c.len-last.ensures c.push_copy.ensures.rows c.combine_rows_within-combined.ensures.combined

pub returns-clause-bits : goal.returns-clause-bits
returns-clause-bits g c =
    subst (λ (n : ℕ). IfOk c.end_combination.result (λ bits. HaveBits bits (entries_at c.end_combination.new.store.rows n))) c.len-last.ensures c.end_combination.ensures.bits

pub returns-clause-combined : goal.returns-clause-combined
returns-clause-combined g c =
    let u_fits : SFits w128 c.args.u = c.ranges.u in
    let v_fits : SFits w128 c.args.v = c.ranges.v in
    let factors = simp to_z-of_z at c.factors.ensures.factors in
    let rows = c.args.store.now.rows in
    let before : entries_at c.push_copy.new.self.rows c.args.pair.0 ≡ entries_at rows c.args.pair.0 = ap (λ (rs : List (List ℤ)). entries_at rs c.args.pair.0) c.push_copy.ensures.rows ∙ pushed_before rows (entries_at rows c.args.pair.1) c.args.pair.0 c.requires.rows.0 in
    let P : List ℤ → Type 0 = λ left. MatchResult c.combine_rows_within-combined.result (λ _. IsCombinedWith c.factors.result.0 c.factors.result.1 c.len-last.result left c.push_copy.new.self c.combine_rows_within-combined.new.self)
    (IsRefusedAt c.factors.result.0 c.factors.result.1 c.len-last.result left c.push_copy.new.self c.combine_rows_within-combined.new.self) in
    ended_as c.args.u c.args.v c.factors.result.0 c.factors.result.1 (entries_at rows c.args.pair.0) (entries_at rows c.args.pair.1) c.len-last.result c.args.store.now c.push_copy.new.self c.combine_rows_within-combined.new.self c.end_combination.new.store c.combine_rows_within-combined.result c.end_combination.result
    factors c.requires.nonzero (c.width.ensures.rectangular c.args.pair.0 c.requires.rows.0 ∙ sym (c.width.ensures.rectangular c.args.pair.1 c.requires.rows.1)) (c.width.ensures.rectangular c.args.pair.1 c.requires.rows.1 ∙ sym c.push_copy.ensures.width) c.len-last.ensures c.push_copy.ensures.width c.push_copy.ensures.rows c.push_copy.ensures.spare
    (subst P before c.combine_rows_within-combined.ensures.combined) c.end_combination.ensures.ok c.end_combination.ensures.same c.end_combination.ensures.primitive c.end_combination.ensures.dropped

pub push_copy-requires-clause-spare : goal.push_copy-requires-clause-spare
push_copy-requires-clause-spare g c = c.requires.spare

pub push_copy-requires-clause-row : goal.push_copy-requires-clause-row
push_copy-requires-clause-row g c = c.requires.rows.1

pub factors-requires-clause-first_in_range : goal.factors-requires-clause-first_in_range
factors-requires-clause-first_in_range g c = subst InRange (sym (to_z-of_z w128 c.args.u c.ranges.u)) c.requires.in_range.0

pub factors-requires-clause-second_in_range : goal.factors-requires-clause-second_in_range
factors-requires-clause-second_in_range g c = subst InRange (sym (to_z-of_z w128 c.args.v c.ranges.v)) c.requires.in_range.1

pub factors-requires-clause-nonzero : goal.factors-requires-clause-nonzero
factors-requires-clause-nonzero g c = λ e. c.requires.nonzero (sym (to_z-of_z w128 c.args.u c.ranges.u) ∙ e)

pub combine_rows_within-combined-requires-clause-first : goal.combine_rows_within-combined-requires-clause-first
combine_rows_within-combined-requires-clause-first g c = omega (arith, c.len-last.ensures, ap length c.push_copy.ensures.rows ∙ length_push c.args.store.now.rows (entries_at c.args.store.now.rows c.args.pair.1))

pub combine_rows_within-combined-requires-clause-second : goal.combine_rows_within-combined-requires-clause-second
combine_rows_within-combined-requires-clause-second g c =
    omega (arith, c.requires.rows.0, ap length c.push_copy.ensures.rows ∙ length_push c.args.store.now.rows (entries_at c.args.store.now.rows c.args.pair.1))

pub combine_rows_within-combined-requires-clause-other : goal.combine_rows_within-combined-requires-clause-other
combine_rows_within-combined-requires-clause-other g c = λ e. omega (arith, c.len-last.ensures, c.requires.rows.0, e)

pub end_combination-requires-clause-bits : goal.end_combination-requires-clause-bits
end_combination-requires-clause-bits g c = c.combine_rows_within-combined.ensures.bits

pub returns-clause-counted : goal.returns-clause-counted
returns-clause-counted g c = c.combine_rows_within-combined.ensures.counted
