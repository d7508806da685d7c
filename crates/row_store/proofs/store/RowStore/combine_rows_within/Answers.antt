use Rattle.std.specs.Prelude.{◌≡◌, ℕ, ℤ, List, ◌+◌, ◌^◌, ◌≤◌, length, MatchResult}
use Rattle.std.proofs.Common.{arith, subst, sym, ap, ◌∙◌}
use Rattle.std.proofs.lemmas.Result.{IfOk-weaker}
use Rattle.row_core.specs.Range.{InRange}
use Rattle.row_core.specs.Sizes.{IsWithin, HaveBits}
use Rattle.row_store.specs.Stores.{IsPartCombined, IsPartLeft}
use Rattle.flat_rows.specs.Flat.{Flat, window, entries_at}
use Rattle.flat_rows.proofs.Flat.{All-cells, length-window}
use Rattle.row_store.proofs.Parts.{IsRowPart, rows_apart, row_outcome, part_is_row}
use Rattle.row_store.proofs.ChangedRows.{kept_cells, part_within, All-row}
use Rattle.row_store.proofs.store.RowStore.combine_rows_within.Goals as goal

pub combine_parts-requires-clause-first : goal.combine_parts-requires-clause-first
combine_parts-requires-clause-first g c = part_within c.cells_mut.result.now _ _ _ c.self.view_is c.cells_mut.ensures.cells c.part-to.ensures.within

pub combine_parts-requires-clause-second : goal.combine_parts-requires-clause-second
combine_parts-requires-clause-second g c =
    let within : c.part-from.result.at + c.part-from.result.width ≤ length c.cells_mut.result.now = part_within c.cells_mut.result.now _ _ _ c.self.view_is c.cells_mut.ensures.cells c.part-from.ensures.within in
    omega (arith, within, c.part-from.ensures.width, c.part-to.ensures.width)

pub combine_parts-requires-clause-apart : goal.combine_parts-requires-clause-apart
combine_parts-requires-clause-apart g c = rw (c.part-to.ensures.at, c.part-from.ensures.at, c.part-to.ensures.width) (rows_apart c.args.self.now.width c.args.i c.args.j c.requires.other)

pub invariant_of-self : goal.invariant_of-self
invariant_of-self g c =
    let t = c.self.inside.rows in
    kept_cells c.cells_mut.result.now c.combine_parts.new.cells t c.cells_mut.ensures.cells c.combine_parts.auto.cells
    (c.combine_parts.ensures.in_range (All-cells InRange t c.cells_mut.result.now c.cells_mut.ensures.cells c.self.invariant.in_range)) c.self.invariant

pub returns-clause-combined : goal.returns-clause-combined
returns-clause-combined g c =
    let old : Flat ℤ = c.self.inside.rows in
    let seen : Flat ℤ = c.args.self.now in
    let cells : List ℤ = c.cells_mut.result.now in
    let new : List ℤ = c.combine_parts.new.cells in
    let p : ℕ = c.part-to.result.at in
    let w : ℕ = c.part-to.result.width in
    let from : ℕ = c.part-from.result.at in
    let are = c.cells_mut.ensures.cells in
    let to_part : IsRowPart c.args.i p w old seen = record { seen_as = c.self.view_is; below = c.requires.first; at = c.part-to.ensures.at; wide = c.part-to.ensures.width } in
    let from_part : IsRowPart c.args.j from w old seen = record { seen_as = c.self.view_is; below = c.requires.second; at = c.part-from.ensures.at; wide = c.part-to.ensures.width } in
    let is_row : window from w cells ≡ entries_at seen.rows c.args.j = part_is_row c.args.j from w cells old seen from_part are in
    let last : from + c.part-from.result.width ≤ length cells = part_within cells _ _ _ c.self.view_is are c.part-from.ensures.within in
    let within : from + w ≤ length cells = omega (arith, last, c.part-from.ensures.width, c.part-to.ensures.width) in
    let wide : length (entries_at seen.rows c.args.j) ≡ seen.width = ap length (sym is_row) ∙ length-window from w cells within ∙ c.part-to.ensures.width in
    let P : List ℤ → Type 0 = λ v. MatchResult c.combine_parts.result (λ _. IsPartCombined p w c.args.factors.0 v c.args.factors.1 cells new) (IsPartLeft p w c.args.factors.0 v c.args.factors.1 cells new) in
    row_outcome c.args.i p w (entries_at seen.rows c.args.j) c.args.factors.0 c.args.factors.1 cells new old seen c.combine_parts.result to_part are wide c.combine_parts.auto.cells (subst P is_row c.combine_parts.ensures.combined)

pub combine_parts-requires-clause-first_bits : goal.combine_parts-requires-clause-first_bits
combine_parts-requires-clause-first_bits g c =
    let part : IsRowPart c.args.i c.part-to.result.at c.part-to.result.width c.self.inside.rows c.args.self.now
    = record { seen_as = c.self.view_is; below = c.requires.first; at = c.part-to.ensures.at; wide = c.part-to.ensures.width } in
    subst (HaveBits c.args.bits) (sym (part_is_row c.args.i c.part-to.result.at c.part-to.result.width c.cells_mut.result.now c.self.inside.rows c.args.self.now part c.cells_mut.ensures.cells)) c.requires.first_bits

pub combine_parts-requires-clause-second_bits : goal.combine_parts-requires-clause-second_bits
combine_parts-requires-clause-second_bits g c =
    let part : IsRowPart c.args.j c.part-from.result.at c.part-to.result.width c.self.inside.rows c.args.self.now
    = record { seen_as = c.self.view_is; below = c.requires.second; at = c.part-from.ensures.at; wide = c.part-to.ensures.width } in
    subst (HaveBits c.args.bits) (sym (part_is_row c.args.j c.part-from.result.at c.part-to.result.width c.cells_mut.result.now c.self.inside.rows c.args.self.now part c.cells_mut.ensures.cells)) c.requires.second_bits

pub returns-clause-bits : goal.returns-clause-bits
returns-clause-bits g c =
    let part : IsRowPart c.args.i c.part-to.result.at c.part-to.result.width c.self.inside.rows c.args.self.now
    = record { seen_as = c.self.view_is; below = c.requires.first; at = c.part-to.ensures.at; wide = c.part-to.ensures.width } in
    IfOk-weaker c.combine_parts.result _ _
    (λ bits all. All-row (IsWithin (2 ^ bits)) c.args.i c.part-to.result.at c.part-to.result.width c.cells_mut.result.now c.combine_parts.new.cells c.self.inside.rows c.args.self.now part c.cells_mut.ensures.cells c.combine_parts.auto.cells all) c.combine_parts.ensures.bits
