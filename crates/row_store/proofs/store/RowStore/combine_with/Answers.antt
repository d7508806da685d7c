use Rattle.std.specs.Prelude.{ℤ, List, ◌^◌}
use Rattle.std.proofs.Common.{sym, subst}
use Rattle.std.proofs.lemmas.Result.{IfOk-weaker}
use Rattle.row_core.specs.Range.{InRange}
use Rattle.row_core.specs.Sizes.{IsWithin, HaveBits}
use Rattle.flat_rows.specs.Flat.{Flat}
use Rattle.flat_rows.proofs.Flat.{All-cells}
use Rattle.row_store.proofs.Parts.{IsRowPart, row_outcome, part_is_row}
use Rattle.row_store.proofs.ChangedRows.{kept_cells, part_within, All-row}
use Rattle.row_store.proofs.store.RowStore.combine_with.Goals as goal

pub combine_part-requires-clause-within : goal.combine_part-requires-clause-within
combine_part-requires-clause-within g c = part_within c.cells_mut.result.now _ _ _ c.self.view_is c.cells_mut.ensures.cells c.part-part.ensures.within

pub invariant_of-self : goal.invariant_of-self
invariant_of-self g c =
    let t = c.self.inside.rows in
    kept_cells c.cells_mut.result.now c.combine_part.new.cells t c.cells_mut.ensures.cells c.combine_part.auto.cells
    (c.combine_part.ensures.in_range (All-cells InRange t c.cells_mut.result.now c.cells_mut.ensures.cells c.self.invariant.in_range)) c.self.invariant

pub returns-clause-combined : goal.returns-clause-combined
returns-clause-combined g c =
    let old : Flat ℤ = c.self.inside.rows in
    let cells : List ℤ = c.cells_mut.result.now in
    let new : List ℤ = c.combine_part.new.cells in
    let are = c.cells_mut.ensures.cells in
    let part : IsRowPart c.args.i c.part-part.result.at c.part-part.result.width old c.args.self.now
    = record { seen_as = c.self.view_is; below = c.requires.row; at = c.part-part.ensures.at; wide = c.part-part.ensures.width } in
    row_outcome c.args.i _ _ c.args.v.now c.args.factors.0 c.args.factors.1 cells new old c.args.self.now c.combine_part.result part are c.requires.wide c.combine_part.auto.cells c.combine_part.ensures.combined

pub combine_part-requires-clause-bits : goal.combine_part-requires-clause-bits
combine_part-requires-clause-bits g c =
    let part : IsRowPart c.args.i c.part-part.result.at c.part-part.result.width c.self.inside.rows c.args.self.now
    = record { seen_as = c.self.view_is; below = c.requires.row; at = c.part-part.ensures.at; wide = c.part-part.ensures.width } in (
      subst (HaveBits c.args.bits) (sym (part_is_row c.args.i c.part-part.result.at c.part-part.result.width c.cells_mut.result.now c.self.inside.rows c.args.self.now part c.cells_mut.ensures.cells)) c.requires.bits.0,
      c.requires.bits.1,
    )

pub returns-clause-bits : goal.returns-clause-bits
returns-clause-bits g c =
    let part : IsRowPart c.args.i c.part-part.result.at c.part-part.result.width c.self.inside.rows c.args.self.now
    = record { seen_as = c.self.view_is; below = c.requires.row; at = c.part-part.ensures.at; wide = c.part-part.ensures.width } in
    IfOk-weaker c.combine_part.result _ _
    (λ bits all. All-row (IsWithin (2 ^ bits)) c.args.i c.part-part.result.at c.part-part.result.width c.cells_mut.result.now c.combine_part.new.cells c.self.inside.rows c.args.self.now part c.cells_mut.ensures.cells c.combine_part.auto.cells all) c.combine_part.ensures.bits
