use Rattle.std.specs.Prelude.{◌^◌}
use Rattle.std.proofs.Common.{sym, subst}
use Rattle.row_core.specs.Sizes.{IsWithin, HaveBits}
use Rattle.row_core.specs.Range.{InRange}
use Rattle.row_core.specs.Content.{IsPrimitiveOf}
use Rattle.flat_rows.proofs.Flat.{All-cells}
use Rattle.row_store.proofs.Parts.{IsRowPart, part_is_row}
use Rattle.row_store.proofs.ChangedRows.{row_changed, kept_cells, part_within, All-row}
use Rattle.row_store.proofs.store.RowStore.make_row_primitive_within.Goals as goal

pub make_part_primitive-requires-clause-within : goal.make_part_primitive-requires-clause-within
make_part_primitive-requires-clause-within c = part_within c.cells_mut.result.now _ _ _ c.self.view_is c.cells_mut.ensures.cells c.part-part.ensures.within

pub make_part_primitive-requires-clause-in_range : goal.make_part_primitive-requires-clause-in_range
make_part_primitive-requires-clause-in_range c = All-cells InRange c.self.inside.rows c.cells_mut.result.now c.cells_mut.ensures.cells c.self.invariant.in_range

pub invariant_of-self : goal.invariant_of-self
invariant_of-self c = kept_cells c.cells_mut.result.now c.make_part_primitive.new.cells c.self.inside.rows c.cells_mut.ensures.cells c.make_part_primitive.auto.cells c.make_part_primitive.ensures.in_range c.self.invariant

pub returns-clause-primitive : goal.returns-clause-primitive
returns-clause-primitive c =
    row_changed IsPrimitiveOf c.args.i c.part-part.result.at c.part-part.result.width c.cells_mut.result.now c.make_part_primitive.new.cells c.self.inside.rows c.args.self.now
    (record { seen_as = c.self.view_is; below = c.requires.row; at = c.part-part.ensures.at; wide = c.part-part.ensures.width }) c.cells_mut.ensures.cells c.make_part_primitive.auto.cells c.make_part_primitive.ensures.part

pub make_part_primitive-requires-clause-bits : goal.make_part_primitive-requires-clause-bits
make_part_primitive-requires-clause-bits c =
    let part : IsRowPart c.args.i c.part-part.result.at c.part-part.result.width c.self.inside.rows c.args.self.now
    = record { seen_as = c.self.view_is; below = c.requires.row; at = c.part-part.ensures.at; wide = c.part-part.ensures.width } in
    subst (HaveBits c.args.bits) (sym (part_is_row c.args.i c.part-part.result.at c.part-part.result.width c.cells_mut.result.now c.self.inside.rows c.args.self.now part c.cells_mut.ensures.cells)) c.requires.bits

pub returns-clause-bits : goal.returns-clause-bits
returns-clause-bits c =
    let part : IsRowPart c.args.i c.part-part.result.at c.part-part.result.width c.self.inside.rows c.args.self.now
    = record { seen_as = c.self.view_is; below = c.requires.row; at = c.part-part.ensures.at; wide = c.part-part.ensures.width } in
    All-row (IsWithin (2 ^ c.make_part_primitive.result)) c.args.i c.part-part.result.at c.part-part.result.width c.cells_mut.result.now c.make_part_primitive.new.cells c.self.inside.rows c.args.self.now part c.cells_mut.ensures.cells c.make_part_primitive.auto.cells c.make_part_primitive.ensures.bits
