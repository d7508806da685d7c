use Rattle.std.specs.Prelude.{◌≡◌, ℕ, ◌+◌, ◌-◌, ◌^◌, length, drop}
use Rattle.std.proofs.Common.{arith, refl, ap, ◌∙◌}
use Rattle.std.proofs.lemmas.List.Elements.{All-take, All-drop}
use Rattle.row_core.specs.Content.{IsPrimitiveOf}
use Rattle.row_core.specs.Range.{InRange}
use Rattle.row_core.specs.Sizes.{IsWithin}
use Rattle.flat_rows.specs.Flat.{window}
use Rattle.flat_rows.proofs.Flat.{length-window}
use Rattle.row_store.proofs.ChangedRows.{part_changed, part_in_range, All-lent, All-written}
use Rattle.row_store.proofs.windows.make_part_primitive.Goals as goal

pub make_primitive_within-requires-clause-in_range : goal.make_primitive_within-requires-clause-in_range
make_primitive_within-requires-clause-in_range c = All-take InRange (c.args.part.at + c.args.part.width - c.args.part.at) (drop c.args.part.at c.args.cells.now) (All-drop InRange c.args.part.at c.args.cells.now c.requires.in_range)

wide : (c : goal.After-cells-1) → length c.make_primitive_within.new.row ≡ c.args.part.width
wide c =
    let e : c.args.part.at + c.args.part.width - c.args.part.at ≡ c.args.part.width = omega arith in
    c.make_primitive_within.ensures.width ∙ ap (λ (n : ℕ). length (window c.args.part.at n c.args.cells.now)) e ∙ length-window c.args.part.at c.args.part.width c.args.cells.now c.requires.within

pub returns-clause-part : goal.returns-clause-part
returns-clause-part c = part_changed IsPrimitiveOf c.args.part.at c.args.part.width _ c.args.cells.now _ c.make_primitive_within.new.row (omega arith) refl (wide c) (record { multiple = c.make_primitive_within.ensures.multiple; primitive = c.make_primitive_within.ensures.primitive })

pub returns-clause-in_range : goal.returns-clause-in_range
returns-clause-in_range c = part_in_range c.args.part.at c.args.part.width _ c.args.cells.now c.make_primitive_within.new.row (omega arith) (wide c) c.requires.in_range c.make_primitive_within.ensures.in_range

pub make_primitive_within-requires-clause-within : goal.make_primitive_within-requires-clause-within
make_primitive_within-requires-clause-within c = All-lent (IsWithin (2 ^ c.args.bits)) c.args.part.at c.args.part.width _ c.args.cells.now (omega arith) c.requires.bits

pub returns-clause-bits : goal.returns-clause-bits
returns-clause-bits c = All-written (IsWithin (2 ^ c.make_primitive_within.result)) c.args.part.at c.args.part.width _ c.args.cells.now c.make_primitive_within.new.row (omega arith) c.requires.within (wide c) c.make_primitive_within.ensures.bits
