use Rattle.std.specs.Prelude.{◌≡◌, ℕ, ◌+◌, ◌-◌, length, drop}
use Rattle.std.proofs.Common.{arith, refl, ap, ◌∙◌}
use Rattle.std.proofs.lemmas.List.Elements.{All-take, All-drop}
use Rattle.row_store.specs.Stores.{IsNegated}
use Rattle.row_core.specs.Range.{InRange}
use Rattle.flat_rows.specs.Flat.{window}
use Rattle.flat_rows.proofs.Flat.{length-window}
use Rattle.row_store.proofs.ChangedRows.{part_changed, part_in_range}
use Rattle.row_store.proofs.windows.negate_part.Goals as goal

pub negate-requires : goal.negate-requires
negate-requires c = All-take InRange (c.args.part.at + c.args.part.width - c.args.part.at) (drop c.args.part.at c.args.cells.now) (All-drop InRange c.args.part.at c.args.cells.now c.requires.in_range)

wide : (c : goal.After-cells-1) → length c.negate.new.row ≡ c.args.part.width
wide c =
    let e : c.args.part.at + c.args.part.width - c.args.part.at ≡ c.args.part.width = omega arith in
    c.negate.ensures.width ∙ ap (λ (n : ℕ). length (window c.args.part.at n c.args.cells.now)) e ∙ length-window c.args.part.at c.args.part.width c.args.cells.now c.requires.within

pub returns-clause-part : goal.returns-clause-part
returns-clause-part c = part_changed IsNegated c.args.part.at c.args.part.width _ c.args.cells.now _ c.negate.new.row (omega arith) refl (wide c) c.negate.ensures.value

pub returns-clause-in_range : goal.returns-clause-in_range
returns-clause-in_range c = part_in_range c.args.part.at c.args.part.width _ c.args.cells.now c.negate.new.row (omega arith) (wide c) c.requires.in_range c.negate.ensures.in_range
