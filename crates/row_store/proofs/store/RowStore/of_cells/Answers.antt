use Rattle.std.specs.Prelude.{◌≡◌, All, length}
use Rattle.std.proofs.Common.{sym, subst, ap, ◌∙◌, refl, arith}
use Rattle.row_core.specs.Range.{InRange, AllInRange}
use Rattle.flat_rows.specs.Flat.{IsLaidOut}
use Rattle.flat_rows.proofs.Flat.{All-rows_of, length-rows_of, seen_flat, cells_seen}
use Rattle.row_store.proofs.store.RowStore.of_cells.Goals as goal

pub invariant_of-result : goal.invariant_of-result
invariant_of-result c = record {
  narrow = omega (arith, c.of_cells-rows.ensures.width, c.requires.narrow);
  in_range = subst (All AllInRange) (sym c.of_cells-rows.ensures.rows) (All-rows_of InRange c.args.width c.args.count c.args.cells.items c.requires.in_range);
}

pub returns-clause-as_many : goal.returns-clause-as_many
returns-clause-as_many c = ap length c.of_cells-rows.ensures.rows ∙ length-rows_of c.args.width c.args.count c.args.cells.items

pub returns-clause-cells : goal.returns-clause-cells
returns-clause-cells c =
    let cells = c.args.cells.items in
    let laid : IsLaidOut c.args.width c.args.count 0 (length c.args.cells.items) (length c.args.cells.items) = record {
      taken = c.requires.taken;
      room = omega (arith, c.requires.taken);
      counted = omega (arith, c.ranges.count.fits);
    } in
    let width = sym c.of_cells-rows.ensures.width in
    let rows = sym c.of_cells-rows.ensures.rows in
    let spare = sym c.of_cells-rows.ensures.spare in
    let seen : seen_flat c.args.width c.args.count 0 c.args.cells.items ≡ c.of_cells-rows.result = λ i. record { width = width i; rows = rows i; spare = spare i } in
    cells_seen c.args.width c.args.count 0 (length cells) (length cells) cells c.of_cells-rows.result laid refl seen
