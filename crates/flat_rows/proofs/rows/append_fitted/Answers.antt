use Rattle.std.proofs.Common.{◌++◌, List, arith, ap, sym, ◌∙◌}
use Rattle.flat_rows.proofs.Flat.{fitted_more, fitted_whole}
use Rattle.flat_rows.proofs.rows.append_fitted.Goals as goal

pub loop-place-preserved : goal.loop-place-preserved
loop-place-preserved g c = record {
  items = c.push_reserved.ensures.items ∙ fitted_more c.loop-place.place c.args.rest c.args.cells.now.items c.loop-place.cells.items c.args.row.now c.entry_or.result c.loop-place.invariant.items c.entry_or.ensures;
  len = omega (arith, c.push_reserved.ensures.len, c.loop-place.invariant.len);
  capacity = omega (arith, c.push_reserved.ensures.capacity, c.loop-place.invariant.capacity);
}

pub returns-then-row-width-clause-items : goal.returns-then-row-width-clause-items
returns-then-row-width-clause-items g c =
    let same = fitted_whole c.args.width c.args.rest c.args.row.now (omega arith) in
    c.append_row.ensures.items ∙ ap (λ (row : List g.row.T.Denot). c.args.cells.now.items ++ row) (sym same)
