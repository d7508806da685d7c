use Rattle.std.proofs.Common.{◌+◌, ◌-◌, ◌*◌, List, take, drop, ap, ◌∙◌, arith}
use Rattle.flat_rows.proofs.Flat.{wide_within, wide_row}
use Rattle.flat_rows.proofs.rows.FlatRows.row_as_wide.Goals as goal

pub overflow_mul-start : goal.overflow_mul-start
overflow_mul-start g c = omega (arith, wide_within _ _ _ _ _ _ c.args.i _ _ c.requires.width c.self.invariant c.self.view_is c.requires.row)

pub overflow_add-result : goal.overflow_add-result
overflow_add-result g c = omega (arith, wide_within _ _ _ _ _ _ c.args.i _ _ c.requires.width c.self.invariant c.self.view_is c.requires.row)

pub slice_bounds-result-end : goal.slice_bounds-result-end
slice_bounds-result-end g c = omega (arith, wide_within _ _ _ _ _ _ c.args.i _ _ c.requires.width c.self.invariant c.self.view_is c.requires.row)

pub returns-clause-value : goal.returns-clause-value
returns-clause-value g c =
    ap (λ (cells : List g.row.T.Denot). take (c.args.i * c.args.width + c.args.width - c.args.i * c.args.width) (drop (c.args.i * c.args.width) cells)) c.deref.ensures.value
    ∙ wide_row c.args.width _ _ _ c.args.i _ _ c.requires.width c.self.view_is c.requires.row

pub offset_bounds-deref-start : goal.offset_bounds-deref-start
offset_bounds-deref-start g c = omega (arith, wide_within _ _ _ _ _ _ c.args.i _ _ c.requires.width c.self.invariant c.self.view_is c.requires.row, c.deref.ensures.len, c.deref.type_inv)
