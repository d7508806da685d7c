use Rattle.std.proofs.Common.{arith, sym}
use Rattle.flat_rows.proofs.Flat.{row_within, copy_seen}
use Rattle.flat_rows.proofs.rows.FlatRows.copy_row.Goals as goal

pub overflow_mul-start : goal.overflow_mul-start
overflow_mul-start g c = omega (arith, row_within _ _ _ _ _ c.args.from _ _ c.self.invariant c.self.view_is c.requires.from)

pub overflow_add-start : goal.overflow_add-start
overflow_add-start g c = omega (arith, row_within _ _ _ _ _ c.args.from _ _ c.self.invariant c.self.view_is c.requires.from)

pub overflow_mul-to : goal.overflow_mul-to
overflow_mul-to g c = omega (arith, row_within _ _ _ _ _ c.args.to _ _ c.self.invariant c.self.view_is c.requires.to)

pub copy_within-requires-clause-in_bounds : goal.copy_within-requires-clause-in_bounds
copy_within-requires-clause-in_bounds g c = omega (arith, row_within _ _ _ _ _ c.args.from _ _ c.self.invariant c.self.view_is c.requires.from)

pub copy_within-requires-clause-dest_in_bounds : goal.copy_within-requires-clause-dest_in_bounds
copy_within-requires-clause-dest_in_bounds g c = omega (arith, row_within _ _ _ _ _ c.args.to _ _ c.self.invariant c.self.view_is c.requires.to)

pub returns : goal.returns
returns g c =
    rw c.copy_within.ensures.items
    (copy_seen _ _ _ _ _ c.args.from c.args.to _ _ c.self.invariant (sym c.self.inside.cells.ok.0) c.self.view_is c.requires.from c.requires.to)
