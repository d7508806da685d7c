use Rattle.std.proofs.Common.{arith, sym}
use Rattle.flat_rows.proofs.Flat.{row_within, push_copy_seen}
use Rattle.flat_rows.proofs.rows.FlatRows.push_copy.Goals as goal

pub overflow_mul-i : goal.overflow_mul-i
overflow_mul-i g c = omega (arith, row_within _ _ _ _ _ c.args.i _ _ c.self.invariant c.self.view_is c.requires.row)

pub append_part-requires-clause-within : goal.append_part-requires-clause-within
append_part-requires-clause-within g c = omega (arith, row_within _ _ _ _ _ c.args.i _ _ c.self.invariant c.self.view_is c.requires.row)

pub returns-clause-rows : goal.returns-clause-rows
returns-clause-rows g c =
    rw c.append_part.ensures.items
    (push_copy_seen _ _ _ _ _ c.args.i _ _ c.self.invariant (sym c.self.inside.cells.ok.0) c.self.view_is c.requires.row)
