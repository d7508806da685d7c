use Rattle.std.proofs.Common.{arith}
use Rattle.flat_rows.proofs.Flat.{seen, row_within, set_seen}
use Rattle.flat_rows.proofs.rows.FlatRows.put.Goals as goal

pub overflow_mul-start : goal.overflow_mul-start
overflow_mul-start g c = omega (arith, row_within _ _ _ _ _ c.args.row _ _ c.self.invariant c.self.view_is c.requires.row)

pub overflow_add-start : goal.overflow_add-start
overflow_add-start g c =
    let k = seen _ _ _ _ _ c.self.view_is in
    omega (arith, k.width, row_within _ _ _ _ _ c.args.row _ _ c.self.invariant c.self.view_is c.requires.row)

pub index_mut-requires : goal.index_mut-requires
index_mut-requires g c =
    let k = seen _ _ _ _ _ c.self.view_is in
    omega (arith, k.width, row_within _ _ _ _ _ c.args.row _ _ c.self.invariant c.self.view_is c.requires.row)

pub returns : goal.returns
returns g c = set_seen _ _ _ _ _ _ _ c.args.row c.args.column c.args.entry c.self.invariant c.self.view_is c.requires.row c.requires.column
