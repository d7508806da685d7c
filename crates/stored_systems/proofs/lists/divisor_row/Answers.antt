use Rattle.std.proofs.Common.{rules, ◌≡◌, ◌+◌, replicate, pos, sym, subst}
use Rattle.row_core.specs.Range.{AllInRange}
use Rattle.stored_systems.proofs.RowLemmas.{row_divisor, divisor_in_range}
use Rattle.stored_systems.proofs.lists.divisor_row.Goals as goal

pub returns-clause-row : goal.returns-clause-row
returns-clause-row c =
    let z : c.in_ok-row.row.items ≡ replicate (c.args.dim + 1) (pos 0) = search rules in
    row_divisor c.args.dim c.in_ok-row.row.items z

pub returns-clause-in_range : goal.returns-clause-in_range
returns-clause-in_range c =
    let z : c.in_ok-row.row.items ≡ replicate (c.args.dim + 1) (pos 0) = search rules in
    subst AllInRange (sym (row_divisor c.args.dim c.in_ok-row.row.items z)) (divisor_in_range c.args.dim)
