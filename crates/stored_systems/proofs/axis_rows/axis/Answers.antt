use Rattle.std.proofs.Common.{rules, ◌≡◌, ◌+◌, replicate, pos, sym, subst}
use Rattle.row_core.specs.Range.{AllInRange}
use Rattle.stored_systems.proofs.UniverseLemmas.{row_axis, axis_in_range}
use Rattle.stored_systems.proofs.axis_rows.axis.Goals as goal

pub returns-clause-row : goal.returns-clause-row
returns-clause-row c =
    let z : c.in_ok-row.row.items ≡ replicate (c.args.dim + 1) (pos 0) = search rules in
    row_axis c.args.dim c.args.index c.in_ok-row.row.items z c.requires.below

pub returns-clause-in_range : goal.returns-clause-in_range
returns-clause-in_range c =
    let z : c.in_ok-row.row.items ≡ replicate (c.args.dim + 1) (pos 0) = search rules in
    subst AllInRange (sym (row_axis c.args.dim c.args.index c.in_ok-row.row.items z c.requires.below)) (axis_in_range c.args.dim c.args.index)
