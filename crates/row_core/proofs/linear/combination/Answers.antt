use Rattle.std.specs.Int.{w128}
use Rattle.std.proofs.Common.{sym, subst}
use Rattle.std.proofs.lemmas.Int.{to_z-of_z, fits_signed_from_abs}
use mir.Val.{SFits}
use Rattle.row_core.specs.Range.{InRange}
use Rattle.row_core.proofs.ColumnLemmas.{column_stays}
use Rattle.row_core.proofs.linear.combination.Goals as goal

pub returns : goal.returns
returns c =
    let s_fits : SFits w128 c.args.s = c.ranges.s in
    let x_fits : SFits w128 c.args.x = c.ranges.x in
    let t_fits : SFits w128 c.args.t = c.ranges.t in
    let y_fits : SFits w128 c.args.y = c.ranges.y in
    let left = simp to_z-of_z at c.in_ok-left.ensures in
    let right = simp to_z-of_z at c.in_ok-right.ensures in
    let left_in_range : InRange c.in_ok-left.left = subst InRange (sym left.1) left.0 in
    let right_in_range : InRange c.in_ok-right.right = subst InRange (sym right.1) right.0 in
    let left_fits : SFits w128 c.in_ok-left.left =
    fits_signed_from_abs w128 c.in_ok-left.left left_in_range.size in
    let right_fits : SFits w128 c.in_ok-right.right =
    fits_signed_from_abs w128 c.in_ok-right.right right_in_range.size in
    let given = simp to_z-of_z at c.sum.ensures in
    column_stays c.sum.result c.args.s c.args.x c.args.t c.args.y c.in_ok-left.left
    c.in_ok-right.right left.0 right.0 left.1 right.1 given

pub returns-in_err-left : goal.returns-in_err-left
returns-in_err-left c =
    let leaves = rw (to_z-of_z w128 c.args.s c.ranges.s, to_z-of_z w128 c.args.x c.ranges.x) at
    c.in_err-left.ensures in
    rw c.from_residual.ensures (λ stays. leaves stays.left)

pub returns-in_err-right : goal.returns-in_err-right
returns-in_err-right c =
    let leaves = rw (to_z-of_z w128 c.args.t c.ranges.t, to_z-of_z w128 c.args.y c.ranges.y) at
    c.in_err-right.ensures in
    rw c.from_residual-in_err-right.ensures (λ stays. leaves stays.right)
