use Rattle.std.proofs.Common.{ℕ}
use borrow.Author.Count.{below_more}
use Rattle.difference_bounds.specs.Laws.{IsCovered}
use Rattle.difference_bounds.specs.Tables.{bounds_of}
use Rattle.difference_bounds.proofs.table.BoundTable.covers_row.Goals as goal

pub loop-j-preserved : goal.loop-j-preserved
loop-j-preserved c =
    below_more (λ (q : ℕ). IsCovered (bounds_of c.args.self.now c.args.i q) (bounds_of c.args.other.now c.args.i q)) c.loop-j.j c.loop-j.invariant
    (c.in_ok-covers_at.ensures.covers.0 c.if-not-branch.false)
