use Rattle.std.proofs.Common.{ℕ, List, ℤ, pos, ◌<ℤ◌, subst, arith}
use Rattle.std.proofs.lemmas.Int.{ints}
use borrow.Author.Count.{below_more}
use Rattle.row_core.specs.Vectors.{cell}
use Rattle.row_core.specs.Lists.{row_at}
use Rattle.stored_systems.proofs.RowLemmas.{all_level}
use Rattle.stored_systems.proofs.lists.has_point.Goals as goal

pub loop-index-preserved : goal.loop-index-preserved
loop-index-preserved c =
    let rows = c.args.rays.now.rows in
    below_more (λ (i : ℕ). ¬ (pos 0 <ℤ cell (row_at rows i) c.args.column)) c.loop-index.index c.loop-index.invariant (subst (λ (v : List ℤ). ¬ (pos 0 <ℤ cell v c.args.column)) c.row.ensures.value (λ h. omega (arith, ints, h, c.if-row-column-gt0.false)))

pub returns : goal.returns
returns c = all_level c.args.column c.args.rays.now.rows (λ i h. c.loop-index.invariant i (omega (arith, h, c.len-index-end.ensures)))
