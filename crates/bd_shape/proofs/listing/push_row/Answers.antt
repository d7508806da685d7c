use Rattle.std.specs.Prelude.{ℕ, ◌++◌, List}
use Rattle.std.proofs.Common.{ap, sym, ◌∙◌, append_assoc}
use Rattle.cons_sys.specs.Constraints.{Constraint}
use Rattle.difference_bounds.specs.Tables.{bounds_of}
use Rattle.bd_shape.specs.Rows.{rows_at, rows_to}
use Rattle.bd_shape.proofs.RowLists.{rows_more}
use Rattle.bd_shape.proofs.listing.push_row.Goals as goal

pub loop-j-preserved : goal.loop-j-preserved
loop-j-preserved c =
    let dim = c.args.system.now.dim in
    let bounds = bounds_of c.args.bounds.now in
    let old = c.args.system.now.list in
    record {
      dim = c.in_ok-push_at.ensures.dim ∙ c.loop-j.invariant.dim;
      list = c.in_ok-push_at.ensures.list ∙ ap (λ (n : ℕ). c.loop-j.system.list ++ rows_at n (bounds_of c.args.bounds.now) c.args.i c.loop-j.j) c.loop-j.invariant.dim
          ∙ ap (λ (xs : List Constraint). xs ++ rows_at c.args.system.now.dim (bounds_of c.args.bounds.now) c.args.i c.loop-j.j) c.loop-j.invariant.list
          ∙ append_assoc old (rows_to dim bounds c.args.i c.loop-j.j) (rows_at dim bounds c.args.i c.loop-j.j) ∙ ap (λ (xs : List Constraint). c.args.system.now.list ++ xs) (sym (rows_more dim bounds c.args.i c.loop-j.j));
    }
