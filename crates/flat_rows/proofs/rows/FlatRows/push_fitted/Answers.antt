use Rattle.std.proofs.Common.{ℕ, sym}
use Rattle.flat_rows.specs.Flat.{fitted}
use Rattle.flat_rows.proofs.Flat.{push_seen, length-fitted}
use Rattle.flat_rows.proofs.rows.FlatRows.push_fitted.Goals as goal

pub returns-clause-rows : goal.returns-clause-rows
returns-clause-rows g c =
    rw c.append_fitted.ensures.items
    (push_seen _ _ _ _ _ _ _ (λ (w : ℕ). fitted w c.args.rest c.args.row.now) c.self.invariant (sym c.self.inside.cells.ok.0) c.self.view_is (length-fitted _ c.args.rest c.args.row.now))
