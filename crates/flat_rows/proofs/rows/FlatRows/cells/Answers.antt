use Rattle.std.proofs.Common.{◌≡◌, rules, sym, subst}
use Rattle.flat_rows.specs.Flat.{AreCells}
use Rattle.flat_rows.proofs.Flat.{cells_seen}
use Rattle.flat_rows.proofs.rows.FlatRows.cells.Goals as goal

pub returns : goal.returns
returns g c =
    let lent : c.as_slice.result.now ≡ c.self.inside.cells.items = search rules in
    subst (AreCells c.args.self.now) (sym lent) (cells_seen _ _ _ _ _ _ _ c.self.invariant (sym c.self.inside.cells.ok.0) c.self.view_is)
