use Rattle.std.proofs.Common.{sym}
use Rattle.flat_rows.proofs.Flat.{cells_seen}
use Rattle.flat_rows.proofs.rows.FlatRows.into_cells.Goals as goal

pub returns : goal.returns
returns g c = cells_seen _ _ _ _ _ _ _ c.self.invariant (sym c.self.inside.cells.ok.0) c.self.view_is
