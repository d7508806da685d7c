use Rattle.std.proofs.Common.{sym}
use Rattle.flat_rows.proofs.Flat.{seen}
use Rattle.flat_rows.proofs.rows.FlatRows.len.Goals as goal

pub returns : goal.returns
returns g c = sym (seen _ _ _ _ _ c.self.view_is).count
