use Rattle.std.proofs.Common.{sym, ◌∙◌}
use Rattle.row_store.proofs.MarkedVectors.{seen_count}
use Rattle.row_store.proofs.vectors.VectorList.len.Goals as goal

pub returns : goal.returns
returns c = c.len.ensures ∙ sym (seen_count c.self.inside.eq c.self.inside.store c.args.self.now c.self.view_is)
