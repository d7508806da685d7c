use Rattle.row_store.proofs.ChangedRows.{kept_reserved}
use Rattle.row_store.proofs.store.RowStore.reserve.Goals as goal

pub invariant_of-self : goal.invariant_of-self
invariant_of-self c = kept_reserved c.args.n c.self.inside.rows c.reserve.new.self c.reserve.result c.reserve.ensures.ok c.reserve.ensures.err c.self.invariant
