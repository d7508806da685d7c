use Rattle.std.proofs.Common.{sym, subst}
use Rattle.std.specs.Prelude.{All}
use Rattle.flat_rows.proofs.Marked.{all_marked}
use Rattle.row_store.proofs.ChangedRows.{kept_among}
use Rattle.row_store.proofs.store.RowStore.keep_rows.Goals as goal

pub invariant_of-self : goal.invariant_of-self
invariant_of-self c =
    let t = c.self.inside.rows in
    kept_among t c.keep_rows.new.self c.keep_rows.ensures.width
    (λ P all. subst (All P) (sym c.keep_rows.ensures.rows) (all_marked P c.args.keep.now t.rows all)) c.self.invariant
