use Rattle.std.proofs.Common.{sym, subst, ap}
use Rattle.std.specs.Prelude.{All, ℤ}
use Rattle.std.proofs.lemmas.List.Elements.{All-take}
use Rattle.flat_rows.specs.Flat.{Flat}
use Rattle.row_store.proofs.ChangedRows.{kept_among}
use Rattle.row_store.proofs.store.RowStore.truncate.Goals as goal

pub invariant_of-self : goal.invariant_of-self
invariant_of-self c =
    let t = c.self.inside.rows in
    kept_among t c.truncate.new.self (ap (λ (u : Flat ℤ). u.width) c.truncate.ensures)
    (λ P all. subst (All P) (sym (ap (λ (u : Flat ℤ). u.rows) c.truncate.ensures)) (All-take P c.args.count t.rows all)) c.self.invariant
