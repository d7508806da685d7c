use Rattle.std.proofs.Common.{◌<◌, [], length, sym, subst, ap, arith}
use Rattle.std.specs.Prelude.{All, ℤ}
use Rattle.std.proofs.lemmas.List.Elements.{All-push}
use Rattle.flat_rows.specs.Flat.{Flat, entries_at}
use Rattle.row_store.proofs.ChangedRows.{kept_among}
use Rattle.row_store.proofs.store.RowStore.push_copy.Goals as goal

pub invariant_of-self : goal.invariant_of-self
invariant_of-self c =
    let t = c.self.inside.rows in
    let below : c.args.i < length t.rows = omega (arith, c.requires.row, ap (λ (u : Flat ℤ). length u.rows) c.self.view_is) in
    kept_among t c.push_copy.new.self c.push_copy.ensures.width
    (λ P all. subst (All P) (sym c.push_copy.ensures.rows) (All-push P t.rows (entries_at t.rows c.args.i) all (all c.args.i [] below))) c.self.invariant
