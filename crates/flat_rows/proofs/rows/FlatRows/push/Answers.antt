use Rattle.std.proofs.Common.{sym, ◌∙◌}
use Rattle.flat_rows.proofs.Flat.{seen, push_seen}
use Rattle.flat_rows.proofs.rows.FlatRows.push.Goals as goal

pub returns-clause-rows : goal.returns-clause-rows
returns-clause-rows g c =
    let width = (seen _ _ _ _ _ c.self.view_is).width in
    rw c.append_row.ensures.items
    (push_seen _ _ _ _ _ _ _ (λ _. c.args.row.now) c.self.invariant (sym c.self.inside.cells.ok.0) c.self.view_is (c.requires.wide ∙ width))
