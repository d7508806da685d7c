use Rattle.std.proofs.Common.{◌≡◌, ◌+◌, ◌*◌, ◌-◌, ℕ, List, ◌++◌, take, replicate, vec_len, rules, ap, sym, ◌∙◌}
use Rattle.flat_rows.specs.Flat.{rows_of}
use Rattle.flat_rows.proofs.Flat.{fill_seen}
use Rattle.flat_rows.proofs.rows.FlatRows.fill.Goals as goal

pub returns-clause-rows : goal.returns-clause-rows
returns-clause-rows g c =
    let w : ℕ = c.self.inside.width in
    let n : ℕ = c.self.inside.count in
    let k : ℕ = c.args.rows in
    let cells : List g.row.T.Denot = c.self.inside.cells.items in
    let total : c.in_ok-total.total ≡ n + k = search rules in
    let places : c.in_ok-places.places ≡ c.in_ok-total.total * w = search rules in
    let at : c.in_ok-places.places ≡ (n + k) * w = places ∙ ap (λ (m : ℕ). m * w) total in
    ap (λ (ys : List g.row.T.Denot). rows_of w c.in_ok-total.total ys) c.in_ok-resize.ensures.items
    ∙ ap (λ (m : ℕ). rows_of w m (take c.in_ok-places.places cells ++ replicate (c.in_ok-places.places - vec_len c.self.inside.cells) c.args.entry)) total
    ∙ ap (λ (m : ℕ). rows_of w (n + k) (take m cells ++ replicate (m - vec_len c.self.inside.cells) c.args.entry)) at
    ∙ fill_seen w n c.self.inside.spare (vec_len c.self.inside.cells) _ k cells c.args.self.now c.args.entry c.self.invariant (sym c.self.inside.cells.ok.0) c.self.view_is
