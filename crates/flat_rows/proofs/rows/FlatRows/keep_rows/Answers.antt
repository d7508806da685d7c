use Rattle.std.proofs.Common.{◌≡◌, ◌+◌, ◌∙◌, length, take, drop, set, ap, arith}
use Rattle.std.proofs.lemmas.List.{length-set}
use Rattle.flat_rows.specs.Flat.{Flat, entries_at}
use Rattle.flat_rows.proofs.Flat.{keep_step, keep_rest, skip_step, skip_rest}
use Rattle.flat_rows.proofs.rows.FlatRows.keep_rows.Goals as goal
use Rattle.flat_rows.proofs.rows.FlatRows.keep_rows.Goals.{then-keep-row, else-keep-row}

pub loop-row-preserved : goal.loop-row-preserved
loop-row-preserved g c =
    let inv = c.loop-row.invariant in
    let row = c.loop-row.row in
    let kept = c.loop-row.kept in
    let rows = c.loop-row.self.rows in
    let old = c.args.self.now.rows in
    elim c.if-keep-row.branch [
      | then-keep-row w ↦
          let new : c.if-keep-row.self ≡ record c.loop-row.self { rows = set rows kept (entries_at rows row) } = w.self-is ∙ w.copy_row.ensures in
          record {
            width = ap (λ (t : Flat g.row.T.Denot). t.width) new ∙ inv.width;
            spare = ap (λ (t : Flat g.row.T.Denot). t.spare) new ∙ inv.spare;
            length = ap (λ (t : Flat g.row.T.Denot). length t.rows) new ∙ length-set rows kept (entries_at rows row) ∙ inv.length;
            within = omega (arith, inv.within);
            kept = ap (λ k. take k c.if-keep-row.self.rows) w.kept-is ∙ ap (λ (t : Flat g.row.T.Denot). take (kept + 1) t.rows) new ∙ keep_step row kept c.args.keep.now old rows c.loop-row-test.true (omega arith) inv.length inv.within inv.kept inv.rest w.if-keep-row.true;
            rest = ap (λ (t : Flat g.row.T.Denot). drop (row + 1) t.rows) new ∙ keep_rest row kept old rows (entries_at rows row) (omega arith) inv.length inv.within inv.rest;
          }
      | else-keep-row w ↦ record {
        width = ap (λ (t : Flat g.row.T.Denot). t.width) w.self-is ∙ inv.width;
        spare = ap (λ (t : Flat g.row.T.Denot). t.spare) w.self-is ∙ inv.spare;
        length = ap (λ (t : Flat g.row.T.Denot). length t.rows) w.self-is ∙ inv.length;
        within = omega (arith, inv.within);
        kept = ap (λ k. take k c.if-keep-row.self.rows) w.kept-is ∙ ap (λ (t : Flat g.row.T.Denot). take kept t.rows) w.self-is ∙ skip_step row kept c.args.keep.now old rows c.loop-row-test.true (omega arith) inv.kept w.if-keep-row.false;
        rest = ap (λ (t : Flat g.row.T.Denot). drop (row + 1) t.rows) w.self-is ∙ skip_rest row old rows inv.rest;
      }
    ]
