use Rattle.std.specs.Prelude.{◌≡◌, ◌<◌, ℕ, List, Bool, length, map, All}
use Rattle.std.proofs.Common.{sym, ap, subst, ◌∙◌}
use Rattle.std.proofs.lemmas.List.{length-map}
use Rattle.std.proofs.lemmas.Result.{IfOk-weaker}
use Rattle.sat_matrix.specs.Tables.{Table, bits_of, transposed}
use Rattle.chernikova.proofs.Reordered.{transposed_length, turned_back}
use Rattle.chernikova.proofs.better_order.in_list_order.Goals as goal

pub table_rows_at-requires : goal.table_rows_at-requires
table_rows_at-requires c =
    let P : ℕ → Type 0 = λ n. All (λ i. i < n) c.args.places.now in
    subst P (sym (ap (λ (t : Table). length t.rows) c.in_ok-turned.ensures ∙ transposed_length c.args.sat.now.columns c.args.sat.now.rows)) c.requires

pub returns-clause-columns : goal.returns-clause-columns
returns-clause-columns c =
    IfOk-weaker c.transpose-2.result _ _ (λ new e. ap (λ (t : Table). t.columns) e ∙ ap length c.in_ok-placed.ensures.rows ∙ length-map c.args.places.now (bits_of c.in_ok-turned.turned.rows)) c.transpose-2.ensures

pub returns-clause-rows : goal.returns-clause-rows
returns-clause-rows c =
    let columns : c.in_ok-placed.placed.columns ≡ length c.args.sat.now.rows = c.in_ok-placed.ensures.columns ∙ ap (λ (t : Table). t.columns) c.in_ok-turned.ensures in
    let rows : c.in_ok-placed.placed.rows ≡ map (bits_of (transposed c.args.sat.now.columns c.args.sat.now.rows)) c.args.places.now =
    c.in_ok-placed.ensures.rows ∙ ap (λ (bs : List (List Bool)). map (bits_of bs) c.args.places.now) (ap (λ (t : Table). t.rows) c.in_ok-turned.ensures) in
    IfOk-weaker c.transpose-2.result _ _ (λ new e.
    ap (λ (t : Table). t.rows) e ∙ ap (λ n. transposed n c.in_ok-placed.placed.rows) columns ∙ ap (λ bs. transposed (length c.args.sat.now.rows) bs) rows ∙ turned_back c.args.sat.now.columns c.args.sat.now.rows c.args.places.now c.requires) c.transpose-2.ensures
