use Rattle.std.proofs.Common.{ℕ, List, Bool, true, ◌++◌, ◌∷◌, [], replicate, arith, ap, ◌∙◌, append_assoc}
use Rattle.std.proofs.lemmas.List.{replicate_more}
use Rattle.dimensions.proofs.added_variables.with_true_rows.Goals as goal

pub loop-row-preserved : goal.loop-row-preserved
loop-row-preserved c =
    let inv = c.loop-row.invariant in
    let old = c.args.table.now in
    let row : List Bool = replicate old.columns true in
    record {
      columns = c.push_reserved.ensures.columns ∙ inv.columns;
      rows = c.push_reserved.ensures.rows ∙ ap (λ (n : ℕ). c.loop-row.longer.rows ++ replicate n true ∷ []) inv.columns ∙ ap (λ (rs : List (List Bool)). rs ++ row ∷ []) inv.rows ∙ append_assoc old.rows (replicate c.loop-row._row row) (row ∷ []) ∙ ap (λ (rs : List (List Bool)). old.rows ++ rs) (replicate_more c.loop-row._row row);
      spare = omega (arith, c.push_reserved.ensures.spare, inv.spare);
    }
