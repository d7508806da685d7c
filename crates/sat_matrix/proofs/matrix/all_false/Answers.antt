use Rattle.std.proofs.Common.{ℕ, List, ◌++◌, map, replicate, ap, ◌∙◌}
use Rattle.sat_matrix.specs.Words.{bits_in}
use Rattle.sat_matrix.proofs.BitRows.{zero_rows}
use Rattle.sat_matrix.proofs.matrix.all_false.Goals as goal

pub returns-clause-rows : goal.returns-clause-rows
returns-clause-rows c =
    let width : ℕ = c.new-words.result.width in
    ap (λ (rs : List (List ℕ)). map (bits_in c.args.columns) rs) c.in_ok-fill.ensures.rows
    ∙ ap (λ (rs : List (List ℕ)). map (bits_in c.args.columns) (rs ++ replicate c.args.rows (replicate width 0))) c.new-words.ensures.rows
    ∙ zero_rows c.args.columns width c.args.rows
