use Rattle.std.proofs.Common.{◌∷◌, ◌++◌, ◌∙◌, [], ℕ, ◌+◌, length, ap, sym, subst}
use Rattle.row_core.specs.Lists.{vectors}
use Rattle.sat_matrix.specs.ZeroTables.{IsZeroTable}
use Rattle.row_core.proofs.RowListLemmas.{length-vectors}
use Rattle.stored_systems.specs.WorkLists.{divisor_row, generator_list}
use Rattle.stored_systems.specs.Zeros.{kept_inequalities}
use Rattle.stored_systems.proofs.ZeroTables.{zeros_full, zeros_kept}
use Rattle.stored_systems.proofs.zeros.pair_zeros.Goals as goal

pub push_kept_rows-requires-clause-rows : goal.push_kept_rows-requires-clause-rows
push_kept_rows-requires-clause-rows c = sym (c.requires.inequalities.many ∙ ap (λ (n : ℕ). c.args.from + n) (length-vectors c.args.rays.now.rows))

pub returns : goal.returns
returns c =
    let lines = vectors c.args.lines.now.rows in
    let rays = vectors c.args.rays.now.rows in
    let list = generator_list c.args.gens.now in
    subst (λ (n : ℕ). IsZeroTable list (length list) (divisor_row c.args.gens.now.dim ∷ lines ++ kept_inequalities n rays) c.push_kept_rows.new.table) c.dim.ensures.value
    (zeros_kept list c.dim.result c.args.from (divisor_row c.args.gens.now.dim ∷ lines) rays c.args.zeros.now c.push_full_rows.new.table c.push_kept_rows.new.table
    (zeros_full list (divisor_row c.args.gens.now.dim ∷ []) lines c.in_ok-table.table c.push_full_rows.new.table c.len-3.result c.in_ok-table.ensures c.requires.equalities (c.len-3.ensures ∙ sym (length-vectors c.args.lines.now.rows)) c.push_full_rows.ensures.columns c.in_ok-push_full_rows.ensures.rows)
    c.requires.inequalities c.push_kept_rows.ensures.columns c.in_ok-push_kept_rows.ensures.rows)
