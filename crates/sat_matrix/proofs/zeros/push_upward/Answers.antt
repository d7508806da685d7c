use Rattle.std.specs.Prelude.{◌-◌, ◌++◌, ◌∷◌, [], ℕ, Bool, List, true, false, replicate}
use Rattle.std.proofs.Common.{sym, ap, ◌∙◌, set}
use Rattle.sat_matrix.specs.Tables.{Table, bits_of}
use Rattle.sat_matrix.proofs.TableLemmas.{last_written}
use Rattle.sat_matrix.proofs.zeros.push_upward.Goals as goal

pub returns-clause-rows : goal.returns-clause-rows
returns-clause-rows c =
    let old : List (List Bool) = c.args.zeros.now.rows in
    let at : ℕ = c.len-row.result in
    let last : ℕ = c.columns-last.result - 1 in
    ap (λ (t : Table). t.rows) c.set.ensures ∙
    ap (λ (rs : List (List Bool)). set rs at (set (bits_of rs at) last false)) c.push_reserved.ensures.rows ∙
    last_written old (replicate c.args.zeros.now.columns true) at last false (sym c.len-row.ensures) ∙
    ap (λ (n : ℕ). old ++ set (replicate c.args.zeros.now.columns true) (n - 1) false ∷ []) c.columns-last.ensures.value
