use Rattle.std.proofs.Common.{List, Bool, false, ◌∷◌, [], ◌++◌, ℕ, replicate, sym, ap, ◌∙◌, arith, rules}
use Rattle.sat_matrix.specs.Tables.{Table}
use Rattle.stored_systems.proofs.ZeroTables.{divisor_start, divisor_more, divisor_end}
use Rattle.stored_systems.proofs.zeros.zeros_with_room.Goals as goal

pub loop-index-init : goal.loop-index-init
loop-index-init c =
    let made = c.in_ok-reserve.ensures.ok in
    divisor_start c.args.gens.now c.push_reserved.new.self (c.push_reserved.ensures.columns ∙ ap (λ (t : Table). t.columns) made ∙ c.new-table.ensures.columns ∙ c.len.ensures)
    (c.push_reserved.ensures.rows
    ∙ ap (λ (rows : List (List Bool)). rows ++ replicate c.reserve.new.self.columns false ∷ []) (ap (λ (t : Table). t.rows) made ∙ c.new-table.ensures.rows)
    ∙ ap (λ (n : ℕ). replicate n false ∷ []) (sym c.push_reserved.ensures.columns))

pub loop-index-preserved : goal.loop-index-preserved
loop-index-preserved c = divisor_more c.loop-index.index c.args.gens.now c.loop-index.table c.set.new.self _ (omega arith) c.loop-index.invariant (search (rules, c.row.ensures.value, c.dim.ensures.value)) c.set.ensures

pub returns : goal.returns
returns c = divisor_end c.loop-index.index c.args.gens.now c.loop-index.table (omega arith) c.loop-index.invariant
