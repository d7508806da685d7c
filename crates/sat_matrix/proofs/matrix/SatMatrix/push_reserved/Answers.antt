use Rattle.std.proofs.Common.{◌≡◌, ◌++◌, ℕ, true, false, Bool, List, length, drop, replicate, ap, sym, ◌∙◌, arith}
use Rattle.std.proofs.lemmas.List.{append-nil, drop_all}
use Rattle.sat_matrix.specs.Tables.{Table, bits_of}
use Rattle.sat_matrix.proofs.WrittenRows.{last_written, last_wide}
use Rattle.sat_matrix.proofs.matrix.SatMatrix.push_reserved.Goals as goal

pub returns-then-bit-clause-rows : goal.returns-then-bit-clause-rows
returns-then-bit-clause-rows c =
    let old = c.args.self.now in
    let made = c.push_false.new.self in
    let at : ℕ = c.len-row.result in
    let columns : ℕ = c.columns-columns.result in
    let row : List Bool = bits_of made.rows at in
    let wide : length row ≡ old.columns = last_wide old.rows made.rows old.columns at c.push_false.ensures.rows c.len-row.ensures in
    last_written old.rows made.rows c.fill_front.new.self.rows (replicate old.columns false) (replicate columns true ++ drop columns row) (replicate old.columns c.args.bit) at
    c.push_false.ensures.rows c.len-row.ensures (ap (λ (t : Table). t.rows) c.fill_front.ensures)
    (ap (λ (bits : List Bool). replicate columns true ++ bits) (drop_all columns row (omega (arith, wide, c.columns-columns.ensures.value)))
    ∙ append-nil (replicate columns true) ∙ ap (λ (n : ℕ). replicate n true) c.columns-columns.ensures.value ∙ ap (λ (b : Bool). replicate old.columns b) (sym c.if-bit.true))
