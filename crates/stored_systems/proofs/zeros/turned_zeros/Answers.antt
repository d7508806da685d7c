use Rattle.std.proofs.Common.{◌≡◌, ◌∙◌, List, ℤ, length, ap}
use Rattle.std.proofs.lemmas.Result.{IfOk-weaker}
use Rattle.row_core.specs.Lists.{Row, vectors, system_rows}
use Rattle.sat_matrix.specs.Tables.{Table, transposed}
use Rattle.sat_matrix.specs.ZeroTables.{IsZeroTable}
use Rattle.stored_systems.specs.Zeros.{AreZeroOn}
use Rattle.stored_systems.proofs.ZeroTables.{zeros_behind, zeros_alone}
use Rattle.stored_systems.proofs.zeros.turned_zeros.Goals as goal

pub returns-then-lines-eq0 : goal.returns-then-lines-eq0
returns-then-lines-eq0 c =
    IfOk-weaker c.transpose.result (λ turned. turned ≡ record { columns = length c.args.sat.now.rows; rows = transposed c.args.sat.now.columns c.args.sat.now.rows; spare = 0 })
    (λ turned. (list : List Row) (first rest : List (List ℤ)) → length first ≡ c.args.lines → AreZeroOn list first → IsZeroTable list (length list) rest c.args.sat.now → IsZeroTable (system_rows first rest) (length (system_rows first rest)) (vectors list) turned)
    (λ turned e list first rest size flat h. zeros_alone list first rest c.args.sat.now turned (size ∙ c.if-lines-eq0.true) h e)
    c.transpose.ensures

pub returns : goal.returns
returns c =
    let made = c.in_ok-reserve.ensures.ok in
    IfOk-weaker c.transpose-2.result (λ turned. turned ≡ record { columns = length c.push_rows_of.new.table.rows; rows = transposed c.push_rows_of.new.table.columns c.push_rows_of.new.table.rows; spare = 0 })
    (λ turned. (list : List Row) (first rest : List (List ℤ)) → length first ≡ c.args.lines → AreZeroOn list first → IsZeroTable list (length list) rest c.args.sat.now → IsZeroTable (system_rows first rest) (length (system_rows first rest)) (vectors list) turned)
    (λ turned e list first rest size flat h. zeros_behind list first rest c.args.lines c.args.sat.now c.reserve.new.self c.push_full_rows.new.table c.push_rows_of.new.table turned (ap (λ (t : Table). t.columns) made ∙ c.new-whole.ensures.columns ∙ c.columns.ensures.value) (ap (λ (t : Table). t.rows) made ∙ c.new-whole.ensures.rows) c.push_full_rows.ensures.columns c.in_ok-push_full_rows.ensures.rows c.push_rows_of.ensures.columns c.in_ok-push_rows_of.ensures.rows e size flat h)
    c.transpose-2.ensures
