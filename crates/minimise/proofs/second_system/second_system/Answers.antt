use Rattle.std.specs.Prelude.{◌≡◌, Bool, List, ℕ, length, map}
use Rattle.std.proofs.Common.{arith, sym, ap, ◌∙◌, subst}
use Rattle.std.proofs.lemmas.Result.{err_from_is_err_and}
use Rattle.flat_rows.specs.Flat.{marked}
use Rattle.row_core.specs.Lists.{row_at, vectors}
use Rattle.sat_matrix.specs.Tables.{Table}
use Rattle.row_core.proofs.RowListLemmas.{length-vectors}
use Rattle.minimise.specs.Facets.{AreSplit}
use Rattle.minimise.specs.Parts.{rays_of, IsArranged}
use Rattle.sat_matrix.proofs.TurnedTables.{TellsRows, turned_tells}
use Rattle.minimise.proofs.FacetLemmas.{flat_told}
use Rattle.minimise.proofs.FaultCases.{left_fault}
use Rattle.minimise.proofs.Splits.{split_of, full_rows}
use Rattle.minimise.proofs.Simplifications.{done_from_arranged}
use Rattle.minimise.proofs.second_system.second_system.Goals as goal

pub parts_of-requires-clause-as_many : goal.parts_of-requires-clause-as_many
parts_of-requires-clause-as_many g c = ap (λ (t : Table). length t.rows) c.in_ok-table.ensures ∙ (turned_tells c.args.rows.now.rows (vectors c.args.rays.now.rows) c.args.sat.now c.requires.sat).as_many

pub parts_of-requires-clause-split : goal.parts_of-requires-clause-split
parts_of-requires-clause-split g c = split_of c.in_ok-table.table.rows _ _ _ (sym c.deref.ensures.value) c.in_ok-flat.ensures

pub returns-in_err-parts-clause-simplified : goal.returns-in_err-parts-clause-simplified
returns-in_err-parts-clause-simplified g c =
    let rows = c.args.rows.now.rows in
    let rays = vectors c.args.rays.now.rows in
    let table = c.in_ok-table.table in
    let tells : TellsRows c.args.rows.now.rows (vectors c.args.rays.now.rows) c.in_ok-table.table.rows =
    subst (λ (bs : List (List Bool)). TellsRows c.args.rows.now.rows (vectors c.args.rays.now.rows) bs) (sym (ap (λ (t : Table). t.rows) c.in_ok-table.ensures)) (turned_tells rows rays c.args.sat.now c.requires.sat) in
    let split : AreSplit c.in_ok-table.table.rows c.deref.result.now c.in_ok-flat.others.items = split_of table.rows _ _ _ (sym c.deref.ensures.value) c.in_ok-flat.ensures in
    let told = flat_told rows rays table.rows tells c.args.rows.now.width (vectors c.args.lines.now.rows) split.marks c.requires.system split.tells in
    let are : map (row_at c.args.rows.now.rows) c.deref.result.now ≡ marked split.marks (vectors c.args.rows.now.rows) = full_rows table.rows c.deref.result.now c.in_ok-flat.others.items split rows tells.as_many in
    let p = err_from_is_err_and c.from_residual-in_err-parts.result c.from_residual-in_err-parts.ensures.1 in
    rw (p.1, p.2) (left_fault c.args.rows.now.width rows split.marks (map (row_at rows) c.deref.result.now) _ told are c.in_err-parts.ensures.parts)

pub arranged-requires-clause-as_many : goal.arranged-requires-clause-as_many
arranged-requires-clause-as_many g c =
    let p = c.in_ok-parts.ensures.parts in
    omega (arith, p.made.as_many, length-vectors (rays_of c.args.rows.now c.in_ok-parts.parts).rows)

pub arranged-requires-clause-within : goal.arranged-requires-clause-within
arranged-requires-clause-within g c = λ k d h. (c.in_ok-parts.ensures.parts.greatest.uneven k d h).0

pub arranged-requires-clause-listed : goal.arranged-requires-clause-listed
arranged-requires-clause-listed g c =
    let size = ap (λ (t : Table). length t.rows) c.in_ok-table.ensures ∙ (turned_tells c.args.rows.now.rows (vectors c.args.rays.now.rows) c.args.sat.now c.requires.sat).as_many in
    λ k d h. omega (arith, (c.in_ok-parts.ensures.parts.greatest.uneven k d h).0, size)

pub returns-clause-simplified : goal.returns-clause-simplified
returns-clause-simplified g c =
    let table = c.in_ok-table.table in
    let split : AreSplit c.in_ok-table.table.rows c.deref.result.now c.in_ok-flat.others.items = split_of table.rows _ _ _ (sym c.deref.ensures.value) c.in_ok-flat.ensures in
    let size = ap (λ (t : Table). length t.rows) c.in_ok-table.ensures ∙ (turned_tells c.args.rows.now.rows (vectors c.args.rays.now.rows) c.args.sat.now c.requires.sat).as_many in
    let are : map (row_at c.args.rows.now.rows) c.deref.result.now ≡ marked split.marks (vectors c.args.rows.now.rows) = full_rows table.rows c.deref.result.now c.in_ok-flat.others.items split c.args.rows.now.rows size in
    done_from_arranged c.args.rows.now c.args.lines.now c.args.rays.now c.args.sat.now table c.deref.result.now split.marks c.in_ok-parts.parts c.in_ok-parts.ensures.parts c.requires.system c.requires.lists c.requires.sat c.in_ok-table.ensures split.tells are c.in_ok-arranged.field-0
    (subst (λ (n : ℕ). IsArranged n c.args.rows.now c.in_ok-table.table c.in_ok-parts.parts c.in_ok-arranged.field-0) c.len.ensures c.in_ok-arranged.ensures)
