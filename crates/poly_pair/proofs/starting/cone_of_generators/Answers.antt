use Rattle.std.proofs.Common.{◌∙◌, Bool, List, ap, false, length, map, sym, subst}
use Rattle.std.proofs.lemmas.List.{length-map}
use Rattle.std.specs.Prelude.{slice_index_or}
use Rattle.std.proofs.lemmas.List.FromFn.{length-map-range_with_len}
use Rattle.flat_rows.specs.Flat.{marked}
use Rattle.row_core.specs.Lists.{Row, vectors}
use Rattle.sat_matrix.specs.ZeroTables.{IsZeroTable}
use Rattle.sat_matrix.specs.Tables.{Table}
use Rattle.stored_systems.specs.WorkLists.{generator_row, generator_list}
use Rattle.stored_systems.specs.Marks.{has_mark}
use Rattle.stored_systems.proofs.StoredLists.{marked_true, marked_false}
use Rattle.stored_systems.proofs.ZeroTables.{zeros_marked, zeros_turned}
use Rattle.poly_pair.proofs.starting.cone_of_generators.Goals as goal

pub keep_rows-requires : goal.keep_rows-requires
keep_rows-requires c =
    ap (λ (bits : List Bool). length bits) (c.deref.ensures.value ∙ c.in_ok-ray_marks.ensures) ∙ length-map (generator_list c.args.gens.now) (has_mark false) ∙ length-map c.args.gens.now.list generator_row ∙ sym c.requires
    ∙ sym (ap (λ (t : Table). length t.rows) c.in_ok-sat.ensures ∙ length-map-range_with_len (λ j. map (λ row. slice_index_or row j false) c.args.zeros.now.rows) 0 c.args.zeros.now.columns)

pub returns-clause-lists : goal.returns-clause-lists
returns-clause-lists c = record {
  lines_wide = c.in_ok-lines.ensures.width;
  rays_wide = c.in_ok-rays.ensures.width;
  lines_marked = marked_true c.in_ok-lines.lines.rows (generator_list c.args.gens.now) c.in_ok-lines.ensures.rows;
  rays_marked = marked_false c.in_ok-rays.rays.rows (generator_list c.args.gens.now) c.in_ok-rays.ensures.rows;
}

pub returns-clause-zeros : goal.returns-clause-zeros
returns-clause-zeros c list z =
    subst (λ (rs : List Row). IsZeroTable list (length list) (vectors rs) c.keep_rows.new.self) (sym c.in_ok-rays.ensures.rows)
    (zeros_marked list (generator_list c.args.gens.now) c.in_ok-sat.sat c.keep_rows.new.self (zeros_turned (generator_list c.args.gens.now) list c.args.zeros.now c.in_ok-sat.sat z c.in_ok-sat.ensures) c.keep_rows.ensures.columns
    (c.keep_rows.ensures.rows ∙ ap (λ (bits : List Bool). marked bits c.in_ok-sat.sat.rows) (c.deref.ensures.value ∙ c.in_ok-ray_marks.ensures)))

pub returns-clause-lines : goal.returns-clause-lines
returns-clause-lines c = ap (λ (rows : List Row). vectors rows) c.in_ok-lines.ensures.rows

pub returns-clause-rays : goal.returns-clause-rays
returns-clause-rays c = ap (λ (rows : List Row). vectors rows) c.in_ok-rays.ensures.rows
