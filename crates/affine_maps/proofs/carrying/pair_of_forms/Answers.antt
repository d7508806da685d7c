use Rattle.std.proofs.Common.{◌+◌, ℕ, subst, ◌∙◌, arith}
use Rattle.std.proofs.lemmas.List.{length-append}
use Rattle.row_core.specs.Lists.{vectors}
use Rattle.row_core.proofs.RowListLemmas.{length-vectors}
use Rattle.stored_systems.proofs.FitLemmas.{lines_fit, rays_fit}
use Rattle.affine_maps.specs.MovedTables.{AreSortedBy}
use Rattle.affine_maps.proofs.MovedTables.{length-system_rows}
use Rattle.affine_maps.proofs.StoredOfForms.{found, systems, bounds_primitive, rays_primitive, rows_over, columns_over, stored_pair, of_forms, pair_zeros}
use Rattle.affine_maps.proofs.carrying.pair_of_forms.Goals as goal

-- the table has a row for each of the divisor, the equalities and the inequalities
pub in_order-requires-clause-room : goal.in_order-requires-clause-room
in_order-requires-clause-room c =
    let z = c.requires.pair.zeros in
    let eqs = vectors c.args.bounds.0.rows in
    let ineqs = vectors c.args.bounds.1.rows in
    omega (arith, c.len.ensures, c.len-height.ensures, z.each.as_many, length-append eqs ineqs, length-vectors c.args.bounds.0.rows, length-vectors c.args.bounds.1.rows)

pub in_order-requires-clause-marks : goal.in_order-requires-clause-marks
in_order-requires-clause-marks c = c.requires.pair.bounds_lists.rays_marked

-- and a column for each line and ray
pub in_order-requires-2-clause-room : goal.in_order-requires-2-clause-room
in_order-requires-2-clause-room c =
    let z = c.requires.pair.zeros in
    let lines = vectors c.args.spans.0.rows in
    let rays = vectors c.args.spans.1.rows in
    omega (arith, c.len-2.ensures, c.columns-breadth.ensures.value, z.columns, length-system_rows lines rays, length-append lines rays, length-vectors c.args.spans.0.rows, length-vectors c.args.spans.1.rows)

pub in_order-requires-2-clause-marks : goal.in_order-requires-2-clause-marks
in_order-requires-2-clause-marks c = c.requires.pair.spans_lists.rays_marked

pub moved_table-requires-clause-rows : goal.moved_table-requires-clause-rows
moved_table-requires-clause-rows c = rows_over c.args.dim c.args.bounds.0 c.args.bounds.1 c.args.spans.0 c.args.spans.1 c.args.zeros.now c.requires.pair c.in_ok-inequalities.inequalities c.in_ok-rays.rays c.in_ok-inequalities.rows c.in_ok-rays.columns (subst (λ (n : ℕ). AreSortedBy (1 + n) c.args.bounds.1 c.in_ok-inequalities.inequalities c.in_ok-inequalities.rows) c.len.ensures c.in_ok-inequalities.ensures) (subst (λ (n : ℕ). AreSortedBy n c.args.spans.1 c.in_ok-rays.rays c.in_ok-rays.columns) c.len-2.ensures c.in_ok-rays.ensures)

pub moved_table-requires-clause-columns : goal.moved_table-requires-clause-columns
moved_table-requires-clause-columns c = columns_over c.args.dim c.args.bounds.0 c.args.bounds.1 c.args.spans.0 c.args.spans.1 c.args.zeros.now c.requires.pair c.in_ok-inequalities.inequalities c.in_ok-rays.rays c.in_ok-inequalities.rows c.in_ok-rays.columns (subst (λ (n : ℕ). AreSortedBy (1 + n) c.args.bounds.1 c.in_ok-inequalities.inequalities c.in_ok-inequalities.rows) c.len.ensures c.in_ok-inequalities.ensures) (subst (λ (n : ℕ). AreSortedBy n c.args.spans.1 c.in_ok-rays.rays c.in_ok-rays.columns) c.len-2.ensures c.in_ok-rays.ensures)

pub stored_constraints-requires-clause-lists : goal.stored_constraints-requires-clause-lists
stored_constraints-requires-clause-lists c =
    let f = c.requires.pair in
    record { lines_wide = f.bounds_lists.lines_wide; rays_wide = c.in_ok-inequalities.ensures.width ∙ f.bounds_lists.rays_wide; lines_marked = f.bounds_lists.lines_marked; rays_marked = c.in_ok-inequalities.ensures.marks }

pub stored_constraints-requires-clause-primitive_lines : goal.stored_constraints-requires-clause-primitive_lines
stored_constraints-requires-clause-primitive_lines c = c.requires.pair.bounds.primitive_lines

pub stored_constraints-requires-clause-primitive_rays : goal.stored_constraints-requires-clause-primitive_rays
stored_constraints-requires-clause-primitive_rays c = bounds_primitive c.args.dim c.args.bounds.0 c.args.bounds.1 c.args.spans.0 c.args.spans.1 c.args.zeros.now c.requires.pair c.in_ok-inequalities.inequalities c.in_ok-rays.rays c.in_ok-inequalities.rows c.in_ok-rays.columns (subst (λ (n : ℕ). AreSortedBy (1 + n) c.args.bounds.1 c.in_ok-inequalities.inequalities c.in_ok-inequalities.rows) c.len.ensures c.in_ok-inequalities.ensures) (subst (λ (n : ℕ). AreSortedBy n c.args.spans.1 c.in_ok-rays.rays c.in_ok-rays.columns) c.len-2.ensures c.in_ok-rays.ensures)

pub stored_generators-requires-clause-lists : goal.stored_generators-requires-clause-lists
stored_generators-requires-clause-lists c =
    let f = c.requires.pair in
    record { lines_wide = f.spans_lists.lines_wide; rays_wide = c.in_ok-rays.ensures.width ∙ f.spans_lists.rays_wide; lines_marked = f.spans_lists.lines_marked; rays_marked = c.in_ok-rays.ensures.marks }

pub stored_generators-requires-clause-primitive_lines : goal.stored_generators-requires-clause-primitive_lines
stored_generators-requires-clause-primitive_lines c = c.requires.pair.spans.primitive_lines

pub stored_generators-requires-clause-primitive_rays : goal.stored_generators-requires-clause-primitive_rays
stored_generators-requires-clause-primitive_rays c = rays_primitive c.args.dim c.args.bounds.0 c.args.bounds.1 c.args.spans.0 c.args.spans.1 c.args.zeros.now c.requires.pair c.in_ok-inequalities.inequalities c.in_ok-rays.rays c.in_ok-inequalities.rows c.in_ok-rays.columns (subst (λ (n : ℕ). AreSortedBy (1 + n) c.args.bounds.1 c.in_ok-inequalities.inequalities c.in_ok-inequalities.rows) c.len.ensures c.in_ok-inequalities.ensures) (subst (λ (n : ℕ). AreSortedBy n c.args.spans.1 c.in_ok-rays.rays c.in_ok-rays.columns) c.len-2.ensures c.in_ok-rays.ensures)

pub stored_generators-requires-clause-fit_lines : goal.stored_generators-requires-clause-fit_lines
stored_generators-requires-clause-fit_lines c =
    lines_fit c.args.dim (vectors c.args.spans.0.rows) (vectors c.in_ok-rays.rays.rows) (vectors c.args.bounds.0.rows)
    (found c.args.dim c.args.bounds.0 c.args.bounds.1 c.args.spans.0 c.args.spans.1 c.args.zeros.now c.requires.pair c.in_ok-inequalities.inequalities c.in_ok-rays.rays c.in_ok-inequalities.rows c.in_ok-rays.columns (subst (λ (n : ℕ). AreSortedBy (1 + n) c.args.bounds.1 c.in_ok-inequalities.inequalities c.in_ok-inequalities.rows) c.len.ensures c.in_ok-inequalities.ensures) (subst (λ (n : ℕ). AreSortedBy n c.args.spans.1 c.in_ok-rays.rays c.in_ok-rays.columns) c.len-2.ensures c.in_ok-rays.ensures)).rays
    (systems c.args.dim c.args.bounds.0 c.args.bounds.1 c.args.spans.0 c.args.spans.1 c.args.zeros.now c.requires.pair c.in_ok-inequalities.inequalities c.in_ok-rays.rays c.in_ok-inequalities.rows c.in_ok-rays.columns (subst (λ (n : ℕ). AreSortedBy (1 + n) c.args.bounds.1 c.in_ok-inequalities.inequalities c.in_ok-inequalities.rows) c.len.ensures c.in_ok-inequalities.ensures) (subst (λ (n : ℕ). AreSortedBy n c.args.spans.1 c.in_ok-rays.rays c.in_ok-rays.columns) c.len-2.ensures c.in_ok-rays.ensures))

pub stored_generators-requires-clause-fit_rays : goal.stored_generators-requires-clause-fit_rays
stored_generators-requires-clause-fit_rays c =
    rays_fit c.args.dim (vectors c.args.spans.0.rows) (vectors c.in_ok-rays.rays.rows) (vectors c.args.bounds.0.rows)
    (found c.args.dim c.args.bounds.0 c.args.bounds.1 c.args.spans.0 c.args.spans.1 c.args.zeros.now c.requires.pair c.in_ok-inequalities.inequalities c.in_ok-rays.rays c.in_ok-inequalities.rows c.in_ok-rays.columns (subst (λ (n : ℕ). AreSortedBy (1 + n) c.args.bounds.1 c.in_ok-inequalities.inequalities c.in_ok-inequalities.rows) c.len.ensures c.in_ok-inequalities.ensures) (subst (λ (n : ℕ). AreSortedBy n c.args.spans.1 c.in_ok-rays.rays c.in_ok-rays.columns) c.len-2.ensures c.in_ok-rays.ensures)).rays
    (systems c.args.dim c.args.bounds.0 c.args.bounds.1 c.args.spans.0 c.args.spans.1 c.args.zeros.now c.requires.pair c.in_ok-inequalities.inequalities c.in_ok-rays.rays c.in_ok-inequalities.rows c.in_ok-rays.columns (subst (λ (n : ℕ). AreSortedBy (1 + n) c.args.bounds.1 c.in_ok-inequalities.inequalities c.in_ok-inequalities.rows) c.len.ensures c.in_ok-inequalities.ensures) (subst (λ (n : ℕ). AreSortedBy n c.args.spans.1 c.in_ok-rays.rays c.in_ok-rays.columns) c.len-2.ensures c.in_ok-rays.ensures))

pub from_pair-requires-clause-stored : goal.from_pair-requires-clause-stored
from_pair-requires-clause-stored c = stored_pair c.args.dim c.args.bounds.0 c.args.bounds.1 c.args.spans.0 c.args.spans.1 c.args.zeros.now c.requires.pair c.in_ok-inequalities.inequalities c.in_ok-rays.rays c.in_ok-inequalities.rows c.in_ok-rays.columns (subst (λ (n : ℕ). AreSortedBy (1 + n) c.args.bounds.1 c.in_ok-inequalities.inequalities c.in_ok-inequalities.rows) c.len.ensures c.in_ok-inequalities.ensures) (subst (λ (n : ℕ). AreSortedBy n c.args.spans.1 c.in_ok-rays.rays c.in_ok-rays.columns) c.len-2.ensures c.in_ok-rays.ensures) c.in_ok-cons.cons c.in_ok-gens.gens c.in_ok-cons.ensures.dim c.in_ok-gens.ensures.dim c.in_ok-cons.ensures.list c.in_ok-gens.ensures.list

pub from_pair-requires-clause-zeros : goal.from_pair-requires-clause-zeros
from_pair-requires-clause-zeros c = λ closed some. pair_zeros c.args.dim c.args.bounds.0 c.args.bounds.1 c.args.spans.0 c.args.spans.1 c.args.zeros.now c.requires.pair c.in_ok-inequalities.inequalities c.in_ok-rays.rays c.in_ok-inequalities.rows c.in_ok-rays.columns (subst (λ (n : ℕ). AreSortedBy (1 + n) c.args.bounds.1 c.in_ok-inequalities.inequalities c.in_ok-inequalities.rows) c.len.ensures c.in_ok-inequalities.ensures) (subst (λ (n : ℕ). AreSortedBy n c.args.spans.1 c.in_ok-rays.rays c.in_ok-rays.columns) c.len-2.ensures c.in_ok-rays.ensures) c.in_ok-cons.cons c.in_ok-gens.gens c.in_ok-cons.ensures.dim c.in_ok-gens.ensures.dim c.in_ok-cons.ensures.list c.in_ok-gens.ensures.list c.in_ok-table.table c.in_ok-table.ensures

pub returns : goal.returns
returns c = of_forms c.args.dim c.args.bounds.0 c.args.bounds.1 c.args.spans.0 c.args.spans.1 c.args.zeros.now c.requires.pair c.in_ok-inequalities.inequalities c.in_ok-rays.rays c.in_ok-inequalities.rows c.in_ok-rays.columns (subst (λ (n : ℕ). AreSortedBy (1 + n) c.args.bounds.1 c.in_ok-inequalities.inequalities c.in_ok-inequalities.rows) c.len.ensures c.in_ok-inequalities.ensures) (subst (λ (n : ℕ). AreSortedBy n c.args.spans.1 c.in_ok-rays.rays c.in_ok-rays.columns) c.len-2.ensures c.in_ok-rays.ensures) c.in_ok-cons.cons c.in_ok-gens.gens c.in_ok-cons.ensures.dim c.in_ok-gens.ensures.dim c.in_ok-cons.ensures.list c.in_ok-gens.ensures.list c.from_pair.result c.from_pair.ensures.topology c.from_pair.ensures.cons c.from_pair.ensures.gens
