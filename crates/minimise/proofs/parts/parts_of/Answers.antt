use Rattle.std.specs.Prelude.{◌*◌, ◌<◌, ℕ, List, length, map, All}
use Rattle.std.proofs.Common.{arith, sym, ap, subst}
use Rattle.std.proofs.lemmas.Result.{err_from_is_err_and}
use Rattle.row_core.specs.Lists.{row_at, vectors}
use Rattle.minimise.proofs.FaultCases.{list_fault_of_row}
use Rattle.minimise.proofs.PlacedRows.{reduced_at, rays_wide_at}
use Rattle.minimise.proofs.Splits.{full_within, others_uneven, others_rising, split_size}
use Rattle.minimise.proofs.Totals.{total_bound}
use Rattle.minimise.proofs.parts.parts_of.Goals as goal

pub basis-requires : goal.basis-requires
basis-requires g c =
    let within = full_within c.args.table.now.rows c.args.flat.now c.args.others.items c.requires.split in
    record { within = λ k d h. omega (arith, within k d h, c.requires.as_many) }

pub facets_of-requires-clause-rising : goal.facets_of-requires-clause-rising
facets_of-requires-clause-rising g c = others_rising c.args.table.now.rows c.args.flat.now c.args.others.items c.requires.split

pub facets_of-requires-clause-uneven : goal.facets_of-requires-clause-uneven
facets_of-requires-clause-uneven g c = others_uneven c.args.table.now.rows c.args.flat.now c.args.others.items c.requires.split

pub reduced_rows-requires-clause-within : goal.reduced_rows-requires-clause-within
reduced_rows-requires-clause-within g c =
    subst (λ (is : List ℕ). All (λ i. i < length c.args.rows.now.rows) is) (sym c.deref.ensures.value)
    (λ k d h. omega (arith, (c.in_ok-facets.ensures.greatest.uneven k d h).0, c.requires.as_many))

pub reduced_rows-requires-clause-echelon : goal.reduced_rows-requires-clause-echelon
reduced_rows-requires-clause-echelon g c = c.in_ok-equalities.ensures.basis.echelon

pub returns-in_err-equalities-clause-counted : goal.returns-in_err-equalities-clause-counted
returns-in_err-equalities-clause-counted g c =
    let width = c.args.rows.now.width in
    let both = split_size c.args.table.now.rows c.args.flat.now c.args.others.items c.requires.split in
    let most = total_bound (length c.args.flat.now) 0 width width (length c.args.rows.now.rows) (omega arith) (omega (arith, both, c.requires.as_many)) in
    (omega (arith, c.basis.ensures.counted), omega (arith, c.basis.ensures.counted, most))

pub returns-in_err-equalities-clause-parts : goal.returns-in_err-equalities-clause-parts
returns-in_err-equalities-clause-parts g c =
    let p = err_from_is_err_and c.from_residual.result c.from_residual.ensures.1 in
    rw (p.1, p.2) c.in_err-equalities.ensures.basis

pub returns-in_err-facets-clause-counted : goal.returns-in_err-facets-clause-counted
returns-in_err-facets-clause-counted g c =
    let width = c.args.rows.now.width in
    let both = split_size c.args.table.now.rows c.args.flat.now c.args.others.items c.requires.split in
    let most = total_bound (length c.args.flat.now) 0 width width (length c.args.rows.now.rows) (omega arith) (omega (arith, both, c.requires.as_many)) in
    (omega (arith, c.basis.ensures.counted), omega (arith, c.basis.ensures.counted, most))

pub returns-in_err-rays-clause-counted : goal.returns-in_err-rays-clause-counted
returns-in_err-rays-clause-counted g c =
    let width = c.args.rows.now.width in
    let kept = c.in_ok-facets.facets.items in
    let both = split_size c.args.table.now.rows c.args.flat.now c.args.others.items c.requires.split in
    let most = total_bound (length c.args.flat.now) (length kept) width width (length c.args.rows.now.rows) (omega arith) (omega (arith, both, c.requires.as_many, c.in_ok-facets.ensures.fewer)) in
    let size = ap (λ (is : List ℕ). length is * c.args.rows.now.width) c.deref.ensures.value in
    (omega (arith, c.basis.ensures.counted, c.reduced_rows.ensures.counted), omega (arith, c.basis.ensures.counted, c.reduced_rows.ensures.counted, size, most))

pub returns-in_err-rays-clause-parts : goal.returns-in_err-rays-clause-parts
returns-in_err-rays-clause-parts g c =
    let p = err_from_is_err_and c.from_residual-in_err-rays.result c.from_residual-in_err-rays.ensures.1 in
    rw (p.1, p.2) (list_fault_of_row c.args.rows.now.rows (map (row_at c.args.rows.now.rows) c.args.flat.now) (vectors c.in_ok-equalities.equalities.rows) _ c.in_ok-equalities.ensures.basis c.in_err-rays.ensures.reduced)

pub returns-clause-counted : goal.returns-clause-counted
returns-clause-counted g c =
    let width = c.args.rows.now.width in
    let kept = c.in_ok-facets.facets.items in
    let both = split_size c.args.table.now.rows c.args.flat.now c.args.others.items c.requires.split in
    let most = total_bound (length c.args.flat.now) (length kept) width width (length c.args.rows.now.rows) (omega arith) (omega (arith, both, c.requires.as_many, c.in_ok-facets.ensures.fewer)) in
    let size = ap (λ (is : List ℕ). length is * c.args.rows.now.width) c.deref.ensures.value in
    (omega (arith, c.basis.ensures.counted, c.reduced_rows.ensures.counted), omega (arith, c.basis.ensures.counted, c.reduced_rows.ensures.counted, size, most))

pub returns-clause-parts : goal.returns-clause-parts
returns-clause-parts g c = record {
  rows_fit = c.width-width.ensures.rows;
  basis = c.in_ok-equalities.ensures.basis;
  equalities_fit = c.width-basis_width.ensures.rows;
  equalities_width = c.in_ok-equalities.ensures.list.0;
  equalities_marked = c.in_ok-equalities.ensures.list.1;
  greatest = c.in_ok-facets.ensures.greatest;
  made = reduced_at c.args.rows.now (vectors c.in_ok-equalities.equalities.rows) c.deref.result.now c.in_ok-facets.facets.items c.in_ok-rays.rays c.deref.ensures.value c.in_ok-rays.ensures.reduced;
  rays_width = rays_wide_at c.args.rows.now c.deref.result.now c.in_ok-facets.facets.items c.in_ok-rays.rays c.deref.ensures.value c.in_ok-rays.ensures.width;
}
