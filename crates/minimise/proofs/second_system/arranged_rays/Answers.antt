use Rattle.std.specs.Prelude.{◌<◌, ℕ, List, length, map, All}
use Rattle.std.proofs.Common.{sym, ap, ◌∙◌, subst, slice_index_or}
use Rattle.row_core.specs.Lists.{row_at}
use Rattle.sat_matrix.specs.Tables.{bits_of}
use Rattle.minimise.specs.SecondSystems.{behind_lines}
use Rattle.minimise.proofs.second_system.arranged_rays.Goals as goal

pub rays_at-requires : goal.rays_at-requires
rays_at-requires g c = subst (λ (is : List ℕ). All (λ i. i < length (g.R.LendRows.list c.args.rays.now).rows) is) (sym c.deref.ensures) c.in_ok-order.ensures.within

pub second_table-requires-clause-order : goal.second_table-requires-clause-order
second_table-requires-clause-order g c =
    subst (λ (is : List ℕ). All (λ i. i < length c.args.facets.now) is) (sym c.deref-2.ensures) (subst (λ (n : ℕ). All (λ i. i < n) c.in_ok-order.order.items) (sym c.requires.as_many) c.in_ok-order.ensures.within)

pub returns : goal.returns
returns g c = record {
  order = c.in_ok-order.order.items;
  is_order = c.in_ok-order.ensures;
  picked = c.in_ok-sorted.ensures.rows ∙ ap (λ (is : List ℕ). map (row_at (g.R.LendRows.list c.args.rays.now).rows) is) c.deref.ensures;
  width = c.in_ok-sorted.ensures.list.0;
  marks = c.in_ok-sorted.ensures.list.1;
  columns = c.in_ok-sat.ensures.columns;
  rows = c.in_ok-sat.ensures.rows ∙ ap (λ (is : List ℕ). map (λ i. behind_lines c.args.lines (bits_of c.args.table.now.rows (slice_index_or c.args.facets.now i 0))) is) c.deref-2.ensures;
}
