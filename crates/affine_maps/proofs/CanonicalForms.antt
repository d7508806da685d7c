-- Lines and rays in minimal form that are brought to canonical form, their table with them, and the second system of a list.
use Rattle.std.proofs.Common.{◌≡◌, ℕ, ◌+◌, ◌<◌, false, List, [], ◌++◌, length, ℤ, pos, ◌*ℤ◌, refl, sym, ◌∙◌, subst, arith}
use Rattle.std.specs.Prelude.{All, IsPermutation}
use Rattle.row_core.specs.Vectors.{dot}
use Rattle.row_core.specs.Lists.{Row, Rows, row_at, vectors, vector_at}
use Rattle.row_core.specs.MarkedLists.{AreLists}
use Rattle.row_core.specs.Orders.{AreInOrder}
use Rattle.row_core.proofs.RowListLemmas.{length-vectors}
use Rattle.cone_laws.specs.Canon.{Canon, IsSystem}
use Rattle.cone_laws.specs.Members.{ConeOf}
use Rattle.cone_laws.proofs.UniqueSystems.{upto_canon_from_sorted}
use Rattle.cone_laws.proofs.UptoRows.{both_zero}
use Rattle.minimise.specs.Bases.{IsReduced}
use Rattle.minimise.specs.MinimalForms.{AreFormed}
use Rattle.minimise.specs.Simplified.{IsSystemOf}
use Rattle.minimise.proofs.MinimalForms.{formed_is_system}
use Rattle.minimise.proofs.SecondSystems.{reduced_value, times_zero}
use Rattle.sat_matrix.specs.Tables.{Table}
use Rattle.sat_matrix.specs.ZeroTables.{IsZeroTable}
use Rattle.chernikova.specs.declared.cone.Cone.{Cone}
use Rattle.chernikova.specs.Conversion.{IsConverted}
use Rattle.stored_systems.proofs.RowLemmas.{joined_marks}
use Rattle.poly_pair.specs.Conversions.{cone_rows}
use Rattle.affine_maps.specs.Collapsing.{IsFormOf}
use Rattle.affine_maps.specs.MovedTables.{place_in, AreSortedBy, IsOrderOver, IsTableMoved}
use Rattle.affine_maps.specs.declared.orders.Order.{Order}
use Rattle.affine_maps.specs.declared.orders.Order.TheVariants.{Listed}
use Rattle.affine_maps.proofs.FormedPairs.{zeros_same}
use Rattle.affine_maps.proofs.MovedTables.{place_below, same_at, moved_zeros, indices_many, indices_within, sorted_at, moved_at, sorted_many}

module _ (list : Rows) (form : Cone) (f : IsFormOf list form) (lines rays : Rows) (formed : AreFormed form.lines.width form.lines form.rays lines rays) where
  system : IsSystem (ConeOf list.width list.rows) (vectors lines.rows) (vectors rays.rows)
  system =
      formed_is_system list.width list.rows (vectors form.lines.rows) (vectors form.rays.rows) (vectors lines.rows) (vectors rays.rows) f.minimal
      (subst (λ (n : ℕ). All (λ (l : List ℤ). length l ≡ n) (vectors lines.rows)) f.lists.lines_wide formed.wide) formed.basis formed.reduced

  line_zero : (j : ℕ) → j < length list.rows → (i : ℕ) → i < length (vectors lines.rows) → dot (row_at list.rows j) (vector_at (vectors lines.rows) i) ≡ pos 0
  line_zero j c i b =
      both_zero list.width list.rows (length list.rows) (vector_at (vectors lines.rows) i) (system.generates.lines_within i [] b).0 (system.generates.lines_within i [] b).1 j ([], false) c

  same : (i j : ℕ) → i < length (vectors form.rays.rows) → j < length list.rows → (dot (row_at list.rows j) (vector_at (vectors form.rays.rows) i) ≡ pos 0 → dot (row_at list.rows j) (vector_at (vectors rays.rows) i) ≡ pos 0) × (dot (row_at list.rows j) (vector_at (vectors rays.rows) i) ≡ pos 0 → dot (row_at list.rows j) (vector_at (vectors form.rays.rows) i) ≡ pos 0)
  same i j b c =
      let g : List ℤ = row_at list.rows j in
      let old : List ℤ = vector_at (vectors form.rays.rows) i in
      let new : List ℤ = vector_at (vectors rays.rows) i in
      let r : IsReduced (vectors lines.rows) old new = formed.reduced.each i [] [] b in
      let value : r.times *ℤ dot g new ≡ r.factor *ℤ dot g old = reduced_value g (vectors lines.rows) old new (line_zero j c) r in (
        (λ z. times_zero r.times (dot g new) r.factor (dot g old) r.positive value z),
        (λ z. times_zero r.factor (dot g old) r.times (dot g new) r.factor_positive (sym value) z),
      )

  zeros : IsZeroTable list.rows (length list.rows) (vectors rays.rows) form.sat
  zeros = zeros_same list.rows list.rows (vectors form.rays.rows) (vectors rays.rows) form.sat refl formed.reduced.as_many same f.zeros

  pub table_many : length form.sat.rows ≡ length rays.rows
  table_many = omega (arith, f.zeros.each.as_many, formed.reduced.as_many, length-vectors rays.rows)

  module _ (sorted : Rows) (order : Order) (s : AreSortedBy 0 rays sorted order) where
    pub table_over : IsOrderOver (length form.sat.rows) order
    table_over = subst (λ (n : ℕ). IsOrderOver n order) (let e : 0 + length rays.rows ≡ length form.sat.rows = omega (arith, table_many) in e) s.over

    module _ (sat : Table) (moved : IsTableMoved order Listed form.sat sat) where
      canon : Canon (ConeOf list.width list.rows) (vectors lines.rows) (vectors sorted.rows)
      canon =
          upto_canon_from_sorted list.width list.rows (length list.rows) (vectors lines.rows) (vectors rays.rows) (vectors sorted.rows) system
          (subst (IsPermutation (vectors rays.rows)) (sym s.picked) s.is_order.permutation) (subst AreInOrder (sym s.picked) s.is_order.in_order)

      no_front : (i : ℕ) → i < 0 → place_in order i ≡ i
      no_front i h = absurd (omega (arith, h))

      row_place : (i : ℕ) → i < length (vectors rays.rows) → (place_in order i < length (vectors rays.rows)) × (vector_at (vectors sorted.rows) i ≡ vector_at (vectors rays.rows) (place_in order i))
      row_place i b = (
        place_below [] (vectors rays.rows) (vectors sorted.rows) order s.indices (indices_within 0 rays sorted order s) (indices_many 0 rays sorted order s) (sorted_at 0 rays sorted order s) no_front (moved_at 0 rays sorted order s) i b,
        same_at [] (vectors rays.rows) (vectors sorted.rows) order s.indices (indices_within 0 rays sorted order s) (indices_many 0 rays sorted order s) (sorted_at 0 rays sorted order s) no_front (moved_at 0 rays sorted order s) i b,
      )

      pub canonical_form : IsConverted list.width list.rows (record { lines = lines; rays = sorted; sat = sat })
      canonical_form = record {
        canon = canon;
        lists = record {
          lines_wide = formed.lists.lines_wide ∙ f.lists.lines_wide;
          rays_wide = s.width ∙ formed.lists.rays_wide ∙ f.lists.lines_wide;
          lines_marked = formed.lists.lines_marked;
          rays_marked = s.marks;
        };
        sat = moved_zeros list.rows list.rows (vectors rays.rows) (vectors sorted.rows) form.sat sat order Listed refl (sorted_many 0 rays sorted order s) (λ j b. (b, refl)) row_place moved zeros;
      }

-- ---- the second system
pub second_of_system : (width : ℕ) (first : Cone) (lines rays : Rows) (sat : Table) → AreLists width first.lines first.rays → IsSystemOf width (first.lines.rows ++ first.rays.rows) lines rays sat → IsConverted width (cone_rows first) (record { lines = lines; rays = rays; sat = sat })
second_of_system width first lines rays sat l s =
    let t : IsSystemOf width (cone_rows first) lines rays sat = subst (λ (list : List Row). IsSystemOf width list lines rays sat) (joined_marks first.lines.rows first.rays.rows l.lines_marked l.rays_marked) s in
    record { canon = t.canon; lists = t.lists; sat = t.zeros }
