-- The parts of the second system together.
use Rattle.std.proofs.Common.{◌≡◌, ◌⊎◌, inl, inr, ℕ, ◌+◌, ◌-◌, ◌<◌, ◌≤◌, Bool, true, false, List, [], ◌∷◌, ◌++◌, length, map, slice_index_or, ℤ, pos, refl, sym, ap, ◌∙◌, subst, arith, length-append}
use Rattle.std.specs.Prelude.{All, IsTrue, ◌↔◌}
use Rattle.std.proofs.lemmas.Bool.{cases_lt}
use Rattle.std.proofs.lemmas.List.{length-map, get_or-map, get_or_append_left, get_or-append_right, get_or_default}
use Rattle.std.proofs.lemmas.List.Elements.{All-head, All-tail}
use Rattle.row_core.specs.Vectors.{dot}
use Rattle.flat_rows.specs.Flat.{marked}
use Rattle.row_core.specs.Lists.{Row, Rows, row_at, vectors, system_rows, AreMarked, Pointwise, vector_at}
use Rattle.sat_matrix.specs.Tables.{Table, bits_of, transposed}
use Rattle.sat_matrix.specs.ZeroTables.{TellsZeros, IsZeroTable}
use Rattle.cone_laws.specs.Canon.{IsSystem, Canon}
use Rattle.cone_laws.specs.Members.{ConeOf}
use Rattle.row_core.specs.MarkedLists.{AreLists}
use Rattle.cone_laws.proofs.UniqueSystems.{upto_canon_from_sorted}
use Rattle.cone_laws.proofs.Columns.{dot_comm}
use Rattle.cone_laws.proofs.SystemLists.{met_line}
use Rattle.row_core.proofs.RowListLemmas.{length-vectors, vector_at-vectors}
use Rattle.minimise.specs.FlatRows.{IsZeroOnAll}
use Rattle.minimise.specs.Bases.{IsBasis, IsReduced}
use Rattle.minimise.specs.Facets.{TellsFull, AreFacets, AreGreatest}
use Rattle.minimise.specs.SecondSystems.{behind_lines}
use Rattle.minimise.specs.Parts.{rays_of, AreParts, AreArranged, IsArranged}
use Rattle.minimise.specs.declared.parts.Parts.{Parts}
use Rattle.minimise.specs.Simplified.{IsSystemOf, IsDone}
use Rattle.minimise.specs.declared.second_system.Simplified.{Simplified}
use Rattle.minimise.specs.declared.second_system.Simplified.TheVariants.{Done, Left}
use Rattle.sat_matrix.proofs.TurnedTables.{TellsRows, turned_tells}
use Rattle.minimise.proofs.FacetLemmas.{ComesFrom, comes_from, GoesTo, goes_to, zero_from_full, full_from_zero, are_facets}
use Rattle.minimise.proofs.Widths.{vectors_wide}
use Rattle.minimise.proofs.SecondTables.{length-behind_lines, behind_before, behind_after}
use Rattle.minimise.proofs.SecondSystems.{simplified_is_system, made_zero, row_zero}

-- ---- marked lists
pub marked_as : (eq : Bool) (rows : List Row) → AreMarked eq rows → map (λ (v : List ℤ). (v, eq)) (vectors rows) ≡ rows
marked_as eq [] h = refl
marked_as eq (row ∷ rows) h =
    let e : row.1 ≡ eq = All-head (λ (r : Row). r.1 ≡ eq) row rows h in
    ap (λ (b : Bool). (row.0, b) ∷ map (λ (v : List ℤ). (v, eq)) (vectors rows)) (sym e) ∙ ap (λ (rs : List Row). row ∷ rs) (marked_as eq rows (All-tail (λ (r : Row). r.1 ≡ eq) row rows h))

pub system_as : (lines rays : List Row) → AreMarked true lines → AreMarked false rays → system_rows (vectors lines) (vectors rays) ≡ lines ++ rays
system_as lines rays f g = ap (λ (ls : List Row). ls ++ map (λ (r : List ℤ). (r, false)) (vectors rays)) (marked_as true lines f) ∙ ap (λ (rs : List Row). lines ++ rs) (marked_as false rays g)

-- ---- the system
module _ (width : ℕ) (rows : List Row) (lines rays : List (List ℤ)) (table : List (List Bool)) (marks : List Bool) (equalities reduced : List (List ℤ)) (indices : List ℕ)
    (wide : All (λ (row : Row). length row.0 ≡ width) rows) (sys : IsSystem (ConeOf width rows) lines rays) (tells : TellsRows rows rays table) (full : TellsFull table marks) (lines_wide : All (λ (l : List ℤ). length l ≡ width) equalities)
    (basis : IsBasis (marked marks (vectors rows)) equalities) (greatest : AreGreatest table indices)
    (made : Pointwise (λ i r. IsReduced equalities (row_at rows i) r) indices reduced) where
  is_true : (b : Bool) → IsTrue b → b ≡ true
  is_true true t = refl
  is_true false t = t

  flat_in : (i : ℕ) → i < length rows → IsZeroOnAll rays (row_at rows i) → (k : ℕ) × (k < length (marked marks (vectors rows))) × (vector_at (marked marks (vectors rows)) k ≡ row_at rows i)
  flat_in i h z =
      let t = (full.tells i (omega (arith, h, tells.as_many))).1 (full_from_zero rows rays table tells i h z) in
      let g : GoesTo marks (vectors rows) [] i = goes_to marks (vectors rows) [] i (omega (arith, h, length-vectors rows)) (is_true (slice_index_or marks i false) t) in
      (g.place, g.below, g.same ∙ vector_at-vectors rows i)

  flat_of : (k : ℕ) → k < length (marked marks (vectors rows)) → (i : ℕ) × (i < length rows) × (row_at rows i ≡ vector_at (marked marks (vectors rows)) k) × IsZeroOnAll rays (row_at rows i)
  flat_of k h =
      let c : ComesFrom marks (vectors rows) (vectors rows) [] [] k = comes_from marks (vectors rows) (vectors rows) [] [] k refl h in
      let below : c.index < length rows = omega (arith, c.below, length-vectors rows) in
      (c.index, below, sym (vector_at-vectors rows c.index) ∙ sym c.first, zero_from_full rows rays table tells c.index below ((full.tells c.index (omega (arith, below, tells.as_many))).0 c.mark))

  facets : AreFacets rows rays indices
  facets = are_facets rows rays table tells indices greatest

  pub second_is_system : IsSystem (ConeOf width (system_rows lines rays)) equalities reduced
  second_is_system = simplified_is_system width rows lines rays (marked marks (vectors rows)) equalities reduced indices wide sys flat_in flat_of lines_wide basis facets made

  -- the zeros of a reduced row are those of its row
  pub second_zero : (p j : ℕ) → p < length indices → j < length rays → IsTrue (slice_index_or (bits_of table (slice_index_or indices p 0)) j false) ↔ (dot (vector_at rays j) (vector_at reduced p) ≡ pos 0)
  second_zero p j h b =
      let told = tells.tells (slice_index_or indices p 0) j (facets.within p 0 h) b in (
        (λ t. made_zero width rows lines rays (marked marks (vectors rows)) equalities reduced indices wide sys flat_in flat_of lines_wide basis facets made p h j b
            (dot_comm (vector_at rays j) (row_at rows (slice_index_or indices p 0)) ∙ told.0 t)),
        (λ z. told.1 (dot_comm (row_at rows (slice_index_or indices p 0)) (vector_at rays j) ∙ row_zero width rows lines rays (marked marks (vectors rows)) equalities reduced indices wide sys flat_in flat_of lines_wide basis facets made p h j b z)),
      )

  pub second_bits_wide : (p : ℕ) → p < length indices → length (bits_of table (slice_index_or indices p 0)) ≡ length rays
  second_bits_wide p h = tells.wide (slice_index_or indices p 0) (facets.within p 0 h)

-- ---- the table
-- a ray of the second system and its bits
pub behind_tells : (width : ℕ) (lines rays : List (List ℤ)) (list : List Row) (v : List ℤ) (bits : List Bool) → list ≡ system_rows lines rays → ConeOf width (system_rows lines rays) v → length bits ≡ length rays → ((j : ℕ) → j < length rays → IsTrue (slice_index_or bits j false) ↔ (dot (vector_at rays j) v ≡ pos 0)) → TellsZeros list (length list) v (behind_lines (length lines) bits)
behind_tells width lines rays list v bits is member wide told = record {
  wide = length-behind_lines (length lines) bits ∙ sizes;
  zeros = λ j h. by_place j h (cases_lt j (length lines));
}
  where
    sizes : length lines + length bits ≡ length list
    sizes =
        let e = ap (λ (rs : List Row). length rs) is in
        let f = length-append {A = Row} (map (λ (l : List ℤ). (l, true)) lines) (map (λ (r : List ℤ). (r, false)) rays) in
        let a = length-map {B = Row} lines (λ (l : List ℤ). (l, true)) in
        let b = length-map {B = Row} rays (λ (r : List ℤ). (r, false)) in
        omega (arith, wide, e, f, a, b)

    line_at : (j : ℕ) → j < length lines → row_at list j ≡ vector_at lines j
    line_at j h =
        ap (λ (rs : List Row). row_at rs j) is
        ∙ ap (λ (r : Row). r.0) (get_or_append_left {A = Row} (map (λ (l : List ℤ). (l, true)) lines) (map (λ (r : List ℤ). (r, false)) rays) ([], false) j (let a = length-map {B = Row} lines (λ (l : List ℤ). (l, true)) in omega (arith, h, a))
        ∙ get_or-map (λ (l : List ℤ). (l, true)) lines j [] ([], false) h)

    ray_below : (j : ℕ) → length lines ≤ j → j < length list → j - length lines < length rays
    ray_below j l h = omega (arith, l, h, sizes, wide)

    ray_at : (j : ℕ) → length lines ≤ j → j < length list → row_at list j ≡ vector_at rays (j - length lines)
    ray_at j l h =
        ap (λ (rs : List Row). row_at rs j) is
        ∙ ap (λ (r : Row). r.0) (get_or-append_right {X = Row} (map (λ (l : List ℤ). (l, true)) lines) (map (λ (r : List ℤ). (r, false)) rays) (length lines) j ([], false) (length-map {B = Row} lines (λ (l : List ℤ). (l, true))) l
        ∙ get_or-map (λ (r : List ℤ). (r, false)) rays (j - length lines) [] ([], false) (ray_below j l h))

    by_place : (j : ℕ) → j < length list → (j < length lines) ⊎ (length lines ≤ j) → IsTrue (slice_index_or (behind_lines (length lines) bits) j false) ↔ (dot (row_at list j) v ≡ pos 0)
    by_place j h (inl l) =
        let bit = behind_before (length lines) bits j l in
        let zero : dot (row_at list j) v ≡ pos 0 = ap (λ (a : List ℤ). dot a v) (line_at j l) ∙ met_line width lines rays v member j l in
        ((λ t. zero), (λ z. subst IsTrue (sym bit) refl))
    by_place j h (inr l) =
        let bit = behind_after (length lines) bits j l in
        subst (λ (b : Bool). IsTrue b ↔ (dot (row_at list j) v ≡ pos 0)) (sym bit) (subst (λ (a : List ℤ). IsTrue (slice_index_or bits (j - length lines) false) ↔ (dot a v ≡ pos 0)) (sym (ray_at j l h)) (told (j - length lines) (ray_below j l h)))

-- ---- the whole
module _ (rows lines rays : Rows) (sat table : Table) (flat : List ℕ) (marks : List Bool) (parts : Parts) (p : AreParts rows table flat parts) (sys : IsSystem (ConeOf rows.width rows.rows) (vectors lines.rows) (vectors rays.rows)) (lists : AreLists rows.width lines rays)
    (zeros : IsZeroTable rows.rows (length rows.rows) (vectors rays.rows) sat) (turned : table ≡ record { columns = length sat.rows; rows = transposed sat.columns sat.rows; spare = 0 }) (full : TellsFull table.rows marks) (marked_are : map (row_at rows.rows) flat ≡ marked marks (vectors rows.rows)) where
  pub tells : TellsRows rows.rows (vectors rays.rows) table.rows
  tells = subst (λ (bs : List (List Bool)). TellsRows rows.rows (vectors rays.rows) bs) (sym (ap (λ (t : Table). t.rows) turned)) (turned_tells rows.rows (vectors rays.rows) sat zeros)

  rows_wide : All (λ (row : Row). length row.0 ≡ rows.width) rows.rows
  rows_wide i d h = (p.rows_fit.each i d h).wide

  equalities_wide : All (λ (l : List ℤ). length l ≡ rows.width) (vectors parts.equalities.rows)
  equalities_wide = vectors_wide rows.width parts.equalities p.equalities_fit p.equalities_width

  marked_basis : IsBasis (marked marks (vectors rows.rows)) (vectors parts.equalities.rows)
  marked_basis = subst (λ (vs : List (List ℤ)). IsBasis vs (vectors parts.equalities.rows)) marked_are p.basis

  unsorted : IsSystem (ConeOf rows.width (system_rows (vectors lines.rows) (vectors rays.rows))) (vectors parts.equalities.rows) (vectors (rays_of rows parts).rows)
  unsorted = second_is_system rows.width rows.rows (vectors lines.rows) (vectors rays.rows) table.rows marks (vectors parts.equalities.rows) (vectors (rays_of rows parts).rows) parts.facets.items rows_wide sys tells full equalities_wide marked_basis p.greatest p.made

  same_list : system_rows (vectors lines.rows) (vectors rays.rows) ≡ lines.rows ++ rays.rows
  same_list = system_as lines.rows rays.rows lists.lines_marked lists.rays_marked

  reduced_size : length (rays_of rows parts).rows ≡ length parts.facets.items
  reduced_size = sym (length-vectors (rays_of rows parts).rows) ∙ p.made.as_many

  module _ (new_rays : Rows) (second : Table) (a : AreArranged (length lines.rows) table parts.facets.items (rays_of rows parts) new_rays second) where
    canon : Canon (ConeOf rows.width (lines.rows ++ rays.rows)) (vectors parts.equalities.rows) (vectors new_rays.rows)
    canon =
        subst (λ (vs : List (List ℤ)). Canon (ConeOf rows.width (lines.rows ++ rays.rows)) (vectors parts.equalities.rows) vs) (sym a.picked)
        (subst (λ (rs : List Row). Canon (ConeOf rows.width rs) (vectors parts.equalities.rows) (map (row_at (rays_of rows parts).rows) a.order)) same_list
        (upto_canon_from_sorted rows.width (system_rows (vectors lines.rows) (vectors rays.rows)) (length (system_rows (vectors lines.rows) (vectors rays.rows))) (vectors parts.equalities.rows) (vectors (rays_of rows parts).rows) (map (row_at (rays_of rows parts).rows) a.order) unsorted a.is_order.permutation a.is_order.in_order))

    table_row : (m : ℕ) → m < length a.order → TellsZeros (lines.rows ++ rays.rows) (length (lines.rows ++ rays.rows)) (vector_at (vectors new_rays.rows) m) (bits_of second.rows m)
    table_row m h =
        let n : ℕ = slice_index_or a.order m 0 in
        let in_reduced : n < length (rays_of rows parts).rows = a.is_order.within m 0 h in
        let in_indices : n < length parts.facets.items = omega (arith, in_reduced, reduced_size) in
        let member : ConeOf rows.width (system_rows (vectors lines.rows) (vectors rays.rows)) (vector_at (vectors (rays_of rows parts).rows) n) = unsorted.generates.rays_within n [] (omega (arith, in_reduced, length-vectors (rays_of rows parts).rows)) in
        let told : TellsZeros (lines.rows ++ rays.rows) (length (lines.rows ++ rays.rows)) (vector_at (vectors (rays_of rows parts).rows) n) (behind_lines (length (vectors lines.rows)) (bits_of table.rows (slice_index_or parts.facets.items n 0))) =
        behind_tells rows.width (vectors lines.rows) (vectors rays.rows) (lines.rows ++ rays.rows) (vector_at (vectors (rays_of rows parts).rows) n) (bits_of table.rows (slice_index_or parts.facets.items n 0)) (sym same_list) member
        (second_bits_wide rows.width rows.rows (vectors lines.rows) (vectors rays.rows) table.rows marks (vectors parts.equalities.rows) (vectors (rays_of rows parts).rows) parts.facets.items rows_wide sys tells full equalities_wide marked_basis p.greatest p.made n in_indices)
        (λ j b. second_zero rows.width rows.rows (vectors lines.rows) (vectors rays.rows) table.rows marks (vectors parts.equalities.rows) (vectors (rays_of rows parts).rows) parts.facets.items rows_wide sys tells full equalities_wide marked_basis p.greatest p.made n j in_indices b) in
        let vector : vector_at (vectors new_rays.rows) m ≡ vector_at (vectors (rays_of rows parts).rows) n = ap (λ (vs : List (List ℤ)). vector_at vs m) a.picked ∙ get_or-map (row_at (rays_of rows parts).rows) a.order m 0 [] h ∙ sym (vector_at-vectors (rays_of rows parts).rows n) in
        let bits : bits_of second.rows m ≡ behind_lines (length (vectors lines.rows)) (bits_of table.rows (slice_index_or parts.facets.items n 0)) =
        ap (λ (bs : List (List Bool)). bits_of bs m) a.rows ∙ get_or-map (λ (i : ℕ). behind_lines (length lines.rows) (bits_of table.rows (slice_index_or parts.facets.items i 0))) a.order m 0 [] h
        ∙ ap (λ (k : ℕ). behind_lines k (bits_of table.rows (slice_index_or parts.facets.items n 0))) (sym (length-vectors lines.rows)) in
        subst (λ (v : List ℤ). TellsZeros (lines.rows ++ rays.rows) (length (lines.rows ++ rays.rows)) v (bits_of second.rows m)) (sym vector)
        (subst (λ (bs : List Bool). TellsZeros (lines.rows ++ rays.rows) (length (lines.rows ++ rays.rows)) (vector_at (vectors (rays_of rows parts).rows) n) bs) (sym bits) told)

    rays_size : length (vectors new_rays.rows) ≡ length a.order
    rays_size = ap (λ (vs : List (List ℤ)). length vs) a.picked ∙ length-map a.order (row_at (rays_of rows parts).rows)

    table_size : length second.rows ≡ length a.order
    table_size = ap (λ (bs : List (List Bool)). length bs) a.rows ∙ length-map a.order (λ (i : ℕ). behind_lines (length lines.rows) (bits_of table.rows (slice_index_or parts.facets.items i 0)))

    zero_table : IsZeroTable (lines.rows ++ rays.rows) (length (lines.rows ++ rays.rows)) (vectors new_rays.rows) second
    zero_table = record {
      columns = a.columns ∙ ap (λ (k : ℕ). length lines.rows + k) (ap (λ (t : Table). t.columns) turned ∙ zeros.each.as_many ∙ length-vectors rays.rows) ∙ sym (length-append lines.rows rays.rows);
      each = record {
        as_many = table_size ∙ sym rays_size;
        each = λ m d e h.
            let b : m < length a.order = omega (arith, h, rays_size) in
            subst (λ (v : List ℤ). TellsZeros (lines.rows ++ rays.rows) (length (lines.rows ++ rays.rows)) v (slice_index_or second.rows m e)) (get_or_default (vectors new_rays.rows) m [] d h)
            (subst (λ (bs : List Bool). TellsZeros (lines.rows ++ rays.rows) (length (lines.rows ++ rays.rows)) (vector_at (vectors new_rays.rows) m) bs) (get_or_default second.rows m [] e (omega (arith, b, table_size))) (table_row m b));
      };
    }

    pub whole : (new_lines : Rows) → new_lines ≡ parts.equalities → IsSystemOf rows.width (lines.rows ++ rays.rows) new_lines new_rays second
    whole new_lines is = subst (λ (ls : Rows). IsSystemOf rows.width (lines.rows ++ rays.rows) ls new_rays second) (sym is) (record {
      canon = canon;
      lists = record { lines_wide = p.equalities_width; rays_wide = a.width ∙ p.rays_width; lines_marked = p.equalities_marked; rays_marked = a.marks };
      zeros = zero_table;
    })

  -- the answer of the arrangement
  pub done_from_arranged : (simplified : Simplified) → IsArranged (length lines.rows) rows table parts simplified → IsDone rows.width (lines.rows ++ rays.rows) simplified
  done_from_arranged (Done new_lines new_rays second) a = whole new_rays second a.1 new_lines a.0
  done_from_arranged (Left left right column) a = absurd a
