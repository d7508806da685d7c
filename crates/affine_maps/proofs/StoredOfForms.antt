-- What is stored of two systems that are canonical but for order, once they are sorted.
use Rattle.std.proofs.Common.{◌≡◌, inr, ℕ, ◌+◌, ◌<◌, true, not, List, [], ◌∷◌, ◌++◌, length, map, filter, ℤ, pos, ◌≤ℤ◌, ◌<ℤ◌, sym, ap, ◌∙◌, subst, arith}
use Rattle.std.specs.Prelude.{All, Contains, IsPermutation, slice_index_or}
use Rattle.std.proofs.lemmas.List.{length-append, get_or_default}
use Rattle.std.proofs.lemmas.List.Elements.{All-from_get_or, All-filter, filter_passes, Contains-get_or}
use Rattle.std.proofs.lemmas.List.Sorted.{Contains-permutation, IsPermutation-sym, All-permutation}
use Rattle.row_core.specs.Vectors.{cell, dot}
use Rattle.row_core.specs.Content.{IsPrimitive}
use Rattle.row_core.specs.Lists.{Row, Rows, row_at, vectors, vector_at, system_rows}
use Rattle.row_core.specs.Orders.{AreInOrder}
use Rattle.row_core.proofs.RowListLemmas.{length-vectors}
use Rattle.cone_laws.specs.Canon.{Canon, IsIrredundant, IsSystem}
use Rattle.cone_laws.specs.Members.{ConeOf}
use Rattle.cone_laws.proofs.Rearranging.{irredundant_apart, irredundant_rearranged, sorted_from_weak}
use Rattle.cone_laws.proofs.SortedLists.{IsDescending, IsWithin, descending_from_sorted, descending_same}
use Rattle.cone_laws.proofs.SystemLists.{met_line, met_ray, cone_of_system}
use Rattle.cone_laws.proofs.UniqueSystems.{system_unique, upto_cone, upto_canon_from_sorted}
use Rattle.cone_laws.proofs.ValidRows.{valid_is_dual}
use Rattle.cone_laws.proofs.MemberLemmas.{same_cone}
use Rattle.cons_sys.specs.Constraints.{Constraints}
use Rattle.cons_sys.specs.declared.kind.ConKind.TheVariants.{Eq, Ge}
use Rattle.gens_sys.specs.Generators.{Generator, Generators}
use Rattle.sat_matrix.specs.Tables.{Table}
use Rattle.sat_matrix.specs.ZeroTables.{IsZeroTable}
use Rattle.stored_systems.specs.StoredForms.{is_divisor_row, stored_constraints, stored_generators, AreClosedSystems, IsStored}
use Rattle.stored_systems.specs.WorkLists.{divisor_row, HasPoint, generator_row, generator_list}
use Rattle.stored_systems.specs.Zeros.{ArePairZeros, kept_inequalities}
use Rattle.stored_systems.proofs.CanonicalSystems.{HasCanon, has_canon}
use Rattle.stored_systems.proofs.StartSystems.{kept_all}
use Rattle.stored_systems.proofs.StoredPair.{gen_list_stored}
use Rattle.stored_systems.proofs.ZeroTables.{pair_table}
use Rattle.poly_pair.specs.declared.topology.Topology.TheVariants.{Closed}
use Rattle.affine_maps.specs.FormedPairs.{IsFormedPair, IsOfForms}
use Rattle.affine_maps.specs.MovedTables.{place_in, IsOrderOver, AreSortedBy, IsTableMoved}
use Rattle.poly_pair.specs.Polyhedra.{Polyhedron}
use Rattle.affine_maps.specs.declared.orders.Order.{Order}
use Rattle.affine_maps.proofs.FilteredLists.{within_filter, filter_contains, descending_filter, irredundant_filter}
use Rattle.affine_maps.proofs.MovedTables.{place_below, same_at, moved_zeros, row_of_system, length-system_rows, indices_many, indices_within, sorted_at, sorted_many}

point_permuted : (dim : ℕ) (xs ys : List (List ℤ)) → IsPermutation xs ys → HasPoint dim xs → HasPoint dim ys
point_permuted dim xs ys p h = by_place (Contains-permutation xs ys (vector_at xs h.index) p (Contains-get_or xs h.index [] h.below))
  where
    by_place : Contains ys (vector_at xs h.index) → HasPoint dim ys
    by_place (k, l, e) = record { index = k; below = l; positive = subst (λ (v : List ℤ). pos 0 <ℤ cell v dim) (sym (get_or_default ys k [] (vector_at xs h.index) l ∙ e)) h.positive }

module _ (dim : ℕ) (equalities inequalities lines rays : Rows) (zeros : Table) (f : IsFormedPair dim equalities inequalities lines rays zeros) (sorted_bounds sorted_rays : Rows) (rows columns : Order) (sb : AreSortedBy (1 + length equalities.rows) inequalities sorted_bounds rows) (sr : AreSortedBy (length lines.rows) rays sorted_rays columns) where
  -- ---- vectors
  rays_permuted : IsPermutation (vectors rays.rows) (vectors sorted_rays.rows)
  rays_permuted = subst (IsPermutation (vectors rays.rows)) (sym sr.picked) sr.is_order.permutation

  vectors_canon : Canon (ConeOf (dim + 1) (system_rows (vectors equalities.rows) f.all)) (vectors lines.rows) (vectors sorted_rays.rows)
  vectors_canon =
      upto_canon_from_sorted (dim + 1) (system_rows (vectors equalities.rows) f.all) (length (system_rows (vectors equalities.rows) f.all)) (vectors lines.rows) (vectors rays.rows) (vectors sorted_rays.rows) f.spans rays_permuted
      (subst AreInOrder (sym sr.picked) sr.is_order.in_order)

  spans_sorted : IsSystem (ConeOf (dim + 1) (system_rows (vectors equalities.rows) f.all)) (vectors lines.rows) (vectors sorted_rays.rows)
  spans_sorted = vectors_canon.system

  -- ---- rows
  pub found : HasCanon (dim + 1) (system_rows (vectors lines.rows) (vectors rays.rows))
  found = has_canon (dim + 1) (system_rows (vectors lines.rows) (vectors rays.rows))

  same : (vectors equalities.rows ≡ found.lines) × IsPermutation f.all found.rays
  same =
      system_unique (dim + 1) (ConeOf (dim + 1) (system_rows (vectors lines.rows) (vectors rays.rows))) (upto_cone (dim + 1) (system_rows (vectors lines.rows) (vectors rays.rows)) (length (system_rows (vectors lines.rows) (vectors rays.rows)))) (vectors equalities.rows) f.all found.lines found.rays f.bounds found.canon.system

  bounds_canon : Canon (ConeOf (dim + 1) (system_rows (vectors lines.rows) (vectors rays.rows))) (vectors equalities.rows) found.rays
  bounds_canon = subst (λ (ls : List (List ℤ)). Canon (ConeOf (dim + 1) (system_rows (vectors lines.rows) (vectors rays.rows))) ls found.rays) (sym same.0) found.canon

  -- the rows that the sorted rays admit
  valid_sorted : (a : List ℤ) → ConeOf (dim + 1) (system_rows (vectors lines.rows) (vectors rays.rows)) a → ConeOf (dim + 1) (system_rows (vectors lines.rows) (vectors sorted_rays.rows)) a
  valid_sorted a u =
      (valid_is_dual (dim + 1) (system_rows (vectors equalities.rows) f.all) (length (system_rows (vectors equalities.rows) f.all)) (vectors lines.rows) (vectors sorted_rays.rows) a spans_sorted.generates u.wide).0
      ((valid_is_dual (dim + 1) (system_rows (vectors equalities.rows) f.all) (length (system_rows (vectors equalities.rows) f.all)) (vectors lines.rows) (vectors rays.rows) a f.spans.generates u.wide).1 u)

  valid_unsorted : (a : List ℤ) → ConeOf (dim + 1) (system_rows (vectors lines.rows) (vectors sorted_rays.rows)) a → ConeOf (dim + 1) (system_rows (vectors lines.rows) (vectors rays.rows)) a
  valid_unsorted a u =
      (valid_is_dual (dim + 1) (system_rows (vectors equalities.rows) f.all) (length (system_rows (vectors equalities.rows) f.all)) (vectors lines.rows) (vectors rays.rows) a f.spans.generates u.wide).0
      ((valid_is_dual (dim + 1) (system_rows (vectors equalities.rows) f.all) (length (system_rows (vectors equalities.rows) f.all)) (vectors lines.rows) (vectors sorted_rays.rows) a spans_sorted.generates u.wide).1 u)

  rows_canon : Canon (ConeOf (dim + 1) (system_rows (vectors lines.rows) (vectors sorted_rays.rows))) (vectors equalities.rows) found.rays
  rows_canon =
      (same_cone (dim + 1) (system_rows (vectors lines.rows) (vectors rays.rows)) (length (system_rows (vectors lines.rows) (vectors rays.rows))) (system_rows (vectors lines.rows) (vectors sorted_rays.rows)) (length (system_rows (vectors lines.rows) (vectors sorted_rays.rows))) (vectors equalities.rows) found.rays
      (record { first = valid_sorted; second = valid_unsorted })).1 bounds_canon

  -- the vectors that the inequalities admit in any order
  admitted : (xs ys : List (List ℤ)) → IsPermutation xs ys → (v : List ℤ) → ConeOf (dim + 1) (system_rows (vectors equalities.rows) xs) v → ConeOf (dim + 1) (system_rows (vectors equalities.rows) ys) v
  admitted xs ys p v u =
      cone_of_system (dim + 1) (vectors equalities.rows) ys v u.wide
      (All-from_get_or (λ l. dot l v ≡ pos 0) (vectors equalities.rows) [] (met_line (dim + 1) (vectors equalities.rows) xs v u))
      (All-permutation (λ r. pos 0 ≤ℤ dot r v) xs ys p (All-from_get_or (λ r. pos 0 ≤ℤ dot r v) xs [] (met_ray (dim + 1) (vectors equalities.rows) xs v u)))

  vectors_dual : Canon (ConeOf (dim + 1) (system_rows (vectors equalities.rows) found.rays)) (vectors lines.rows) (vectors sorted_rays.rows)
  vectors_dual =
      (same_cone (dim + 1) (system_rows (vectors equalities.rows) f.all) (length (system_rows (vectors equalities.rows) f.all)) (system_rows (vectors equalities.rows) found.rays) (length (system_rows (vectors equalities.rows) found.rays)) (vectors lines.rows) (vectors sorted_rays.rows)
      (record { first = admitted f.all found.rays same.1; second = admitted found.rays f.all (IsPermutation-sym f.all found.rays same.1) })).1 vectors_canon

  pub systems : AreClosedSystems dim (vectors lines.rows) (vectors sorted_rays.rows) (vectors equalities.rows) found.rays
  systems = record {
    dual = record { vectors = vectors_dual; rows = rows_canon };
    divisor = valid_sorted (divisor_row dim) f.divisor;
    point = point_permuted dim (vectors rays.rows) (vectors sorted_rays.rows) rays_permuted f.point;
  }

  -- ---- the inequalities that are kept
  bounds_permuted : IsPermutation (vectors inequalities.rows) (vectors sorted_bounds.rows)
  bounds_permuted = subst (IsPermutation (vectors inequalities.rows)) (sym sb.picked) sb.is_order.permutation

  bounds_needed : IsIrredundant (vectors equalities.rows) (vectors inequalities.rows)
  bounds_needed = subst (IsIrredundant (vectors equalities.rows)) f.kept (irredundant_filter (λ r. not (is_divisor_row dim r)) (vectors equalities.rows) f.all f.bounds.irredundant)

  bounds_wide : All (λ (r : List ℤ). length r ≡ dim + 1) (vectors sorted_bounds.rows)
  bounds_wide =
      All-permutation (λ (r : List ℤ). length r ≡ dim + 1) (vectors inequalities.rows) (vectors sorted_bounds.rows) bounds_permuted
      (subst (All (λ (r : List ℤ). length r ≡ dim + 1)) f.kept (All-filter (λ r. not (is_divisor_row dim r)) (λ (r : List ℤ). length r ≡ dim + 1) f.all (λ i d h. (f.bounds.generates.rays_within i d h).wide)))

  pub bounds_primitive : All IsPrimitive (vectors sorted_bounds.rows)
  bounds_primitive =
      All-permutation IsPrimitive (vectors inequalities.rows) (vectors sorted_bounds.rows) bounds_permuted
      (subst (All IsPrimitive) f.kept (All-filter (λ r. not (is_divisor_row dim r)) IsPrimitive f.all f.bounds.primitive_rays))

  pub rays_primitive : All IsPrimitive (vectors sorted_rays.rows)
  rays_primitive = spans_sorted.primitive_rays

  bounds_descending : IsDescending (vectors sorted_bounds.rows)
  bounds_descending =
      descending_from_sorted (vectors sorted_bounds.rows)
      (sorted_from_weak (dim + 1) (vectors sorted_bounds.rows) bounds_wide
      (irredundant_apart (vectors equalities.rows) (vectors sorted_bounds.rows) (irredundant_rearranged (vectors equalities.rows) (vectors inequalities.rows) (vectors sorted_bounds.rows) bounds_permuted bounds_needed))
      (subst AreInOrder (sym sb.picked) sb.is_order.in_order))

  passes : (xs : List (List ℤ)) (u : List ℤ) → Contains (filter (λ r. not (is_divisor_row dim r)) xs) u → not (is_divisor_row dim u) ≡ true
  passes xs u (k, l, e) = subst (λ (v : List ℤ). not (is_divisor_row dim v) ≡ true) e (filter_passes (λ r. not (is_divisor_row dim r)) xs k u l)

  forth : IsWithin (kept_inequalities dim found.rays) (vectors sorted_bounds.rows)
  forth u m =
      Contains-permutation (vectors inequalities.rows) (vectors sorted_bounds.rows) u bounds_permuted
      (subst (λ (xs : List (List ℤ)). Contains xs u) f.kept
      (filter_contains (λ r. not (is_divisor_row dim r)) f.all u (Contains-permutation found.rays f.all u (IsPermutation-sym f.all found.rays same.1) (within_filter (λ r. not (is_divisor_row dim r)) found.rays u m)) (passes found.rays u m)))

  back : IsWithin (vectors sorted_bounds.rows) (kept_inequalities dim found.rays)
  back u m =
      let n : Contains (kept_inequalities dim f.all) u = subst (λ (xs : List (List ℤ)). Contains xs u) (sym f.kept) (Contains-permutation (vectors sorted_bounds.rows) (vectors inequalities.rows) u (IsPermutation-sym (vectors inequalities.rows) (vectors sorted_bounds.rows) bounds_permuted) m) in
      filter_contains (λ r. not (is_divisor_row dim r)) found.rays u (Contains-permutation f.all found.rays u same.1 (within_filter (λ r. not (is_divisor_row dim r)) f.all u n)) (passes f.all u n)

  pub bounds_kept : kept_inequalities dim found.rays ≡ vectors sorted_bounds.rows
  bounds_kept = descending_same (kept_inequalities dim found.rays) (vectors sorted_bounds.rows) (descending_filter (λ r. not (is_divisor_row dim r)) found.rays (descending_from_sorted found.rays found.canon.sorted)) bounds_descending forth back

  -- none of them is left out again
  pub sorted_kept : kept_inequalities dim (vectors sorted_bounds.rows) ≡ vectors sorted_bounds.rows
  sorted_kept =
      subst (λ (rs : List (List ℤ)). kept_inequalities dim rs ≡ rs) bounds_kept
      (kept_all dim (kept_inequalities dim found.rays) (λ i d h. filter_passes (λ r. not (is_divisor_row dim r)) found.rays i d h))

  same_stored : stored_constraints dim (vectors equalities.rows) (vectors sorted_bounds.rows) ≡ stored_constraints dim (vectors equalities.rows) found.rays
  same_stored = ap (λ (rs : List (List ℤ)). map (λ l. (l, Eq)) (vectors equalities.rows) ++ map (λ r. (r, Ge)) rs) (sorted_kept ∙ sym bounds_kept)

  -- ---- what is stored
  module _ (cs : Constraints) (gs : Generators) (cs_dim : cs.dim ≡ dim) (gs_dim : gs.dim ≡ dim) (cs_list : cs.list ≡ stored_constraints dim (vectors equalities.rows) (vectors sorted_bounds.rows)) (gs_list : gs.list ≡ stored_generators dim (vectors lines.rows) (vectors sorted_rays.rows)) where
    pub stored_pair : IsStored cs gs
    stored_pair = inr (record {
      same_dim = gs_dim ∙ sym cs_dim;
      lines = vectors lines.rows;
      rays = vectors sorted_rays.rows;
      equalities = vectors equalities.rows;
      inequalities = found.rays;
      systems = subst (λ (n : ℕ). AreClosedSystems n (vectors lines.rows) (vectors sorted_rays.rows) (vectors equalities.rows) found.rays) (sym cs_dim) systems;
      cons = cs_list ∙ same_stored ∙ ap (λ (n : ℕ). stored_constraints n (vectors equalities.rows) found.rays) (sym cs_dim);
      gens = gs_list ∙ ap (λ (n : ℕ). stored_generators n (vectors lines.rows) (vectors sorted_rays.rows)) (sym cs_dim);
    })

    pub of_forms : (p : Polyhedron) → p.topology ≡ Closed → p.cons ≡ cs → p.gens ≡ gs → IsOfForms dim equalities inequalities lines rays p
    of_forms p closed cons gens = record {
      over = record { same_topology = closed; same_dim = ap (λ (c : Constraints). c.dim) cons ∙ cs_dim };
      ordered = vectors sorted_rays.rows;
      permutation = rays_permuted;
      bounds = found.rays;
      systems = systems;
      stored = record {
        cons = ap (λ (c : Constraints). c.list) cons ∙ cs_list ∙ same_stored;
        gens = ap (λ (g : Generators). g.list) gens ∙ gs_list;
      };
    }

  -- ---- the table
  front_many : 1 + length equalities.rows ≡ length (divisor_row dim ∷ vectors equalities.rows)
  front_many = omega (arith, length-vectors equalities.rows)

  line_many : length lines.rows ≡ length (vectors lines.rows)
  line_many = sym (length-vectors lines.rows)

  row_stay : (i : ℕ) → i < length (divisor_row dim ∷ vectors equalities.rows) → place_in rows i ≡ i
  row_stay i h = sb.stay i (omega (arith, h, front_many))

  row_moved : (i : ℕ) → i < length (vectors inequalities.rows) → place_in rows (length (divisor_row dim ∷ vectors equalities.rows) + i) ≡ length (divisor_row dim ∷ vectors equalities.rows) + slice_index_or sb.indices i 0
  row_moved i h = subst (λ (n : ℕ). place_in rows (n + i) ≡ n + slice_index_or sb.indices i 0) front_many (sb.moved i (omega (arith, h, length-vectors inequalities.rows)))

  column_stay : (i : ℕ) → i < length (vectors lines.rows) → place_in columns i ≡ i
  column_stay i h = sr.stay i (omega (arith, h, line_many))

  column_moved : (i : ℕ) → i < length (vectors rays.rows) → place_in columns (length (vectors lines.rows) + i) ≡ length (vectors lines.rows) + slice_index_or sr.indices i 0
  column_moved i h = subst (λ (n : ℕ). place_in columns (n + i) ≡ n + slice_index_or sr.indices i 0) line_many (sr.moved i (omega (arith, h, length-vectors rays.rows)))

  column_at : (j : ℕ) → j < length (system_rows (vectors lines.rows) (vectors rays.rows)) → (place_in columns j < length (system_rows (vectors lines.rows) (vectors rays.rows))) × (row_at (system_rows (vectors lines.rows) (vectors sorted_rays.rows)) j ≡ row_at (system_rows (vectors lines.rows) (vectors rays.rows)) (place_in columns j))
  column_at j h =
      let b : j < length (vectors lines.rows ++ vectors rays.rows) = omega (arith, h, length-system_rows (vectors lines.rows) (vectors rays.rows)) in
      let at = sorted_at (length lines.rows) rays sorted_rays columns sr in
      let within = indices_within (length lines.rows) rays sorted_rays columns sr in
      let many = indices_many (length lines.rows) rays sorted_rays columns sr in (
        omega (arith, place_below (vectors lines.rows) (vectors rays.rows) (vectors sorted_rays.rows) columns sr.indices within many at column_stay column_moved j b, length-system_rows (vectors lines.rows) (vectors rays.rows)),
        row_of_system (vectors lines.rows) (vectors sorted_rays.rows) j
            ∙ same_at (vectors lines.rows) (vectors rays.rows) (vectors sorted_rays.rows) columns sr.indices within many at column_stay column_moved j b
            ∙ sym (row_of_system (vectors lines.rows) (vectors rays.rows) (place_in columns j)),
      )

  row_is : (i : ℕ) → i < length (divisor_row dim ∷ vectors equalities.rows ++ vectors inequalities.rows) → (place_in rows i < length (divisor_row dim ∷ vectors equalities.rows ++ vectors inequalities.rows)) × (vector_at (divisor_row dim ∷ vectors equalities.rows ++ vectors sorted_bounds.rows) i ≡ vector_at (divisor_row dim ∷ vectors equalities.rows ++ vectors inequalities.rows) (place_in rows i))
  row_is i h =
      let at = sorted_at (1 + length equalities.rows) inequalities sorted_bounds rows sb in
      let within = indices_within (1 + length equalities.rows) inequalities sorted_bounds rows sb in
      let many = indices_many (1 + length equalities.rows) inequalities sorted_bounds rows sb in (
        place_below (divisor_row dim ∷ vectors equalities.rows) (vectors inequalities.rows) (vectors sorted_bounds.rows) rows sb.indices within many at row_stay row_moved i h,
        same_at (divisor_row dim ∷ vectors equalities.rows) (vectors inequalities.rows) (vectors sorted_bounds.rows) rows sb.indices within many at row_stay row_moved i h,
      )

  columns_many : length (system_rows (vectors lines.rows) (vectors sorted_rays.rows)) ≡ length (system_rows (vectors lines.rows) (vectors rays.rows))
  columns_many =
      omega (arith, length-system_rows (vectors lines.rows) (vectors sorted_rays.rows), length-system_rows (vectors lines.rows) (vectors rays.rows), length-append (vectors lines.rows) (vectors sorted_rays.rows), length-append (vectors lines.rows) (vectors rays.rows), sorted_many (length lines.rows) rays sorted_rays columns sr)

  rows_many : length (divisor_row dim ∷ vectors equalities.rows ++ vectors sorted_bounds.rows) ≡ length (divisor_row dim ∷ vectors equalities.rows ++ vectors inequalities.rows)
  rows_many =
      omega (arith, length-append (vectors equalities.rows) (vectors sorted_bounds.rows), length-append (vectors equalities.rows) (vectors inequalities.rows), sorted_many (1 + length equalities.rows) inequalities sorted_bounds rows sb)

  pub sorted_zeros : (new : Table) → IsTableMoved rows columns zeros new → IsZeroTable (system_rows (vectors lines.rows) (vectors sorted_rays.rows)) (length (system_rows (vectors lines.rows) (vectors sorted_rays.rows))) (divisor_row dim ∷ vectors equalities.rows ++ vectors sorted_bounds.rows) new
  sorted_zeros new moved =
      moved_zeros (system_rows (vectors lines.rows) (vectors rays.rows)) (system_rows (vectors lines.rows) (vectors sorted_rays.rows)) (divisor_row dim ∷ vectors equalities.rows ++ vectors inequalities.rows) (divisor_row dim ∷ vectors equalities.rows ++ vectors sorted_bounds.rows) zeros new rows columns columns_many rows_many column_at row_is moved f.zeros

  -- ---- the orders are of the table's rows and columns
  pub rows_over : IsOrderOver (length zeros.rows) rows
  rows_over =
      subst (λ (n : ℕ). IsOrderOver n rows)
      (let n : (1 + length equalities.rows) + length inequalities.rows ≡ length zeros.rows = omega (arith, f.zeros.each.as_many, length-append (vectors equalities.rows) (vectors inequalities.rows), length-vectors equalities.rows, length-vectors inequalities.rows) in n) sb.over

  pub columns_over : IsOrderOver zeros.columns columns
  columns_over =
      subst (λ (n : ℕ). IsOrderOver n columns)
      (let n : length lines.rows + length rays.rows ≡ zeros.columns = omega (arith, f.zeros.columns, length-system_rows (vectors lines.rows) (vectors rays.rows), length-append (vectors lines.rows) (vectors rays.rows), length-vectors lines.rows, length-vectors rays.rows) in n) sr.over

  module _ (cs : Constraints) (gs : Generators) (cs_dim : cs.dim ≡ dim) (gs_dim : gs.dim ≡ dim) (cs_list : cs.list ≡ stored_constraints dim (vectors equalities.rows) (vectors sorted_bounds.rows)) (gs_list : gs.list ≡ stored_generators dim (vectors lines.rows) (vectors sorted_rays.rows)) where
    generators_listed : generator_list gs ≡ system_rows (vectors lines.rows) (vectors sorted_rays.rows)
    generators_listed = ap (λ (list : List Generator). map generator_row list) gs_list ∙ gen_list_stored dim (vectors lines.rows) (vectors sorted_rays.rows)

    pub pair_zeros : (new : Table) → IsTableMoved rows columns zeros new → ArePairZeros cs gs new
    pair_zeros new moved =
        pair_table dim cs gs (vectors equalities.rows) (vectors sorted_bounds.rows) new cs_dim gs_dim cs_list
        (subst (λ (n : ℕ). IsZeroTable (generator_list gs) (length (generator_list gs)) (divisor_row n ∷ vectors equalities.rows ++ kept_inequalities n (vectors sorted_bounds.rows)) new) (sym gs_dim)
        (subst (λ (vs : List (List ℤ)). IsZeroTable (generator_list gs) (length (generator_list gs)) (divisor_row dim ∷ vectors equalities.rows ++ vs) new) (sym sorted_kept)
        (subst (λ (list : List Row). IsZeroTable list (length list) (divisor_row dim ∷ vectors equalities.rows ++ vectors sorted_bounds.rows) new) (sym generators_listed) (sorted_zeros new moved))))
