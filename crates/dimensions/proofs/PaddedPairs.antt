-- The stored pair of a closed set with more variables, which are 0 or free.
use Rattle.std.proofs.Common.{◌≡◌, ◌≢◌, ◌⊎◌, inl, inr, ℕ, ◌+◌, ◌-◌, ◌<◌, ◌≤◌, List, [], ◌∷◌, ◌++◌, length, map, filter, not, slice_index_or, true, false, ℤ, pos, ◌*ℤ◌, ◌≤ℤ◌, All, refl, sym, ap, ◌∙◌, subst, arith}
use Rattle.std.specs.List.{range_with_len}
use Rattle.std.proofs.lemmas.Int.{ints}
use Rattle.std.proofs.lemmas.Bool.{cases_lt, cases_eq}
use Rattle.std.proofs.lemmas.List.{map-append, length-append, length-map, append-nil, get_or_append_left, get_or_past}
use Rattle.std.proofs.lemmas.List.Elements.{All-head, All-append, All-map, filter-append}
use Rattle.std.proofs.lemmas.List.FromFn.{length-range_with_len, length-map-range_with_len, get_or-range_with_len, get_or-map-range_with_len}
use Rattle.row_core.specs.Vectors.{cell, dot}
use Rattle.row_core.specs.Lists.{Row, row_at, vectors}
use Rattle.row_core.proofs.Ring.{zero_of_mul}
use Rattle.cone_laws.specs.Cones.{Meets, negated}
use Rattle.cone_laws.specs.Canon.{vector_at, IsEchelon, IsSystem}
use Rattle.cone_laws.specs.Duality.{lines_of, rays_of}
use Rattle.cone_laws.specs.Members.{ConeOf}
use Rattle.cone_laws.proofs.Columns.{cell-negated, dot_comm, dot-multiple}
use Rattle.cone_laws.proofs.MemberLemmas.{cone_meets, cone_from, rows_of_both, zero_of_signs}
use Rattle.cone_laws.proofs.UniqueSystems.{upto_cone}
use Rattle.cons_sys.specs.declared.kind.ConKind.TheVariants.{Eq}
use Rattle.cons_sys.specs.Constraints.{Constraint, Constraints}
use Rattle.gens_sys.specs.declared.kind.GenKind.TheVariants.{Line}
use Rattle.gens_sys.specs.Generators.{Generator, Generators, FitDimension}
use Rattle.sat_matrix.specs.Tables.{Table}
use Rattle.sat_matrix.specs.ZeroTables.{IsZeroTable}
use Rattle.stored_systems.specs.PointSets.{IsClosedKind, IsClosedGenKind, AreClosed, AreClosedKinds}
use Rattle.stored_systems.specs.WorkLists.{divisor_row, constraint_row, generator_row, constraint_list, generator_list}
use Rattle.stored_systems.proofs.DivisorRow.{dot_divisor}
use Rattle.stored_systems.proofs.ListLemmas.{All-unmap}
use Rattle.poly_pair.specs.declared.topology.Topology.{Topology}
use Rattle.poly_pair.specs.declared.topology.Topology.TheVariants.{Closed}
use Rattle.stored_systems.specs.Axes.{axis}
use Rattle.poly_pair.specs.FirstLists.{HasPointKind}
use Rattle.poly_pair.specs.Polyhedra.{Polyhedron, IsKept, IsStoredAs}
use Rattle.poly_pair.specs.Starts.{CanStart}
use Rattle.poly_pair.specs.Zeros.{KeepsZeros}
use Rattle.poly_pair.proofs.PointKinds.{some_point}
use Rattle.stored_systems.proofs.UniverseLemmas.{length-axis}
use Rattle.poly_pair.proofs.StoredLemmas.{no_element, kept_dim}
use Rattle.mapped_systems.specs.Maps.{with_zeros, without}
use Rattle.mapped_systems.specs.MappedLists.{AreMapped, ArePulled, IsMappedSystem, IsPulledSystem}
use Rattle.mapped_systems.specs.CarriedSystems.{AdmitSources}
use Rattle.poly_pair.specs.DoubleDescriptions.{IsDoubleDescription}
use Rattle.dimensions.specs.AddedVariables.{new_axes, zero_equalities, axis_lines, AreZeroBehind, AreFreeBehind, HasTrueRows, HasTrueColumns}
use Rattle.mapped_systems.proofs.ColumnLemmas.{cell-within, dot-with_zeros, cell-without_behind}
use Rattle.mapped_systems.proofs.LinearMaps.{behind_value, one_is}
use Rattle.dimensions.proofs.MappedResults.{mapped_kinds, mapped_point}
use Rattle.dimensions.proofs.PulledResults.{pulled_kinds}
use Rattle.mapped_systems.proofs.StoredPairs.{pair_form, generator_wide, row_wide, stored_system}
use Rattle.mapped_systems.proofs.CarriedSystems.{extended, extended_alone}
use Rattle.mapped_systems.proofs.CarriedLists.{AreAllCarried, IsTurned, all_carried, stays_direction, AreAllTurned, all_turned, with_divisor, admit_sources, zeros_turned}
use Rattle.dimensions.proofs.PaddedSystems.{padding, zero_cell, padded_echelon, axes_echelon, axis_value, new_axis, axis_below, cut_axis, free_extension, zero_extension}
use Rattle.dimensions.proofs.TrueTables.{more_rows, more_columns}

-- ---- lists of axes
equality_rows : (a : ℕ → List ℤ) (js : List ℕ) → map constraint_row (map (λ j. (a j, Eq)) js) ≡ map (λ j. (a j, true)) js
equality_rows a [] = refl
equality_rows a (j ∷ js) = ap (λ (rs : List Row). (a j, true) ∷ rs) (equality_rows a js)

equality_vectors : (a : ℕ → List ℤ) (js : List ℕ) → vectors (map (λ j. (a j, true)) js) ≡ map a js
equality_vectors a [] = refl
equality_vectors a (j ∷ js) = ap (λ (vs : List (List ℤ)). a j ∷ vs) (equality_vectors a js)

line_rows : (a : ℕ → List ℤ) (js : List ℕ) → map generator_row (map (λ j. (a j, Line)) js) ≡ map (λ j. (a j, true)) js
line_rows a [] = refl
line_rows a (j ∷ js) = ap (λ (rs : List Row). (a j, true) ∷ rs) (line_rows a js)

axes_are_lines : (a : ℕ → List ℤ) (js : List ℕ) → lines_of (map (λ j. (a j, true)) js) ≡ map a js
axes_are_lines a [] = refl
axes_are_lines a (j ∷ js) = ap (λ (vs : List (List ℤ)). a j ∷ vs) (axes_are_lines a js)

axes_are_no_rays : (a : ℕ → List ℤ) (js : List ℕ) → rays_of (map (λ j. (a j, true)) js) ≡ []
axes_are_no_rays a [] = refl
axes_are_no_rays a (j ∷ js) = axes_are_no_rays a js

closed_equalities : (a : ℕ → List ℤ) (js : List ℕ) → All (λ (c : Constraint). IsClosedKind c.1) (map (λ j. (a j, Eq)) js)
closed_equalities a js = All-map (λ (c : Constraint). IsClosedKind c.1) (λ j. (a j, Eq)) js (λ i d b. tt)

closed_lines : (a : ℕ → List ℤ) (js : List ℕ) → All (λ (g : Generator). IsClosedGenKind g.1) (map (λ j. (a j, Line)) js)
closed_lines a js = All-map (λ (g : Generator). IsClosedGenKind g.1) (λ j. (a j, Line)) js (λ i d b. tt)

lines_of-append : (xs ys : List Row) → lines_of (xs ++ ys) ≡ lines_of xs ++ lines_of ys
lines_of-append xs ys = ap (map (λ (g : Row). g.0)) (filter-append (λ (g : Row). g.1) xs ys) ∙ map-append (λ (g : Row). g.0) (filter (λ (g : Row). g.1) xs) (filter (λ (g : Row). g.1) ys)

rays_of-append : (xs ys : List Row) → rays_of (xs ++ ys) ≡ rays_of xs ++ rays_of ys
rays_of-append xs ys = ap (map (λ (g : Row). g.0)) (filter-append (λ (g : Row). not g.1) xs ys) ∙ map-append (λ (g : Row). g.0) (filter (λ (g : Row). not g.1) xs) (filter (λ (g : Row). not g.1) ys)

-- ---- the cone of a constraint list
no_value : (a v : List ℤ) → ((j : ℕ) → cell v j ≡ pos 0) → dot a v ≡ pos 0
no_value a v z = dot-multiple a v v (pos 0) (λ j. z j ∙ sym (none (cell v j))) ∙ none (dot a v)
  where
    none : (x : ℤ) → pos 0 *ℤ x ≡ pos 0
    none x = omega (arith, ints)

origin_in : (width : ℕ) (rows : List Row) (v : List ℤ) → length v ≡ width → ((j : ℕ) → cell v j ≡ pos 0) → ConeOf width rows v
origin_in width rows v w z = cone_from width rows v w (λ i d b. by (slice_index_or rows i d))
  where
    by : (r : Row) → Meets v r
    by (a, true) = no_value a v z
    by (a, false) = subst (λ (x : ℤ). pos 0 ≤ℤ x) (sym (no_value a v z)) (omega (arith, ints))

divisor_least : (n : ℕ) (rows : List Row) (v : List ℤ) → ConeOf (n + 1) ((divisor_row n, false) ∷ rows) v → pos 0 ≤ℤ cell v n
divisor_least n rows v u = subst (λ (x : ℤ). pos 0 ≤ℤ x) (dot_divisor n v) (All-head (Meets v) (divisor_row n, false) rows (cone_meets (n + 1) ((divisor_row n, false) ∷ rows) v u))

-- a row that is 0 at the new columns, since its value is that of another at the columns left
turned_axis : (n k i : ℕ) → i < k → (old new : List ℤ) → IsTurned ((n + k) + 1) (without n (n + k)) old new → dot new (axis (n + k) (n + i)) ≡ pos 0
turned_axis n k i b old new t =
    zero_of_mul t.times (dot new (axis (n + k) (n + i))) t.positive
    (t.value (axis (n + k) (n + i)) (length-axis (n + k) (n + i) (omega (arith, b))) ∙ no_value old (without n (n + k) (axis (n + k) (n + i))) (cut_axis n k (n + i) (omega arith) (omega (arith, b))))

-- ---- the padded lists
module _ (p : Polyhedron) (k : IsKept p) (gens_fit : FitDimension p.gens) (can : CanStart p) (count : ℕ) where
  module _ (front : List Generator) (m : AreMapped (with_zeros p.cons.dim count) p.gens.list front) where
    carried : AreAllCarried (with_zeros p.cons.dim count) p.gens.list front
    carried = all_carried (with_zeros p.cons.dim count) p.gens.list front m (λ j d b. stays_direction (p.cons.dim + 1) ((p.cons.dim + count) + 1) (with_zeros p.cons.dim count) (without p.cons.dim (p.cons.dim + count)) (padding p.cons.dim count) (slice_index_or p.gens.list j d).1 (slice_index_or p.gens.list j d).0 (generator_wide p.cons.dim p.gens (kept_dim p k) gens_fit j d b) (gens_fit.each j d b).nonzero)

    padded_point : HasPointKind front
    padded_point = some_point front (λ e. can.some (none e)) (mapped_point (with_zeros p.cons.dim count) (p.cons.dim + count) p (record { dim = p.cons.dim + count; list = front }) k (record { same_dim = refl; mapped = m }))
      where
        none : front ≡ [] → p.gens.list ≡ []
        none e =
            let new : length front ≡ 0 = ap length e in
            no_element p.gens.list (omega (arith, carried.rows.as_many, length-map front generator_row, length-map p.gens.list generator_row, new))

    old_line_wide : (i : ℕ) → i < length (lines_of (generator_list p.gens)) → length (vector_at (lines_of (generator_list p.gens)) i) ≡ p.cons.dim + 1
    old_line_wide i b = ((stored_system p.cons p.gens (pair_form p.cons p.gens (subst (λ (t : Topology). IsStoredAs t p.cons p.gens) can.closed k.stored) can.some)).generates.lines_within i [] b).0.wide

    old_ray_wide : (i : ℕ) → i < length (rays_of (generator_list p.gens)) → length (vector_at (rays_of (generator_list p.gens)) i) ≡ p.cons.dim + 1
    old_ray_wide i b = ((stored_system p.cons p.gens (pair_form p.cons p.gens (subst (λ (t : Topology). IsStoredAs t p.cons p.gens) can.closed k.stored) can.some)).generates.rays_within i [] b).wide

    echelon : IsEchelon (lines_of (map generator_row front)) (rays_of (map generator_row front))
    echelon = padded_echelon p.cons.dim count (lines_of (generator_list p.gens)) (rays_of (generator_list p.gens)) (lines_of (map generator_row front)) (rays_of (map generator_row front)) carried.lines carried.rays old_line_wide old_ray_wide (stored_system p.cons p.gens (pair_form p.cons p.gens (subst (λ (t : Topology). IsStoredAs t p.cons p.gens) can.closed k.stored) can.some)).echelon

    -- the rows are 0 at the new columns
    row_gone : (i j : ℕ) → i < length (map generator_row front) → p.cons.dim ≤ j → j < p.cons.dim + count → cell (row_at (map generator_row front) i) j ≡ pos 0
    row_gone i j b g l =
        let o : i < length (generator_list p.gens) = omega (arith, b, carried.rows.as_many) in
        let w : length (row_at (generator_list p.gens) i) ≡ p.cons.dim + 1 = row_wide p.cons.dim p.gens (kept_dim p k) gens_fit i o in
        zero_cell p.cons.dim count (row_at (generator_list p.gens) i) (row_at (map generator_row front) i) (carried.rows.each i ([], false) ([], false) o) w j (cell-within p.cons.dim count (row_at (generator_list p.gens) i) j (omega (arith, w)) g l)

    ray_gone : (i j : ℕ) → i < length (rays_of (map generator_row front)) → p.cons.dim ≤ j → j < p.cons.dim + count → cell (vector_at (rays_of (map generator_row front)) i) j ≡ pos 0
    ray_gone i j b g l =
        let o : i < length (rays_of (generator_list p.gens)) = omega (arith, b, carried.rays.as_many) in
        zero_cell p.cons.dim count (vector_at (rays_of (generator_list p.gens)) i) (vector_at (rays_of (map generator_row front)) i) (carried.rays.each i [] [] o) (old_ray_wide i o) j (cell-within p.cons.dim count (vector_at (rays_of (generator_list p.gens)) i) j (omega (arith, old_ray_wide i o)) g l)

    -- a line is 0 at the divisor
    line_divisor : (i : ℕ) → i < length (lines_of (generator_list p.gens)) → cell (vector_at (lines_of (generator_list p.gens)) i) p.cons.dim ≡ pos 0
    line_divisor i b =
        let l : List ℤ = vector_at (lines_of (generator_list p.gens)) i in
        let h = (stored_system p.cons p.gens (pair_form p.cons p.gens (subst (λ (t : Topology). IsStoredAs t p.cons p.gens) can.closed k.stored) can.some)).generates.lines_within i [] b in
        zero_of_signs (cell l p.cons.dim) (cell (negated l) p.cons.dim) (divisor_least p.cons.dim (map constraint_row p.cons.list) l h.0) (divisor_least p.cons.dim (map constraint_row p.cons.list) (negated l) h.1) (cell-negated l p.cons.dim)

    past_variables : (i : ℕ) → i < length (lines_of (generator_list p.gens)) → (j : ℕ) → p.cons.dim ≤ j → (j ≡ p.cons.dim) ⊎ (j ≢ p.cons.dim) → cell (vector_at (lines_of (generator_list p.gens)) i) j ≡ pos 0
    past_variables i b j g (inl e) = ap (cell (vector_at (lines_of (generator_list p.gens)) i)) e ∙ line_divisor i b
    past_variables i b j g (inr ne) = get_or_past (vector_at (lines_of (generator_list p.gens)) i) j (pos 0) (omega (arith, g, ne, old_line_wide i b))

    line_gone : (i j : ℕ) → i < length (lines_of (map generator_row front)) → p.cons.dim ≤ j → cell (vector_at (lines_of (map generator_row front)) i) j ≡ pos 0
    line_gone i j b g =
        let o : i < length (lines_of (generator_list p.gens)) = omega (arith, b, carried.lines.as_many) in
        zero_cell p.cons.dim count (vector_at (lines_of (generator_list p.gens)) i) (vector_at (lines_of (map generator_row front)) i) (carried.lines.each i [] [] o) (old_line_wide i o) j (by o (cases_lt j (p.cons.dim + count)))
      where
        by : (o : i < length (lines_of (generator_list p.gens))) → (j < p.cons.dim + count) ⊎ (p.cons.dim + count ≤ j) → cell (with_zeros p.cons.dim count (vector_at (lines_of (generator_list p.gens)) i)) j ≡ pos 0
        by o (inl l) = cell-within p.cons.dim count (vector_at (lines_of (generator_list p.gens)) i) j (omega (arith, old_line_wide i o)) g l
        by o (inr h) = behind_value p.cons.dim count (vector_at (lines_of (generator_list p.gens)) i) (old_line_wide i o) j h ∙ past_variables i o (j - count) (omega (arith, h)) (cases_eq (j - count) p.cons.dim)

    pivot_before : (i : ℕ) → i < length (lines_of (map generator_row front)) → echelon.pivot i < p.cons.dim
    pivot_before i b = by (cases_lt (echelon.pivot i) p.cons.dim)
      where
        by : (echelon.pivot i < p.cons.dim) ⊎ (p.cons.dim ≤ echelon.pivot i) → echelon.pivot i < p.cons.dim
        by (inl l) = l
        by (inr g) =
            let z = line_gone i (echelon.pivot i) b g in
            let h = (echelon.pivots i b).positive in
            absurd (omega (arith, ints, z, h))

  module _ (front : List Constraint) (m : ArePulled (with_zeros p.cons.dim count) p.cons.list front) where
    turned : AreAllTurned ((p.cons.dim + count) + 1) (without p.cons.dim (p.cons.dim + count)) (constraint_list p.cons) ((divisor_row (p.cons.dim + count), false) ∷ map constraint_row front)
    turned =
        with_divisor p.cons.dim (p.cons.dim + count) (without p.cons.dim (p.cons.dim + count)) (pos 1) (map constraint_row p.cons.list) (map constraint_row front) (omega (arith, ints))
        (λ v w. cell-without_behind p.cons.dim count v p.cons.dim (omega arith) ∙ one_is (cell v (p.cons.dim + count)))
        (all_turned ((p.cons.dim + count) + 1) (with_zeros p.cons.dim count) (without p.cons.dim (p.cons.dim + count)) p.cons.list front m (λ j d b v w. dot-with_zeros p.cons.dim count (slice_index_or p.cons.list j d).0 v))

    admit : AdmitSources (p.cons.dim + 1) ((p.cons.dim + count) + 1) (without p.cons.dim (p.cons.dim + count)) (constraint_list p.cons) ((divisor_row (p.cons.dim + count), false) ∷ map constraint_row front)
    admit = admit_sources (p.cons.dim + 1) ((p.cons.dim + count) + 1) (without p.cons.dim (p.cons.dim + count)) (constraint_list p.cons) ((divisor_row (p.cons.dim + count), false) ∷ map constraint_row front) (padding p.cons.dim count).second_linear turned

  -- ---- the new variables are 0
  axes_meet : (v : List ℤ) → ConeOf ((p.cons.dim + count) + 1) (map (λ j. (axis (p.cons.dim + count) j, true)) (range_with_len p.cons.dim count)) v → (j : ℕ) → p.cons.dim ≤ j → j < p.cons.dim + count → cell v j ≡ pos 0
  axes_meet v u j g l =
      let i : j - p.cons.dim < count = omega (arith, g, l) in
      let e : p.cons.dim + (j - p.cons.dim) ≡ j = omega (arith, g) in
      let h = All-unmap (λ j. (axis (p.cons.dim + count) j, true)) (Meets v) (range_with_len p.cons.dim count) (cone_meets ((p.cons.dim + count) + 1) (map (λ j. (axis (p.cons.dim + count) j, true)) (range_with_len p.cons.dim count)) v u) (j - p.cons.dim) 0 (omega (arith, i, length-range_with_len p.cons.dim count)) in
      sym (axis_value (p.cons.dim + count) j v l) ∙ subst (λ (n : ℕ). dot (axis (p.cons.dim + count) n) v ≡ pos 0) (get_or-range_with_len p.cons.dim count (j - p.cons.dim) 0 i ∙ e) h

  meet_axes : (v : List ℤ) → length v ≡ (p.cons.dim + count) + 1 → ((j : ℕ) → p.cons.dim ≤ j → j < p.cons.dim + count → cell v j ≡ pos 0) → ConeOf ((p.cons.dim + count) + 1) (map (λ j. (axis (p.cons.dim + count) j, true)) (range_with_len p.cons.dim count)) v
  meet_axes v w z =
      cone_from ((p.cons.dim + count) + 1) (map (λ j. (axis (p.cons.dim + count) j, true)) (range_with_len p.cons.dim count)) v w
      (All-map (Meets v) (λ j. (axis (p.cons.dim + count) j, true)) (range_with_len p.cons.dim count) (λ i d b.
      let c : i < count = omega (arith, b, length-range_with_len p.cons.dim count) in
      subst (λ (n : ℕ). dot (axis (p.cons.dim + count) n) v ≡ pos 0) (sym (get_or-range_with_len p.cons.dim count i d c)) (axis_value (p.cons.dim + count) (p.cons.dim + i) v (omega (arith, c)) ∙ z (p.cons.dim + i) (omega arith) (omega (arith, c)))))

  module _ (gs : Generators) (m : IsMappedSystem (with_zeros p.cons.dim count) (p.cons.dim + count) p.gens gs) (cs : Constraints) (z : AreZeroBehind count p.cons cs) where
    abbrev first : List Row
    first = (divisor_row (p.cons.dim + count), false) ∷ map constraint_row z.front

    abbrev second : List Row
    second = map (λ j. (axis (p.cons.dim + count) j, true)) (range_with_len p.cons.dim count)

    listed : constraint_list cs ≡ first ++ second
    listed =
        ap (λ (d : ℕ). (divisor_row d, false) ∷ map constraint_row cs.list) z.same_dim
        ∙ ap (λ (xs : List Constraint). (divisor_row (p.cons.dim + count), false) ∷ map constraint_row xs) z.joined
        ∙ ap (λ (rs : List Row). (divisor_row (p.cons.dim + count), false) ∷ rs) (map-append constraint_row z.front (zero_equalities p.cons.dim count) ∙ ap (λ (rs : List Row). map constraint_row z.front ++ rs) (equality_rows (axis (p.cons.dim + count)) (range_with_len p.cons.dim count)))

    projected_system : IsSystem (ConeOf ((p.cons.dim + count) + 1) (first ++ second)) (lines_of (generator_list gs)) (rays_of (generator_list gs))
    projected_system =
        extended_alone (p.cons.dim + 1) ((p.cons.dim + count) + 1) (with_zeros p.cons.dim count) (without p.cons.dim (p.cons.dim + count)) (padding p.cons.dim count) (ConeOf (p.cons.dim + 1) (constraint_list p.cons)) (ConeOf ((p.cons.dim + count) + 1) (first ++ second)) (upto_cone (p.cons.dim + 1) (constraint_list p.cons) (length (constraint_list p.cons)))
        (zero_extension p.cons.dim count (ConeOf (p.cons.dim + 1) (constraint_list p.cons)) (ConeOf ((p.cons.dim + count) + 1) (first ++ second))
        (λ v u. (u.wide, (admit z.front z.pulled v u.wide).0 ((rows_of_both ((p.cons.dim + count) + 1) first second v).0 u).0))
        (λ v u. axes_meet v ((rows_of_both ((p.cons.dim + count) + 1) first second v).0 u).1)
        (λ v w g c. (rows_of_both ((p.cons.dim + count) + 1) first second v).1 ((admit z.front z.pulled v w).1 c, meet_axes v w g)))
        (lines_of (generator_list p.gens)) (rays_of (generator_list p.gens)) (lines_of (generator_list gs)) (rays_of (generator_list gs)) (carried gs.list m.mapped).lines (carried gs.list m.mapped).rays (stored_system p.cons p.gens (pair_form p.cons p.gens (subst (λ (t : Topology). IsStoredAs t p.cons p.gens) can.closed k.stored) can.some)) (echelon gs.list m.mapped)

    projected_zeros : (old table : Table) → KeepsZeros p old → HasTrueRows count old table → IsZeroTable (generator_list gs) (length (generator_list gs)) (vectors (first ++ second)) table
    projected_zeros old table keeps more =
        subst (λ (vs : List (List ℤ)). IsZeroTable (generator_list gs) (length (generator_list gs)) vs table) (sym (map-append (λ (row : Row). row.0) first second ∙ ap (λ (vs : List (List ℤ)). vectors first ++ vs) (equality_vectors (axis (p.cons.dim + count)) (range_with_len p.cons.dim count))))
        (more_rows (generator_list gs) (length (generator_list gs)) (vectors first) (new_axes p.cons.dim count) count old table (sym (length-map-range_with_len (axis (p.cons.dim + count)) p.cons.dim count))
        (zeros_turned (p.cons.dim + 1) ((p.cons.dim + count) + 1) (with_zeros p.cons.dim count) (without p.cons.dim (p.cons.dim + count)) (padding p.cons.dim count) (generator_list p.gens) (generator_list gs) (vectors (constraint_list p.cons)) (vectors first) old (carried gs.list m.mapped).rows (row_wide p.cons.dim p.gens (kept_dim p k) gens_fit) (turned z.front z.pulled).vectors (keeps can.closed can.some))
        more
        (λ i j b l.
        let c : i < count = axis_below p.cons.dim count i b in
        ap (dot (row_at (generator_list gs) j)) (new_axis p.cons.dim count i c) ∙ dot_comm (row_at (generator_list gs) j) (axis (p.cons.dim + count) (p.cons.dim + i)) ∙ axis_value (p.cons.dim + count) (p.cons.dim + i) (row_at (generator_list gs) j) (omega (arith, c)) ∙ row_gone gs.list m.mapped j (p.cons.dim + i) l (omega arith) (omega (arith, c))))

    pub projected_is_pair : (old table : Table) → KeepsZeros p old → HasTrueRows count old table → IsDoubleDescription cs gs table
    projected_is_pair old table keeps more = record {
      same_dim = m.same_dim ∙ sym z.same_dim;
      closed = subst (All (λ (c : Constraint). IsClosedKind c.1)) (sym z.joined) (All-append (λ (c : Constraint). IsClosedKind c.1) z.front (zero_equalities p.cons.dim count) front_closed (closed_equalities (axis (p.cons.dim + count)) (range_with_len p.cons.dim count)));
      kinds = mapped_kinds (with_zeros p.cons.dim count) Closed (p.cons.dim + count) p gs (sym can.closed) k m;
      system =
          subst (λ (rows : List Row). IsSystem (ConeOf (cs.dim + 1) rows) (lines_of (generator_list gs)) (rays_of (generator_list gs))) (sym listed)
          (subst (λ (d : ℕ). IsSystem (ConeOf (d + 1) (first ++ second)) (lines_of (generator_list gs)) (rays_of (generator_list gs))) (sym z.same_dim) projected_system);
      zeros = subst (λ (rows : List Row). IsZeroTable (generator_list gs) (length (generator_list gs)) (vectors rows) table) (sym listed) (projected_zeros old table keeps more);
      point = padded_point gs.list m.mapped;
    }
      where
        front_closed : AreClosed (record { dim = p.cons.dim + count; list = z.front })
        front_closed = pulled_kinds (with_zeros p.cons.dim count) Closed (p.cons.dim + count) p (record { dim = p.cons.dim + count; list = z.front }) (sym can.closed) k (record { same_dim = refl; pulled = z.pulled })

  -- ---- the new variables are free
  module _ (cs : Constraints) (m : IsPulledSystem (with_zeros p.cons.dim count) (p.cons.dim + count) p.cons cs) (gs : Generators) (f : AreFreeBehind count p.gens gs) where
    front_mapped : AreMapped (with_zeros p.cons.dim count) p.gens.list f.front
    front_mapped = subst (λ (n : ℕ). AreMapped (with_zeros n count) p.gens.list f.front) (kept_dim p k) f.mapped

    abbrev first_rows : List Row
    first_rows = map generator_row f.front

    abbrev added_rows : List Row
    added_rows = map (λ j. (axis (p.cons.dim + count) j, true)) (range_with_len p.cons.dim count)

    all_rows : generator_list gs ≡ first_rows ++ added_rows
    all_rows =
        ap (map generator_row) (f.joined ∙ ap (λ (n : ℕ). f.front ++ axis_lines n count) (kept_dim p k))
        ∙ map-append generator_row f.front (axis_lines p.cons.dim count)
        ∙ ap (λ (rs : List Row). map generator_row f.front ++ rs) (line_rows (axis (p.cons.dim + count)) (range_with_len p.cons.dim count))

    all_lines : lines_of (generator_list gs) ≡ lines_of first_rows ++ new_axes p.cons.dim count
    all_lines = ap lines_of all_rows ∙ lines_of-append first_rows added_rows ∙ ap (λ (vs : List (List ℤ)). lines_of first_rows ++ vs) (axes_are_lines (axis (p.cons.dim + count)) (range_with_len p.cons.dim count))

    all_rays : rays_of (generator_list gs) ≡ rays_of first_rows
    all_rays = ap rays_of all_rows ∙ rays_of-append first_rows added_rows ∙ ap (λ (vs : List (List ℤ)). rays_of first_rows ++ vs) (axes_are_no_rays (axis (p.cons.dim + count)) (range_with_len p.cons.dim count)) ∙ append-nil (rays_of first_rows)

    abbrev all_constraints : List Row
    all_constraints = (divisor_row (p.cons.dim + count), false) ∷ map constraint_row cs.list

    embedded_system : IsSystem (ConeOf ((p.cons.dim + count) + 1) all_constraints) (lines_of first_rows ++ new_axes p.cons.dim count) (rays_of first_rows)
    embedded_system =
        extended (p.cons.dim + 1) ((p.cons.dim + count) + 1) (with_zeros p.cons.dim count) (without p.cons.dim (p.cons.dim + count)) (padding p.cons.dim count) (new_axes p.cons.dim count) (ConeOf (p.cons.dim + 1) (constraint_list p.cons)) (ConeOf ((p.cons.dim + count) + 1) all_constraints) (upto_cone (p.cons.dim + 1) (constraint_list p.cons) (length (constraint_list p.cons)))
        (free_extension p.cons.dim count (ConeOf (p.cons.dim + 1) (constraint_list p.cons)) (ConeOf ((p.cons.dim + count) + 1) all_constraints) (λ v u. (u.wide, (admit cs.list m.pulled v u.wide).0 u)) (λ v w c. (admit cs.list m.pulled v w).1 c) (origin_in (p.cons.dim + 1) (constraint_list p.cons)))
        (lines_of (generator_list p.gens)) (rays_of (generator_list p.gens)) (lines_of (map generator_row f.front)) (rays_of (map generator_row f.front)) (carried f.front front_mapped).lines (carried f.front front_mapped).rays (stored_system p.cons p.gens (pair_form p.cons p.gens (subst (λ (t : Topology). IsStoredAs t p.cons p.gens) can.closed k.stored) can.some))
        (axes_echelon p.cons.dim count (lines_of (map generator_row f.front)) (rays_of (map generator_row f.front)) (echelon f.front front_mapped) (pivot_before f.front front_mapped) (λ i j b g l. line_gone f.front front_mapped i j b g) (ray_gone f.front front_mapped))

    -- the constraints are 0 on the axes
    axis_zero : (i j : ℕ) → i < length added_rows → j < length (vectors all_constraints) → dot (row_at added_rows i) (vector_at (vectors all_constraints) j) ≡ pos 0
    axis_zero i j b l =
        let c : i < count = omega (arith, b, length-map-range_with_len {X = Row} (λ j. (axis (p.cons.dim + count) j, true)) p.cons.dim count) in
        let old : j < length (vectors (constraint_list p.cons)) = omega (arith, l, (turned cs.list m.pulled).vectors.as_many) in
        let t = (turned cs.list m.pulled).vectors.each j [] [] old in
        let a : List ℤ = axis (p.cons.dim + count) (p.cons.dim + i) in
        ap (λ (r : Row). dot r.0 (vector_at (vectors all_constraints) j)) (get_or-map-range_with_len {X = Row} (λ j. (axis (p.cons.dim + count) j, true)) p.cons.dim count i (p.cons.dim + i) ([], false) c refl)
        ∙ dot_comm a (vector_at (vectors all_constraints) j)
        ∙ turned_axis p.cons.dim count i c (vector_at (vectors (constraint_list p.cons)) j) (vector_at (vectors all_constraints) j) t

    embedded_zeros : (old table : Table) → KeepsZeros p old → HasTrueColumns count old table → IsZeroTable (first_rows ++ added_rows) (length (first_rows ++ added_rows)) (vectors all_constraints) table
    embedded_zeros old table keeps more =
        more_columns first_rows added_rows (vectors all_constraints) count old table (added_many)
        (zeros_turned (p.cons.dim + 1) ((p.cons.dim + count) + 1) (with_zeros p.cons.dim count) (without p.cons.dim (p.cons.dim + count)) (padding p.cons.dim count) (generator_list p.gens) (map generator_row f.front) (vectors (constraint_list p.cons)) (vectors all_constraints) old (carried f.front front_mapped).rows (row_wide p.cons.dim p.gens (kept_dim p k) gens_fit) (turned cs.list m.pulled).vectors (keeps can.closed can.some))
        more axis_zero
      where
        added_many : count ≡ length added_rows
        added_many = sym (length-map-range_with_len {X = Row} (λ j. (axis (p.cons.dim + count) j, true)) p.cons.dim count)

    pub embedded_is_pair : (old table : Table) → KeepsZeros p old → HasTrueColumns count old table → IsDoubleDescription cs gs table
    embedded_is_pair old table keeps more = record {
      same_dim = f.same_dim ∙ ap (λ (n : ℕ). n + count) (kept_dim p k) ∙ sym m.same_dim;
      closed = pulled_kinds (with_zeros p.cons.dim count) Closed (p.cons.dim + count) p cs (sym can.closed) k m;
      kinds = subst (All (λ (g : Generator). IsClosedGenKind g.1)) (sym f.joined) (All-append (λ (g : Generator). IsClosedGenKind g.1) f.front (axis_lines p.gens.dim count) front_kinds (closed_lines (axis (p.gens.dim + count)) (range_with_len p.gens.dim count)));
      system =
          subst (λ (d : ℕ). IsSystem (ConeOf (d + 1) ((divisor_row d, false) ∷ map constraint_row cs.list)) (lines_of (generator_list gs)) (rays_of (generator_list gs))) (sym m.same_dim)
          (subst (λ (vs : List (List ℤ)). IsSystem (ConeOf ((p.cons.dim + count) + 1) all_constraints) vs (rays_of (generator_list gs))) (sym all_lines)
          (subst (λ (vs : List (List ℤ)). IsSystem (ConeOf ((p.cons.dim + count) + 1) all_constraints) (lines_of first_rows ++ new_axes p.cons.dim count) vs) (sym all_rays) embedded_system));
      zeros =
          subst (λ (d : ℕ). IsZeroTable (generator_list gs) (length (generator_list gs)) (vectors ((divisor_row d, false) ∷ map constraint_row cs.list)) table) (sym m.same_dim)
          (subst (λ (rows : List Row). IsZeroTable rows (length rows) (vectors all_constraints) table) (sym all_rows) (embedded_zeros old table keeps more));
      point = point_kept (padded_point f.front front_mapped);
    }
      where
        front_kinds : AreClosedKinds (record { dim = p.cons.dim + count; list = f.front })
        front_kinds = mapped_kinds (with_zeros p.cons.dim count) Closed (p.cons.dim + count) p (record { dim = p.cons.dim + count; list = f.front }) (sym can.closed) k (record { same_dim = refl; mapped = front_mapped })

        point_kept : HasPointKind f.front → HasPointKind gs.list
        point_kept h = subst HasPointKind (sym f.joined) (record {
          index = h.index;
          below = omega (arith, h.below, length-append f.front (axis_lines p.gens.dim count));
          point = ap (λ (g : Generator). g.1) (get_or_append_left f.front (axis_lines p.gens.dim count) ([], Line) h.index h.below) ∙ h.point;
        })
