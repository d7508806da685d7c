-- What a pair in minimal form becomes once both of its systems are brought to reduced echelon form.
use Rattle.std.proofs.Common.{◌≡◌, inr, ℕ, ◌+◌, ◌<◌, true, false, List, [], ◌∷◌, ◌++◌, length, filter, ℤ, pos, ◌<ℤ◌, refl, sym, ap, ◌∙◌, subst, arith}
use Rattle.std.specs.Prelude.{All, Contains, slice_index_or}
use Rattle.std.proofs.lemmas.Int.{ints, by_lt_z}
use Rattle.std.proofs.lemmas.List.{get_or-map, length-map}
use Rattle.std.proofs.lemmas.List.Elements.{Contains-get_or}
use Rattle.row_core.specs.Vectors.{cell, dot}
use Rattle.row_core.specs.Lists.{Row, Rows, vectors, system_rows, Pointwise}
use Rattle.row_core.specs.MarkedLists.{AreLists}
use Rattle.row_core.proofs.RowListLemmas.{length-vectors}
use Rattle.cone_laws.specs.Canon.{IsSystem, Canon}
use Rattle.cone_laws.specs.Cones.{Generates}
use Rattle.cone_laws.specs.DualSystems.{AreSystemsOf}
use Rattle.cone_laws.specs.Duality.{lines_of, rays_of}
use Rattle.cone_laws.specs.Members.{ConeOf}
use Rattle.row_core.proofs.DotLemmas.{dot_comm}
use Rattle.cone_laws.proofs.Rearranging.{system_rearranged}
use Rattle.cone_laws.proofs.SystemLists.{lines_of-system_rows, rays_of-system_rows}
use Rattle.minimise.specs.Bases.{IsBasis, IsReduced}
use Rattle.minimise.specs.MinimalForms.{AreIndependent, IsMinimalForm}
use Rattle.cons_sys.specs.Constraints.{Constraints, FitDimension as FitConstraints}
use Rattle.gens_sys.specs.Kinds.{HasBadDivisor}
use Rattle.gens_sys.specs.declared.kind.GenKind.{GenKind}
use Rattle.gens_sys.specs.declared.kind.GenKind.TheVariants.{Line, Point}
use Rattle.gens_sys.specs.Generators.{Generator, Generators, FitDimension, row_at as generator_row_at, kind_at}
use Rattle.sat_matrix.specs.Tables.{Table}
use Rattle.sat_matrix.specs.ZeroTables.{IsZeroTable}
use Rattle.stored_systems.specs.Marks.{has_mark}
use Rattle.stored_systems.specs.StoredForms.{stored_generators}
use Rattle.stored_systems.specs.StoredLaws.{TouchesPoint}
use Rattle.stored_systems.specs.WorkLists.{divisor_row, generator_row, constraint_list, generator_list}
use Rattle.stored_systems.specs.Zeros.{kept_inequalities}
use Rattle.stored_systems.proofs.ClosedConstraints.{cone_divisor}
use Rattle.stored_systems.proofs.Irredundance.{length_stored}
use Rattle.stored_systems.proofs.ZeroTables.{vectors-system_rows}
use Rattle.poly_pair.specs.declared.topology.Topology.TheVariants.{Closed}
use Rattle.affine_maps.specs.Carrying.{IsMinimalPair}
use Rattle.poly_pair.specs.DoubleDescriptions.{IsOfBoth}
use Rattle.poly_pair.specs.FirstLists.{IsConstraintList, IsOfRows}
use Rattle.affine_maps.specs.FormedPairs.{AreFormedConstraints, AreFormedGenerators, IsFormedPair, IsOfForms}
use Rattle.poly_pair.specs.Polyhedra.{Polyhedron, IsKept, IsOfConstraints, IsOfGenerators}
use Rattle.poly_pair.proofs.BothSystems.{generators_of_both, generators_stored}
use Rattle.affine_maps.proofs.FormedPairs.{spans_list, refill, bounds, spans, divisor_in, new_point, formed_zeros}
use Rattle.poly_pair.proofs.ListLemmas.{rows_of_pair, constraints_of_rows}

-- ---- points
above_zero : (x : ℤ) → ¬ (x <ℤ pos 1) → pos 0 <ℤ x
above_zero x h = by_lt_z x (pos 1) (λ l. absurd (h l)) (λ g. omega (arith, ints, g))

pub point_above : (kind : GenKind) (x : ℤ) → kind ≡ Point → ¬ (HasBadDivisor kind x) → pos 0 <ℤ x
point_above kind x e h = above_zero x (subst (λ (k : GenKind). ¬ (HasBadDivisor k x)) e h)

module _ (cs : Constraints) (gs : Generators) (table : Table) (pair : IsMinimalPair cs gs table) (fit : FitConstraints cs) (gens_fit : FitDimension gs) where
  module _ (k : ℕ) (below : k < length gs.list) where
    at_list : slice_index_or (vectors (generator_list gs)) k [] ≡ generator_row_at gs.list k
    at_list =
        get_or-map (λ (row : Row). row.0) (generator_list gs) k ([], false) [] (omega (arith, below, length-map gs.list generator_row))
        ∙ ap (λ (row : Row). row.0) (get_or-map generator_row gs.list k ([], Line) ([], false) below)

    listed : Contains (pair.lines ++ pair.rays) (generator_row_at gs.list k)
    listed =
        subst (λ (vs : List (List ℤ)). Contains vs (generator_row_at gs.list k)) (ap vectors pair.gens_are ∙ vectors-system_rows pair.lines pair.rays)
        (subst (Contains (vectors (generator_list gs))) at_list (Contains-get_or (vectors (generator_list gs)) k [] (omega (arith, below, length-vectors (generator_list gs), length-map gs.list generator_row))))

    positive_at : kind_at gs.list k ≡ Point → pos 0 <ℤ cell (generator_row_at gs.list k) cs.dim
    positive_at is = point_above (kind_at gs.list k) (cell (generator_row_at gs.list k) cs.dim) is (subst (λ (n : ℕ). ¬ (HasBadDivisor (kind_at gs.list k) (cell (generator_row_at gs.list k) n))) pair.same_dim (gens_fit.each k ([], Line) below).divisor)

  touching : All (λ c. (p : List ℤ) × Contains (pair.lines ++ pair.rays) p × (pos 0 <ℤ cell p cs.dim) × (dot p c ≡ pos 0)) (kept_inequalities cs.dim pair.inequalities)
  touching i d h =
      let t : TouchesPoint gs (slice_index_or (kept_inequalities cs.dim pair.inequalities) i d) = pair.touch i d h in
      (generator_row_at gs.list t.index, listed t.index t.below, positive_at t.index t.below t.point, dot_comm (generator_row_at gs.list t.index) (slice_index_or (kept_inequalities cs.dim pair.inequalities) i d) ∙ t.zero)

  rows_form : IsMinimalForm (ConeOf (cs.dim + 1) (system_rows pair.lines pair.rays)) pair.equalities pair.inequalities
  rows_form = subst (λ (list : List Row). IsMinimalForm (ConeOf (cs.dim + 1) list) pair.equalities pair.inequalities) pair.gens_are pair.rows

  module _ (bound_forms span_forms : Rows × Rows) (fb : AreFormedConstraints cs bound_forms) (fs : AreFormedGenerators gs span_forms) where
    equalities_are : vectors fb.lines.rows ≡ pair.equalities
    equalities_are = ap vectors fb.lines_are ∙ ap (λ (xs : List Row). vectors (filter (has_mark true) xs)) pair.cons_are ∙ lines_of-system_rows pair.equalities (kept_inequalities cs.dim pair.inequalities)

    inequalities_are : vectors fb.rays.rows ≡ kept_inequalities cs.dim pair.inequalities
    inequalities_are = ap vectors fb.rays_are ∙ ap (λ (xs : List Row). vectors (filter (has_mark false) xs)) pair.cons_are ∙ rays_of-system_rows pair.equalities (kept_inequalities cs.dim pair.inequalities)

    lines_are : vectors fs.lines.rows ≡ pair.lines
    lines_are = ap vectors fs.lines_are ∙ ap (λ (xs : List Row). vectors (filter (has_mark true) xs)) pair.gens_are ∙ lines_of-system_rows pair.lines pair.rays

    rays_are : vectors fs.rays.rows ≡ pair.rays
    rays_are = ap vectors fs.rays_are ∙ ap (λ (xs : List Row). vectors (filter (has_mark false) xs)) pair.gens_are ∙ rays_of-system_rows pair.lines pair.rays

    line_basis : IsBasis pair.lines (vectors span_forms.0.rows)
    line_basis = subst (λ (vs : List (List ℤ)). IsBasis vs (vectors span_forms.0.rows)) lines_are fs.formed.basis

    ray_reduced : Pointwise (IsReduced (vectors span_forms.0.rows)) pair.rays (vectors span_forms.1.rows)
    ray_reduced = subst (λ (vs : List (List ℤ)). Pointwise (IsReduced (vectors span_forms.0.rows)) vs (vectors span_forms.1.rows)) rays_are fs.formed.reduced

    eq_basis : IsBasis pair.equalities (vectors bound_forms.0.rows)
    eq_basis = subst (λ (vs : List (List ℤ)). IsBasis vs (vectors bound_forms.0.rows)) equalities_are fb.formed.basis

    bound_reduced : Pointwise (IsReduced (vectors bound_forms.0.rows)) (kept_inequalities cs.dim pair.inequalities) (vectors bound_forms.1.rows)
    bound_reduced = subst (λ (vs : List (List ℤ)). Pointwise (IsReduced (vectors bound_forms.0.rows)) vs (vectors bound_forms.1.rows)) inequalities_are fb.formed.reduced

    line_wide : All (λ (l : List ℤ). length l ≡ cs.dim + 1) (vectors span_forms.0.rows)
    line_wide = subst (λ (n : ℕ). All (λ (l : List ℤ). length l ≡ n + 1) (vectors span_forms.0.rows)) pair.same_dim fs.formed.wide

    line_many : length (vectors span_forms.0.rows) ≡ length pair.lines
    line_many =
        length-vectors span_forms.0.rows ∙ fs.formed.as_many (subst AreIndependent (sym lines_are) pair.vectors.independent) ∙ sym (length-vectors fs.lines.rows) ∙ ap (λ (vs : List (List ℤ)). length vs) lines_are

    eq_many : length (vectors bound_forms.0.rows) ≡ length pair.equalities
    eq_many =
        length-vectors bound_forms.0.rows ∙ fb.formed.as_many (subst AreIndependent (sym equalities_are) pair.rows.independent) ∙ sym (length-vectors fb.lines.rows) ∙ ap (λ (vs : List (List ℤ)). length vs) equalities_are

    old_zeros : IsZeroTable (system_rows pair.lines pair.rays) (length (system_rows pair.lines pair.rays)) (divisor_row cs.dim ∷ pair.equalities ++ kept_inequalities cs.dim pair.inequalities) table
    old_zeros =
        subst (λ (list : List Row). IsZeroTable list (length list) (divisor_row cs.dim ∷ pair.equalities ++ kept_inequalities cs.dim pair.inequalities) table) pair.gens_are
        (subst (λ (vs : List (List ℤ)). IsZeroTable (generator_list gs) (length (generator_list gs)) vs table)
        (ap (λ (xs : List Row). divisor_row cs.dim ∷ vectors xs) pair.cons_are ∙ ap (λ (vs : List (List ℤ)). divisor_row cs.dim ∷ vs) (vectors-system_rows pair.equalities (kept_inequalities cs.dim pair.inequalities))) pair.zeros)

    pub formed_pair : IsFormedPair cs.dim bound_forms.0 bound_forms.1 span_forms.0 span_forms.1 table
    formed_pair =
        let at = listed pair.point.index pair.point.below in
        let above = positive_at pair.point.index pair.point.below pair.point.point in
        record {
          bounds_lists = fb.formed.lists;
          spans_lists = subst (λ (n : ℕ). AreLists (n + 1) span_forms.0 span_forms.1) pair.same_dim fs.formed.lists;
          all = (refill cs.dim (constraint_list cs) pair.lines pair.rays pair.equalities pair.inequalities (vectors span_forms.0.rows) (vectors span_forms.1.rows) (vectors bound_forms.0.rows) (vectors bound_forms.1.rows) pair.vectors rows_form line_basis ray_reduced eq_basis bound_reduced line_wide fb.formed.wide (cone_divisor cs pair.closed) (generator_row_at gs.list pair.point.index) at above touching).all;
          kept = (refill cs.dim (constraint_list cs) pair.lines pair.rays pair.equalities pair.inequalities (vectors span_forms.0.rows) (vectors span_forms.1.rows) (vectors bound_forms.0.rows) (vectors bound_forms.1.rows) pair.vectors rows_form line_basis ray_reduced eq_basis bound_reduced line_wide fb.formed.wide (cone_divisor cs pair.closed) (generator_row_at gs.list pair.point.index) at above touching).kept;
          bounds = bounds cs.dim (constraint_list cs) pair.lines pair.rays pair.equalities pair.inequalities (vectors span_forms.0.rows) (vectors span_forms.1.rows) (vectors bound_forms.0.rows) (vectors bound_forms.1.rows) pair.vectors rows_form line_basis ray_reduced eq_basis bound_reduced line_wide fb.formed.wide (cone_divisor cs pair.closed) (generator_row_at gs.list pair.point.index) at above touching;
          spans = spans cs.dim (constraint_list cs) pair.lines pair.rays pair.equalities pair.inequalities (vectors span_forms.0.rows) (vectors span_forms.1.rows) (vectors bound_forms.0.rows) (vectors bound_forms.1.rows) pair.vectors rows_form line_basis ray_reduced eq_basis bound_reduced line_wide fb.formed.wide (cone_divisor cs pair.closed) (generator_row_at gs.list pair.point.index) at above touching;
          divisor = divisor_in cs.dim (constraint_list cs) pair.lines pair.rays pair.equalities pair.inequalities (vectors span_forms.0.rows) (vectors span_forms.1.rows) (vectors bound_forms.0.rows) (vectors bound_forms.1.rows) pair.vectors rows_form line_basis ray_reduced eq_basis bound_reduced line_wide fb.formed.wide (cone_divisor cs pair.closed) (generator_row_at gs.list pair.point.index) at above touching;
          point = new_point cs.dim (constraint_list cs) pair.lines pair.rays pair.equalities pair.inequalities (vectors span_forms.0.rows) (vectors span_forms.1.rows) (vectors bound_forms.0.rows) (vectors bound_forms.1.rows) pair.vectors rows_form line_basis ray_reduced eq_basis bound_reduced line_wide fb.formed.wide (cone_divisor cs pair.closed) (generator_row_at gs.list pair.point.index) at above touching;
          zeros = formed_zeros cs.dim (constraint_list cs) pair.lines pair.rays pair.equalities pair.inequalities (vectors span_forms.0.rows) (vectors span_forms.1.rows) (vectors bound_forms.0.rows) (vectors bound_forms.1.rows) pair.vectors rows_form line_basis ray_reduced eq_basis bound_reduced line_wide fb.formed.wide (cone_divisor cs pair.closed) (generator_row_at gs.list pair.point.index) at above touching line_many eq_many table old_zeros;
        }

    system_of_list : IsSystem (ConeOf (cs.dim + 1) (constraint_list cs)) (vectors span_forms.0.rows) (vectors span_forms.1.rows)
    system_of_list = spans_list cs.dim (constraint_list cs) pair.lines pair.rays pair.equalities pair.inequalities (vectors span_forms.0.rows) (vectors span_forms.1.rows) (vectors bound_forms.0.rows) (vectors bound_forms.1.rows) pair.vectors rows_form line_basis ray_reduced eq_basis bound_reduced line_wide fb.formed.wide (cone_divisor cs pair.closed) (generator_row_at gs.list pair.point.index) (listed pair.point.index pair.point.below) (positive_at pair.point.index pair.point.below pair.point.point) touching

    -- ---- the polyhedron of these
    module _ (p : Polyhedron) (kept : IsKept p) (o : IsOfForms cs.dim bound_forms.0 bound_forms.1 span_forms.0 span_forms.1 p) where
      first : Canon (ConeOf (cs.dim + 1) (constraint_list cs)) (vectors span_forms.0.rows) o.ordered
      first = record {
        system = system_rearranged (ConeOf (cs.dim + 1) (constraint_list cs)) (vectors span_forms.0.rows) (vectors span_forms.1.rows) o.ordered system_of_list o.permutation;
        sorted = o.systems.dual.vectors.sorted;
      }

      systems : AreSystemsOf (cs.dim + 1) (constraint_list cs) (vectors span_forms.0.rows) o.ordered (vectors bound_forms.0.rows) o.bounds
      systems = record { first = first; second = o.systems.dual.rows }

      list : IsConstraintList Closed cs.dim (constraint_list cs)
      list = record { system = cs; same_dim = refl; kinds = pair.closed; fit = fit; listed = refl }

      of_rows : IsOfRows Closed cs.dim (constraint_list cs) p
      of_rows = rows_of_pair cs.dim (constraint_list cs) (vectors span_forms.0.rows) o.ordered (vectors bound_forms.0.rows) o.bounds p list systems o.systems.point o.over.same_topology o.over.same_dim o.stored.cons

      constraints : IsOfConstraints Closed cs p
      constraints = constraints_of_rows Closed cs.dim cs (constraint_list cs) p refl pair.closed fit refl of_rows

      generates : Generates (ConeOf (cs.dim + 1) (constraint_list cs)) (lines_of (generator_list gs)) (rays_of (generator_list gs))
      generates =
          subst (λ (vs : List (List ℤ)). Generates (ConeOf (cs.dim + 1) (constraint_list cs)) vs (rays_of (generator_list gs))) (sym (ap lines_of pair.gens_are ∙ lines_of-system_rows pair.lines pair.rays))
          (subst (λ (vs : List (List ℤ)). Generates (ConeOf (cs.dim + 1) (constraint_list cs)) pair.lines vs) (sym (ap rays_of pair.gens_are ∙ rays_of-system_rows pair.lines pair.rays)) pair.vectors.generates)

      generators : IsOfGenerators Closed gs p
      generators = generators_of_both cs gs pair.same_dim pair.closed pair.kinds fit gens_fit generates p constraints

      some : ¬ (p.gens.list ≡ [])
      some none = absurd (let l : length (stored_generators cs.dim (vectors span_forms.0.rows) o.ordered) ≡ 0 = ap (λ (list : List Generator). length list) (sym o.stored.gens ∙ none) in omega (arith, l, length_stored cs.dim (vectors span_forms.0.rows) o.ordered, o.systems.point.below))

      pub of_both : IsOfBoth cs gs p
      of_both = record {
        constraints = constraints;
        generators = generators;
        stored_of_constraints = inr (record { lines = vectors span_forms.0.rows; rays = o.ordered; equalities = vectors bound_forms.0.rows; inequalities = o.bounds; systems = systems; point = o.systems.point; some = some; stored = o.stored });
        stored_of_generators = generators_stored gs p kept generators pair.kinds gens_fit pair.point;
      }
