-- The image and the preimage of a closed set from its stored pair.
use Rattle.std.proofs.Common.{◌≡◌, ◌≢◌, ◌⊎◌, inl, inr, ℕ, ◌+◌, ◌<◌, List, [], ◌∷◌, length, map, slice_index_or, slice_set, Bool, true, false, not, ◌^◌, ℤ, pos, neg_ℤ, ◌+ℤ◌, ◌*ℤ◌, unsigned_abs, ◌<ℤ◌, refl, sym, ap, ◌∙◌, subst, arith}
use Rattle.std.specs.Prelude.{All}
use Rattle.std.proofs.lemmas.Bool.{cases_eq}
use Rattle.std.proofs.lemmas.Int.{ints, fits_signed_from_abs}
use Rattle.std.proofs.lemmas.List.{ext_get_or, get_or_default, get_or-map, get_or-set_same, get_or-set_other}
use Rattle.std.proofs.lemmas.List.Elements.{All-from_get_or, All-filter}
use Rattle.std.specs.Int.{w128}
use mir.Val.{SFits, to_z, of_z}
use Rattle.row_core.specs.Range.{InRange}
use Rattle.row_core.specs.Refusals.{IsOverflowIn}
use Rattle.row_core.specs.declared.errors.Overflow.{Overflow}
use Rattle.row_core.specs.declared.errors.ConvErr.{ConvErr}
use Rattle.row_core.specs.declared.errors.ConvErr.TheVariants as conversion
use Rattle.row_core.specs.Vectors.{cell, dot, scale}
use Rattle.row_core.specs.Content.{IsPrimitiveOf}
use Rattle.row_core.specs.Lists.{Row, vectors, system_rows, Pointwise}
use Rattle.row_core.proofs.RowListLemmas.{length-vectors}
use Rattle.row_core.proofs.Magnitudes.{back, magnitude-neg, magnitude-positive}
use Rattle.cone_laws.specs.Canon.{IsSystem}
use Rattle.cone_laws.specs.Members.{ConeOf}
use Rattle.cone_laws.proofs.Columns.{cell-add, cell-scale, length-scale, dot_comm, dot-scale}
use Rattle.minimise.specs.MinimalForms.{IsMinimalForm}
use Rattle.cons_sys.specs.Constraints.{Constraints, FitDimension as FitConstraints}
use Rattle.gens_sys.specs.Kinds.{HasBadDivisor}
use Rattle.gens_sys.specs.declared.kind.GenKind.TheVariants.{Line}
use Rattle.gens_sys.specs.Generators.{Generator, Generators, FitDimension}
use Rattle.sat_matrix.specs.Tables.{Table}
use Rattle.stored_systems.specs.StoredForms.{IsPairForm, is_divisor_row, stored_generators}
use Rattle.stored_systems.specs.StoredLaws.{TouchesPoint}
use Rattle.stored_systems.specs.WorkLists.{divisor_row, constraint_row, constraint_list, generator_list}
use Rattle.stored_systems.specs.Zeros.{ArePairZeros, kept_inequalities}
use Rattle.stored_systems.proofs.DivisorRow.{dot_divisor, length-divisor, cell-divisor_other, divisor_primitive, divisor_is, is_divisor}
use Rattle.stored_systems.proofs.Irredundance.{con_rows_plain}
use Rattle.stored_systems.proofs.StoredLists.{generator_rows, listed_canon}
use Rattle.stored_systems.proofs.Touching.{kept_touch}
use Rattle.poly_pair.specs.declared.topology.Topology.{Topology}
use Rattle.poly_pair.specs.declared.topology.Topology.TheVariants.{Closed}
use Rattle.affine_maps.specs.Carrying.{IsMinimalPair}
use Rattle.poly_pair.specs.FirstLists.{HasPointKind}
use Rattle.poly_pair.specs.Polyhedra.{Polyhedron, IsKept, IsStoredAs}
use Rattle.poly_pair.specs.Starts.{CanStart}
use Rattle.poly_pair.specs.Zeros.{KeepsZeros}
use Rattle.affine_maps.proofs.CarriedForms.{point_above}
use Rattle.affine_maps.proofs.FilteredLists.{IsRefilled, refilled}
use Rattle.poly_pair.proofs.PointKinds.{some_point}
use Rattle.poly_pair.proofs.StoredLemmas.{no_element, kept_dim}
use Rattle.mapped_systems.specs.Maps.{substituted, pulled_back}
use Rattle.mapped_systems.specs.MappedLists.{IsMappedSystem, IsPulledSystem}
use Rattle.mapped_systems.specs.CarriedSystems.{AreInverse, IsInverseRow}
use Rattle.mapped_systems.specs.Refusals.{SomeLeavesInImage, SomeLeavesInPullback}
use Rattle.affine_maps.specs.CarriedPairs.{CanBeCarried, LeavesInTurned, LeavesInMapped}
use Rattle.mapped_systems.proofs.AdjointMaps.{IsAdjoint, adjoint_inverse}
use Rattle.mapped_systems.proofs.ColumnLemmas.{dot-pulled_back, length-pulled_back}
use Rattle.mapped_systems.proofs.LinearMaps.{substituted_other}
use Rattle.mapped_systems.proofs.PulledSets.{stored_value, positive_times}
use Rattle.mapped_systems.proofs.SplitRows.{AreSplit, split_rows, all_kept, kept_rows, pulled_rows}
use Rattle.affine_maps.proofs.MappedPolyhedra.{lent_generators, mapped_kinds, mapped_point, pulled_kinds}
use Rattle.mapped_systems.proofs.StoredPairs.{pair_form, generator_wide, row_wide}
use Rattle.mapped_systems.proofs.CarriedSystems.{IsUndone, undone, minimal_carried}
use Rattle.mapped_systems.proofs.InverseMaps.{inverse_maps, other_way}
use Rattle.mapped_systems.proofs.CarriedLists.{IsTurned, AreAllTurned, stays_direction, all_turned, with_divisor, admit_sources, zeros_turned, zero_again}

-- ---- the pair
-- rows are pulled back as vectors are mapped
adjoint : (dim var : ℕ) (row : List ℤ) (size : ℤ) → length row ≡ dim + 1 → var < dim → IsAdjoint (dim + 1) (pulled_back var row size) (substituted var row size)
adjoint dim var row size wide below = record {
  wide = λ c w. length-pulled_back var row size c (wide ∙ sym w) ∙ w;
  value = λ c v w x. dot-pulled_back var row size c v (omega (arith, w, below)) (omega (arith, x, below)) (length-scale size v);
}

-- the row of the divisor stays
module _ (dim var : ℕ) (row : List ℤ) (size : ℤ) (wide : length row ≡ dim + 1) (below : var < dim) (positive : pos 0 <ℤ size) where
  no_part : cell (divisor_row dim) var ≡ pos 0
  no_part = cell-divisor_other dim var (λ e. omega (arith, e, below))

  same_entry : (j : ℕ) → (j ≡ var) ⊎ (j ≢ var) → cell (slice_set (divisor_row dim) var (pos 0)) j ≡ cell (divisor_row dim) j
  same_entry j (inl e) = ap (cell (slice_set (divisor_row dim) var (pos 0))) e ∙ get_or-set_same (divisor_row dim) var (pos 0) (pos 0) (omega (arith, below, length-divisor dim)) ∙ sym (ap (cell (divisor_row dim)) e ∙ no_part)
  same_entry j (inr ne) = get_or-set_other (divisor_row dim) var j (pos 0) (pos 0) ne

  no_more : (s x y z w k : ℤ) → x ≡ s *ℤ y → y ≡ z → w ≡ pos 0 → x +ℤ w *ℤ k ≡ s *ℤ z
  no_more s x y z w k e f g = let a = ap (λ (u : ℤ). s *ℤ u) f in let b = ap (λ (u : ℤ). u *ℤ k) g in omega (arith, ints, e, a, b)

  size_is : pos (unsigned_abs size) ≡ size
  size_is = magnitude-positive size positive

  same_cell : (j : ℕ) → cell (pulled_back var row size (divisor_row dim)) j ≡ cell (scale (pos (unsigned_abs size)) (divisor_row dim)) j
  same_cell j =
      cell-add (scale size (slice_set (divisor_row dim) var (pos 0))) (scale (cell (divisor_row dim) var) row) j
      ∙ ap (λ (z : ℤ). cell (scale size (slice_set (divisor_row dim) var (pos 0))) j +ℤ z) (cell-scale (cell (divisor_row dim) var) row j)
      ∙ no_more size (cell (scale size (slice_set (divisor_row dim) var (pos 0))) j) (cell (slice_set (divisor_row dim) var (pos 0)) j) (cell (divisor_row dim) j) (cell (divisor_row dim) var) (cell row j) (cell-scale size (slice_set (divisor_row dim) var (pos 0)) j) (same_entry j (cases_eq j var)) no_part
      ∙ sym (cell-scale (pos (unsigned_abs size)) (divisor_row dim) j ∙ ap (λ (z : ℤ). z *ℤ cell (divisor_row dim) j) size_is)

  some_size : (n : ℕ) → pos 0 <ℤ pos n → 0 < n
  some_size n h = omega (arith, ints, h)

  pulled_divisor : IsPrimitiveOf (pulled_back var row size (divisor_row dim)) (divisor_row dim)
  pulled_divisor = record {
    multiple = record {
      times = unsigned_abs size;
      positive = some_size (unsigned_abs size) (subst (λ (z : ℤ). pos 0 <ℤ z) (sym size_is) positive);
      same = ext_get_or (pos 0) (pulled_back var row size (divisor_row dim)) (scale (pos (unsigned_abs size)) (divisor_row dim))
          (length-pulled_back var row size (divisor_row dim) (wide ∙ sym (length-divisor dim)) ∙ sym (length-scale (pos (unsigned_abs size)) (divisor_row dim))) (λ j b. same_cell j);
    };
    primitive = divisor_primitive dim;
  }

module _ (p : Polyhedron) (k : IsKept p) (gens_fit : FitDimension p.gens) (fit : FitConstraints p.cons) (can : CanStart p) (var : ℕ) (below : var < p.cons.dim) (expr row : List ℤ) (den size : ℤ) (expr_wide : length expr ≡ p.cons.dim + 1) (row_wide_is : length row ≡ p.cons.dim + 1) (positive : pos 0 <ℤ size) (inverse : AreInverse (p.cons.dim + 1) (substituted var expr den) (substituted var row size)) where
  undone_map : IsUndone (p.cons.dim + 1) (p.cons.dim + 1) (substituted var expr den) (substituted var row size)
  undone_map = undone (p.cons.dim + 1) (substituted var expr den) (substituted var row size) inverse

  rows_inverse : AreInverse (p.cons.dim + 1) (pulled_back var row size) (pulled_back var expr den)
  rows_inverse =
      adjoint_inverse (p.cons.dim + 1) (substituted var expr den) (substituted var row size) (pulled_back var row size) (pulled_back var expr den) inverse
      (adjoint p.cons.dim var row size row_wide_is below) (adjoint p.cons.dim var expr den expr_wide below)

  form : IsPairForm p.cons p.gens
  form = pair_form p.cons p.gens (subst (λ (t : Topology). IsStoredAs t p.cons p.gens) can.closed k.stored) can.some

  old_gens : generator_list p.gens ≡ system_rows form.lines form.rays
  old_gens = generator_rows p.cons p.gens form

  old_cons : map constraint_row p.cons.list ≡ system_rows form.equalities (kept_inequalities p.cons.dim form.inequalities)
  old_cons = ap (map constraint_row) form.cons ∙ con_rows_plain form.equalities (kept_inequalities p.cons.dim form.inequalities)

  vectors_system : IsSystem (ConeOf (p.cons.dim + 1) (constraint_list p.cons)) form.lines form.rays
  vectors_system = (listed_canon p.cons p.gens form).system

  rows_system : IsSystem (ConeOf (p.cons.dim + 1) (generator_list p.gens)) form.equalities form.inequalities
  rows_system = subst (λ (list : List Row). IsSystem (ConeOf (p.cons.dim + 1) list) form.equalities form.inequalities) (sym old_gens) form.systems.dual.rows.system

  -- ---- generators
  module _ (gs : Generators) (m : IsMappedSystem (substituted var expr den) p.cons.dim p.gens gs) where
    kept_all : Pointwise (λ (x y : Generator). IsPrimitiveOf (substituted var expr den x.0) y.0 × (y.1 ≡ x.1)) p.gens.list gs.list
    kept_all = all_kept (substituted var expr den) p.gens.list gs.list m.mapped (λ j d b. stays_direction (p.cons.dim + 1) (p.cons.dim + 1) (substituted var expr den) (substituted var row size) undone_map (slice_index_or p.gens.list j d).1 (slice_index_or p.gens.list j d).0 (generator_wide p.cons.dim p.gens (kept_dim p k) gens_fit j d b) (gens_fit.each j d b).nonzero)

    carried_rows : Pointwise (λ (x y : Row). IsPrimitiveOf (substituted var expr den x.0) y.0 × (y.1 ≡ x.1)) (generator_list p.gens) (generator_list gs)
    carried_rows = kept_rows (substituted var expr den) p.gens.list gs.list kept_all

    carried : Pointwise (λ (x y : Row). IsPrimitiveOf (substituted var expr den x.0) y.0) (generator_list p.gens) (generator_list gs)
    carried = record { as_many = carried_rows.as_many; each = λ i d e b. (carried_rows.each i d e b).0 }

    carried_point : HasPointKind gs.list
    carried_point = some_point gs.list (λ e. can.some (none e)) (mapped_point (substituted var expr den) p.cons.dim p gs k m)
      where
        none : gs.list ≡ [] → p.gens.list ≡ []
        none e =
            let new : length gs.list ≡ 0 = ap (λ (list : List Generator). length list) e in
            no_element p.gens.list (omega (arith, kept_all.as_many, new))

    split_gens : AreSplit (λ v w. IsPrimitiveOf (substituted var expr den v) w) form.lines form.rays (generator_list gs)
    split_gens = split_rows (λ v w. IsPrimitiveOf (substituted var expr den v) w) form.lines form.rays (generator_list gs)
        (subst (λ (list : List Row). Pointwise (λ (x y : Row). IsPrimitiveOf (substituted var expr den x.0) y.0 × (y.1 ≡ x.1)) list (generator_list gs)) old_gens carried_rows)

    -- the rows that are mapped forth are valid where the old ones are on what is mapped back
    turned_gens : AreAllTurned (p.cons.dim + 1) (pulled_back var expr den) (generator_list p.gens) (generator_list gs)
    turned_gens = record {
      rows = record { as_many = carried.as_many; each = λ i d e b. (turned_gen i d e b, (carried_rows.each i d e b).1) };
      vectors = record {
        as_many = length-vectors (generator_list gs) ∙ carried.as_many ∙ sym (length-vectors (generator_list p.gens));
        each = λ i d e b. turned_vector i d e (omega (arith, b, length-vectors (generator_list p.gens)));
      };
    }
      where
        of_multiple : (g h : List ℤ) → length g ≡ p.cons.dim + 1 → IsPrimitiveOf (substituted var expr den g) h → IsTurned (p.cons.dim + 1) (pulled_back var expr den) g h
        of_multiple g h w q = record {
          times = pos q.multiple.times;
          positive = positive_times q.multiple.times q.multiple.positive;
          value = λ a v.
              ap (λ (z : ℤ). pos q.multiple.times *ℤ z) (dot_comm h a)
              ∙ sym (dot-scale a (pos q.multiple.times) h)
              ∙ ap (dot a) (sym q.multiple.same)
              ∙ sym (dot-pulled_back var expr den a g (omega (arith, v, below)) (omega (arith, w, below)) (length-scale den g))
              ∙ dot_comm (pulled_back var expr den a) g;
        }

        turned_gen : (i : ℕ) (d e : Row) → i < length (generator_list p.gens) → IsTurned (p.cons.dim + 1) (pulled_back var expr den) (slice_index_or (generator_list p.gens) i d).0 (slice_index_or (generator_list gs) i e).0
        turned_gen i d e b = of_multiple (slice_index_or (generator_list p.gens) i d).0 (slice_index_or (generator_list gs) i e).0 (ap (λ (r : Row). length r.0) (get_or_default (generator_list p.gens) i d ([], false) b) ∙ row_wide p.cons.dim p.gens (kept_dim p k) gens_fit i b) (carried.each i d e b)

        turned_vector : (i : ℕ) (d e : List ℤ) → i < length (generator_list p.gens) → IsTurned (p.cons.dim + 1) (pulled_back var expr den) (slice_index_or (vectors (generator_list p.gens)) i d) (slice_index_or (vectors (generator_list gs)) i e)
        turned_vector i d e b =
            let n : i < length (generator_list gs) = omega (arith, b, carried.as_many) in
            subst (λ (v : List ℤ). IsTurned (p.cons.dim + 1) (pulled_back var expr den) v (slice_index_or (vectors (generator_list gs)) i e)) (sym (get_or-map (λ (r : Row). r.0) (generator_list p.gens) i ([], false) d b))
            (subst (λ (v : List ℤ). IsTurned (p.cons.dim + 1) (pulled_back var expr den) (slice_index_or (generator_list p.gens) i ([], false)).0 v) (sym (get_or-map (λ (r : Row). r.0) (generator_list gs) i ([], false) e n)) (turned_gen i ([], false) ([], false) b))

    -- ---- constraints
    module _ (cs : Constraints) (pulled : IsPulledSystem (pulled_back var row size) p.cons.dim p.cons cs) where
      turned_rows : AreAllTurned (p.cons.dim + 1) (substituted var row size) (constraint_list p.cons) ((divisor_row p.cons.dim, false) ∷ map constraint_row cs.list)
      turned_rows =
          with_divisor p.cons.dim p.cons.dim (substituted var row size) size (map constraint_row p.cons.list) (map constraint_row cs.list) positive
          (λ v w. substituted_other var row size v p.cons.dim (λ e. omega (arith, e, below)))
          (all_turned (p.cons.dim + 1) (pulled_back var row size) (substituted var row size) p.cons.list cs.list pulled.pulled (λ j d b v w.
          let a = (fit.each j d b).wide in
          dot-pulled_back var row size (slice_index_or p.cons.list j d).0 v (omega (arith, a, below)) (omega (arith, w, below)) (length-scale size v)))

      carried_form : IsMinimalForm (ConeOf (p.cons.dim + 1) ((divisor_row p.cons.dim, false) ∷ map constraint_row cs.list)) split_gens.first split_gens.rest
      carried_form =
          minimal_carried (p.cons.dim + 1) (substituted var expr den) (substituted var row size) (constraint_list p.cons) ((divisor_row p.cons.dim, false) ∷ map constraint_row cs.list) form.lines form.rays split_gens.first split_gens.rest inverse
          (admit_sources (p.cons.dim + 1) (p.cons.dim + 1) (substituted var row size) (constraint_list p.cons) ((divisor_row p.cons.dim, false) ∷ map constraint_row cs.list) inverse.second_linear turned_rows) split_gens.first_related split_gens.rest_related vectors_system

      split_cons : AreSplit (λ v w. IsPrimitiveOf (pulled_back var row size v) w) form.equalities (kept_inequalities p.cons.dim form.inequalities) (map constraint_row cs.list)
      split_cons = split_rows (λ v w. IsPrimitiveOf (pulled_back var row size v) w) form.equalities (kept_inequalities p.cons.dim form.inequalities) (map constraint_row cs.list)
          (subst (λ (list : List Row). Pointwise (λ (x y : Row). IsPrimitiveOf (pulled_back var row size x.0) y.0 × (y.1 ≡ x.1)) list (map constraint_row cs.list)) old_cons (pulled_rows (pulled_back var row size) p.cons.list cs.list pulled.pulled))

      carried_zeros : (table : Table) → KeepsZeros p table → ArePairZeros (record { dim = p.cons.dim; list = cs.list }) gs table
      carried_zeros table z =
          zeros_turned (p.cons.dim + 1) (p.cons.dim + 1) (substituted var expr den) (substituted var row size) undone_map (generator_list p.gens) (generator_list gs) (vectors (constraint_list p.cons)) (vectors ((divisor_row p.cons.dim, false) ∷ map constraint_row cs.list)) table carried (row_wide p.cons.dim p.gens (kept_dim p k) gens_fit) turned_rows.vectors (z can.closed can.some)

      -- ---- inequalities that are 0 at a point
      same_gens : p.gens ≡ record { dim = p.cons.dim; list = stored_generators p.cons.dim form.lines form.rays }
      same_gens = ap (λ (n : ℕ). record { dim = n; list = p.gens.list }) (kept_dim p k) ∙ ap (λ (list : List Generator). record { dim = p.cons.dim; list = list }) form.gens

      old_touch : All (TouchesPoint p.gens) (kept_inequalities p.cons.dim form.inequalities)
      old_touch = subst (λ (hs : Generators). All (TouchesPoint hs) (kept_inequalities p.cons.dim form.inequalities)) (sym same_gens) (kept_touch p.cons.dim form.lines form.rays form.equalities form.inequalities form.systems)

      touched : (a b : List ℤ) → length a ≡ p.cons.dim + 1 → IsPrimitiveOf (pulled_back var row size a) b → TouchesPoint p.gens a → TouchesPoint gs b
      touched a b w q t =
          let pair = kept_all.each t.index ([], Line) ([], Line) t.below in
          record {
            index = t.index;
            below = omega (arith, t.below, kept_all.as_many);
            point = pair.1 ∙ t.point;
            zero = dot_comm b (slice_index_or gs.list t.index ([], Line)).0
                ∙ zero_again (p.cons.dim + 1) (p.cons.dim + 1) (substituted var expr den) (substituted var row size) undone_map (slice_index_or p.gens.list t.index ([], Line)).0 (slice_index_or gs.list t.index ([], Line)).0 pair.0 (generator_wide p.cons.dim p.gens (kept_dim p k) gens_fit t.index ([], Line) t.below) a b
                (record {
                  times = pos q.multiple.times;
                  positive = positive_times q.multiple.times q.multiple.positive;
                  value = λ v x. sym (stored_value (pulled_back var row size a) b v q) ∙ dot-pulled_back var row size a v (omega (arith, w, below)) (omega (arith, x, below)) (length-scale size v);
                })
                (dot_comm (slice_index_or p.gens.list t.index ([], Line)).0 a ∙ t.zero);
          }

      new_touch : All (TouchesPoint gs) split_cons.rest
      new_touch = All-from_get_or (TouchesPoint gs) split_cons.rest [] (λ i b.
          let o : i < length (kept_inequalities p.cons.dim form.inequalities) = omega (arith, b, split_cons.rest_related.as_many) in
          touched (slice_index_or (kept_inequalities p.cons.dim form.inequalities) i []) (slice_index_or split_cons.rest i [])
          (All-filter (λ r. not (is_divisor_row p.cons.dim r)) (λ (r : List ℤ). length r ≡ p.cons.dim + 1) form.inequalities (λ x d h. (rows_system.generates.rays_within x d h).wide) i [] o)
          (split_cons.rest_related.each i [] [] o) (old_touch i [] o))

      -- ---- the row of the divisor
      divisor_carried : IsPrimitiveOf (pulled_back var row size (divisor_row p.cons.dim)) (divisor_row p.cons.dim)
      divisor_carried = pulled_divisor p.cons.dim var row size row_wide_is below positive

      above : (x : ℤ) → pos 0 <ℤ x → x ≡ pos 0 → ⊥
      above x h e = omega (arith, ints, h, e)

      -- a constraint that is 0 at a point isn't that row
      other_row : (b : List ℤ) → TouchesPoint gs b → FitDimension gs → not (is_divisor_row p.cons.dim b) ≡ true
      other_row b t f = by_test (is_divisor_row p.cons.dim b) refl
        where
          last : pos 0 <ℤ cell (slice_index_or gs.list t.index ([], Line)).0 p.cons.dim
          last = point_above (slice_index_or gs.list t.index ([], Line)).1 (cell (slice_index_or gs.list t.index ([], Line)).0 p.cons.dim) t.point (subst (λ (n : ℕ). ¬ (HasBadDivisor (slice_index_or gs.list t.index ([], Line)).1 (cell (slice_index_or gs.list t.index ([], Line)).0 n))) m.same_dim (f.each t.index ([], Line) t.below).divisor)

          by_test : (x : Bool) → is_divisor_row p.cons.dim b ≡ x → not (is_divisor_row p.cons.dim b) ≡ true
          by_test true e = absurd (above (cell (slice_index_or gs.list t.index ([], Line)).0 p.cons.dim) last (sym (dot_divisor p.cons.dim (slice_index_or gs.list t.index ([], Line)).0) ∙ ap (λ (a : List ℤ). dot a (slice_index_or gs.list t.index ([], Line)).0) (sym (divisor_is p.cons.dim b e)) ∙ t.zero))
          by_test false e = ap not e

      not_is : (b : Bool) → not b ≡ false → b ≡ true
      not_is true h = refl
      not_is false h = sym h

      refill : FitDimension gs → IsRefilled (λ r. not (is_divisor_row p.cons.dim r)) (λ v w. IsPrimitiveOf (pulled_back var row size v) w) form.inequalities split_cons.rest
      refill f =
          refilled (λ r. not (is_divisor_row p.cons.dim r)) (λ v w. IsPrimitiveOf (pulled_back var row size v) w) (divisor_row p.cons.dim) (ap not (is_divisor p.cons.dim))
          (λ x h. subst (λ (v : List ℤ). IsPrimitiveOf (pulled_back var row size v) (divisor_row p.cons.dim)) (sym (divisor_is p.cons.dim x (not_is (is_divisor_row p.cons.dim x) h))) divisor_carried)
          form.inequalities split_cons.rest (λ i d h. other_row (slice_index_or split_cons.rest i d) (new_touch i d h) f) split_cons.rest_related

      rows_form : (f : FitDimension gs) → IsMinimalForm (ConeOf (p.cons.dim + 1) (generator_list gs)) split_cons.first (refill f).all
      rows_form f =
          minimal_carried (p.cons.dim + 1) (pulled_back var row size) (pulled_back var expr den) (generator_list p.gens) (generator_list gs) form.equalities form.inequalities split_cons.first (refill f).all rows_inverse
          (admit_sources (p.cons.dim + 1) (p.cons.dim + 1) (pulled_back var expr den) (generator_list p.gens) (generator_list gs) rows_inverse.second_linear turned_gens) split_cons.first_related (refill f).related rows_system

      carried_pair : (table : Table) → KeepsZeros p table → FitDimension gs → IsMinimalPair cs gs table
      carried_pair table z f =
          subst (λ (n : ℕ). IsMinimalPair (record { dim = n; list = cs.list }) gs table) (sym pulled.same_dim)
          (record {
            same_dim = m.same_dim;
            closed = pulled_kinds (pulled_back var row size) Closed p.cons.dim p cs (sym can.closed) k pulled;
            kinds = mapped_kinds (substituted var expr den) Closed p.cons.dim p gs (sym can.closed) k m;
            point = carried_point;
            lines = split_gens.first;
            rays = split_gens.rest;
            gens_are = split_gens.listed;
            vectors = carried_form;
            equalities = split_cons.first;
            inequalities = (refill f).all;
            cons_are = split_cons.listed ∙ ap (λ (rs : List (List ℤ)). system_rows split_cons.first rs) (sym (refill f).kept);
            rows = rows_form f;
            touch = subst (All (TouchesPoint gs)) (sym (refill f).kept) new_touch;
            zeros = carried_zeros table z;
          })

-- the generators are mapped forth, and the constraints back
pub image_pair : (p : Polyhedron) → IsKept p → FitDimension p.gens → FitConstraints p.cons → (var : ℕ) → var < p.cons.dim → (expr row : List ℤ) (den size : ℤ) → length expr ≡ p.cons.dim + 1 → pos 0 <ℤ den → IsInverseRow var expr den row size → CanBeCarried p (cell expr var) → (gs : Generators) → FitDimension gs → IsMappedSystem (substituted var expr den) p.cons.dim p.gens gs → (cs : Constraints) → IsPulledSystem (pulled_back var row size) p.cons.dim p.cons cs → (table : Table) → KeepsZeros p table → IsMinimalPair cs gs table
image_pair p k gens_fit fit var below expr row den size wide positive i can gs f m cs pulled table z = carried_pair p k gens_fit fit can.start var below expr row den size wide (i.wide ∙ wide) i.positive (inverse_maps p.cons.dim var expr row den size below positive i) gs m cs pulled table z f

-- the other way round
pub preimage_pair : (p : Polyhedron) → IsKept p → FitDimension p.gens → FitConstraints p.cons → (var : ℕ) → var < p.cons.dim → (expr row : List ℤ) (den size : ℤ) → length expr ≡ p.cons.dim + 1 → pos 0 <ℤ den → IsInverseRow var expr den row size → CanBeCarried p (cell expr var) → (gs : Generators) → FitDimension gs → IsMappedSystem (substituted var row size) p.cons.dim p.gens gs → (cs : Constraints) → IsPulledSystem (pulled_back var expr den) p.cons.dim p.cons cs → (table : Table) → KeepsZeros p table → IsMinimalPair cs gs table
preimage_pair p k gens_fit fit var below expr row den size wide positive i can gs f m cs pulled table z = carried_pair p k gens_fit fit can.start var below row expr size den (i.wide ∙ wide) wide positive (other_way (p.cons.dim + 1) (substituted var expr den) (substituted var row size) (inverse_maps p.cons.dim var expr row den size below positive i)) gs m cs pulled table z f

-- ---- machine numbers
pub machine_inverse : (var : ℕ) (expr : List ℤ) (den size : ℤ) (items lent : List ℤ) → to_z w128 (of_z w128 den) ≡ den → lent ≡ items → IsInverseRow var expr (to_z w128 (of_z w128 den)) items size → IsInverseRow var expr den lent size
machine_inverse var expr den size items lent e d j = subst (λ (x : ℤ). IsInverseRow var expr x lent size) e (subst (λ (xs : List ℤ). IsInverseRow var expr (to_z w128 (of_z w128 den)) xs size) (sym d) j)

machine_size : (a size : ℤ) → InRange a → size ≡ pos (unsigned_abs (to_z w128 (of_z w128 a))) → to_z w128 (of_z w128 size) ≡ pos (unsigned_abs a)
machine_size a size r v =
    ap (λ (z : ℤ). to_z w128 (of_z w128 z)) (v ∙ ap (λ (z : ℤ). pos (unsigned_abs z)) (back a r)) ∙ back (pos (unsigned_abs a)) (record { size = r.size })

pub machine_in_range : (a size : ℤ) → InRange a → size ≡ pos (unsigned_abs (to_z w128 (of_z w128 a))) → InRange (to_z w128 (of_z w128 size))
machine_in_range a size r v = subst InRange (sym (machine_size a size r v)) (record { size = r.size })

pub machine_pulled : (p : Polyhedron) (var : ℕ) (a size : ℤ) (lent : List ℤ) (old cs : Constraints) → InRange a → size ≡ pos (unsigned_abs (to_z w128 (of_z w128 a))) → old ≡ p.cons → IsPulledSystem (pulled_back var lent (to_z w128 (of_z w128 size))) old.dim old cs → IsPulledSystem (pulled_back var lent (pos (unsigned_abs a))) p.cons.dim p.cons cs
machine_pulled p var a size lent old cs r v same s =
    subst (λ (c : Constraints). IsPulledSystem (pulled_back var lent (pos (unsigned_abs a))) c.dim c cs) same (subst (λ (z : ℤ). IsPulledSystem (pulled_back var lent z) old.dim old cs) (machine_size a size r v) s)

-- the constraint whose map leaves the range
pub machine_turned : (p : Polyhedron) (var : ℕ) (a size : ℤ) (lent : List ℤ) (old : Constraints) (e : ConvErr) (over : Overflow) → InRange a → size ≡ pos (unsigned_abs (to_z w128 (of_z w128 a))) → old ≡ p.cons → e ≡ conversion.Overflow over → IsOverflowIn (SomeLeavesInPullback var lent (to_z w128 (of_z w128 size)) old.list) e → LeavesInTurned var lent (pos (unsigned_abs a)) p
machine_turned p var a size lent old e over r v same is l = record {
  over = over;
  leaves = subst (IsOverflowIn (SomeLeavesInPullback var lent (pos (unsigned_abs a)) p.cons.list)) is
      (subst (λ (cs : Constraints). IsOverflowIn (SomeLeavesInPullback var lent (pos (unsigned_abs a)) cs.list) e) same
      (subst (λ (z : ℤ). IsOverflowIn (SomeLeavesInPullback var lent z old.list) e) (machine_size a size r v) l));
}

-- the generator whose map does
pub machine_left : (p : Polyhedron) (var : ℕ) (a size : ℤ) (lent : List ℤ) (old : Generators) (e : ConvErr) (over : Overflow) → InRange a → size ≡ pos (unsigned_abs (to_z w128 (of_z w128 a))) → old ≡ p.gens → e ≡ conversion.Overflow over → IsOverflowIn (SomeLeavesInImage var lent (to_z w128 (of_z w128 size)) old.list) e → LeavesInMapped var lent (pos (unsigned_abs a)) p
machine_left p var a size lent old e over r v same is l = record {
  over = over;
  leaves = subst (IsOverflowIn (SomeLeavesInImage var lent (pos (unsigned_abs a)) p.gens.list)) is
      (subst (λ (gs : Generators). IsOverflowIn (SomeLeavesInImage var lent (pos (unsigned_abs a)) gs.list) e) same
      (subst (λ (z : ℤ). IsOverflowIn (SomeLeavesInImage var lent z old.list) e) (machine_size a size r v) l));
}

pub machine_positive : (a size : ℤ) → InRange a → size ≡ pos (unsigned_abs (to_z w128 (of_z w128 a))) → pos 0 <ℤ pos (unsigned_abs a) → pos 0 <ℤ to_z w128 (of_z w128 size)
machine_positive a size r v h = subst (λ (z : ℤ). pos 0 <ℤ z) (sym (machine_size a size r v)) h

pub machine_mapped : (p : Polyhedron) (var : ℕ) (a size : ℤ) (lent : List ℤ) (old gs : Generators) → InRange a → size ≡ pos (unsigned_abs (to_z w128 (of_z w128 a))) → old ≡ p.gens → IsKept p → IsMappedSystem (substituted var lent (to_z w128 (of_z w128 size))) old.dim old gs → IsMappedSystem (substituted var lent (pos (unsigned_abs a))) p.cons.dim p.gens gs
machine_mapped p var a size lent old gs r v same k s =
    lent_generators (λ n. substituted var lent (pos (unsigned_abs a))) (λ n. n) p old gs same k (subst (λ (z : ℤ). IsMappedSystem (substituted var lent z) old.dim old gs) (machine_size a size r v) s)

-- a number of the range, negated to take its size, fits
pub machine_negated : (a : ℤ) → InRange a → SFits w128 (neg_ℤ (to_z w128 (of_z w128 a)))
machine_negated a r = subst (λ (z : ℤ). SFits w128 (neg_ℤ z)) (sym (back a r)) (fits_signed_from_abs w128 (neg_ℤ a) (subst (λ (n : ℕ). n < 2 ^ 127) (sym (magnitude-neg a)) r.size))
