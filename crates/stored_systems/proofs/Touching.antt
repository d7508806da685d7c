-- Each stored inequality is 0 at a stored point.
use Rattle.std.proofs.Common.{◌≡◌, ◌⊎◌, inl, inr, ℕ, zero, suc, ◌+◌, ◌<◌, List, [], ◌∷◌, length, slice_index_or, map, not, false, ℤ, pos, negsuc, ◌<ℤ◌, refl, sym, ap, ◌∙◌, subst, arith, All}
use Rattle.std.proofs.lemmas.Int.{ints}
use Rattle.std.proofs.lemmas.List.{length-map, get_or-map}
use Rattle.std.proofs.lemmas.List.Elements.{All-append, All-map, All-filter, All-get_or, All-from_get_or, filter_passes}
use Rattle.row_core.specs.Vectors.{cell, dot}
use Rattle.row_core.specs.Lists.{Row, row_at, system_rows}
use Rattle.cone_laws.specs.Canon.{vector_at}
use Rattle.cone_laws.specs.Cones.{Spans}
use Rattle.cone_laws.proofs.Columns.{dot_comm}
use Rattle.cons_sys.specs.declared.kind.ConKind.TheVariants.{Eq, Ge}
use Rattle.cons_sys.specs.Constraints.{Constraint, Constraints}
use Rattle.gens_sys.specs.declared.kind.GenKind.TheVariants.{Line, Point}
use Rattle.gens_sys.specs.Generators.{Generator, Generators, generator_at, vector_kind}
use Rattle.cone_laws.specs.ExtremeRays.{Touches}
use Rattle.cone_laws.proofs.ExtremeRays.{ray_touches}
use Rattle.cone_laws.proofs.LikeRays.{like_ray_is_same}
use Rattle.stored_systems.specs.WorkLists.{divisor_row, generator_row}
use Rattle.stored_systems.specs.StoredForms.{is_divisor_row, stored_constraints, stored_generators, AreClosedSystems}
use Rattle.stored_systems.specs.StoredLaws.{TouchesPoint, StoredInequalitiesTouch}
use Rattle.stored_systems.proofs.DivisorRow.{dot_divisor, length-divisor, cell-divisor_last, divisor_primitive, kept_other}
use Rattle.stored_systems.proofs.StoredPair.{all_plain, kept_rows, gen_list_stored, lines_flat}
use Rattle.stored_systems.proofs.Pivots.{systems_divisor_zero}
use Rattle.stored_systems.proofs.Stored.{with_lists, empty_has_no_point}

positive_kind : (z : ℤ) → pos 0 <ℤ z → vector_kind z ≡ Point
positive_kind (pos zero) h = absurd (omega (arith, ints, h))
positive_kind (pos (suc n)) h = refl
positive_kind (negsuc n) h = refl

not_flat : (z : ℤ) → z ≡ pos 0 → pos 0 <ℤ z → ⊥
not_flat z e h = omega (arith, ints)

not_zero : (z : ℤ) → z ≡ pos 1 → z ≡ pos 0 → ⊥
not_zero z e f = omega (arith, ints)

no_inequality : Eq ≡ Ge → ⊥
no_inequality e = cc

-- a generator with a positive last entry is a point
abbrev IsPointThere : ℕ → Generator → Type 0
IsPointThere dim g = pos 0 <ℤ cell g.0 dim → g.1 ≡ Point

module _ (dim : ℕ) (lines rays equalities inequalities : List (List ℤ)) (systems : AreClosedSystems dim lines rays equalities inequalities) where
  abbrev stored : Generators
  stored = record { dim = dim; list = stored_generators dim lines rays }

  points_there : All (IsPointThere dim) (stored_generators dim lines rays)
  points_there =
      All-append (IsPointThere dim) (map (λ l. (l, Line)) lines) (map (λ r. (r, vector_kind (cell r dim))) rays)
      (All-map (IsPointThere dim) (λ (l : List ℤ). (l, Line)) lines (λ i d h p. absurd (not_flat (cell (slice_index_or lines i d) dim) (lines_flat dim lines rays equalities inequalities systems i d h) p)))
      (All-map (IsPointThere dim) (λ (r : List ℤ). (r, vector_kind (cell r dim))) rays (λ i d h p. positive_kind (cell (slice_index_or rays i d) dim) p))

  as_many : length (stored_generators dim lines rays) ≡ length (system_rows lines rays)
  as_many = sym (length-map {B = Row} (stored_generators dim lines rays) generator_row) ∙ ap length (gen_list_stored dim lines rays)

  same_row : (i : ℕ) → i < length (stored_generators dim lines rays) → row_at (system_rows lines rays) i ≡ (generator_at (stored_generators dim lines rays) i).0
  same_row i h =
      ap (λ (rows : List Row). row_at rows i) (sym (gen_list_stored dim lines rays))
      ∙ ap (λ (r : Row). r.0) (get_or-map generator_row (stored_generators dim lines rays) i ([], Line) ([], false) h)

  of_touched : (a : List ℤ) → Touches (system_rows lines rays) a (divisor_row dim) → TouchesPoint (record { dim = dim; list = stored_generators dim lines rays }) a
  of_touched a t =
      let below : t.index < length (stored_generators dim lines rays) = omega (arith, as_many, t.below) in
      let row = same_row t.index below in
      record {
        index = t.index;
        below = below;
        point = All-get_or (IsPointThere dim) (stored_generators dim lines rays) t.index ([], Line) below points_there
            (subst (λ (z : ℤ). pos 0 <ℤ z) (ap (λ (v : List ℤ). dot v (divisor_row dim)) row ∙ dot_comm (generator_at (stored_generators dim lines rays) t.index).0 (divisor_row dim) ∙ dot_divisor dim (generator_at (stored_generators dim lines rays) t.index).0) t.positive);
        zero = dot_comm a (generator_at (stored_generators dim lines rays) t.index).0 ∙ ap (λ (v : List ℤ). dot v a) (sym row) ∙ t.zero;
      }

  -- an inequality other than the row of the divisor
  inequality_touches : (i : ℕ) → i < length inequalities → (vector_at inequalities i ≡ divisor_row dim → ⊥) → TouchesPoint (record { dim = dim; list = stored_generators dim lines rays }) (vector_at inequalities i)
  inequality_touches i b other = by_case (ray_touches (dim + 1) (system_rows lines rays) equalities inequalities i (divisor_row dim) systems.dual.rows.system b systems.divisor)
    where
      by_case : Touches (system_rows lines rays) (vector_at inequalities i) (divisor_row dim) ⊎ Spans equalities (vector_at inequalities i ∷ []) (divisor_row dim) → TouchesPoint (record { dim = dim; list = stored_generators dim lines rays }) (vector_at inequalities i)
      by_case (inl t) = of_touched (vector_at inequalities i) t
      by_case (inr s) =
          absurd (other (sym (like_ray_is_same equalities inequalities i (divisor_row dim) systems.dual.rows.system.echelon b
          (length-divisor dim ∙ sym (systems.dual.rows.system.generates.rays_within i [] b).wide) (divisor_primitive dim) (systems.dual.rows.system.primitive_rays i [] b)
          (systems_divisor_zero dim lines rays equalities inequalities systems)
          (λ z. not_zero (cell (divisor_row dim) dim) (cell-divisor_last dim) (z dim)) s)))

  pub kept_touch : All (TouchesPoint (record { dim = dim; list = stored_generators dim lines rays })) (kept_rows dim inequalities)
  kept_touch i d h =
      All-filter (λ r. not (is_divisor_row dim r)) (λ r. (r ≡ divisor_row dim → ⊥) → TouchesPoint (record { dim = dim; list = stored_generators dim lines rays }) r) inequalities
      (All-from_get_or (λ r. (r ≡ divisor_row dim → ⊥) → TouchesPoint (record { dim = dim; list = stored_generators dim lines rays }) r) inequalities [] inequality_touches)
      i d h (λ e. kept_other dim (slice_index_or (kept_rows dim inequalities) i d) (filter_passes (λ r. not (is_divisor_row dim r)) inequalities i d h) e)

  pub each_touches : All (λ (c : Constraint). c.1 ≡ Ge → TouchesPoint (record { dim = dim; list = stored_generators dim lines rays }) c.0) (stored_constraints dim equalities inequalities)
  each_touches =
      all_plain (λ (c : Constraint). c.1 ≡ Ge → TouchesPoint (record { dim = dim; list = stored_generators dim lines rays }) c.0) equalities (kept_rows dim inequalities)
      (λ i d h e. absurd (no_inequality e))
      (λ i d h e. kept_touch i d h)

abbrev InequalitiesTouch : Constraints → Generators → Type 0
InequalitiesTouch cs gs = All (λ (c : Constraint). c.1 ≡ Ge → TouchesPoint gs c.0) cs.list

pub stored_inequalities_touch : StoredInequalitiesTouch
stored_inequalities_touch cs gs p i (inl e) w h k = absurd (empty_has_no_point cs gs e p w)
stored_inequalities_touch cs gs p i (inr f) w h k = with_lists InequalitiesTouch cs gs f (each_touches cs.dim f.lines f.rays f.equalities f.inequalities f.systems) i ([], Eq) h k
