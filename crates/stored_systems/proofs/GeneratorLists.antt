-- The systems of a generator list: the stored pair generates what the generators generate, and holds where each row that is valid on them holds.
use Rattle.std.proofs.Common.{◌≡◌, ◌⊎◌, inl, inr, ℕ, ◌+◌, ◌<◌, List, [], length, slice_index_or, ℤ, pos, ◌+ℤ◌, ◌*ℤ◌, ◌≤ℤ◌, ◌<ℤ◌, sym, ◌∙◌, subst, arith, All}
use Rattle.std.specs.Prelude.{◌↔◌}
use Rattle.std.proofs.lemmas.Int.{ints}
use Rattle.std.proofs.lemmas.List.Elements.{All-map, All-weaker, All-get_or}
use Rattle.row_core.specs.Vectors.{cell, dot, combined}
use Rattle.row_core.specs.Points.{IsPoint}
use Rattle.row_core.specs.Lists.{Row, system_rows}
use Rattle.cone_laws.specs.Cones.{Meets, Spans, Generates}
use Rattle.cone_laws.specs.Canon.{vector_at}
use Rattle.cone_laws.proofs.Columns.{dot_comm}
use Rattle.cone_laws.proofs.Ring.{mul-positive, by_sign}
use Rattle.cone_laws.proofs.Factors.{at_least_zero_from_all}
use Rattle.cone_laws.proofs.UptoRows.{asks_least}
use Rattle.cone_laws.proofs.Bipolar.{admitted_is_spanned, spanned_is_admitted}
use Rattle.gens_sys.specs.Kinds.{HasBadDivisor}
use Rattle.gens_sys.specs.declared.kind.GenKind.{GenKind}
use Rattle.gens_sys.specs.declared.kind.GenKind.TheVariants.{Line, Ray, Point, ClosurePoint}
use Rattle.gens_sys.specs.Generators.{Generator, Generators, generator_at, kind_at}
use Rattle.gens_sys.specs.Spans.{Span}
use Rattle.cone_laws.specs.Members.{ConeOf}
use Rattle.cone_laws.specs.DualSystems.{IsDual, AreSystemsOf}
use Rattle.cone_laws.proofs.MemberLemmas.{cone_meets, cone_from, spanned_within}
use Rattle.cone_laws.proofs.SystemLists.{zero_on_lines}
use Rattle.cone_laws.proofs.ValidRows.{valid_of_row, row_of_valid, are_dual, admits_second}
use Rattle.stored_systems.specs.WorkLists.{divisor_row, generator_row, generator_list}
use Rattle.stored_systems.specs.PointSets.{IsClosedGen, AreClosedGens}
use Rattle.stored_systems.specs.StoredForms.{stored_generators, AreClosedSystems}
use Rattle.stored_systems.specs.FirstLists.{GeneratorListSpans, PointOfGenerators, PairOfGenerators}
use Rattle.stored_systems.proofs.ListLemmas.{All-unmap}
use Rattle.stored_systems.proofs.DivisorRow.{dot_divisor, length-divisor}
use Rattle.stored_systems.proofs.ClosedGenerators.{HasPositive, positive_term, zero_divisor, spans_generated, generated_spans}
use Rattle.stored_systems.proofs.StoredPair.{gens_closed, stored_generates, stored_spans}
use Rattle.stored_systems.proofs.NeededRows.{combined_zero}
use Rattle.stored_systems.proofs.Pivots.{second_positive, point_of_divisor}

-- ---- the last entry of a closed generator
at_least_one : (z : ℤ) → ¬ (z <ℤ pos 1) → pos 0 <ℤ z
at_least_one z h = by_case (by_sign z)
  where
    by_case : (pos 0 <ℤ z) ⊎ ((z <ℤ pos 0) ⊎ (z ≡ pos 0)) → pos 0 <ℤ z
    by_case (inl p) = p
    by_case (inr (inl p)) = absurd (h (omega (arith, ints)))
    by_case (inr (inr p)) = absurd (h (omega (arith, ints, p)))

least : (z : ℤ) → pos 0 <ℤ z → pos 0 ≤ℤ z
least z h = omega (arith, ints)

meets_divisor : (dim : ℕ) (g : Generator) → IsClosedGen dim g → Meets (divisor_row dim) (generator_row g)
meets_divisor dim (v, Line) c = dot_comm v (divisor_row dim) ∙ dot_divisor dim v ∙ zero_divisor (cell v dim) c.divisor
meets_divisor dim (v, Ray) c = subst (λ (z : ℤ). pos 0 ≤ℤ z) (sym (dot_comm v (divisor_row dim) ∙ dot_divisor dim v)) (zero_least (cell v dim) (zero_divisor (cell v dim) c.divisor))
  where
    zero_least : (z : ℤ) → z ≡ pos 0 → pos 0 ≤ℤ z
    zero_least z e = omega (arith, ints)
meets_divisor dim (v, Point) c = subst (λ (z : ℤ). pos 0 ≤ℤ z) (sym (dot_comm v (divisor_row dim) ∙ dot_divisor dim v)) (least (cell v dim) (at_least_one (cell v dim) c.divisor))
meets_divisor dim (v, ClosurePoint) c = absurd c.kind

point_positive : (dim : ℕ) (g : Generator) → IsClosedGen dim g → g.1 ≡ Point → pos 0 <ℤ cell g.0 dim
point_positive dim g c e = at_least_one (cell g.0 dim) (subst (λ (k : GenKind). ¬ (HasBadDivisor k (cell g.0 dim))) e c.divisor)

divisor_admitted : (gs : Generators) → AreClosedGens gs → ConeOf (gs.dim + 1) (generator_list gs) (divisor_row gs.dim)
divisor_admitted gs closed =
    cone_from (gs.dim + 1) (generator_list gs) (divisor_row gs.dim) (length-divisor gs.dim)
    (All-map (Meets (divisor_row gs.dim)) generator_row gs.list (λ i d h. meets_divisor gs.dim (slice_index_or gs.list i d) (closed i d h)))

-- each row that the list admits is at least 0 on its generators
least_on_generator : (gs : Generators) (k : ℕ) → k < length gs.list → (a : List ℤ) → ConeOf (gs.dim + 1) (generator_list gs) a → pos 0 ≤ℤ dot a (generator_at gs.list k).0
least_on_generator gs k below a u =
    subst (λ (z : ℤ). pos 0 ≤ℤ z) (dot_comm (generator_at gs.list k).0 a)
    (asks_least (generator_row (generator_at gs.list k)).1 (dot (generator_at gs.list k).0 a) (All-unmap generator_row (Meets a) gs.list (cone_meets (gs.dim + 1) (generator_list gs) a u) k ([], Line) below))

pub point_of_generators : PointOfGenerators
point_of_generators gs equalities inequalities k closed wide first below point =
    point_of_divisor gs.dim equalities inequalities first.system.echelon (λ x b. (first.system.generates.lines_within x [] b).0.wide) inner
    (λ x b. zero_on_lines (gs.dim + 1) equalities inequalities inner (row_of_valid (gs.dim + 1) (ConeOf (gs.dim + 1) (generator_list gs)) equalities inequalities first.system.generates inner (All-get_or (λ (x : Generator). length x.0 ≡ gs.dim + 1) gs.list k ([], Line) below wide) (λ a u. subst (λ (z : ℤ). pos 0 ≤ℤ z) (dot_comm a inner) (least_on_generator gs k below a u))) x [] b)
    (point_positive gs.dim (generator_at gs.list k) (All-get_or (IsClosedGen gs.dim) gs.list k ([], Line) below closed) point)
    (first.system.generates.spans (divisor_row gs.dim) (divisor_admitted gs closed))
  where
    inner : List ℤ
    inner = (generator_at gs.list k).0

module _ (gs : Generators) (closed : AreClosedGens gs) (wide : All (λ g. length g.0 ≡ gs.dim + 1) gs.list) (equalities inequalities lines rays : List (List ℤ)) (systems : AreSystemsOf (gs.dim + 1) (generator_list gs) equalities inequalities lines rays) where
  first_gen : Generates (ConeOf (gs.dim + 1) (generator_list gs)) equalities inequalities
  first_gen = systems.first.system.generates

  second_gen : Generates (ConeOf (gs.dim + 1) (system_rows equalities inequalities)) lines rays
  second_gen = systems.second.system.generates

  swapped : IsDual (gs.dim + 1) lines rays equalities inequalities
  swapped =
      let d = are_dual (gs.dim + 1) (generator_list gs) equalities inequalities lines rays systems in
      record { vectors = d.rows; rows = d.vectors }

  pub divisor_row_in : ConeOf (gs.dim + 1) (system_rows lines rays) (divisor_row gs.dim)
  divisor_row_in = admits_second (gs.dim + 1) (generator_list gs) equalities inequalities lines rays systems.first.system.generates systems.second.system.generates (divisor_row gs.dim) (divisor_admitted gs closed)

  -- what each row that is valid on the generators admits
  pub admitted_by_rows : (v : List ℤ) → length v ≡ gs.dim + 1 → ((a : List ℤ) → ConeOf (gs.dim + 1) (generator_list gs) a → pos 0 ≤ℤ dot a v) → ConeOf (gs.dim + 1) (system_rows equalities inequalities) v
  admitted_by_rows v w h = row_of_valid (gs.dim + 1) (ConeOf (gs.dim + 1) (generator_list gs)) equalities inequalities first_gen v w (λ a u. subst (λ (z : ℤ). pos 0 ≤ℤ z) (dot_comm a v) (h a u))

  pub rows_admit : (v : List ℤ) → ConeOf (gs.dim + 1) (system_rows equalities inequalities) v → (a : List ℤ) → ConeOf (gs.dim + 1) (generator_list gs) a → pos 0 ≤ℤ dot a v
  rows_admit v u a m = subst (λ (z : ℤ). pos 0 ≤ℤ z) (dot_comm v a) (valid_of_row (gs.dim + 1) (ConeOf (gs.dim + 1) (generator_list gs)) equalities inequalities first_gen v u a m)

  module _ (k : ℕ) (below : k < length gs.list) (point : kind_at gs.list k ≡ Point) where
    good : IsClosedGen gs.dim (generator_at gs.list k)
    good = All-get_or (IsClosedGen gs.dim) gs.list k ([], Line) below closed

    point_in : ConeOf (gs.dim + 1) (system_rows equalities inequalities) (generator_at gs.list k).0
    point_in =
        admitted_by_rows (generator_at gs.list k).0 (All-get_or (λ (x : Generator). length x.0 ≡ gs.dim + 1) gs.list k ([], Line) below wide)
        (λ a u. least_on_generator gs k below a u)

    spanned : Spans lines rays (generator_at gs.list k).0
    spanned = second_gen.spans (generator_at gs.list k).0 point_in

    lines_level : All (λ l. cell l gs.dim ≡ pos 0) lines
    lines_level = All-weaker (λ l. dot (divisor_row gs.dim) l ≡ pos 0) (λ l. cell l gs.dim ≡ pos 0) (λ l e. sym (dot_divisor gs.dim l) ∙ e) lines (zero_on_lines (gs.dim + 1) lines rays (divisor_row gs.dim) divisor_row_in)

    rays_share : (t v x y : ℤ) → pos 0 <ℤ t → pos 0 <ℤ v → t *ℤ v ≡ x +ℤ y → x ≡ pos 0 → pos 0 <ℤ y
    rays_share t v x y p q e f = omega (arith, ints, mul-positive t v p q, e, f)

    term : HasPositive spanned.ray_factors rays gs.dim
    term = positive_term spanned.ray_factors rays gs.dim (rays_share spanned.times (cell (generator_at gs.list k).0 gs.dim) (combined spanned.line_factors lines gs.dim) (combined spanned.ray_factors rays gs.dim) spanned.positive (point_positive gs.dim (generator_at gs.list k) good point) (spanned.sum gs.dim) (combined_zero spanned.line_factors lines gs.dim lines_level))

    pub gens_polyhedral : AreClosedSystems gs.dim lines rays equalities inequalities
    gens_polyhedral = record {
      dual = swapped;
      divisor = divisor_row_in;
      point = record { index = term.index; below = term.below; positive = second_positive (cell spanned.ray_factors term.index) (cell (vector_at rays term.index) gs.dim) (at_least_zero_from_all spanned.ray_factors spanned.at_least_zero term.index) term.above };
    }

    list_wide : All (λ (x : Row). length x.0 ≡ gs.dim + 1) (generator_list gs)
    list_wide = All-map (λ (x : Row). length x.0 ≡ gs.dim + 1) generator_row gs.list wide

    -- the stored generators generate what the given ones generate
    pub gens_span_same : (p : List ℤ) → IsPoint gs.dim p → Span gs p ↔ Span (record { dim = gs.dim; list = stored_generators gs.dim lines rays }) p
    gens_span_same p pt = (
      (λ s. stored_spans gs.dim lines rays p (gens_closed gs.dim lines rays equalities inequalities gens_polyhedral) pt.positive
          (second_gen.spans p (admitted_by_rows p pt.wide (λ a u. spanned_is_admitted (gs.dim + 1) (generator_list gs) p (spans_generated gs p s) a u)))),
      (λ s. generated_spans gs p closed pt.positive
          (admitted_is_spanned (gs.dim + 1) (generator_list gs) p list_wide pt.wide (λ a u. rows_admit p (stored_in p pt s) a u))),
    )
      where
        stored_in : (p : List ℤ) → IsPoint gs.dim p → Span (record { dim = gs.dim; list = stored_generators gs.dim lines rays }) p → ConeOf (gs.dim + 1) (system_rows equalities inequalities) p
        stored_in p pt s = spanned_within (gs.dim + 1) (system_rows equalities inequalities) (length (system_rows equalities inequalities)) lines rays p second_gen pt.wide (stored_generates gs.dim lines rays p s)

pub pair_of_generators : PairOfGenerators
pair_of_generators gs equalities inequalities lines rays k closed wide s below point = (
  gens_polyhedral gs closed wide equalities inequalities lines rays s k below point,
  gens_span_same gs closed wide equalities inequalities lines rays s k below point,
)

pub generator_list_spans : GeneratorListSpans
generator_list_spans gs p closed pt = (spans_generated gs p, generated_spans gs p closed pt.positive)
