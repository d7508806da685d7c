-- In the stored systems of a dual pair no constraint and no generator can be left out.
use Rattle.std.proofs.Common.{◌≡◌, ◌⊎◌, inl, inr, ℕ, ◌+◌, ◌-◌, ◌<◌, ◌≤◌, List, [], ◌∷◌, ◌++◌, length, map, not, remove, true, false, ℤ, pos, ◌≤ℤ◌, ◌<ℤ◌, refl, sym, ap, ◌∙◌, subst, arith, All}
use Rattle.std.specs.Prelude.{Contains}
use Rattle.std.proofs.lemmas.Int.{ints}
use Rattle.std.proofs.lemmas.Bool.{cases_lt}
use Rattle.std.proofs.lemmas.List.{length-map, length-append}
use Rattle.std.proofs.lemmas.List.Edits.{remove-append_left, remove-append_right}
use Rattle.std.proofs.lemmas.List.Elements.{All-cons, All-append, All-map, All-filter, All-contains_itself, All-from_get_or, filter_passes}
use Rattle.row_core.specs.Vectors.{cell}
use Rattle.row_core.specs.Points.{IsPoint}
use Rattle.row_core.specs.Lists.{Row, system_rows}
use Rattle.cone_laws.specs.Cones.{Spans, Generates}
use Rattle.cone_laws.specs.Canon.{vector_at}
use Rattle.cone_laws.specs.Duality.{lines_of, rays_of}
use Rattle.cone_laws.proofs.Columns.{dot_comm}
use Rattle.cone_laws.proofs.Factors.{All-remove}
use Rattle.cone_laws.proofs.UniqueSystems.{upto_cone}
use Rattle.cone_laws.proofs.Bipolar.{admitted_is_spanned, spanned_is_admitted}
use Rattle.cons_sys.specs.declared.kind.ConKind.TheVariants.{Eq, Ge}
use Rattle.cons_sys.specs.Constraints.{Constraint, Constraints, Satisfies, In}
use Rattle.gens_sys.specs.declared.kind.GenKind.TheVariants.{Line}
use Rattle.gens_sys.specs.Generators.{Generator, Generators, vector_kind}
use Rattle.gens_sys.specs.Spans.{Span}
use Rattle.cone_laws.specs.Members.{ConeOf}
use Rattle.cone_laws.proofs.SystemLists.{lines_of-system_rows, rays_of-system_rows}
use Rattle.stored_systems.specs.WorkLists.{divisor_row, constraint_row, constraint_list, generator_row, generator_list}
use Rattle.stored_systems.specs.PointSets.{IsClosedKind, AreClosed, IsWithin}
use Rattle.stored_systems.specs.StoredForms.{is_divisor_row, stored_constraints, stored_generators, AreClosedSystems}
use Rattle.stored_systems.specs.StoredLaws.{AreIrredundantConstraints, AreIrredundantGenerators}
use Rattle.stored_systems.proofs.DivisorRow.{length-divisor, cell-divisor_last, divisor_primitive, kept_other}
use Rattle.stored_systems.proofs.Directions.{above_everywhere}
use Rattle.stored_systems.proofs.ClosedConstraints.{above_cone}
use Rattle.stored_systems.proofs.ClosedGenerators.{spans_generated}
use Rattle.stored_systems.proofs.StoredPair.{plain_cons, kept_rows, gen_list_stored, pair_closed, pair_wide, vector_divisor, cone_point, inner_point, inner_within, holds_generated, row_valid}
use Rattle.stored_systems.proofs.RemovedElements.{remove-map, contains_here, all_later, IsFrom, from_filtered, more_spans}
use Rattle.stored_systems.proofs.NeededRows.{line_needed, extra_is}
use Rattle.stored_systems.proofs.Pivots.{systems_divisor_zero}

-- ---- the list of plain constraints
mark_ges : (inequalities : List (List ℤ)) → map constraint_row (map (λ r. (r, Ge)) inequalities) ≡ map (λ r. (r, false)) inequalities
mark_ges [] = refl
mark_ges (r ∷ inequalities) = ap (λ (rs : List Row). (r, false) ∷ rs) (mark_ges inequalities)

-- the rows of plain constraints, the equalities first
pub con_rows_plain : (equalities inequalities : List (List ℤ)) → map constraint_row (plain_cons equalities inequalities) ≡ system_rows equalities inequalities
con_rows_plain [] inequalities = mark_ges inequalities
con_rows_plain (l ∷ equalities) inequalities = ap (λ (rs : List Row). (l, true) ∷ rs) (con_rows_plain equalities inequalities)

remove_eq : (equalities inequalities : List (List ℤ)) (i : ℕ) → i < length equalities → remove (plain_cons equalities inequalities) i ≡ plain_cons (remove equalities i) inequalities
remove_eq equalities inequalities i h =
    remove-append_left (map (λ l. (l, Eq)) equalities) (map (λ r. (r, Ge)) inequalities) i (omega (arith, h, length-map {B = Constraint} equalities (λ (l : List ℤ). (l, Eq))))
    ∙ ap (λ (xs : List Constraint). xs ++ map (λ r. (r, Ge)) inequalities) (remove-map (λ (l : List ℤ). (l, Eq)) equalities i)

remove_ge : (equalities inequalities : List (List ℤ)) (i : ℕ) → length equalities ≤ i → remove (plain_cons equalities inequalities) i ≡ plain_cons equalities (remove inequalities (i - length equalities))
remove_ge equalities inequalities i h =
    remove-append_right (map (λ l. (l, Eq)) equalities) (map (λ r. (r, Ge)) inequalities) (length equalities) i (length-map {B = Constraint} equalities (λ (l : List ℤ). (l, Eq))) h
    ∙ ap (λ (xs : List Constraint). map (λ l. (l, Eq)) equalities ++ xs) (remove-map (λ (r : List ℤ). (r, Ge)) inequalities (i - length equalities))

length_plain : (equalities inequalities : List (List ℤ)) → length (plain_cons equalities inequalities) ≡ length equalities + length inequalities
length_plain equalities inequalities =
    let a = length-append {A = Constraint} (map (λ l. (l, Eq)) equalities) (map (λ r. (r, Ge)) inequalities) in
    let b = length-map {B = Constraint} equalities (λ (l : List ℤ). (l, Eq)) in
    let c = length-map {B = Constraint} inequalities (λ (r : List ℤ). (r, Ge)) in
    omega (arith, a, b, c)

-- ---- the list of stored generators
remove_line : (dim : ℕ) (lines rays : List (List ℤ)) (i : ℕ) → i < length lines → remove (stored_generators dim lines rays) i ≡ stored_generators dim (remove lines i) rays
remove_line dim lines rays i h =
    remove-append_left (map (λ l. (l, Line)) lines) (map (λ r. (r, vector_kind (cell r dim))) rays) i (omega (arith, h, length-map {B = Generator} lines (λ (l : List ℤ). (l, Line))))
    ∙ ap (λ (xs : List Generator). xs ++ map (λ r. (r, vector_kind (cell r dim))) rays) (remove-map (λ (l : List ℤ). (l, Line)) lines i)

remove_ray : (dim : ℕ) (lines rays : List (List ℤ)) (i : ℕ) → length lines ≤ i → remove (stored_generators dim lines rays) i ≡ stored_generators dim lines (remove rays (i - length lines))
remove_ray dim lines rays i h =
    remove-append_right (map (λ l. (l, Line)) lines) (map (λ r. (r, vector_kind (cell r dim))) rays) (length lines) i (length-map {B = Generator} lines (λ (l : List ℤ). (l, Line))) h
    ∙ ap (λ (xs : List Generator). map (λ l. (l, Line)) lines ++ xs) (remove-map (λ (r : List ℤ). (r, vector_kind (cell r dim))) rays (i - length lines))

pub length_stored : (dim : ℕ) (lines rays : List (List ℤ)) → length (stored_generators dim lines rays) ≡ length lines + length rays
length_stored dim lines rays =
    let a = length-append {A = Generator} (map (λ l. (l, Line)) lines) (map (λ r. (r, vector_kind (cell r dim))) rays) in
    let b = length-map {B = Generator} lines (λ (l : List ℤ). (l, Line)) in
    let c = length-map {B = Generator} rays (λ (r : List ℤ). (r, vector_kind (cell r dim))) in
    omega (arith, a, b, c)

spans_marked : (lines rays : List (List ℤ)) (v : List ℤ) → Spans (lines_of (system_rows lines rays)) (rays_of (system_rows lines rays)) v → Spans lines rays v
spans_marked lines rays v s =
    subst (λ (ls : List (List ℤ)). Spans ls rays v) (lines_of-system_rows lines rays)
    (subst (λ (rs : List (List ℤ)). Spans (lines_of (system_rows lines rays)) rs v) (rays_of-system_rows lines rays) s)

both_contained : (x : List ℤ) (xs ys : List (List ℤ)) → All (Contains xs) ys → All (Contains (x ∷ xs)) (x ∷ ys)
both_contained x xs ys h = All-cons (Contains (x ∷ xs)) x ys (contains_here x xs) (all_later x xs ys h)

module _ (dim : ℕ) (lines rays equalities inequalities : List (List ℤ)) (pair : AreClosedSystems dim lines rays equalities inequalities) where
  abbrev cs : Constraints
  cs = record { dim = dim; list = stored_constraints dim equalities inequalities }

  abbrev gs : Generators
  gs = record { dim = dim; list = stored_generators dim lines rays }

  abbrev kept : List (List ℤ)
  kept = kept_rows dim inequalities

  vectors_gen : Generates (ConeOf (dim + 1) (system_rows equalities inequalities)) lines rays
  vectors_gen = pair.dual.vectors.system.generates

  rows_gen : Generates (ConeOf (dim + 1) (system_rows lines rays)) equalities inequalities
  rows_gen = pair.dual.rows.system.generates

  abbrev inner : List ℤ
  inner = inner_point dim lines rays equalities inequalities pair

  -- ---- generators
  gens_wide : All (λ (g : Row). length g.0 ≡ dim + 1) (map generator_row (stored_generators dim lines rays))
  gens_wide =
      subst (λ (rs : List Row). All (λ (g : Row). length g.0 ≡ dim + 1) rs) (sym (gen_list_stored dim lines rays))
      (All-append (λ (g : Row). length g.0 ≡ dim + 1) (map (λ l. (l, true)) lines) (map (λ r. (r, false)) rays)
      (All-map (λ (g : Row). length g.0 ≡ dim + 1) (λ (l : List ℤ). (l, true)) lines (λ i d h. (vectors_gen.lines_within i d h).0.wide))
      (All-map (λ (g : Row). length g.0 ≡ dim + 1) (λ (r : List ℤ). (r, false)) rays (λ i d h. (vectors_gen.rays_within i d h).wide)))

  module _ (i : ℕ) (h : i < length gs.list) (same : (p : List ℤ) → IsPoint dim p → Span gs p → Span (record { dim = dim; list = remove (stored_generators dim lines rays) i }) p) where
    abbrev less : Generators
    less = record { dim = dim; list = remove (stored_generators dim lines rays) i }

    less_wide : All (λ (g : Row). length g.0 ≡ dim + 1) (generator_list less)
    less_wide = subst (λ (rs : List Row). All (λ (g : Row). length g.0 ≡ dim + 1) rs) (remove-map generator_row (stored_generators dim lines rays) i) (All-remove (λ (g : Row). length g.0 ≡ dim + 1) (map generator_row (stored_generators dim lines rays)) i gens_wide)

    -- what is left still spans the cone
    less_spans : (v : List ℤ) → ConeOf (dim + 1) (system_rows equalities inequalities) v → Spans (lines_of (generator_list less)) (rays_of (generator_list less)) v
    less_spans v u =
        admitted_is_spanned (dim + 1) (generator_list less) v less_wide u.wide
        (λ a m. above_everywhere dim (ConeOf (dim + 1) (system_rows equalities inequalities)) (upto_cone (dim + 1) (system_rows equalities inequalities) (length (system_rows equalities inequalities))) inner_ray inner_in pair.point.positive a
        (λ p c d. spanned_is_admitted (dim + 1) (generator_list less) p (spans_generated less p (same p (within p c d).point (holds_generated dim lines rays equalities inequalities pair p (within p c d).point (within p c d).holds))) a m)
        v u (vector_divisor dim lines rays equalities inequalities pair v u))
      where
        inner_ray : List ℤ
        inner_ray = vector_at rays pair.point.index

        inner_in : ConeOf (dim + 1) (system_rows equalities inequalities) (vector_at rays pair.point.index)
        inner_in = vectors_gen.rays_within pair.point.index [] pair.point.below

        within : (p : List ℤ) → ConeOf (dim + 1) (system_rows equalities inequalities) p → pos 0 <ℤ cell p dim → IsWithin (record { dim = dim; list = stored_constraints dim equalities inequalities }) p
        within p c d = cone_point dim lines rays equalities inequalities pair p c d

    generator_needed : (i < length lines) ⊎ (length lines ≤ i) → ⊥
    generator_needed (inl l) =
        line_needed lines rays pair.dual.vectors.system.echelon i l rays (λ m d k. pair_zero m d k)
        (spans_marked (remove lines i) rays (vector_at lines i)
        (subst (λ (xs : List Row). Spans (lines_of xs) (rays_of xs) (vector_at lines i)) (ap (map generator_row) (remove_line dim lines rays i l) ∙ gen_list_stored dim (remove lines i) rays)
        (less_spans (vector_at lines i) (vectors_gen.lines_within i [] l).0)))
      where
        pair_zero : All (λ r. cell r (pair.dual.vectors.system.echelon.pivot i) ≡ pos 0) rays
        pair_zero = All-from_get_or (λ r. cell r (pair.dual.vectors.system.echelon.pivot i) ≡ pos 0) rays [] (λ k b. pair.dual.vectors.system.echelon.rays_zero i k l b)
    generator_needed (inr l) =
        pair.dual.vectors.system.irredundant k below
        (spans_marked lines (remove rays k) (vector_at rays k)
        (subst (λ (xs : List Row). Spans (lines_of xs) (rays_of xs) (vector_at rays k)) (ap (map generator_row) (remove_ray dim lines rays i l) ∙ gen_list_stored dim lines (remove rays k))
        (less_spans (vector_at rays k) (vectors_gen.rays_within k [] below))))
      where
        k : ℕ
        k = i - length lines

        below : (i - length lines) < length rays
        below = omega (arith, h, l, length_stored dim lines rays)

  -- no generator to spare
  pub no_generator_to_spare : AreIrredundantGenerators gs
  no_generator_to_spare i h same = generator_needed i h same (cases_lt i (length lines))

  -- ---- constraints
  divisor_zero : (x : ℕ) → x < length equalities → cell (divisor_row dim) (pair.dual.rows.system.echelon.pivot x) ≡ pos 0
  divisor_zero = systems_divisor_zero dim lines rays equalities inequalities pair

  module _ (i : ℕ) (h : i < length cs.list) (same : (p : List ℤ) → IsPoint dim p → In (record { dim = dim; list = remove (stored_constraints dim equalities inequalities) i }) p → In cs p) where
    abbrev fewer : Constraints
    fewer = record { dim = dim; list = remove (stored_constraints dim equalities inequalities) i }

    fewer_closed : AreClosed fewer
    fewer_closed = All-remove (λ c. IsClosedKind c.1) (stored_constraints dim equalities inequalities) i (pair_closed dim lines rays equalities inequalities pair)

    fewer_inner : IsWithin fewer inner
    fewer_inner = record { point = (inner_within dim lines rays equalities inequalities pair).point; holds = All-remove (Satisfies inner) (stored_constraints dim equalities inequalities) i (inner_within dim lines rays equalities inequalities pair).holds }

    fewer_wide : All (λ (g : Row). length g.0 ≡ dim + 1) (constraint_list fewer)
    fewer_wide =
        All-cons (λ (g : Row). length g.0 ≡ dim + 1) (divisor_row dim, false) (map constraint_row fewer.list) (length-divisor dim)
        (All-map (λ (g : Row). length g.0 ≡ dim + 1) constraint_row fewer.list (All-remove (λ c. length c.0 ≡ dim + 1) (stored_constraints dim equalities inequalities) i (pair_wide dim lines rays equalities inequalities pair)))

    -- what is left still spans the valid rows
    fewer_spans : (a : List ℤ) → ConeOf (dim + 1) (system_rows lines rays) a → Spans (lines_of (constraint_list fewer)) (rays_of (constraint_list fewer)) a
    fewer_spans a u =
        admitted_is_spanned (dim + 1) (constraint_list fewer) a fewer_wide u.wide
        (λ v m. subst (λ (z : ℤ). pos 0 ≤ℤ z) (dot_comm a v)
        (above_cone fewer fewer_closed inner fewer_inner a (λ p w. (row_valid dim lines rays equalities inequalities pair a u).holds p (record { point = w.point; holds = same p w.point w.holds })) v m))

    -- the rows of what is left
    listed : (es rs : List (List ℤ)) → remove (stored_constraints dim equalities inequalities) i ≡ plain_cons es rs → (a : List ℤ) → ConeOf (dim + 1) (system_rows lines rays) a → Spans es (divisor_row dim ∷ rs) a
    listed es rs e a u =
        subst (λ (ls : List (List ℤ)). Spans ls (divisor_row dim ∷ rs) a) (lines_of-system_rows es rs)
        (subst (λ (xs : List (List ℤ)). Spans (lines_of (system_rows es rs)) (divisor_row dim ∷ xs) a) (rays_of-system_rows es rs)
        (subst (λ (xs : List Row). Spans (lines_of ((divisor_row dim, false) ∷ xs)) (rays_of ((divisor_row dim, false) ∷ xs)) a) (ap (map constraint_row) e ∙ con_rows_plain es rs) (fewer_spans a u)))

    constraint_needed : (i < length equalities) ⊎ (length equalities ≤ i) → ⊥
    constraint_needed (inl l) =
        line_needed equalities inequalities pair.dual.rows.system.echelon i l (divisor_row dim ∷ kept)
        (All-cons (λ r. cell r (pair.dual.rows.system.echelon.pivot i) ≡ pos 0) (divisor_row dim) kept (divisor_zero i l)
        (All-filter (λ r. not (is_divisor_row dim r)) (λ r. cell r (pair.dual.rows.system.echelon.pivot i) ≡ pos 0) inequalities (All-from_get_or (λ r. cell r (pair.dual.rows.system.echelon.pivot i) ≡ pos 0) inequalities [] (λ k b. pair.dual.rows.system.echelon.rays_zero i k l b))))
        (listed (remove equalities i) kept (remove_eq equalities kept i l) (vector_at equalities i) (rows_gen.lines_within i [] l).0)
    constraint_needed (inr l) =
        kept_other dim (vector_at kept k) (filter_passes (λ r. not (is_divisor_row dim r)) inequalities k [] below) (sym from.same ∙ sym is_extra)
      where
        k : ℕ
        k = i - length equalities

        below : (i - length equalities) < length (kept_rows dim inequalities)
        below = omega (arith, h, l, length_plain equalities kept)

        from : IsFrom inequalities (kept_rows dim inequalities) (i - length equalities)
        from = from_filtered (λ r. not (is_divisor_row dim r)) inequalities k below

        spanned : Spans equalities (divisor_row dim ∷ remove kept (i - length equalities)) (vector_at inequalities from.place)
        spanned = listed equalities (remove kept k) (remove_ge equalities kept i l) (vector_at inequalities from.place) (rows_gen.rays_within from.place [] from.below)

        more : Spans equalities (divisor_row dim ∷ remove inequalities from.place) (vector_at inequalities from.place)
        more = more_spans equalities (divisor_row dim ∷ remove kept k) equalities (divisor_row dim ∷ remove inequalities from.place) (vector_at inequalities from.place) (All-contains_itself equalities) (both_contained (divisor_row dim) (remove inequalities from.place) (remove kept k) from.others) spanned

        is_extra : divisor_row dim ≡ vector_at inequalities from.place
        is_extra =
            extra_is (dim + 1) (ConeOf (dim + 1) (system_rows lines rays)) (upto_cone (dim + 1) (system_rows lines rays) (length (system_rows lines rays))) equalities inequalities pair.dual.rows.system from.place from.below (divisor_row dim) pair.divisor more
            (λ x b. divisor_zero x b) (divisor_primitive dim) dim (subst (λ (z : ℤ). pos 0 <ℤ z) (sym (cell-divisor_last dim)) (omega (arith, ints)))

  -- no constraint to spare
  pub no_constraint_to_spare : AreIrredundantConstraints cs
  no_constraint_to_spare i h same = constraint_needed i h same (cases_lt i (length equalities))
