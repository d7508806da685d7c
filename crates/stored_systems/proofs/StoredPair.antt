-- The stored systems of a dual pair: they hold the same points, and are the canonical systems of the set.
use Rattle.std.proofs.Common.{◌≡◌, ℕ, zero, suc, ◌+◌, List, [], ◌∷◌, ◌++◌, length, slice_index_or, map, filter, not, Bool, true, false, ℤ, pos, negsuc, neg_ℤ, ◌≤ℤ◌, ◌<ℤ◌, refl, sym, ap, ◌∙◌, subst, arith, All}
use Rattle.std.proofs.lemmas.Int.{ints}
use Rattle.std.proofs.lemmas.List.Elements.{All-cons, All-append, All-map, All-weaker, All-filter}
use Rattle.row_core.specs.Vectors.{cell, dot}
use Rattle.row_core.specs.Points.{IsPoint}
use Rattle.row_core.specs.Lists.{Row, system_rows}
use Rattle.cone_laws.specs.Cones.{Meets, Spans, Generates, negated}
use Rattle.cone_laws.specs.Canon.{vector_at, Canon}
use Rattle.cone_laws.specs.Duality.{lines_of, rays_of}
use Rattle.cone_laws.proofs.Columns.{dot_comm, cell-negated}
use Rattle.cone_laws.proofs.UniqueSystems.{upto_canon_unique}
use Rattle.cons_sys.specs.declared.kind.ConKind.TheVariants.{Eq, Ge}
use Rattle.cons_sys.specs.Constraints.{Constraint, Constraints, Satisfies, In}
use Rattle.gens_sys.specs.Kinds.{HasBadDivisor}
use Rattle.gens_sys.specs.declared.kind.GenKind.TheVariants.{Line}
use Rattle.gens_sys.specs.Generators.{Generators, vector_kind}
use Rattle.gens_sys.specs.Spans.{Span}
use Rattle.cone_laws.specs.Members.{ConeOf}
use Rattle.cone_laws.proofs.SystemLists.{lines_of-system_rows, rays_of-system_rows, zero_on_lines, least_on_rays, cone_of_row}
use Rattle.cone_laws.proofs.MemberLemmas.{cone_from, canon_same, spanned_within}
use Rattle.cone_laws.proofs.ValidRows.{valid_of_row, row_of_valid}
use Rattle.stored_systems.specs.WorkLists.{divisor_row, constraint_row, constraint_list, generator_row}
use Rattle.gens_sys.specs.Kinds.{is_line}
use Rattle.stored_systems.specs.PointSets.{IsClosedKind, AreClosed, AreWide, IsClosedGenKind, IsClosedGen, AreClosedGens, IsWithin, IsValid, IsInCone, HoldSame}
use Rattle.stored_systems.specs.StoredForms.{is_divisor_row, stored_constraints, stored_generators, AreClosedSystems}
use Rattle.stored_systems.specs.StoredLaws.{IsPair, IsCanonicalPair}
use Rattle.stored_systems.proofs.ListLemmas.{All-map_first, All-map_rest, All-unmap}
use Rattle.stored_systems.proofs.DivisorRow.{dot_divisor, all_from_kept}
use Rattle.stored_systems.proofs.ClosedConstraints.{meets_constraint, cone_in, cone_divisor, above_cone, admitted_in_cone, cone_admitted}
use Rattle.stored_systems.proofs.ClosedGenerators.{spans_generated, generated_spans}

-- ---- lists as constraints and generators
-- the rows as constraints
abbrev pub plain_cons : List (List ℤ) → List (List ℤ) → List Constraint
plain_cons equalities inequalities = map (λ l. (l, Eq)) equalities ++ map (λ r. (r, Ge)) inequalities

abbrev pub kept_rows : ℕ → List (List ℤ) → List (List ℤ)
kept_rows dim inequalities = filter (λ r. not (is_divisor_row dim r)) inequalities

pub all_plain : (P : Constraint → Type 0) (equalities inequalities : List (List ℤ)) → All (λ l. P (l, Eq)) equalities → All (λ r. P (r, Ge)) inequalities → All P (plain_cons equalities inequalities)
all_plain P equalities inequalities f g = All-append P (map (λ l. (l, Eq)) equalities) (map (λ r. (r, Ge)) inequalities) (All-map P (λ (l : List ℤ). (l, Eq)) equalities f) (All-map P (λ (r : List ℤ). (r, Ge)) inequalities g)

pub plain_eqs : (P : Constraint → Type 0) (equalities inequalities : List (List ℤ)) → All P (plain_cons equalities inequalities) → All (λ l. P (l, Eq)) equalities
plain_eqs P equalities inequalities h = All-map_first (λ (l : List ℤ). (l, Eq)) P equalities (map (λ r. (r, Ge)) inequalities) h

pub plain_ges : (P : Constraint → Type 0) (equalities inequalities : List (List ℤ)) → All P (plain_cons equalities inequalities) → All (λ r. P (r, Ge)) inequalities
plain_ges P equalities inequalities h = All-unmap (λ (r : List ℤ). (r, Ge)) P inequalities (All-map_rest (λ (l : List ℤ). (l, Eq)) P equalities (map (λ r. (r, Ge)) inequalities) h)

no_line : (z : ℤ) → is_line (vector_kind z) ≡ false
no_line (pos zero) = refl
no_line (pos (suc n)) = refl
no_line (negsuc n) = refl

no_closure : (z : ℤ) → IsClosedGenKind (vector_kind z)
no_closure (pos zero) = tt
no_closure (pos (suc n)) = tt
no_closure (negsuc n) = tt

good_divisor : (z : ℤ) → pos 0 ≤ℤ z → ¬ (HasBadDivisor (vector_kind z) z)
good_divisor (pos zero) h b = b refl
good_divisor (pos (suc n)) h b = omega (arith, ints, b)
good_divisor (negsuc n) h b = omega (arith, ints, h)

mark_rays : (dim : ℕ) (rays : List (List ℤ)) → map generator_row (map (λ r. (r, vector_kind (cell r dim))) rays) ≡ map (λ r. (r, false)) rays
mark_rays dim [] = refl
mark_rays dim (r ∷ rays) = ap (λ (b : Bool). (r, b) ∷ map generator_row (map (λ x. (x, vector_kind (cell x dim))) rays)) (no_line (cell r dim)) ∙ ap (λ (rs : List Row). (r, false) ∷ rs) (mark_rays dim rays)

-- the list of the stored generators is that of the lines and rays
pub gen_list_stored : (dim : ℕ) (lines rays : List (List ℤ)) → map generator_row (stored_generators dim lines rays) ≡ system_rows lines rays
gen_list_stored dim [] rays = mark_rays dim rays
gen_list_stored dim (l ∷ lines) rays = ap (λ (rs : List Row). (l, true) ∷ rs) (gen_list_stored dim lines rays)

-- ---- stored constraints of any rows
module _ (dim : ℕ) (equalities kept : List (List ℤ)) where
  abbrev pub plain : Constraints
  plain = record { dim = dim; list = plain_cons equalities kept }

  pub plain_closed : AreClosed plain
  plain_closed = all_plain (λ c. IsClosedKind c.1) equalities kept (λ i d h. tt) (λ i d h. tt)

  pub plain_wide : All (λ l. length l ≡ dim + 1) equalities → All (λ r. length r ≡ dim + 1) kept → AreWide plain
  plain_wide f g = all_plain (λ c. length c.0 ≡ dim + 1) equalities kept f g
  -- ---- the generators

abbrev pub gens_of : ℕ → List (List ℤ) → List (List ℤ) → Generators
gens_of dim lines rays = record { dim = dim; list = stored_generators dim lines rays }

pub stored_generates : (dim : ℕ) (lines rays : List (List ℤ)) (v : List ℤ) → Span (gens_of dim lines rays) v → Spans lines rays v
stored_generates dim lines rays v s =
    subst (λ (ls : List (List ℤ)). Spans ls rays v) (lines_of-system_rows lines rays)
    (subst (λ (rs : List (List ℤ)). Spans (lines_of (system_rows lines rays)) rs v) (rays_of-system_rows lines rays)
    (subst (λ (xs : List Row). Spans (lines_of xs) (rays_of xs) v) (gen_list_stored dim lines rays) (spans_generated (gens_of dim lines rays) v s)))

pub stored_spans : (dim : ℕ) (lines rays : List (List ℤ)) (v : List ℤ) → AreClosedGens (gens_of dim lines rays) → pos 0 <ℤ cell v dim → Spans lines rays v → Span (gens_of dim lines rays) v
stored_spans dim lines rays v closed p s =
    generated_spans (gens_of dim lines rays) v closed p
    (subst (λ (xs : List Row). Spans (lines_of xs) (rays_of xs) v) (sym (gen_list_stored dim lines rays))
    (subst (λ (rs : List (List ℤ)). Spans (lines_of (system_rows lines rays)) rs v) (sym (rays_of-system_rows lines rays))
    (subst (λ (ls : List (List ℤ)). Spans ls rays v) (sym (lines_of-system_rows lines rays)) s)))

pub stored_gens_closed : (dim : ℕ) (lines rays : List (List ℤ)) → All (λ l. cell l dim ≡ pos 0) lines → All (λ r. pos 0 ≤ℤ cell r dim) rays → AreClosedGens (gens_of dim lines rays)
stored_gens_closed dim lines rays f g =
    All-append (IsClosedGen dim) (map (λ l. (l, Line)) lines) (map (λ r. (r, vector_kind (cell r dim))) rays)
    (All-map (IsClosedGen dim) (λ (l : List ℤ). (l, Line)) lines (λ i d h. record { kind = tt; divisor = λ b. b (f i d h) }))
    (All-map (IsClosedGen dim) (λ (r : List ℤ). (r, vector_kind (cell r dim))) rays (λ i d h. record { kind = no_closure (cell (slice_index_or rays i d) dim); divisor = good_divisor (cell (slice_index_or rays i d) dim) (g i d h) }))

-- ---- a polyhedral dual pair
module _ (dim : ℕ) (lines rays equalities inequalities : List (List ℤ)) (pair : AreClosedSystems dim lines rays equalities inequalities) where
  abbrev Vectors : List ℤ → Type 0
  Vectors = ConeOf (dim + 1) (system_rows equalities inequalities)

  abbrev Rows : List ℤ → Type 0
  Rows = ConeOf (dim + 1) (system_rows lines rays)

  abbrev cs : Constraints
  cs = record { dim = dim; list = stored_constraints dim equalities inequalities }

  abbrev gs : Generators
  gs = record { dim = dim; list = stored_generators dim lines rays }

  vectors_gen : Generates (ConeOf (dim + 1) (system_rows equalities inequalities)) lines rays
  vectors_gen = pair.dual.vectors.system.generates

  rows_gen : Generates (ConeOf (dim + 1) (system_rows lines rays)) equalities inequalities
  rows_gen = pair.dual.rows.system.generates

  pub pair_closed : AreClosed cs
  pair_closed = plain_closed dim equalities (kept_rows dim inequalities)

  pub pair_wide : AreWide cs
  pair_wide =
      plain_wide dim equalities (kept_rows dim inequalities) (λ i d h. (rows_gen.lines_within i d h).0.wide)
      (All-filter (λ r. not (is_divisor_row dim r)) (λ r. length r ≡ dim + 1) inequalities (λ i d h. (rows_gen.rays_within i d h).wide))

  -- no vector of the cone has a negative last entry
  pub vector_divisor : (v : List ℤ) → ConeOf (dim + 1) (system_rows equalities inequalities) v → pos 0 ≤ℤ cell v dim
  vector_divisor v u = subst (λ (z : ℤ). pos 0 ≤ℤ z) (dot_divisor dim v) (valid_of_row (dim + 1) Vectors lines rays vectors_gen (divisor_row dim) pair.divisor v u)

  -- what the stored constraints hold at
  pub stored_cone : (v : List ℤ) → length v ≡ dim + 1 → In cs v → pos 0 ≤ℤ cell v dim → ConeOf (dim + 1) (system_rows equalities inequalities) v
  stored_cone v w h d =
      cone_of_row (dim + 1) equalities inequalities v w
      (All-weaker (λ l. dot l v ≡ pos 0) (λ l. dot v l ≡ pos 0) (λ l e. dot_comm v l ∙ e) equalities (plain_eqs (Satisfies v) equalities (kept_rows dim inequalities) h))
      (All-weaker (λ r. pos 0 ≤ℤ dot r v) (λ r. pos 0 ≤ℤ dot v r) (λ r e. subst (λ (z : ℤ). pos 0 ≤ℤ z) (dot_comm r v) e) inequalities
      (all_from_kept dim (λ r. pos 0 ≤ℤ dot r v) (subst (λ (z : ℤ). pos 0 ≤ℤ z) (sym (dot_divisor dim v)) d) inequalities (plain_ges (Satisfies v) equalities (kept_rows dim inequalities) h)))

  pub cone_stored : (v : List ℤ) → ConeOf (dim + 1) (system_rows equalities inequalities) v → In cs v
  cone_stored v u =
      all_plain (Satisfies v) equalities (kept_rows dim inequalities)
      (All-weaker (λ l. dot v l ≡ pos 0) (λ l. dot l v ≡ pos 0) (λ l e. dot_comm l v ∙ e) equalities (zero_on_lines (dim + 1) equalities inequalities v u))
      (All-filter (λ r. not (is_divisor_row dim r)) (λ r. pos 0 ≤ℤ dot r v) inequalities
      (All-weaker (λ r. pos 0 ≤ℤ dot v r) (λ r. pos 0 ≤ℤ dot r v) (λ r e. subst (λ (z : ℤ). pos 0 ≤ℤ z) (dot_comm v r) e) inequalities (least_on_rays (dim + 1) equalities inequalities v u)))

  least : (x : ℤ) → pos 0 <ℤ x → pos 0 ≤ℤ x
  least x h = omega (arith, ints)

  pub within_cone : (p : List ℤ) → IsWithin cs p → ConeOf (dim + 1) (system_rows equalities inequalities) p
  within_cone p w = stored_cone p w.point.wide w.holds (least (cell p dim) w.point.positive)

  pub cone_point : (v : List ℤ) → ConeOf (dim + 1) (system_rows equalities inequalities) v → pos 0 <ℤ cell v dim → IsWithin cs v
  cone_point v u h = record { point = record { wide = u.wide; positive = h }; holds = cone_stored v u }

  abbrev pub inner_point : List ℤ
  inner_point = vector_at rays pair.point.index

  pub inner_within : IsWithin cs inner_point
  inner_within = cone_point inner_point (vectors_gen.rays_within pair.point.index [] pair.point.below) pair.point.positive

  -- ---- both systems hold the same points
  pub lines_flat : All (λ l. cell l dim ≡ pos 0) lines
  lines_flat i d h =
      let l = slice_index_or lines i d in
      both_zero (cell l dim) (cell (negated l) dim) (vector_divisor l (vectors_gen.lines_within i d h).0) (vector_divisor (negated l) (vectors_gen.lines_within i d h).1) (cell-negated l dim)
    where
      both_zero : (x y : ℤ) → pos 0 ≤ℤ x → pos 0 ≤ℤ y → y ≡ neg_ℤ x → x ≡ pos 0
      both_zero x y h k e = omega (arith, ints)

  pub gens_closed : AreClosedGens gs
  gens_closed = stored_gens_closed dim lines rays lines_flat (λ i d h. vector_divisor (slice_index_or rays i d) (vectors_gen.rays_within i d h))

  pub holds_generated : (p : List ℤ) → IsPoint dim p → In cs p → Span gs p
  holds_generated p pt h = stored_spans dim lines rays p gens_closed pt.positive (vectors_gen.spans p (within_cone p (record { point = pt; holds = h })))

  pub generated_holds : (p : List ℤ) → IsPoint dim p → Span gs p → In cs p
  generated_holds p pt s = cone_stored p (spanned_within (dim + 1) (system_rows equalities inequalities) (length (system_rows equalities inequalities)) lines rays p vectors_gen pt.wide (stored_generates dim lines rays p s))

  -- the two stored systems hold the same points
  pub is_pair : IsPair cs gs
  is_pair p pt = (holds_generated p pt, generated_holds p pt)

  -- ---- the systems are canonical
  -- the list of the stored constraints has the same cone
  pub cone_listed : (x : List ℤ) → ConeOf (dim + 1) (system_rows equalities inequalities) x → ConeOf (dim + 1) (constraint_list cs) x
  cone_listed x u =
      cone_from (dim + 1) (constraint_list cs) x u.wide
      (All-cons (Meets x) (divisor_row dim, false) (map constraint_row cs.list) (subst (λ (z : ℤ). pos 0 ≤ℤ z) (sym (dot_divisor dim x)) (vector_divisor x u))
      (All-map (Meets x) constraint_row cs.list (λ i d h. meets_constraint (slice_index_or cs.list i d) x (pair_closed i d h) (cone_stored x u i d h))))

  pub listed_cone : (x : List ℤ) → ConeOf (dim + 1) (constraint_list cs) x → ConeOf (dim + 1) (system_rows equalities inequalities) x
  listed_cone x u = stored_cone x u.wide (cone_in cs pair_closed x u) (cone_divisor cs pair_closed x u)

  pub valid_row : (a : List ℤ) → IsValid cs a → ConeOf (dim + 1) (system_rows lines rays) a
  valid_row a v = row_of_valid (dim + 1) Vectors lines rays vectors_gen a v.wide (λ x u. above_cone cs pair_closed inner_point inner_within a v.holds x (cone_listed x u))

  pub row_valid : (a : List ℤ) → ConeOf (dim + 1) (system_rows lines rays) a → IsValid cs a
  row_valid a u = record { wide = u.wide; holds = λ p w. valid_of_row (dim + 1) Vectors lines rays vectors_gen a u p (within_cone p w) }

  pub canonical_rows : Canon (IsValid cs) equalities inequalities
  canonical_rows = canon_same Rows (IsValid cs) equalities inequalities row_valid valid_row pair.dual.rows

  pub canonical_vectors : Canon (IsInCone cs) lines rays
  canonical_vectors =
      canon_same Vectors (IsInCone cs) lines rays
      (λ v u. cone_admitted cs pair_closed pair_wide inner_point inner_within v (cone_listed v u))
      (λ v m. listed_cone v (admitted_in_cone cs pair_closed pair_wide v m))
      pair.dual.vectors

  pub is_canonical : IsCanonicalPair cs gs
  is_canonical = record {
    same_dim = refl;
    equalities = equalities;
    inequalities = inequalities;
    rows = canonical_rows;
    cons_are = refl;
    lines = lines;
    rays = rays;
    vectors = canonical_vectors;
    gens_are = refl;
  }

-- ---- T4(a)
-- two stored systems that hold at the same points are equal
module _ (dim : ℕ) (lines rays equalities inequalities lines2 rays2 eqs2 ges2 : List (List ℤ)) (pair : AreClosedSystems dim lines rays equalities inequalities) (pair2 : AreClosedSystems dim lines2 rays2 eqs2 ges2) (same : HoldSame (record { dim = dim; list = stored_constraints dim equalities inequalities }) (record { dim = dim; list = stored_constraints dim eqs2 ges2 })) where
  within_second : (p : List ℤ) → IsWithin (record { dim = dim; list = stored_constraints dim equalities inequalities }) p → IsWithin (record { dim = dim; list = stored_constraints dim eqs2 ges2 }) p
  within_second p w = record { point = w.point; holds = (same p w.point).0 w.holds }

  within_first : (p : List ℤ) → IsWithin (record { dim = dim; list = stored_constraints dim eqs2 ges2 }) p → IsWithin (record { dim = dim; list = stored_constraints dim equalities inequalities }) p
  within_first p w = record { point = w.point; holds = (same p w.point).1 w.holds }

  rows_second : (a : List ℤ) → ConeOf (dim + 1) (system_rows lines rays) a → ConeOf (dim + 1) (system_rows lines2 rays2) a
  rows_second a u = valid_row dim lines2 rays2 eqs2 ges2 pair2 a (record { wide = u.wide; holds = λ p w. (row_valid dim lines rays equalities inequalities pair a u).holds p (within_first p w) })

  rows_first : (a : List ℤ) → ConeOf (dim + 1) (system_rows lines2 rays2) a → ConeOf (dim + 1) (system_rows lines rays) a
  rows_first a u = valid_row dim lines rays equalities inequalities pair a (record { wide = u.wide; holds = λ p w. (row_valid dim lines2 rays2 eqs2 ges2 pair2 a u).holds p (within_second p w) })

  pub rows_same : (equalities ≡ eqs2) × (inequalities ≡ ges2)
  rows_same =
      upto_canon_unique (dim + 1) (system_rows lines rays) (length (system_rows lines rays)) (system_rows lines2 rays2) (length (system_rows lines2 rays2)) equalities inequalities eqs2 ges2
      (record { first = rows_second; second = rows_first }) pair.dual.rows pair2.dual.rows

  vectors_second : (v : List ℤ) → ConeOf (dim + 1) (system_rows equalities inequalities) v → ConeOf (dim + 1) (system_rows eqs2 ges2) v
  vectors_second v u = subst (λ (gs : List (List ℤ)). ConeOf (dim + 1) (system_rows eqs2 gs) v) rows_same.1 (subst (λ (es : List (List ℤ)). ConeOf (dim + 1) (system_rows es inequalities) v) rows_same.0 u)

  vectors_first : (v : List ℤ) → ConeOf (dim + 1) (system_rows eqs2 ges2) v → ConeOf (dim + 1) (system_rows equalities inequalities) v
  vectors_first v u = subst (λ (gs : List (List ℤ)). ConeOf (dim + 1) (system_rows equalities gs) v) (sym rows_same.1) (subst (λ (es : List (List ℤ)). ConeOf (dim + 1) (system_rows es ges2) v) (sym rows_same.0) u)

  pub vectors_same : (lines ≡ lines2) × (rays ≡ rays2)
  vectors_same =
      upto_canon_unique (dim + 1) (system_rows equalities inequalities) (length (system_rows equalities inequalities)) (system_rows eqs2 ges2) (length (system_rows eqs2 ges2)) lines rays lines2 rays2
      (record { first = vectors_second; second = vectors_first }) pair.dual.vectors pair2.dual.vectors
