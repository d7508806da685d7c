-- The kept rows of the larger set imply those of the smaller one.
use Rattle.std.proofs.Common.{◌≡◌, ◌⊎◌, inl, inr, ℕ, zero, suc, ◌+◌, ◌<◌, ◌≤◌, List, [], ◌∷◌, length, map, not, false, ℤ, pos, ◌+ℤ◌, ◌*ℤ◌, ◌≤ℤ◌, ◌<ℤ◌, sym, ◌∙◌, subst, arith, All}
use Rattle.std.specs.Prelude.{Contains}
use Rattle.std.proofs.lemmas.Int.{ints}
use Rattle.std.proofs.lemmas.Bool.{cases_lt}
use Rattle.std.proofs.lemmas.List.{get_or_default}
use Rattle.std.proofs.lemmas.List.Elements.{All-cons, All-head, All-tail, All-nil, All-map, Contains-get_or}
use Rattle.row_core.specs.Vectors.{cell, dot}
use Rattle.row_core.specs.Points.{IsPoint}
use Rattle.row_core.specs.Lists.{Row, system_rows}
use Rattle.cone_laws.specs.Cones.{Spans, negated}
use Rattle.cone_laws.specs.Canon.{vector_at}
use Rattle.cone_laws.specs.Duality.{lines_of}
use Rattle.cone_laws.specs.ExtremeRays.{IsZeroWhere}
use Rattle.cone_laws.proofs.Ring.{mul-at_least_zero, at_least_zero_of_mul, zero_of_mul, by_sign}
use Rattle.cone_laws.proofs.Columns.{dot_comm}
use Rattle.cone_laws.proofs.EchelonForm.{zero_left, zero_right}
use Rattle.cone_laws.proofs.ExtremeRays.{face_of_ray}
use Rattle.cone_laws.proofs.Factors.{at_least_zero_from_all}
use Rattle.cone_laws.proofs.Bipolar.{admitted_is_spanned}
use Rattle.cone_laws.proofs.MemberLemmas.{negated_dot, zero_of_signs}
use Rattle.cons_sys.specs.declared.kind.ConKind.TheVariants.{Eq, Ge, Gt}
use Rattle.cons_sys.specs.Constraints.{Constraint, Constraints, Satisfies}
use Rattle.gens_sys.specs.Generators as gens
use Rattle.stored_systems.specs.PointSets.{IsClosedKind, AreClosed, IsWithin, IsValid}
use Rattle.stored_systems.specs.WorkLists.{divisor_row, constraint_row, constraint_list}
use Rattle.stored_systems.specs.StoredForms.{is_divisor_row, stored_constraints, IsStored}
use Rattle.stored_systems.proofs.ClosedConstraints.{above_cone}
use Rattle.stored_systems.proofs.DivisorRow.{dot_divisor, length-divisor}
use Rattle.stored_systems.proofs.ListLemmas.{All-unmap, All-left, All-right}
use Rattle.stored_systems.proofs.RemovedElements.{all_filter_contained}
use Rattle.stored_systems.proofs.Stored.{stored_is_closed}
use Rattle.stored_systems.proofs.StoredPair.{kept_rows}
use Rattle.poly_pair.specs.Polyhedra.{Polyhedron, IsIncluded}
use Rattle.widening.specs.Inequalities.{sides_of, inequalities_of, HasSameZeros}
use Rattle.widening.specs.Widenings.{IsKeptRow, AllowKeptRows, AllowOthers, as_least}
use Rattle.widening.specs.WideningLaws.{OthersSuffice}
use Rattle.widening.specs.Values.{AreZeroOnSame}
use Rattle.widening.proofs.SideLists.{sides, row_is_side}
use Rattle.widening.proofs.StoredSets.{inequalities_valid}
use Rattle.widening.proofs.ValidValues.{valid_value}
use Rattle.widening.proofs.ZeroPoints.{Follows, zero_at_points}
use Rattle.widening.proofs.KeptRows.{holds_at}
use Rattle.widening.proofs.WidenedSets.{HasMember, Allows, kept_stored, part_within, others_valid}
use Rattle.widening.proofs.RowForms.{HasRows, has_rows, row_system, valid_in, in_valid, length-vectors, IsFlat, line_flat, flat_or_needed}
use Rattle.widening.proofs.KeptMarks.{at_generator}
use Rattle.widening.proofs.WidenedRows.{no_lines, all_rays, wide_rows}
use Rattle.widening.proofs.WeighedRows.{weighed, spanned_value, weighed_least, terms_zero, weighed_zero, weighed_one}

-- ---- constraints and their sides
-- a closed constraint holds where its sides are at least 0
pub closed_satisfied : (c : Constraint) (v : List ℤ) → IsClosedKind c.1 → All (Allows v) (sides_of c.0 c.1) → Satisfies v c
closed_satisfied (a, Eq) v k h =
    zero_of_signs (dot a v) (dot (negated a) v) (All-head (Allows v) a (negated a ∷ []) h) (All-head (Allows v) (negated a) [] (All-tail (Allows v) a (negated a ∷ []) h)) (negated_dot a v)
closed_satisfied (a, Ge) v k h = All-head (Allows v) a [] h
closed_satisfied (a, Gt) v k h = absurd k

sides_satisfied : (list : List Constraint) (v : List ℤ) → All (λ c. IsClosedKind c.1) list → All (Allows v) (sides list) → All (Satisfies v) list
sides_satisfied [] v k h = All-nil (Satisfies v)
sides_satisfied (c ∷ list) v k h =
    All-cons (Satisfies v) c list (closed_satisfied c v (All-head (λ (x : Constraint). IsClosedKind x.1) c list k) (All-left (Allows v) (sides_of c.0 c.1) (sides list) h))
    (sides_satisfied list v (All-tail (λ (x : Constraint). IsClosedKind x.1) c list k) (All-right (Allows v) (sides_of c.0 c.1) (sides list) h))

first_equality : (dim : ℕ) (equalities inequalities : List (List ℤ)) → 0 < length equalities → Contains (sides (stored_constraints dim equalities inequalities)) (vector_at equalities 0)
first_equality dim [] inequalities h = absurd (omega (arith, h))
first_equality dim (l ∷ equalities) inequalities h = row_is_side (stored_constraints dim (l ∷ equalities) inequalities) 0 (omega arith)

-- ---- values
first_none : (a b : ℤ) → a ≡ pos 0 → a +ℤ b ≡ b
first_none a b e = omega (arith, ints, e)

zero_least : (x : ℤ) → x ≡ pos 0 → pos 0 ≤ℤ x
zero_least x e = omega (arith, ints, e)

positive_least : (x : ℤ) → pos 0 <ℤ x → pos 0 ≤ℤ x
positive_least x h = omega (arith, ints, h)

no_negative : (x : ℤ) → x <ℤ pos 0 → pos 0 ≤ℤ x → ⊥
no_negative x n h = omega (arith, ints, n, h)

-- ---- a valid row of the smaller set that is 0 where one of its inequalities is
module _ (dim : ℕ) (p : Polyhedron) (f : HasRows dim p) where
  stored_valid : (k : List ℤ) → Contains (inequalities_of p.cons) k → IsValid p.cons k
  stored_valid k c = holds_at (IsValid p.cons) (sides p.cons.list) k (inequalities_valid p.cons p.gens f.stored f.member.point f.member.within) c

  flat_at : (a : List ℤ) → IsFlat dim p f a → (n : ℕ) → n < length p.gens.list → dot a (gens.row_at p.gens.list n) ≡ pos 0
  flat_at a z n h = sym (at_generator dim p f a n h) ∙ z n (omega (arith, h, length-vectors dim p f))

  same_kept : (k b : List ℤ) → Contains (inequalities_of p.cons) k → IsValid p.cons b → AreZeroOnSame p.gens k b → HasSameZeros p.cons b
  same_kept k b c vb same = record { inequality = k; stored = c; same = zero_at_points p.cons p.gens f.stored k b (stored_valid k c) vb same }

  -- one that is 0 on all generators is kept, where there is an equality
  flat_kept : (b : List ℤ) → IsValid p.cons b → ((n : ℕ) → n < length p.gens.list → dot b (gens.row_at p.gens.list n) ≡ pos 0) → 0 < length f.equalities → HasSameZeros p.cons b
  flat_kept b vb z some =
      same_kept (vector_at f.equalities 0) b (subst (λ (list : List Constraint). Contains (sides list) (vector_at f.equalities 0)) (sym f.cons) (first_equality dim f.equalities f.inequalities some)) vb
      (λ n h. ((λ e. z n h), (λ e. flat_at (vector_at f.equalities 0) (line_flat dim p f 0 some) n h)))

  module _ (b : List ℤ) (vb : IsValid p.cons b) (k : List ℤ) (c : Contains (inequalities_of p.cons) k) (follows : Follows k b p.gens.list) where
    abbrev IsKeptOrNone : Type 0
    IsKeptOrNone = HasSameZeros p.cons b ⊎ ((v : List ℤ) → dot b v ≡ pos 0)

    -- one that the equalities and the inequality span
    module _ (s : Spans f.equalities (k ∷ []) b) where
      value_at : (v : List ℤ) → ((m : ℕ) → m < length f.equalities → dot (vector_at f.equalities m) v ≡ pos 0) → s.times *ℤ dot b v ≡ cell s.ray_factors 0 *ℤ dot k v
      value_at v z =
          spanned_value v b f.equalities (k ∷ []) s
          ∙ first_none (weighed v s.line_factors f.equalities) (weighed v s.ray_factors (k ∷ [])) (weighed_zero v s.line_factors f.equalities z)
          ∙ weighed_one v s.ray_factors k

      value_here : (n : ℕ) → n < length p.gens.list → s.times *ℤ dot b (gens.row_at p.gens.list n) ≡ cell s.ray_factors 0 *ℤ dot k (gens.row_at p.gens.list n)
      value_here n h = value_at (gens.row_at p.gens.list n) (λ m l. flat_at (vector_at f.equalities m) (line_flat dim p f m l) n h)

      of_none : cell s.ray_factors 0 ≡ pos 0 → (0 < length f.equalities) ⊎ (length f.equalities ≤ 0) → IsKeptOrNone
      of_none e (inl some) = inl (flat_kept b vb (λ n h. zero_of_mul s.times (dot b (gens.row_at p.gens.list n)) s.positive (value_here n h ∙ zero_left (cell s.ray_factors 0) (dot k (gens.row_at p.gens.list n)) e)) some)
      of_none e (inr none) = inr (λ v. zero_of_mul s.times (dot b v) s.positive (value_at v (λ m l. absurd (omega (arith, l, none))) ∙ zero_left (cell s.ray_factors 0) (dot k v) e))

      of_part : (pos 0 <ℤ cell s.ray_factors 0) ⊎ ((cell s.ray_factors 0 <ℤ pos 0) ⊎ (cell s.ray_factors 0 ≡ pos 0)) → IsKeptOrNone
      of_part (inl positive) = inl (same_kept k b c vb (λ n h. (
        (λ z. follows n h z),
        (λ z. zero_of_mul (cell s.ray_factors 0) (dot k (gens.row_at p.gens.list n)) positive (sym (value_here n h) ∙ zero_right s.times (dot b (gens.row_at p.gens.list n)) z)),
      )))
      of_part (inr (inl negative)) = absurd (no_negative (cell s.ray_factors 0) negative (at_least_zero_from_all s.ray_factors s.at_least_zero 0))
      of_part (inr (inr e)) = of_none e (cases_lt 0 (length f.equalities))

      of_span : IsKeptOrNone
      of_span = of_part (by_sign (cell s.ray_factors 0))

    zeros : IsZeroWhere (system_rows f.lines f.rays) k b
    zeros n l z =
        let h : n < length p.gens.list = omega (arith, l, length-vectors dim p f) in
        at_generator dim p f b n h ∙ follows n h (sym (at_generator dim p f k n h) ∙ z)

    of_place : Contains f.inequalities k → IsKeptOrNone
    of_place (j, l, e) =
        let is : vector_at f.inequalities j ≡ k = get_or_default f.inequalities j [] k l ∙ e in
        of_span (subst (λ (r : List ℤ). Spans f.equalities (r ∷ []) b) is
        (face_of_ray (dim + 1) (system_rows f.lines f.rays) f.equalities f.inequalities j b (row_system dim p f) l (valid_in dim p f b vb)
        (subst (λ (r : List ℤ). IsZeroWhere (system_rows f.lines f.rays) r b) (sym is) zeros)))

    of_mark : IsFlat dim p f k ⊎ Contains (kept_rows dim f.inequalities) k → IsKeptOrNone
    of_mark (inl z) = inl (same_kept k b c vb (λ n h. ((λ e. follows n h e), (λ e. flat_at k z n h))))
    of_mark (inr needed) = of_place (holds_at (Contains f.inequalities) (kept_rows dim f.inequalities) k (all_filter_contained (λ r. not (is_divisor_row dim r)) f.inequalities) needed)

    -- it is kept, or it is 0 everywhere
    pub kept_or_none : HasSameZeros p.cons b ⊎ ((v : List ℤ) → dot b v ≡ pos 0)
    kept_or_none = of_mark (holds_at (λ a. IsFlat dim p f a ⊎ Contains (kept_rows dim f.inequalities) a) (inequalities_of p.cons) k (flat_or_needed dim p f) c)

-- ---- an inequality of the smaller set that is valid on the larger one
module _ (p q : Polyhedron) (f : HasRows q.cons.dim p) (stored2 : IsStored q.cons q.gens) (nested : IsIncluded p q) where
  abbrev cs : Constraints
  cs = record { dim = q.cons.dim; list = as_least (sides q.cons.list) }

  abbrev rows : List (List ℤ)
  rows = divisor_row q.cons.dim ∷ sides q.cons.list

  inner : IsWithin q.cons f.member.point
  inner = part_within p q f.same_dim nested f.member.point f.member.within

  larger_sides : All (IsValid q.cons) (sides q.cons.list)
  larger_sides = inequalities_valid q.cons q.gens stored2 f.member.point inner

  closed : AreClosed cs
  closed = All-map (λ (c : Constraint). IsClosedKind c.1) (λ (a : List ℤ). (a, Ge)) (sides q.cons.list) (λ i d b. tt)

  within_sides : (v : List ℤ) → IsWithin q.cons v → IsWithin cs v
  within_sides v w = record { point = w.point; holds = All-map (Satisfies v) (λ (a : List ℤ). (a, Ge)) (sides q.cons.list) (λ i d h. (larger_sides i d h).holds v w) }

  sides_within : (v : List ℤ) → IsWithin cs v → IsWithin q.cons v
  sides_within v w = record { point = w.point; holds = sides_satisfied q.cons.list v (stored_is_closed q.cons q.gens stored2).cons (All-unmap (λ (a : List ℤ). (a, Ge)) (Satisfies v) (sides q.cons.list) w.holds) }

  list_wide : All (λ (x : Row). length x.0 ≡ q.cons.dim + 1) (constraint_list cs)
  list_wide = All-cons (λ (x : Row). length x.0 ≡ q.cons.dim + 1) (divisor_row q.cons.dim, false) (map constraint_row (as_least (sides q.cons.list))) (length-divisor q.cons.dim) (wide_rows (q.cons.dim + 1) (sides q.cons.list) (λ i d h. (larger_sides i d h).wide))

  -- it is a sum of inequalities of the larger set and of the row of the divisor
  spanned : (k : List ℤ) → IsValid q.cons k → Spans [] (divisor_row q.cons.dim ∷ sides q.cons.list) k
  spanned k vk =
      subst (λ (l : List (List ℤ)). Spans l (divisor_row q.cons.dim ∷ sides q.cons.list) k) (no_lines (sides q.cons.list))
      (subst (λ (r : List (List ℤ)). Spans (lines_of (constraint_list cs)) (divisor_row q.cons.dim ∷ r) k) (all_rays (sides q.cons.list))
      (admitted_is_spanned (q.cons.dim + 1) (constraint_list cs) k list_wide vk.wide
      (λ b c. subst (λ (z : ℤ). pos 0 ≤ℤ z) (dot_comm k b) (above_cone cs closed f.member.point (within_sides f.member.point inner) k (λ x m. vk.holds x (sides_within x m)) b c))))

  smaller_valid : All (IsValid p.cons) (divisor_row q.cons.dim ∷ sides q.cons.list)
  smaller_valid = All-cons (IsValid p.cons) (divisor_row q.cons.dim) (sides q.cons.list) (in_valid q.cons.dim p f (divisor_row q.cons.dim) f.systems.divisor) (others_valid p q f.same_dim nested f.stored stored2 f.member.point f.member.within)

  module _ (k : List ℤ) (c : Contains (inequalities_of p.cons) k) (vk : IsValid q.cons k) where
    abbrev s : Spans [] (divisor_row q.cons.dim ∷ sides q.cons.list) k
    s = spanned k vk

    factor : (m : ℕ) → pos 0 ≤ℤ cell s.ray_factors m
    factor m = at_least_zero_from_all s.ray_factors s.at_least_zero m

    value_sum : (v : List ℤ) → s.times *ℤ dot k v ≡ weighed v s.ray_factors rows
    value_sum v = spanned_value v k [] rows s ∙ first_none (weighed v s.line_factors []) (weighed v s.ray_factors rows) (weighed_zero v s.line_factors [] (λ m l. absurd (omega (arith, l))))

    at_generators : (n : ℕ) → n < length p.gens.list → (m : ℕ) → m < length rows → pos 0 ≤ℤ (cell s.ray_factors m *ℤ dot (vector_at rows m) (gens.row_at p.gens.list n))
    at_generators n h m l = mul-at_least_zero (cell s.ray_factors m) (dot (vector_at rows m) (gens.row_at p.gens.list n)) (factor m) (valid_value p.cons p.gens f.stored (vector_at rows m) (smaller_valid m [] l) n h)

    -- each of them with a positive factor is 0 where the sum is
    follows : (m : ℕ) → m < length rows → pos 0 <ℤ cell s.ray_factors m → Follows k (vector_at rows m) p.gens.list
    follows m l positive n h z =
        zero_of_mul (cell s.ray_factors m) (dot (vector_at rows m) (gens.row_at p.gens.list n)) positive
        (terms_zero (gens.row_at p.gens.list n) s.ray_factors rows (at_generators n h) (sym (value_sum (gens.row_at p.gens.list n)) ∙ zero_right s.times (dot k (gens.row_at p.gens.list n)) z) m l)

    module _ (v : List ℤ) (pt : IsPoint q.cons.dim v) (allowed : AllowOthers p q v) where
      by_kept : (m : ℕ) → m < length (sides q.cons.list) → HasSameZeros p.cons (vector_at (sides q.cons.list) m) ⊎ ((u : List ℤ) → dot (vector_at (sides q.cons.list) m) u ≡ pos 0) → pos 0 ≤ℤ (cell s.ray_factors (suc m) *ℤ dot (vector_at (sides q.cons.list) m) v)
      by_kept m l (inl kept) = mul-at_least_zero (cell s.ray_factors (suc m)) (dot (vector_at (sides q.cons.list) m) v) (factor (suc m)) (allowed (vector_at (sides q.cons.list) m) (Contains-get_or (sides q.cons.list) m [] l) kept)
      by_kept m l (inr none) = zero_least (cell s.ray_factors (suc m) *ℤ dot (vector_at (sides q.cons.list) m) v) (zero_right (cell s.ray_factors (suc m)) (dot (vector_at (sides q.cons.list) m) v) (none v))

      by_factor : (m : ℕ) → suc m < length rows → (pos 0 <ℤ cell s.ray_factors (suc m)) ⊎ ((cell s.ray_factors (suc m) <ℤ pos 0) ⊎ (cell s.ray_factors (suc m) ≡ pos 0)) → pos 0 ≤ℤ (cell s.ray_factors (suc m) *ℤ dot (vector_at (sides q.cons.list) m) v)
      by_factor m l (inl positive) = by_kept m (omega (arith, l)) (kept_or_none q.cons.dim p f (vector_at (sides q.cons.list) m) (smaller_valid (suc m) [] l) k c (follows (suc m) l positive))
      by_factor m l (inr (inl negative)) = absurd (no_negative (cell s.ray_factors (suc m)) negative (factor (suc m)))
      by_factor m l (inr (inr e)) = zero_least (cell s.ray_factors (suc m) *ℤ dot (vector_at (sides q.cons.list) m) v) (zero_left (cell s.ray_factors (suc m)) (dot (vector_at (sides q.cons.list) m) v) e)

      term : (m : ℕ) → m < length rows → pos 0 ≤ℤ (cell s.ray_factors m *ℤ dot (vector_at rows m) v)
      term zero l = mul-at_least_zero (cell s.ray_factors 0) (dot (divisor_row q.cons.dim) v) (factor 0) (subst (λ (z : ℤ). pos 0 ≤ℤ z) (sym (dot_divisor q.cons.dim v)) (positive_least (cell v q.cons.dim) pt.positive))
      term (suc m) l = by_factor m l (by_sign (cell s.ray_factors (suc m)))

      -- it is at least 0 where the kept ones of the larger set are
      pub implied : pos 0 ≤ℤ dot k v
      implied = at_least_zero_of_mul s.times (dot k v) s.positive (subst (λ (z : ℤ). pos 0 ≤ℤ z) (sym (value_sum v)) (weighed_least v s.ray_factors rows term))

pub others_suffice : (p q : Polyhedron) → IsStored p.cons p.gens → IsStored q.cons q.gens → p.cons.dim ≡ q.cons.dim → IsIncluded p q → HasMember p → (v : List ℤ) → IsPoint p.cons.dim v → AllowOthers p q v → AllowKeptRows p q v
others_suffice p q stored stored2 same nested member v pt allowed k kept = by_case kept
  where
    by_case : IsKeptRow p q k → pos 0 ≤ℤ dot k v
    by_case (inl (c, m)) = implied p q (has_rows q.cons.dim p stored same member) stored2 nested k c m v (subst (λ (n : ℕ). IsPoint n v) same pt) allowed
    by_case (inr (c, m)) = allowed k c m

pub others_suffice_law : OthersSuffice
others_suffice_law p q x v first second nested w pt allowed =
    others_suffice p q (kept_stored p first.kept first.over.same_topology) (kept_stored q second.kept second.over.same_topology) (sym second.over.same_dim) nested (record { point = x; within = w }) v pt allowed
