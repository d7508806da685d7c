-- What decoded generators span.
use Rattle.std.proofs.Common.{◌≡◌, ◌⊎◌, inl, inr, ℕ, zero, suc, ◌+◌, ◌<◌, List, [], length, Bool, true, false, ℤ, pos, negsuc, ◌+ℤ◌, ◌*ℤ◌, ◌≤ℤ◌, ◌<ℤ◌, refl, sym, ap, ◌∙◌, arith}
use mathlib.Core.Bool.{true≢false}
use Rattle.std.proofs.lemmas.Int.{ints}
use Rattle.row_core.specs.Vectors.{cell}
use Rattle.row_core.specs.Content.{IsMultipleOf}
use Rattle.cone_laws.specs.Cones.{Upto}
use Rattle.cone_laws.specs.Canon.{vector_at}
use Rattle.cone_laws.proofs.Sums.{V, Same, Nothing, Among, none, SpansBy, spans_sums, spans_same, spans_of_multiple, sums_one_line, sums_one_ray}
use Rattle.cone_laws.proofs.Columns.{cell-scale}
use Rattle.gens_sys.specs.Generators.{Generator, generator_at, row_at}
use Rattle.gens_sys.specs.Spans.{Span}
use Rattle.gens_sys.specs.declared.kind.GenKind.{GenKind}
use Rattle.gens_sys.specs.declared.kind.GenKind.TheVariants.{Line, Ray, Point, ClosurePoint}
use Rattle.nnc_enc.specs.Encoding.{lowered, Codes}
use Rattle.nnc_enc.specs.StrongRows.{kept_at}
use Rattle.nnc_enc.specs.DecodedVectors.{place_kind, vector_kind, kind_of, IsListedAs, StandsForLine, StandsForRay, Decodes, all_kept, KeptVectorsSpan, VectorsAreCoded, PointsAreNeeded}
use Rattle.nnc_enc.proofs.MarkedSums.{Marks, marks_one, marks_trans, marks_through, marks_same}
use Rattle.nnc_enc.proofs.KeptSums.{Both, IsKept, line_span, one_span}
use Rattle.nnc_enc.proofs.Removals.{Stay}
use Rattle.nnc_enc.proofs.Relaxed.{relaxed, relaxed_lines, Numbered, PointAt_of, remain_by}
use Rattle.nnc_enc.proofs.LeftOutVectors.{remain_all}
use Rattle.nnc_enc.proofs.CodedPoints.{coded_of_marks, marks_of_coded}
use Rattle.nnc_enc.proofs.NeededPoints.{point_needed}
use Rattle.gens_sys.specs.Kinds.{is_line}
use Rattle.nnc_enc.proofs.SpanMarks.{LineOf, OtherOf, PointOf, span_marks, marks_span}

-- ---- kinds
place_not_line : (d : ℤ) → is_line (place_kind d) ≡ false
place_not_line (pos zero) = refl
place_not_line (pos (suc d)) = refl
place_not_line (negsuc d) = refl

not_line : (e d : ℤ) → is_line (vector_kind e d) ≡ false
not_line (pos zero) d = place_not_line d
not_line (pos (suc e)) d = refl
not_line (negsuc e) d = place_not_line d

is_point : GenKind → Bool
is_point Line = false
is_point Ray = false
is_point Point = true
is_point ClosurePoint = false

place_no_point : (d : ℤ) → place_kind d ≡ Point → ⊥
unfolding is_point
place_no_point (pos zero) e = absurd (true≢false (sym (ap is_point e)))
place_no_point (pos (suc d)) e = absurd (true≢false (sym (ap is_point e)))
place_no_point (negsuc d) e = absurd (true≢false (sym (ap is_point e)))

point_above : (e d : ℤ) → vector_kind e d ≡ Point → pos 0 <ℤ e
point_above (pos zero) d p = absurd (place_no_point d p)
point_above (pos (suc e)) d p = omega (arith, ints)
point_above (negsuc e) d p = absurd (place_no_point d p)

point_kind : (e d : ℤ) → pos 0 <ℤ e → vector_kind e d ≡ Point
point_kind (pos zero) d p = absurd (omega (arith, ints, p))
point_kind (pos (suc e)) d p = refl
point_kind (negsuc e) d p = absurd (omega (arith, ints, p))

-- ---- multiples
multiple_entry : (old new : List ℤ) (m : IsMultipleOf old new) (j : ℕ) → cell old j ≡ pos m.times *ℤ cell new j
multiple_entry old new m j = ap (λ (v : List ℤ). cell v j) m.same ∙ cell-scale (pos m.times) new j

times_positive : (n : ℕ) → 0 < n → pos 0 <ℤ pos n
times_positive n h = omega (arith, ints, h)

-- the list and the numbered vectors
module _ (dim : ℕ) (lines rays : List (List ℤ)) (keep : ℕ → Bool) (list : List Generator) (d : Decodes dim lines rays keep list) (K : ℕ → Type 0) (to_keep : (i : ℕ) → K (suc i) → (i < length rays) × (keep i ≡ true)) (from_keep : (i : ℕ) → i < length rays → keep i ≡ true → K (suc i)) (no_zero : ¬ (K zero)) where
  line_of_list : (l : V) → LineOf list l → SpansBy (relaxed_lines dim lines) Nothing l
  line_of_list l m = by_each (d.each m.index m.is.0)
    where
      by_each : StandsForLine dim lines (generator_at list m.index) ⊎ StandsForRay dim rays keep (generator_at list m.index) → SpansBy (relaxed_lines dim lines) Nothing l
      by_each (inl s) = spans_of_multiple (pos s.stands.multiple.times) l (cell (lowered dim (vector_at lines s.index))) (times_positive s.stands.multiple.times s.stands.multiple.positive)
          (line_span (cell (lowered dim (vector_at lines s.index))) (record { index = s.index; is = s.below; same = λ j. refl }))
          (λ j. multiple_entry (lowered dim (vector_at lines s.index)) (row_at list m.index) s.stands.multiple j ∙ ap (λ (z : ℤ). pos s.stands.multiple.times *ℤ z) (sym (m.same j)))
      by_each (inr s) = absurd (true≢false (sym m.is.1 ∙ ap is_line s.stands.kind ∙ not_line (cell (vector_at rays s.index) dim) (cell (vector_at rays s.index) (dim + 1))))

  other_of_list : (l : V) → OtherOf list l → SpansBy (relaxed_lines dim lines) (Among (relaxed dim rays) K) l
  other_of_list l m = by_each (d.each m.index m.is.0)
    where
      by_each : StandsForLine dim lines (generator_at list m.index) ⊎ StandsForRay dim rays keep (generator_at list m.index) → SpansBy (relaxed_lines dim lines) (Among (relaxed dim rays) K) l
      by_each (inl s) = absurd (true≢false (sym (ap is_line s.stands.kind) ∙ m.is.1))
      by_each (inr s) = spans_of_multiple (pos s.stands.multiple.times) l (cell (lowered dim (vector_at rays s.index))) (times_positive s.stands.multiple.times s.stands.multiple.positive)
          (one_span (cell (lowered dim (vector_at rays s.index))) (record { index = suc s.index; is = from_keep s.index s.below s.kept; same = λ j. refl }))
          (λ j. multiple_entry (lowered dim (vector_at rays s.index)) (row_at list m.index) s.stands.multiple j ∙ ap (λ (z : ℤ). pos s.stands.multiple.times *ℤ z) (sym (m.same j)))

  once : (t g x l : ℤ) → x ≡ t *ℤ g → l ≡ g → t *ℤ l ≡ pos 1 *ℤ x +ℤ pos 0
  once t g x l e f = let h = ap (λ (z : ℤ). t *ℤ z) f in omega (arith, ints, e, h)

  point_of_list : (l : V) → PointOf list l → Marks (relaxed_lines dim lines) (Among (relaxed dim rays) K) (Among (relaxed dim rays) (Both K (PointAt_of dim rays))) l
  point_of_list l m = by_each (d.each m.index m.is.0)
    where
      by_each : StandsForLine dim lines (generator_at list m.index) ⊎ StandsForRay dim rays keep (generator_at list m.index) → Marks (relaxed_lines dim lines) (Among (relaxed dim rays) K) (Among (relaxed dim rays) (Both K (PointAt_of dim rays))) l
      by_each (inl s) = absurd (true≢false (sym (ap is_line s.stands.kind) ∙ ap is_line m.is.1))
      by_each (inr s) = record {
        times = pos s.stands.multiple.times;
        positive = times_positive s.stands.multiple.times s.stands.multiple.positive;
        factor = pos 1;
        above = omega (arith, ints);
        vector = cell (lowered dim (vector_at rays s.index));
        marked = record { index = suc s.index; is = (from_keep s.index s.below s.kept, point_above (cell (vector_at rays s.index) dim) (cell (vector_at rays s.index) (dim + 1)) (sym s.stands.kind ∙ m.is.1)); same = λ j. refl };
        rest = λ j. pos 0;
        others = none (λ j. refl);
        same = λ j. once (pos s.stands.multiple.times) (cell (row_at list m.index) j) (cell (lowered dim (vector_at rays s.index)) j) (l j) (multiple_entry (lowered dim (vector_at rays s.index)) (row_at list m.index) s.stands.multiple j) (m.same j);
      }

  pub from_list : (v : V) → Marks (LineOf list) (OtherOf list) (PointOf list) v → Marks (relaxed_lines dim lines) (Among (relaxed dim rays) K) (Among (relaxed dim rays) (Both K (PointAt_of dim rays))) v
  from_list v s = marks_through line_of_list other_of_list point_of_list v s

  -- ---- back
  line_to_list : (l : V) → relaxed_lines dim lines l → SpansBy (LineOf list) Nothing l
  line_to_list l m = by_listed (d.line m.index m.is)
    where
      by_listed : IsListedAs dim list (vector_at lines m.index) Line → SpansBy (LineOf list) Nothing l
      by_listed s = spans_sums l (sums_one_line (pos s.stands.multiple.times) (cell (row_at list s.number)) l (record { index = s.number; is = (s.below, ap is_line s.stands.kind); same = λ j. refl }) (λ j. m.same j ∙ multiple_entry (lowered dim (vector_at lines m.index)) (row_at list s.number) s.stands.multiple j))

  least_times : (n : ℕ) → pos 0 ≤ℤ pos n
  least_times n = omega (arith, ints)

  ray_at_number : (n : ℕ) → K n → (l : V) → Same l (relaxed dim rays n) → SpansBy (LineOf list) (OtherOf list) l
  ray_at_number zero k l e = absurd (no_zero k)
  ray_at_number (suc i) k l e = by_listed (d.ray i (to_keep i k).0 (to_keep i k).1)
    where
      by_listed : IsListedAs dim list (vector_at rays i) (kind_of dim (vector_at rays i)) → SpansBy (LineOf list) (OtherOf list) l
      by_listed s = spans_sums l (sums_one_ray (pos s.stands.multiple.times) (cell (row_at list s.number)) l (least_times s.stands.multiple.times) (record { index = s.number; is = (s.below, ap is_line s.stands.kind ∙ not_line (cell (vector_at rays i) dim) (cell (vector_at rays i) (dim + 1))); same = λ j. refl }) (λ j. e j ∙ multiple_entry (lowered dim (vector_at rays i)) (row_at list s.number) s.stands.multiple j))

  point_at_number : (n : ℕ) → K n → PointAt_of dim rays n → (l : V) → Same l (relaxed dim rays n) → Marks (LineOf list) (OtherOf list) (PointOf list) l
  point_at_number zero k p l e = absurd (no_zero k)
  point_at_number (suc i) k p l e = by_listed (d.ray i (to_keep i k).0 (to_keep i k).1)
    where
      whole : (x t g : ℤ) → x ≡ t *ℤ g → pos 1 *ℤ x ≡ t *ℤ g +ℤ pos 0
      whole x t g e = omega (arith, ints, e)

      by_listed : IsListedAs dim list (vector_at rays i) (kind_of dim (vector_at rays i)) → Marks (LineOf list) (OtherOf list) (PointOf list) l
      by_listed s = record {
        times = pos 1;
        positive = omega (arith, ints);
        factor = pos s.stands.multiple.times;
        above = times_positive s.stands.multiple.times s.stands.multiple.positive;
        vector = cell (row_at list s.number);
        marked = record { index = s.number; is = (s.below, s.stands.kind ∙ point_kind (cell (vector_at rays i) dim) (cell (vector_at rays i) (dim + 1)) p); same = λ j. refl };
        rest = λ j. pos 0;
        others = none (λ j. refl);
        same = λ j. whole (l j) (pos s.stands.multiple.times) (cell (row_at list s.number) j) (e j ∙ multiple_entry (lowered dim (vector_at rays i)) (row_at list s.number) s.stands.multiple j);
      }

  pub to_list : (v : V) → Marks (relaxed_lines dim lines) (Among (relaxed dim rays) K) (Among (relaxed dim rays) (Both K (PointAt_of dim rays))) v → Marks (LineOf list) (OtherOf list) (PointOf list) v
  to_list v s = marks_through line_to_list (λ l m. ray_at_number m.index m.is l m.same) (λ l m. point_at_number m.index m.is.0 m.is.1 l m.same) v s

-- ---- all vectors, and those that are kept
number_kept : (keep : List Bool) (rays : List (List ℤ)) (i : ℕ) → Stay (Numbered rays) (remain_by keep) (suc i) → (i < length rays) × (kept_at keep i ≡ true)
number_kept keep rays i s = s

pub kept_vectors_span : KeptVectorsSpan
kept_vectors_span dim rows lines rays keep all kept point v wide system enc point_in point_up spare decodes decodes_kept = (to, from)
  where
    k : IsKept (relaxed_lines dim lines) (relaxed dim rays) (Numbered rays) (PointAt_of dim rays) (Stay (Numbered rays) (remain_by keep))
    k = remain_all dim rows lines rays wide system enc point point_in point_up keep spare

    rays_by : (u : V) → Among (relaxed dim rays) (Numbered rays) u → SpansBy (relaxed_lines dim lines) (Among (relaxed dim rays) (Stay (Numbered rays) (remain_by keep))) u
    rays_by u m = spans_same (relaxed dim rays m.index) u (k.spanned m.index m.is) m.same

    marks_by : (u : V) → Among (relaxed dim rays) (Both (Numbered rays) (PointAt_of dim rays)) u → Marks (relaxed_lines dim lines) (Among (relaxed dim rays) (Stay (Numbered rays) (remain_by keep))) (Among (relaxed dim rays) (Both (Stay (Numbered rays) (remain_by keep)) (PointAt_of dim rays))) u
    marks_by u m = marks_same (relaxed dim rays m.index) u m.same (k.marked m.index m.is.0 m.is.1)

    fewer : (u : V) → Among (relaxed dim rays) (Stay (Numbered rays) (remain_by keep)) u → SpansBy (relaxed_lines dim lines) (Among (relaxed dim rays) (Numbered rays)) u
    fewer u m = one_span u (record { index = m.index; is = m.is.0; same = m.same })

    fewer_points : (u : V) → Among (relaxed dim rays) (Both (Stay (Numbered rays) (remain_by keep)) (PointAt_of dim rays)) u → Marks (relaxed_lines dim lines) (Among (relaxed dim rays) (Numbered rays)) (Among (relaxed dim rays) (Both (Numbered rays) (PointAt_of dim rays))) u
    fewer_points u m = marks_one u (relaxed dim rays m.index) (record { index = m.index; is = (m.is.0.0, m.is.1); same = λ j. refl }) m.same

    to : Span all v → Span kept v
    to s =
        marks_span kept v (to_list dim lines rays (kept_at keep) kept.list decodes_kept (Stay (Numbered rays) (remain_by keep)) (number_kept keep rays) (λ i h e. (h, e)) (λ z. z.0) (cell v)
        (marks_trans rays_by marks_by (cell v)
        (from_list dim lines rays all_kept all.list decodes (Numbered rays) (λ i h. (h, refl)) (λ i h e. h) (λ z. z) (cell v) (span_marks all v s))))

    from : Span kept v → Span all v
    from s =
        marks_span all v (to_list dim lines rays all_kept all.list decodes (Numbered rays) (λ i h. (h, refl)) (λ i h e. h) (λ z. z) (cell v)
        (marks_trans fewer fewer_points (cell v)
        (from_list dim lines rays (kept_at keep) kept.list decodes_kept (Stay (Numbered rays) (remain_by keep)) (number_kept keep rays) (λ i h e. (h, e)) (λ z. z.0) (cell v) (span_marks kept v s))))

pub vectors_are_coded : VectorsAreCoded
vectors_are_coded dim rows lines rays all point v wide system enc point_in point_up decodes w = (to, from)
  where
    to : Span all v → Codes dim (Upto (dim + 2) rows (length rows)) v
    to s = coded_of_marks dim rows lines rays wide system enc point point_in point_up v w (from_list dim lines rays all_kept all.list decodes (Numbered rays) (λ i h. (h, refl)) (λ i h e. h) (λ z. z) (cell v) (span_marks all v s))

    from : Codes dim (Upto (dim + 2) rows (length rows)) v → Span all v
    from k = marks_span all v (to_list dim lines rays all_kept all.list decodes (Numbered rays) (λ i h. (h, refl)) (λ i h e. h) (λ z. z) (cell v) (marks_of_coded dim rows lines rays wide system enc point point_in point_up v w k))

-- ---- a point that can't be left out
-- the numbers of what is kept
abbrev KeptAt : (rays : List (List ℤ)) → (ℕ → Bool) → ℕ → Type 0
KeptAt rays keep zero = ⊥
KeptAt rays keep (suc i) = (i < length rays) × (keep i ≡ true)

kept_inside : (rays : List (List ℤ)) (keep : ℕ → Bool) (n : ℕ) → KeptAt rays keep n → Numbered rays n
kept_inside rays keep zero k = k
kept_inside rays keep (suc n) k = k.0

pub points_are_needed : PointsAreNeeded
points_are_needed dim rows lines rays keep kept i wide system enc h above left apart_from decodes s =
    point_needed dim rows lines rays wide system enc (vector_at rays i) (system.generates.rays_within i [] h) above i h (KeptAt rays keep) (kept_inside rays keep) (λ k. true≢false (sym k.1 ∙ left)) (λ t l k p. apart_from t l k.1 p)
    (from_list dim lines rays keep kept.list decodes (KeptAt rays keep) (λ n k. k) (λ n l e. (l, e)) (λ z. z) (cell (lowered dim (vector_at rays i))) (span_marks kept (lowered dim (vector_at rays i)) s))
