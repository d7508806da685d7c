-- A point is redundant exactly where another point that is kept covers it.
use Rattle.std.proofs.Common.{◌≡◌, ◌≢◌, ◌⊎◌, inl, inr, ℕ, suc, ◌+◌, ◌<◌, List, [], length, Bool, true, false, ℤ, pos, ◌<ℤ◌, refl, sym, ap, ◌∙◌, arith}
use mathlib.Core.Bool.{true≢false}
use Rattle.std.proofs.lemmas.Int.{ints}
use Rattle.row_core.specs.Vectors.{cell}
use Rattle.row_core.specs.Lists.{Row, row_at}
use Rattle.cone_laws.specs.Cones.{Upto}
use Rattle.cone_laws.specs.Canon.{vector_at, IsSystem}
use Rattle.cone_laws.proofs.Ring.{by_sign}
use Rattle.cone_laws.proofs.Sums.{V, Among, SpansBy, spans_same}
use Rattle.gens_sys.specs.Generators.{Generators}
use Rattle.gens_sys.specs.Spans.{Span}
use Rattle.nnc_enc.specs.Encoding.{lowered, IsEncoded}
use Rattle.nnc_enc.specs.StrongRows.{kept_at, Covers, IsApart, IsCoveredPoint, IsSpareVector}
use Rattle.nnc_enc.specs.DecodedVectors.{Decodes}
use Rattle.nnc_enc.specs.Redundant.{LeavesOut, PointIsRedundant}
use Rattle.nnc_enc.proofs.MarkedSums.{Without, Marks, marks_one, marks_same, marks_trans}
use Rattle.nnc_enc.proofs.KeptSums.{Both, IsKept}
use Rattle.nnc_enc.proofs.Removals.{Stay, bool_cases}
use Rattle.nnc_enc.proofs.Relaxed.{Numbered, PointAt_of, relaxed, relaxed_lines, remain_by}
use Rattle.nnc_enc.proofs.LeftOutVectors.{covered_vector, remain_all}
use Rattle.nnc_enc.proofs.SpanMarks.{span_marks, marks_span}
use Rattle.nnc_enc.proofs.Decoded.{from_list, to_list, points_are_needed}
use Rattle.nnc_enc.proofs.Searches.{Some, all_or_some, covers_or_apart}

module _ (dim : ℕ) (rows : List Row) (lines rays : List (List ℤ)) (keep : List Bool) (rest : ℕ → Bool) (kept others : Generators) (i : ℕ) (wide : (j : ℕ) → j < length rows → length (row_at rows j) ≡ dim + 2) (system : IsSystem (Upto (dim + 2) rows (length rows)) lines rays) (enc : IsEncoded dim (Upto (dim + 2) rows (length rows))) (spare : (t : ℕ) → t < length rays → kept_at keep t ≡ false → IsSpareVector dim rows rays keep t) (hi : i < length rays) (ki : kept_at keep i ≡ true) (above : pos 0 <ℤ cell (vector_at rays i) dim) (decodes : Decodes dim lines rays (kept_at keep) kept.list) (out : LeavesOut keep i rest) (decodes_rest : Decodes dim lines rays rest others.list) where
  abbrev Kept : ℕ → Type 0
  Kept = Stay (Numbered rays) (remain_by keep)

  rest_kept : (t : ℕ) → rest t ≡ true → (kept_at keep t ≡ true) × (t ≢ i)
  rest_kept t k = (sym (out.same t other) ∙ k, other)
    where
      other : t ≢ i
      other e = true≢false (sym k ∙ ap rest e ∙ out.left)

  -- ---- covered: redundant
  without_point : IsCoveredPoint dim rows rays keep i → IsKept (relaxed_lines dim lines) (relaxed dim rays) (Numbered rays) (PointAt_of dim rays) (Without Kept (suc i))
  without_point c =
      covered_vector dim rows lines rays wide system enc (vector_at rays i) (system.generates.rays_within i [] hi) above Kept
      (remain_all dim rows lines rays wide system enc (vector_at rays i) (system.generates.rays_within i [] hi) above keep spare) (λ t s. s.0) i c.index hi c.below (c.below, c.kept) c.other above c.point c.covers

  redundant : IsCoveredPoint dim rows rays keep i → (v : List ℤ) → Span kept v → Span others v
  redundant c v s =
      marks_span others v (to_list dim lines rays rest others.list decodes_rest (Without Kept (suc i)) to_rest from_rest (λ z. z.0.0) (cell v)
      (marks_trans rays_by marks_by (cell v)
      (from_list dim lines rays (kept_at keep) kept.list decodes Kept (λ t s. s) (λ t h e. (h, e)) (λ z. z.0) (cell v) (span_marks kept v s))))
    where
      k : IsKept (relaxed_lines dim lines) (relaxed dim rays) (Numbered rays) (PointAt_of dim rays) (Without Kept (suc i))
      k = without_point c

      to_rest : (t : ℕ) → Without Kept (suc i) (suc t) → (t < length rays) × (rest t ≡ true)
      to_rest t s = (s.0.0, out.same t (λ e. s.1 (ap suc e)) ∙ s.0.1)

      from_rest : (t : ℕ) → t < length rays → rest t ≡ true → Without Kept (suc i) (suc t)
      from_rest t h e = ((h, (rest_kept t e).0), λ f. (rest_kept t e).1 (omega (arith, f)))

      rays_by : (u : V) → Among (relaxed dim rays) Kept u → SpansBy (relaxed_lines dim lines) (Among (relaxed dim rays) (Without Kept (suc i))) u
      rays_by u m = spans_same (relaxed dim rays m.index) u (k.spanned m.index m.is.0) m.same

      marks_by : (u : V) → Among (relaxed dim rays) (Both Kept (PointAt_of dim rays)) u → Marks (relaxed_lines dim lines) (Among (relaxed dim rays) (Without Kept (suc i))) (Among (relaxed dim rays) (Both (Without Kept (suc i)) (PointAt_of dim rays))) u
      marks_by u m = marks_same (relaxed dim rays m.index) u m.same (k.marked m.index m.is.0.0 m.is.1)

  -- ---- not covered: the others don't span it
  abbrev IsOther : ℕ → Type 0
  IsOther t = rest t ≡ true → pos 0 <ℤ cell (vector_at rays t) dim → IsApart dim rows (vector_at rays t) (vector_at rays i)

  other_or_cover : (t : ℕ) → t < length rays → IsOther t ⊎ IsCoveredPoint dim rows rays keep i
  other_or_cover t h = by_kept (bool_cases (rest t)) (by_sign (cell (vector_at rays t) dim)) (covers_or_apart dim rows (vector_at rays t) (vector_at rays i))
    where
      not_above : (x : ℤ) → (x <ℤ pos 0) ⊎ (x ≡ pos 0) → pos 0 <ℤ x → ⊥
      not_above x (inl p) q = omega (arith, ints, p, q)
      not_above x (inr p) q = omega (arith, ints, p, q)

      by_kept : (rest t ≡ true) ⊎ (rest t ≡ false) → (pos 0 <ℤ cell (vector_at rays t) dim) ⊎ ((cell (vector_at rays t) dim <ℤ pos 0) ⊎ (cell (vector_at rays t) dim ≡ pos 0)) → Covers dim rows (vector_at rays t) (vector_at rays i) ⊎ IsApart dim rows (vector_at rays t) (vector_at rays i) → IsOther t ⊎ IsCoveredPoint dim rows rays keep i
      by_kept (inr e) c d = inl (λ k p. absurd (true≢false (sym k ∙ e)))
      by_kept (inl k) (inr n) d = inl (λ k p. absurd (not_above (cell (vector_at rays t) dim) n p))
      by_kept (inl k) (inl p) (inl c) = inr (record { index = t; below = h; other = (rest_kept t k).1; point = p; kept = (rest_kept t k).0; covers = c })
      by_kept (inl k) (inl p) (inr a) = inl (λ k p. a)

  -- the point itself is spanned by what is kept
  own_span : Span kept (lowered dim (vector_at rays i))
  own_span =
      marks_span kept (lowered dim (vector_at rays i)) (to_list dim lines rays (kept_at keep) kept.list decodes Kept (λ t s. s) (λ t h e. (h, e)) (λ z. z.0) (cell (lowered dim (vector_at rays i)))
      (marks_one (cell (lowered dim (vector_at rays i))) (relaxed dim rays (suc i)) (record { index = suc i; is = ((hi, ki), above); same = λ j. refl }) (λ j. refl)))

  cause : ((v : List ℤ) → Span kept v → Span others v) → IsCoveredPoint dim rows rays keep i
  cause r = by_others (all_or_some IsOther (λ t. IsCoveredPoint dim rows rays keep i) (length rays) other_or_cover)
    where
      by_others : ((t : ℕ) → t < length rays → IsOther t) ⊎ Some (λ t. IsCoveredPoint dim rows rays keep i) (length rays) → IsCoveredPoint dim rows rays keep i
      by_others (inr s) = s.found
      by_others (inl all) = absurd (points_are_needed dim rows lines rays rest others i wide system enc hi above out.left all decodes_rest (r (lowered dim (vector_at rays i)) own_span))

pub point_is_redundant : PointIsRedundant
point_is_redundant dim rows lines rays keep rest kept others i wide system enc spare hi ki above decodes out decodes_rest = (cause dim rows lines rays keep rest kept others i wide system enc spare hi ki above decodes out decodes_rest, redundant dim rows lines rays keep rest kept others i wide system enc spare hi ki above decodes out decodes_rest)
