-- A point that isn't covered can't be left out.
use Rattle.std.proofs.Common.{◌≡◌, ◌≢◌, ℕ, zero, suc, ◌+◌, ◌<◌, List, [], length, slice_index_or, false, ℤ, pos, neg_ℤ, ◌≤ℤ◌, ◌<ℤ◌, refl, sym, ap, ◌∙◌, subst}
use Rattle.row_core.specs.Vectors.{cell, dot}
use Rattle.row_core.specs.Lists.{Row}
use Rattle.cone_laws.specs.Cones.{Upto, negated}
use Rattle.cone_laws.specs.Canon.{vector_at, IsSystem}
use Rattle.cone_laws.proofs.Sums.{V, Among, same_value}
use Rattle.cone_laws.proofs.Columns.{value, value_linear, dot_is, dot-negated}
use Rattle.nnc_enc.specs.Encoding.{lowered, IsEncoded}
use Rattle.nnc_enc.specs.StrongRows.{IsApart}
use Rattle.nnc_enc.proofs.MarkedSums.{Marks, marks_through, marks_one}
use Rattle.nnc_enc.proofs.KeptSums.{IsNeeded, not_marked, Both, one_span, line_span}
use Rattle.nnc_enc.proofs.ClosedRows.{closed_side, ray_in}
use Rattle.nnc_enc.proofs.CoveredPoints.{value_on, vector_closed}
use Rattle.nnc_enc.proofs.Relaxed.{Numbered, both_least, positive_of_other, relaxed, relaxed_lines, remove_scale, same_level_right}
use Rattle.nnc_enc.proofs.Relaxed.{PointAt_of}

module _ (dim : ℕ) (gens : List Row) (lines rays : List (List ℤ)) (wide : (j : ℕ) → j < length gens → length (slice_index_or gens j ([], false)).0 ≡ dim + 2) (system : IsSystem (Upto (dim + 2) gens (length gens)) lines rays) where
  abbrev gen : ℕ → List ℤ
  gen j = (slice_index_or gens j ([], false)).0

  abbrev D : List ℤ → Type 0
  D = Upto (dim + 2) gens (length gens)

  abbrev test : ℕ → V → ℤ
  test j = value (lowered dim (gen j))

  abbrev PointAt : ℕ → Type 0
  PointAt = PointAt_of dim rays

  module _ (enc : IsEncoded dim (Upto (dim + 2) gens (length gens))) (point : List ℤ) (point_in : Upto (dim + 2) gens (length gens) point) (point_above : pos 0 <ℤ cell point dim) where
    -- ---- a point that can't be left out
    module _ (i : ℕ) (hi : i < length rays) (K : ℕ → Type 0) (inside : (n : ℕ) → K n → Numbered rays n) (not_i : ¬ (K (suc i))) (apart_from : (t : ℕ) → t < length rays → K (suc t) → pos 0 <ℤ cell (vector_at rays t) dim → IsApart dim gens (vector_at rays t) (vector_at rays i)) where
      test_line : (j : ℕ) → j < length gens → (l : V) → relaxed_lines dim lines l → value (lowered dim (gen j)) l ≡ pos 0
      test_line j h l m =
          let c = system.generates.lines_within m.index [] m.is in
          let a = vector_at lines m.index in
          let e : value (lowered dim (gen j)) (cell (lowered dim (negated a))) ≡ neg_ℤ (value (lowered dim (gen j)) (cell (lowered dim a))) = sym (dot_is (lowered dim (gen j)) (lowered dim (negated a))) ∙ ap (dot (lowered dim (gen j))) (remove_scale dim (neg_ℤ (pos 1)) a) ∙ dot-negated (lowered dim (gen j)) (lowered dim a) ∙ ap neg_ℤ (dot_is (lowered dim (gen j)) (lowered dim a)) in
          same_value (value (lowered dim (gen j))) (value_linear (lowered dim (gen j))) l (cell (lowered dim a)) m.same
          ∙ both_least (value (lowered dim (gen j)) (cell (lowered dim a))) (value (lowered dim (gen j)) (cell (lowered dim (negated a)))) (closed_side dim gens lines rays wide system j h (cell (lowered dim a)) (vector_closed dim gens lines rays wide system enc point point_in point_above a c.0)) (closed_side dim gens lines rays wide system j h (cell (lowered dim (negated a))) (vector_closed dim gens lines rays wide system enc point point_in point_above (negated a) c.1)) e

      side_at : (j : ℕ) → j < length gens → (n : ℕ) → Numbered rays n → pos 0 ≤ℤ value (lowered dim (gen j)) (relaxed dim rays n)
      side_at j h zero n = elim n [ ]
      side_at j h (suc t) n = closed_side dim gens lines rays wide system j h (relaxed dim rays (suc t)) (vector_closed dim gens lines rays wide system enc point point_in point_above (vector_at rays t) (ray_in dim gens lines rays wide system t n))

      level_is : (t j : ℕ) → t < length rays → j < length gens → cell (gen j) dim ≡ pos 0 → dot (gen j) (vector_at rays t) ≡ value (lowered dim (gen j)) (relaxed dim rays (suc t))
      level_is t j h l e = same_level_right (dot (gen j) (vector_at rays t)) (dot (lowered dim (gen j)) (lowered dim (vector_at rays t))) (cell (gen j) dim) (cell (vector_at rays t) dim) (value_on dim gens lines rays wide system enc point point_in point_above j l (vector_at rays t) (ray_in dim gens lines rays wide system t h)) e ∙ dot_is (lowered dim (gen j)) (lowered dim (vector_at rays t))

      needed_at : (t : ℕ) → K t → PointAt t → t ≢ suc i → IsNeeded (relaxed dim rays) (length gens) test PointAt K (suc i) t
      needed_at zero k p ne = elim p [ ]
      needed_at (suc t) k p ne =
          let h = inside (suc t) k in
          let a = apart_from t h k p in
          record {
            number = a.number;
            below = a.below;
            zero_on = sym (level_is i a.number hi a.below a.level) ∙ a.zero_on;
            above = positive_of_other (value (lowered dim (gen a.number)) (relaxed dim rays (suc t))) (side_at a.number a.below (suc t) h) (λ e. a.other (level_is t a.number h a.below a.level ∙ e));
          }

      pub point_needed : ¬ (Marks (relaxed_lines dim lines) (Among (relaxed dim rays) K) (Among (relaxed dim rays) (Both K PointAt)) (relaxed dim rays (suc i)))
      point_needed s =
          not_marked (relaxed_lines dim lines) (relaxed dim rays) (length gens) test (λ j. value_linear (lowered dim (gen j))) test_line PointAt K (λ j h t k. side_at j h t (inside t k)) (suc i) needed_at
          (marks_through line_span (λ v m. one_span v (record { index = m.index; is = (m.is, not_same m.index m.is); same = m.same })) (λ v m. marks_one v (relaxed dim rays m.index) (record { index = m.index; is = ((m.is.0, not_same m.index m.is.0), m.is.1); same = λ j. refl }) m.same) (relaxed dim rays (suc i)) s)
        where
          not_same : (n : ℕ) → K n → n ≢ suc i
          not_same n k e = not_i (subst K e k)
