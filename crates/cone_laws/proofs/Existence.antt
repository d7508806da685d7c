-- Every list of rows has a generating system, made by list functions.
use Rattle.std.proofs.Common.{◌≡◌, ◌≢◌, ◌⊎◌, inl, inr, ℕ, zero, suc, ◌<◌, List, [], ◌∷◌, length, slice_index_or, false, ℤ, pos, ◌+ℤ◌, ◌-ℤ◌, ◌*ℤ◌, neg_ℤ, unsigned_abs, sym, ap, ◌∙◌, arith}
use Rattle.std.proofs.lemmas.Int.{ints}
use Rattle.std.proofs.lemmas.List.{get_or_default}
use Rattle.row_core.specs.Vectors.{cell, dot, scale, add}
use Rattle.row_core.specs.Lists.{Row, vector_at}
use Rattle.cone_laws.specs.Steps.{IsRowAt, IsPair}
use Rattle.row_core.specs.Signs.{sign}
use Rattle.row_core.proofs.Ring.{ring, same_or_not}
use Rattle.cone_laws.proofs.Columns.{cell-add, cell-scale, length-add, length-scale}
use Rattle.cone_laws.proofs.LineSteps.{LowersTo}

-- ---- combinations
abbrev pub both : ℤ → List ℤ → ℤ → List ℤ → List ℤ
both s u t v = add (scale s u) (scale t v)

pub cell-both : (s : ℤ) (u : List ℤ) (t : ℤ) (v : List ℤ) (j : ℕ) → cell (both s u t v) j ≡ s *ℤ cell u j +ℤ t *ℤ cell v j
cell-both s u t v j = cell-add (scale s u) (scale t v) j ∙ ap (λ (z : ℤ). z +ℤ cell (scale t v) j) (cell-scale s u j) ∙ ap (λ (z : ℤ). s *ℤ cell u j +ℤ z) (cell-scale t v j)

pub length-both : (s : ℤ) (u : List ℤ) (t : ℤ) (v : List ℤ) → length u ≡ length v → length (both s u t v) ≡ length v
length-both s u t v e = length-add (scale s u) (scale t v) (length-scale s u ∙ e ∙ sym (length-scale t v)) ∙ length-scale t v

as_difference : (x s u t v : ℤ) → x ≡ s *ℤ u +ℤ neg_ℤ t *ℤ v → pos 1 *ℤ x ≡ s *ℤ u -ℤ t *ℤ v
as_difference x s u t v e = let f : neg_ℤ t *ℤ v ≡ neg_ℤ (t *ℤ v) = simp ring in omega (arith, ints, e, f)

abbrev pub lowered_row : List ℤ → List ℤ → List ℤ → List ℤ
lowered_row a l w = both (pos (unsigned_abs (dot a l))) w (neg_ℤ (sign (dot a l) *ℤ dot a w)) l

pub lowers_row : (a l w : List ℤ) → length w ≡ length l → LowersTo a l w (lowered_row a l w)
lowers_row a l w e = record {
  lowered = record {
    times = pos 1;
    positive = omega (arith, ints);
    same = λ j. as_difference (cell (lowered_row a l w) j) (pos (unsigned_abs (dot a l))) (cell w j) (sign (dot a l) *ℤ dot a w) (cell l j) (cell-both (pos (unsigned_abs (dot a l))) w (neg_ℤ (sign (dot a l) *ℤ dot a w)) l j);
  };
  wide = length-both (pos (unsigned_abs (dot a l))) w (neg_ℤ (sign (dot a l) *ℤ dot a w)) l e ∙ sym e;
}

abbrev pub pair_row : List ℤ → List ℤ → List ℤ → List ℤ
pair_row a p n = both (dot a p) n (neg_ℤ (dot a n)) p

pub pairs_row : (a p n : List ℤ) → IsPair a p n (pair_row a p n)
pairs_row a p n = record {
  times = pos 1;
  positive = omega (arith, ints);
  same = λ j. as_difference (cell (pair_row a p n) j) (dot a p) (cell n j) (dot a n) (cell p j) (cell-both (dot a p) n (neg_ℤ (dot a n)) p j);
}

-- ---- a line that crosses the row, if there is one
pub record Crosses (a : List ℤ) (lines : List (List ℤ)) : Type 0 where
  pub index : ℕ
  pub below : index < length lines
  pub crosses : dot a (vector_at lines index) ≢ pos 0

abbrev pub AllFlat : List ℤ → List (List ℤ) → Type 0
AllFlat a lines = (i : ℕ) → i < length lines → dot a (vector_at lines i) ≡ pos 0

later_crosses : (a l : List ℤ) (lines : List (List ℤ)) → Crosses a lines → Crosses a (l ∷ lines)
later_crosses a l lines c = record { index = suc c.index; below = omega (arith, c.below); crosses = c.crosses }

flat_more : (a l : List ℤ) (lines : List (List ℤ)) → dot a l ≡ pos 0 → AllFlat a lines → AllFlat a (l ∷ lines)
flat_more a l lines e f zero h = e
flat_more a l lines e f (suc i) h = f i (omega arith)

first_crosses : (a l : List ℤ) (lines : List (List ℤ)) → (dot a l ≡ pos 0) ⊎ (dot a l ≢ pos 0) → Crosses a lines ⊎ AllFlat a lines → Crosses a (l ∷ lines) ⊎ AllFlat a (l ∷ lines)
first_crosses a l lines (inr n) r = inl (record { index = 0; below = omega arith; crosses = n })
first_crosses a l lines (inl e) (inl c) = inl (later_crosses a l lines c)
first_crosses a l lines (inl e) (inr f) = inr (flat_more a l lines e f)

pub crossing_or_flat : (a : List ℤ) (lines : List (List ℤ)) → Crosses a lines ⊎ AllFlat a lines
crossing_or_flat a [] = inr (λ i h. absurd (omega arith))
crossing_or_flat a (l ∷ lines) = first_crosses a l lines (same_or_not (dot a l) (pos 0)) (crossing_or_flat a lines)

pub row_is_at : (rows : List Row) (k : ℕ) → k < length rows → IsRowAt rows k (slice_index_or rows k ([], false))
row_is_at rows k h = record { below = h; same = get_or_default rows k (slice_index_or rows k ([], false)) ([], false) h }
