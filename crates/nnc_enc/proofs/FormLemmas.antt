-- The form of a stored list.
use Rattle.std.proofs.Common.{◌≡◌, ◌≢◌, ◌⊎◌, inl, inr, ℕ, ◌+◌, ◌-◌, ◌<◌, ◌≤◌, List, [], length, slice_index_or, ℤ, pos, negsuc, ◌*ℤ◌, ◌≤ℤ◌, ◌<ℤ◌, sym, ap, ◌∙◌, subst, arith}
use Rattle.std.proofs.lemmas.Int.{ints}
use Rattle.std.proofs.lemmas.Bool.{cases_lt}
use Rattle.row_core.specs.Vectors.{cell, dot}
use Rattle.row_core.specs.Content.{IsMultipleOf}
use Rattle.row_core.proofs.OnePrimitive.{IsPrimitiveOf-once}
use Rattle.row_core.specs.Lists.{Row, row_at, vectors}
use Rattle.row_core.specs.Orders.{IsGreater}
use Rattle.cone_laws.specs.Canon.{vector_at, IsPivot, IsEchelon}
use Rattle.cone_laws.proofs.Ring.{zero_of_mul, positive_of_mul}
use Rattle.cone_laws.proofs.Columns.{cell-scale, length-scale}
use Rattle.nnc_enc.specs.Encoding.{lowered}
use Rattle.nnc_enc.proofs.Relaxed.{cell-remove, skip_before}
use Rattle.nnc_enc.specs.Decoding.{index_at, AreListed, con_kind}
use Rattle.nnc_enc.specs.Sorting.{IsOrdered, AreStrongRows}
use Rattle.nnc_enc.specs.Results.{AreRowsOf}
use Rattle.nnc_enc.proofs.MarkLemmas.{length-vectors, vector_at-vectors}
use Rattle.nnc_enc.specs.Kept.{IsNeededConstraint}
use Rattle.nnc_enc.proofs.ResultLemmas.{strong_rows_are_needed}
use Rattle.nnc_enc.proofs.OrderLemmas.{within_permutation}
use Rattle.nnc_enc.proofs.EncodedDuals.{lowered_width}
use Rattle.cons_sys.specs.Kinds.{Allows}
use Rattle.cons_sys.specs.Constraints.{Constraint, constraint_at}
use Rattle.std.specs.Ordering.{MatchOrdering, int_cmp}
use Rattle.std.specs.Cmp.Lexicographic.{slice_cmp}
use Rattle.std.specs.declared.cmp.Ordering.{Ordering}
use Rattle.std.specs.declared.cmp.Ordering.TheVariants.{Less, Equal, Greater}
use Rattle.row_core.proofs.OrderLemmas.{order_lexicographic}

-- ---- the stored form
positive_times : (n : ℕ) → 0 < n → pos 0 <ℤ pos n
positive_times n h = omega (arith, ints, h)

entry_is : (old new : List ℤ) (m : IsMultipleOf old new) (j : ℕ) → cell old j ≡ pos m.times *ℤ cell new j
entry_is old new m j = ap (λ (v : List ℤ). cell v j) m.same ∙ cell-scale (pos m.times) new j

multiple_zero : (old new : List ℤ) (j : ℕ) → IsMultipleOf old new → cell old j ≡ pos 0 → cell new j ≡ pos 0
multiple_zero old new j m z = zero_of_mul (pos m.times) (cell new j) (positive_times m.times m.positive) (sym (entry_is old new m j) ∙ z)

multiple_above : (old new : List ℤ) (j : ℕ) → IsMultipleOf old new → pos 0 <ℤ cell old j → pos 0 <ℤ cell new j
multiple_above old new j m z = positive_of_mul (pos m.times) (cell new j) (positive_times m.times m.positive) (subst (λ (x : ℤ). pos 0 <ℤ x) (entry_is old new m j) z)

-- the same of a list by its entries: the first n are ordered by their pivots, and each other entry is 0 at the pivot of one of them; no entry after them is less than the next
pub record HasFormByEntry {K : Type 0} (d : List ℤ × K) (n : ℕ) (list : List (List ℤ × K)) : Type 0 where
  pub pivot : ℕ → ℕ
  pub pivots : (i : ℕ) → i < n → IsPivot (slice_index_or list i d).0 (pivot i)
  pub ordered : (i k : ℕ) → i < k → k < n → pivot i < pivot k
  pub zero : (i k : ℕ) → i < n → k < length list → i ≢ k → cell (slice_index_or list k d).0 (pivot i) ≡ pos 0
  pub in_order : (k : ℕ) → n + (k + 1) < length list → ¬ (IsGreater (slice_index_or list (n + (k + 1)) d).0 (slice_index_or list (n + k) d).0)

pub listed_form : (K : Type 0) (d : List ℤ × K) (line_kind : K) (ray_kind : List ℤ → K) (dim : ℕ) (lines rays : List Row) (kept order : List ℕ) (list : List (List ℤ × K)) (echelon : IsEchelon (vectors lines) (vectors rays)) → ((i : ℕ) → i < length (vectors lines) → echelon.pivot i < dim) → ((i : ℕ) → i < length order → slice_index_or order i 0 < length rays) → IsOrdered dim rays kept order → AreListed d line_kind ray_kind dim lines rays order list → HasFormByEntry d (length lines) list
listed_form K d line_kind ray_kind dim lines rays kept order list echelon below within ordered listed = record {
  pivot = echelon.pivot;
  pivots = λ i h. record {
    positive = multiple_above (lowered dim (row_at lines i)) (slice_index_or list i d).0 (echelon.pivot i) (listed.line i h).primitive.multiple (subst (λ (x : ℤ). pos 0 <ℤ x) (sym (line_cell i h (echelon.pivot i) (pivot_low i h))) (echelon.pivots i (in_vectors i h)).positive);
    before = λ j l. multiple_zero (lowered dim (row_at lines i)) (slice_index_or list i d).0 j (listed.line i h).primitive.multiple (line_cell i h j (omega (arith, l, pivot_low i h)) ∙ (echelon.pivots i (in_vectors i h)).before j l);
  };
  ordered = λ i k l h. echelon.ordered i k l (in_vectors k h);
  zero = λ i k h l ne. by_place i k h l ne (cases_lt k (length lines));
  in_order = λ k h. λ g. ordered.in_order k (omega (arith, h, listed.as_many, ordered.as_many)) (subst (λ (v : List ℤ). IsGreater v (vector_at ordered.cells k)) (stored_is (k + 1) (omega (arith, h, listed.as_many))) (subst (λ (v : List ℤ). IsGreater (slice_index_or list (length lines + (k + 1)) d).0 v) (stored_is k (omega (arith, h, listed.as_many))) g));
}
  where
    in_vectors : (i : ℕ) → i < length lines → i < length (vectors lines)
    in_vectors i h = omega (arith, h, length-vectors lines)

    pivot_low : (i : ℕ) → i < length lines → echelon.pivot i < dim
    pivot_low i h = below i (in_vectors i h)

    line_cell : (i : ℕ) → i < length lines → (j : ℕ) → j < dim → cell (lowered dim (row_at lines i)) j ≡ cell (vector_at (vectors lines) i) j
    line_cell i h j l = cell-remove dim (row_at lines i) j ∙ ap (cell (row_at lines i)) (skip_before dim j l) ∙ ap (λ (v : List ℤ). cell v j) (sym (vector_at-vectors lines i))

    ray_cell : (i : ℕ) (j : ℕ) → j < dim → cell (lowered dim (row_at rays i)) j ≡ cell (vector_at (vectors rays) i) j
    ray_cell i j l = cell-remove dim (row_at rays i) j ∙ ap (cell (row_at rays i)) (skip_before dim j l) ∙ ap (λ (v : List ℤ). cell v j) (sym (vector_at-vectors rays i))

    line_zero : (i k : ℕ) → i < length lines → k < length lines → i ≢ k → cell (slice_index_or list k d).0 (echelon.pivot i) ≡ pos 0
    line_zero i k h l ne = multiple_zero (lowered dim (row_at lines k)) (slice_index_or list k d).0 (echelon.pivot i) (listed.line k l).primitive.multiple (line_cell k l (echelon.pivot i) (pivot_low i h) ∙ echelon.lines_zero i k (in_vectors i h) (in_vectors k l) ne)

    ray_zero : (i n : ℕ) → i < length lines → n < length order → cell (slice_index_or list (length lines + n) d).0 (echelon.pivot i) ≡ pos 0
    ray_zero i n h l = multiple_zero (lowered dim (row_at rays (index_at order n))) (slice_index_or list (length lines + n) d).0 (echelon.pivot i) (listed.ray n l).primitive.multiple (ray_cell (index_at order n) (echelon.pivot i) (pivot_low i h) ∙ echelon.rays_zero i (index_at order n) (in_vectors i h) (omega (arith, within n l, length-vectors rays)))

    by_place : (i k : ℕ) → i < length lines → k < length list → i ≢ k → (k < length lines) ⊎ (length lines ≤ k) → cell (slice_index_or list k d).0 (echelon.pivot i) ≡ pos 0
    by_place i k h l ne (inl q) = line_zero i k h q ne
    by_place i k h l ne (inr q) =
        let e : length lines + (k - length lines) ≡ k = omega (arith, q) in
        subst (λ (n : ℕ). cell (slice_index_or list n d).0 (echelon.pivot i) ≡ pos 0) e (ray_zero i (k - length lines) h (omega (arith, l, q, listed.as_many)))

    stored_is : (n : ℕ) → n < length order → (slice_index_or list (length lines + n) d).0 ≡ vector_at ordered.cells n
    stored_is n h = IsPrimitiveOf-once (lowered dim (row_at rays (index_at order n))) (slice_index_or list (length lines + n) d).0 (vector_at ordered.cells n) (listed.ray n h).primitive (ordered.each n h)

-- ---- no two strict or weak rows are alike
one_way : (e f : ℤ) → ((y : ℤ) → Allows (con_kind e) y → Allows (con_kind f) y) ⊎ ((y : ℤ) → Allows (con_kind f) y → Allows (con_kind e) y)
one_way (pos a) (pos b) = inl (λ y h. h)
one_way (pos a) (negsuc b) = inr (λ y h. weak y h)
  where
    weak : (y : ℤ) → pos 0 <ℤ y → pos 0 ≤ℤ y
    weak y h = omega (arith, ints, h)
one_way (negsuc a) (pos b) = inl (λ y h. weak y h)
  where
    weak : (y : ℤ) → pos 0 <ℤ y → pos 0 ≤ℤ y
    weak y h = omega (arith, ints, h)
one_way (negsuc a) (negsuc b) = inl (λ y h. h)

by_ranking : (u v : List ℤ) (o : Ordering) → MatchOrdering o (IsGreater v u) (u ≡ v) (IsGreater u v) → ¬ (IsGreater v u) → ¬ (u ≡ v) → IsGreater u v
by_ranking u v Less g n d = absurd (n g)
by_ranking u v Equal e n d = absurd (d e)
by_ranking u v Greater g n d = g

-- each strong constraint behind the equalities is greater than the next
pub strong_rows_are_sorted : (dim : ℕ) (gens lines rays : List Row) (list : List Constraint) → AreRowsOf dim gens lines rays → AreStrongRows dim gens lines rays list → (k : ℕ) → length lines + (k + 1) < length list → IsGreater (constraint_at list (length lines + k)).0 (constraint_at list (length lines + (k + 1))).0
strong_rows_are_sorted dim gens lines rays list r s k h =
    by_ranking (constraint_at list (length lines + k)).0 (constraint_at list (length lines + (k + 1))).0 (slice_cmp int_cmp (constraint_at list (length lines + k)).0 (constraint_at list (length lines + (k + 1))).0)
    (order_lexicographic (constraint_at list (length lines + k)).0 (constraint_at list (length lines + (k + 1))).0 (wide k (omega (arith, below)) ∙ sym (wide (k + 1) below)))
    (λ g. s.ordered.in_order k (omega (arith, below, s.ordered.as_many)) (subst (λ (v : List ℤ). IsGreater v (vector_at s.ordered.cells k)) (stored_is (k + 1) below) (subst (λ (v : List ℤ). IsGreater (constraint_at list (length lines + (k + 1))).0 v) (stored_is k (omega (arith, below))) g)))
    different
  where
    below : k + 1 < length s.order
    below = omega (arith, h, s.listed.as_many)

    stored_is : (n : ℕ) → n < length s.order → (constraint_at list (length lines + n)).0 ≡ vector_at s.ordered.cells n
    stored_is n l = IsPrimitiveOf-once (lowered dim (row_at rays (index_at s.order n))) (constraint_at list (length lines + n)).0 (vector_at s.ordered.cells n) (s.listed.ray n l).primitive (s.ordered.each n l)

    ray_wide : (n : ℕ) → n < length rays → length (row_at rays n) ≡ dim + 2
    ray_wide n l = ap length (sym (vector_at-vectors rays n)) ∙ (r.system.generates.rays_within n [] (omega (arith, l, length-vectors rays))).wide

    multiple_wide : (old new : List ℤ) → IsMultipleOf old new → length new ≡ length old
    multiple_wide old new m = sym (ap length m.same ∙ length-scale (pos m.times) new)

    order_within : (n : ℕ) → n < length s.order → index_at s.order n < length rays
    order_within n l = within_permutation (length rays) s.keep s.kept s.order s.ordered.permutation s.are_kept n l

    wide : (n : ℕ) → n < length s.order → length (constraint_at list (length lines + n)).0 ≡ dim + 1
    wide n l = multiple_wide (lowered dim (row_at rays (index_at s.order n))) (constraint_at list (length lines + n)).0 (s.listed.ray n l).primitive.multiple ∙ lowered_width dim (row_at rays (index_at s.order n)) (ray_wide (index_at s.order n) (order_within n l))

    needed : (i : ℕ) → i < length list → IsNeededConstraint dim list i
    needed i l = strong_rows_are_needed dim gens lines rays list r s i l

    alike : (k m : ℕ) → k < length s.order → m < length s.order → (constraint_at list (length lines + k)).0 ≡ (constraint_at list (length lines + m)).0 → ((y : ℤ) → Allows (con_kind (cell (row_at rays (index_at s.order k)) dim)) y → Allows (con_kind (cell (row_at rays (index_at s.order m)) dim)) y) → k ≢ m → ⊥
    alike k m l q e f ne =
        needed (length lines + m) (omega (arith, q, s.listed.as_many))
        (λ p point others. subst (λ kind. Allows kind (dot (constraint_at list (length lines + m)).0 p)) (sym (s.listed.ray m q).kind)
        (subst (λ (v : List ℤ). Allows (con_kind (cell (row_at rays (index_at s.order m)) dim)) (dot v p)) e
        (f (dot (constraint_at list (length lines + k)).0 p) (subst (λ kind. Allows kind (dot (constraint_at list (length lines + k)).0 p)) (s.listed.ray k l).kind (others (length lines + k) (omega (arith, l, s.listed.as_many)) (λ z. ne (omega (arith, z))))))))

    different : (constraint_at list (length lines + k)).0 ≡ (constraint_at list (length lines + (k + 1))).0 → ⊥
    different e = by_way (one_way (cell (row_at rays (index_at s.order k)) dim) (cell (row_at rays (index_at s.order (k + 1))) dim))
      where
        by_way : ((y : ℤ) → Allows (con_kind (cell (row_at rays (index_at s.order k)) dim)) y → Allows (con_kind (cell (row_at rays (index_at s.order (k + 1))) dim)) y) ⊎ ((y : ℤ) → Allows (con_kind (cell (row_at rays (index_at s.order (k + 1))) dim)) y → Allows (con_kind (cell (row_at rays (index_at s.order k)) dim)) y) → ⊥
        by_way (inl f) = alike k (k + 1) (omega (arith, below)) below e f (λ z. absurd (omega (arith, z)))
        by_way (inr f) = alike (k + 1) k below (omega (arith, below)) (sym e) f (λ z. absurd (omega (arith, z)))
