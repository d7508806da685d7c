-- Rows that the others give: strict rows that are bare or covered, and rows without a variable.
use Rattle.std.proofs.Common.{◌≡◌, ◌≢◌, ◌⊎◌, inl, inr, ℕ, zero, suc, ◌+◌, ◌<◌, ◌≤◌, List, [], length, slice_index_or, Bool, true, false, ℤ, pos, ◌*ℤ◌, ◌≤ℤ◌, ◌<ℤ◌, refl, sym, ap, ◌∙◌, subst, arith}
use mathlib.Core.Bool.{true≢false}
use Rattle.std.proofs.lemmas.Int.{ints}
use Rattle.std.proofs.lemmas.List.{get_or_past}
use Rattle.std.proofs.lemmas.Bool.{cases_lt}
use Rattle.std.proofs.Math.Nat.{eq-or-lt_of_le}
use Rattle.row_core.specs.Vectors.{cell, dot}
use Rattle.row_core.specs.Lists.{Row}
use Rattle.row_core.specs.Points.{IsPoint}
use Rattle.cone_laws.specs.Cones.{Upto}
use Rattle.cone_laws.specs.Canon.{vector_at, IsSystem}
use Rattle.cone_laws.proofs.Ring.{mul_comm, at_least_zero_of_mul, positive_of_mul}
use Rattle.cone_laws.proofs.Sums.{V, Among, none, SpansBy, same_value, sums_one_ray, sums_at_least_zero, spans_sums}
use Rattle.cone_laws.proofs.Columns.{value, value_linear, dot_is, dot_comm}
use Rattle.nnc_enc.specs.Encoding.{lowered, IsEncodedDual}
use Rattle.nnc_enc.specs.StrongRows.{HoldsAt, Covers, IsBare, HasNoVariable, kept_at, IsSpare, KeptRowsHold}
use Rattle.nnc_enc.proofs.MarkedSums.{Without, Marks, Absorbed, absorbed}
use Rattle.nnc_enc.proofs.KeptSums.{Both, IsKept, one_less, one_absorbed, positive_on_given}
use Rattle.nnc_enc.proofs.Removals.{Stay, removed}
use Rattle.nnc_enc.proofs.ClosedRows.{IsClosed, closed_combine, closed_side, kept_spans, lowered_wide, ray_in}
use Rattle.nnc_enc.proofs.InnerPoint.{at_level, inner_flat, inner_last, inner_on, inner_strict, last_closed, last_test, last_value, last_wide, level_of, number_given, ray_closed}
use Rattle.nnc_enc.proofs.Relaxed.{Given, Strict, cell-remove, last_at, last_before, last_row, no_entry, once_of, own_entry, relaxed, relaxed_lines, skip_before}

module _ (dim : ℕ) (gens : List Row) (lines rays : List (List ℤ)) (wide : (j : ℕ) → j < length gens → length (slice_index_or gens j ([], false)).0 ≡ dim + 2) (system : IsSystem (Upto (dim + 2) gens (length gens)) lines rays) where
  abbrev gen : ℕ → List ℤ
  gen j = (slice_index_or gens j ([], false)).0

  abbrev D : List ℤ → Type 0
  D = Upto (dim + 2) gens (length gens)

  abbrev test : ℕ → V → ℤ
  test j = value (lowered dim (gen j))

  module _ (enc : IsEncodedDual dim (Upto (dim + 2) gens (length gens))) where
    -- ---- a strict row that is left out
    module _ (K : ℕ → Type 0) (k : IsKept (relaxed_lines dim lines) (relaxed dim rays) (Given rays) (Strict dim rays) K) (inside : (i : ℕ) → K i → Given rays i) where
      absorbed_row : (i : ℕ) → i < length rays → (u : V) → IsClosed dim gens lines rays wide system u → ((j : ℕ) → j < length gens → value (lowered dim (gen j)) (relaxed dim rays (suc i)) ≡ pos 0 → value (lowered dim (gen j)) u ≡ pos 0) → pos 0 <ℤ value (lowered dim enc.vector) u → Absorbed (relaxed_lines dim lines) (relaxed dim rays) K (suc i) u
      absorbed_row i h u c zeros fu =
          absorbed (relaxed_lines dim lines) (relaxed dim rays) K (IsClosed dim gens lines rays wide system) (length gens) test (λ j. value_linear (lowered dim (gen j))) (closed_side dim gens lines rays wide system) (closed_combine dim gens lines rays wide system) (kept_spans dim gens lines rays wide system (Given rays) (Strict dim rays) K (number_given dim gens lines rays wide system enc) k)
          (suc i) u (ray_closed dim gens lines rays wide system enc i h) c zeros (value (lowered dim enc.vector)) (value_linear (lowered dim enc.vector)) (inner_flat dim gens lines rays wide system enc) (λ j g. inner_on dim gens lines rays wide system enc j (inside j g)) (inner_on dim gens lines rays wide system enc (suc i) h) fu

      pub covered_row : (i t : ℕ) → i < length rays → t < length rays → K (suc t) → t ≢ i → cell (vector_at rays i) dim <ℤ pos 0 → cell (vector_at rays t) dim <ℤ pos 0 → Covers dim gens (vector_at rays t) (vector_at rays i) → IsKept (relaxed_lines dim lines) (relaxed dim rays) (Given rays) (Strict dim rays) (Without K (suc i))
      covered_row i t h g kt ne si st c =
          one_absorbed (relaxed_lines dim lines) (relaxed dim rays) (Given rays) (Strict dim rays) K (suc i) (suc t) k kt st (λ e. ne (omega (arith, e)))
          (absorbed_row i h (relaxed dim rays (suc t)) (ray_closed dim gens lines rays wide system enc t g) zeros (inner_strict dim gens lines rays wide system enc t g st))
        where
          zeros : (j : ℕ) → j < length gens → value (lowered dim (gen j)) (relaxed dim rays (suc i)) ≡ pos 0 → value (lowered dim (gen j)) (relaxed dim rays (suc t)) ≡ pos 0
          zeros j l z =
              let e = level_of dim gens lines rays wide system enc i j h l si z in
              sym (at_level dim gens lines rays wide system enc t j g l e) ∙ c j l e (at_level dim gens lines rays wide system enc i j h l e ∙ z)

      pub bare_row : (i : ℕ) → i < length rays → K zero → cell (vector_at rays i) dim <ℤ pos 0 → IsBare dim gens (vector_at rays i) → IsKept (relaxed_lines dim lines) (relaxed dim rays) (Given rays) (Strict dim rays) (Without K (suc i))
      bare_row i h kz si b =
          one_absorbed (relaxed_lines dim lines) (relaxed dim rays) (Given rays) (Strict dim rays) K (suc i) zero k kz tt (λ e. omega (arith, e))
          (absorbed_row i h (relaxed dim rays zero) (last_closed dim gens lines rays wide system enc) zeros (inner_last dim gens lines rays wide system enc))
        where
          zeros : (j : ℕ) → j < length gens → value (lowered dim (gen j)) (relaxed dim rays (suc i)) ≡ pos 0 → value (lowered dim (gen j)) (relaxed dim rays zero) ≡ pos 0
          zeros j l z =
              let e = level_of dim gens lines rays wide system enc i j h l si z in
              last_test dim gens lines rays wide system enc j ∙ b j l e (at_level dim gens lines rays wide system enc i j h l e ∙ z)

      -- a row without a variable is a multiple of the row d
      pub times_last : (i : ℕ) → i < length rays → HasNoVariable dim (vector_at rays i) → (j : ℕ) → relaxed dim rays (suc i) j ≡ cell (lowered dim (vector_at rays i)) dim *ℤ relaxed dim rays zero j
      times_last i h n j = by_place (cases_lt j dim)
        where
          by_place : (j < dim) ⊎ (dim ≤ j) → cell (lowered dim (vector_at rays i)) j ≡ cell (lowered dim (vector_at rays i)) dim *ℤ cell (last_row dim) j
          by_place (inl l) = no_entry (cell (lowered dim (vector_at rays i)) j) (cell (lowered dim (vector_at rays i)) dim) (cell (last_row dim) j) (cell-remove dim (vector_at rays i) j ∙ ap (cell (vector_at rays i)) (skip_before dim j l) ∙ n j l) (last_before dim j l)
          by_place (inr l) = at_or_after (eq-or-lt_of_le l)
            where
              at_or_after : (dim ≡ j) ⊎ (dim < j) → cell (lowered dim (vector_at rays i)) j ≡ cell (lowered dim (vector_at rays i)) dim *ℤ cell (last_row dim) j
              at_or_after (inl e) = subst (λ (m : ℕ). cell (lowered dim (vector_at rays i)) m ≡ cell (lowered dim (vector_at rays i)) dim *ℤ cell (last_row dim) m) e (own_entry (cell (lowered dim (vector_at rays i)) dim) (cell (last_row dim) dim) (last_at dim))
              at_or_after (inr g) = no_entry (cell (lowered dim (vector_at rays i)) j) (cell (lowered dim (vector_at rays i)) dim) (cell (last_row dim) j) (get_or_past (lowered dim (vector_at rays i)) j (pos 0) (omega (arith, lowered_wide dim gens lines rays wide system (vector_at rays i) (ray_in dim gens lines rays wide system i h).wide))) (get_or_past (last_row dim) j (pos 0) (omega (arith, last_wide dim gens lines rays wide system enc)))

      pub plain_row : (i : ℕ) → i < length rays → K zero → HasNoVariable dim (vector_at rays i) → IsKept (relaxed_lines dim lines) (relaxed dim rays) (Given rays) (Strict dim rays) (Without K (suc i))
      plain_row i h kz n = one_less (relaxed_lines dim lines) (relaxed dim rays) (Given rays) (Strict dim rays) K (suc i) k spanned marked
        where
          zero_in : Among (relaxed dim rays) (Without K (suc i)) (relaxed dim rays zero)
          zero_in = record { index = zero; is = (kz, λ e. omega (arith, e)); same = λ j. refl }

          value_is : value (lowered dim enc.vector) (relaxed dim rays (suc i)) ≡ cell (lowered dim (vector_at rays i)) dim *ℤ value (lowered dim enc.vector) (relaxed dim rays zero)
          value_is = (value_linear (lowered dim enc.vector)).multiple (relaxed dim rays (suc i)) (relaxed dim rays zero) (cell (lowered dim (vector_at rays i)) dim) (times_last i h n)

          least_factor : pos 0 ≤ℤ cell (lowered dim (vector_at rays i)) dim
          least_factor =
              at_least_zero_of_mul (value (lowered dim enc.vector) (relaxed dim rays zero)) (cell (lowered dim (vector_at rays i)) dim) (inner_last dim gens lines rays wide system enc)
              (subst (λ (z : ℤ). pos 0 ≤ℤ z) (value_is ∙ mul_comm (cell (lowered dim (vector_at rays i)) dim) (value (lowered dim enc.vector) (relaxed dim rays zero))) (inner_on dim gens lines rays wide system enc (suc i) h))

          spanned : SpansBy (relaxed_lines dim lines) (Among (relaxed dim rays) (Without K (suc i))) (relaxed dim rays (suc i))
          spanned = spans_sums (relaxed dim rays (suc i)) (sums_one_ray (cell (lowered dim (vector_at rays i)) dim) (relaxed dim rays zero) (relaxed dim rays (suc i)) least_factor zero_in (times_last i h n))

          positive_factor : cell (vector_at rays i) dim <ℤ pos 0 → pos 0 <ℤ cell (lowered dim (vector_at rays i)) dim
          positive_factor s =
              positive_of_mul (value (lowered dim enc.vector) (relaxed dim rays zero)) (cell (lowered dim (vector_at rays i)) dim) (inner_last dim gens lines rays wide system enc)
              (subst (λ (z : ℤ). pos 0 <ℤ z) (value_is ∙ mul_comm (cell (lowered dim (vector_at rays i)) dim) (value (lowered dim enc.vector) (relaxed dim rays zero))) (inner_strict dim gens lines rays wide system enc i h s))

          marked : cell (vector_at rays i) dim <ℤ pos 0 → Marks (relaxed_lines dim lines) (Among (relaxed dim rays) (Without K (suc i))) (Among (relaxed dim rays) (Both (Without K (suc i)) (Strict dim rays))) (relaxed dim rays (suc i))
          marked s = record {
            times = pos 1;
            positive = omega (arith, ints);
            factor = cell (lowered dim (vector_at rays i)) dim;
            above = positive_factor s;
            vector = relaxed dim rays zero;
            marked = record { index = zero; is = ((kz, λ e. omega (arith, e)), tt); same = λ j. refl };
            rest = λ j. pos 0;
            others = none (λ j. refl);
            same = λ j. once_of (relaxed dim rays (suc i) j) (cell (lowered dim (vector_at rays i)) dim *ℤ relaxed dim rays zero j) (times_last i h n j);
          }

    -- ---- all that are left out
    module _ (keep : List Bool) (spare : (i : ℕ) → i < length rays → kept_at keep i ≡ false → IsSpare dim gens rays keep i) where
      -- the row d stays
      abbrev pub stays : ℕ → Bool
      stays zero = true
      stays (suc i) = kept_at keep i

      leave_out : (m : ℕ) → m < suc (length rays) → stays m ≡ false → (K : ℕ → Type 0) → ((i : ℕ) → Stay (Given rays) stays i → K i) → ((i : ℕ) → K i → Given rays i) → K m → IsKept (relaxed_lines dim lines) (relaxed dim rays) (Given rays) (Strict dim rays) K → IsKept (relaxed_lines dim lines) (relaxed dim rays) (Given rays) (Strict dim rays) (Without K m)
      leave_out zero h e K f g km k = absurd (true≢false e)
      leave_out (suc i) h e K f g km k = by_cause (spare i (omega (arith, h)) e)
        where
          below : i < length rays
          below = omega (arith, h)

          kz : K zero
          kz = f zero (tt, refl)

          by_cause : IsSpare dim gens rays keep i → IsKept (relaxed_lines dim lines) (relaxed dim rays) (Given rays) (Strict dim rays) (Without K (suc i))
          by_cause (inl n) = plain_row K k g i below kz n
          by_cause (inr (s, inl b)) = bare_row K k g i below kz s b
          by_cause (inr (s, inr c)) = covered_row K k g i c.index below c.below (f (suc c.index) (c.below, c.kept)) c.other s c.strict c.covers

      -- what stays spans and marks all
      pub stay_all : IsKept (relaxed_lines dim lines) (relaxed dim rays) (Given rays) (Strict dim rays) (Stay (Given rays) stays)
      stay_all = removed (relaxed_lines dim lines) (relaxed dim rays) (Given rays) (Strict dim rays) stays (suc (length rays)) leave_out within given
        where
          within : (i : ℕ) → Given rays i → (i < suc (length rays)) ⊎ (stays i ≡ true)
          within zero g = inr refl
          within (suc i) g = inl (omega (arith, g))

          given : (m : ℕ) → m < suc (length rays) → stays m ≡ false → Given rays m
          given zero h e = tt
          given (suc m) h e = omega (arith, h)

    -- ---- where what is kept holds, all hold
    module _ (K : ℕ → Type 0) (k : IsKept (relaxed_lines dim lines) (relaxed dim rays) (Given rays) (Strict dim rays) K) (p : List ℤ) (point : IsPoint dim p) (on_lines : (i : ℕ) → i < length lines → dot (lowered dim (vector_at lines i)) p ≡ pos 0) (on_kept : (i : ℕ) → K (suc i) → HoldsAt dim (vector_at rays i) p) where
      at_point : (a : List ℤ) → value p (cell a) ≡ dot a p
      at_point a = sym (dot_is p a) ∙ dot_comm p a

      lines_flat : (l : V) → relaxed_lines dim lines l → value p l ≡ pos 0
      lines_flat l m = same_value (value p) (value_linear p) l (cell (lowered dim (vector_at lines m.index))) m.same ∙ at_point (lowered dim (vector_at lines m.index)) ∙ on_lines m.index m.is

      last_positive : pos 0 <ℤ value p (relaxed dim rays zero)
      last_positive = subst (λ (z : ℤ). pos 0 <ℤ z) (sym (last_value dim gens lines rays wide system enc p) ∙ dot_is p (last_row dim)) point.positive

      weaker : (x : ℤ) → pos 0 <ℤ x → pos 0 ≤ℤ x
      weaker x h = omega (arith, ints, h)

      least_kept : (i : ℕ) → K i → pos 0 ≤ℤ value p (relaxed dim rays i)
      least_kept zero s = weaker (value p (relaxed dim rays zero)) last_positive
      least_kept (suc i) s = subst (λ (z : ℤ). pos 0 ≤ℤ z) (sym (at_point (lowered dim (vector_at rays i)))) (on_kept i s).least

      strict_kept : (i : ℕ) → K i → Strict dim rays i → pos 0 <ℤ value p (relaxed dim rays i)
      strict_kept zero s m = last_positive
      strict_kept (suc i) s m = subst (λ (z : ℤ). pos 0 <ℤ z) (sym (at_point (lowered dim (vector_at rays i)))) ((on_kept i s).strict m)

      least_all : (i : ℕ) → i < length rays → pos 0 ≤ℤ value p (relaxed dim rays (suc i))
      least_all i h =
          least_of (k.spanned (suc i) h)
        where
          least_of : SpansBy (relaxed_lines dim lines) (Among (relaxed dim rays) K) (relaxed dim rays (suc i)) → pos 0 ≤ℤ value p (relaxed dim rays (suc i))
          least_of s =
              at_least_zero_of_mul s.times (value p (relaxed dim rays (suc i))) s.positive
              (subst (λ (z : ℤ). pos 0 ≤ℤ z) ((value_linear p).multiple (λ j. s.times *ℤ relaxed dim rays (suc i) j) (relaxed dim rays (suc i)) s.times (λ j. refl))
              (sums_at_least_zero (value p) (value_linear p) lines_flat (λ v m. subst (λ (z : ℤ). pos 0 ≤ℤ z) (sym (same_value (value p) (value_linear p) v (relaxed dim rays m.index) m.same)) (least_kept m.index m.is)) (λ j. s.times *ℤ relaxed dim rays (suc i) j) s.sums))

      pub all_hold : (i : ℕ) → i < length rays → HoldsAt dim (vector_at rays i) p
      all_hold i h = record {
        least = subst (λ (z : ℤ). pos 0 ≤ℤ z) (at_point (lowered dim (vector_at rays i))) (least_all i h);
        strict = λ s. subst (λ (z : ℤ). pos 0 <ℤ z) (at_point (lowered dim (vector_at rays i)))
            (positive_on_given (relaxed_lines dim lines) (relaxed dim rays) (Given rays) (Strict dim rays) K k (value p) (value_linear p) lines_flat least_kept strict_kept (suc i) h s);
      }

pub kept_rows_hold : KeptRowsHold
kept_rows_hold dim gens lines rays keep p wide system enc spare point on_lines on_kept =
    all_hold dim gens lines rays wide system enc (Stay (Given rays) (stays dim gens lines rays wide system enc keep spare)) (stay_all dim gens lines rays wide system enc keep spare) p point on_lines (λ i s. on_kept i s.0 s.1)
