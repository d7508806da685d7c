-- How many combinations a conversion counts: at each step at most as many as the next system has vectors, also where the step stops early.
use Rattle.std.specs.Prelude.{◌≡◌, ◌≢◌, ◌-◌, ℕ, ◌+◌, ◌<◌, ◌≤◌, List, [], ◌∷◌, ◌++◌, length, count_by, cond, slice_index_or, ℤ, pos}
use Prim.Native.Nat.{suc, zero}
use Rattle.std.proofs.Common.{refl, sym, ap, ◌∙◌, subst, arith, inl, inr}
use Rattle.std.proofs.lemmas.List.{length_push, get_or_append_left, get_or_push}
use Rattle.std.proofs.lemmas.List.Folds.{fold-map}
use Rattle.std.proofs.lemmas.List.Sums.{sum_by_push}
use Rattle.std.proofs.lemmas.Bool.{cases_lt}
use Rattle.row_core.specs.Vectors.{dot}
use Rattle.row_core.specs.Lists.{Row, row_at, is_eq_at, vectors, vector_at}
use Rattle.sat_matrix.specs.Tables.{Table}
use Rattle.cone_laws.specs.Cones.{Upto}
use Rattle.cone_laws.specs.Canon.{IsSystem}
use Rattle.cone_laws.specs.Steps.{IsLastCrossing}
use Rattle.row_core.specs.Pairs.{pair_at}
use Rattle.row_core.specs.Signs.{stays}
use Rattle.cone_laws.specs.SystemLaws.{HasSystem, HasSystemOf, AreAllCrossings}
use Rattle.cone_laws.proofs.StepExistence.{every_prefix, line_step_count, ray_step_count, ray_step_kept}
use Rattle.sat_matrix.specs.ZeroTables.{IsZeroTable}
use Rattle.row_store.specs.Values.{values_on}
use Rattle.sat_matrix.specs.Pairs.{AreAllCrosses}
use Rattle.row_core.specs.declared.errors.ConvErr.{ConvErr}
use Rattle.row_core.specs.declared.errors.ConvErr.TheVariants.{Overflow, Memory}
use Rattle.chernikova.specs.Conversion.{IsCountedUpto, IsCountedBetween, IsAtStep, IsCountedBeforeFrom}
use Rattle.row_core.proofs.RowListLemmas.{length-vectors}
use Rattle.chernikova.proofs.StateLemmas.{crossing_from, cross_from}
use Rattle.chernikova.proofs.NextStates.{row_is_at}

-- ---- one step
-- nothing was counted
pub count_none : (width : ℕ) (rows : List Row) (k number : ℕ) → k < length rows → number ≡ 0 → HasSystemOf width rows (k + 1) number
count_none width rows k number below e = from_system (every_prefix width rows (k + 1) (omega arith))
  where
    from_system : HasSystem width rows (k + 1) → HasSystemOf width rows (k + 1) number
    from_system h = record { lines = h.lines; rays = h.rays; system = h.system; bound = omega (arith, e) }

-- a step with a line
pub count_line : (width : ℕ) (rows : List Row) (k : ℕ) (lines rays : List Row) (a : List ℤ) (index number : ℕ) → k < length rows → IsSystem (Upto width rows k) (vectors lines) (vectors rays) → a ≡ row_at rows k → IsLastCrossing a (vectors lines) index → number + 1 ≤ length lines + length rays → HasSystemOf width rows (k + 1) number
count_line width rows k lines rays a index number below s e crossing bound =
    line_step_count width rows k (row_at rows k, is_eq_at rows k) (vectors lines) (vectors rays) index number (row_is_at rows k below) s crossing.below
    (subst (λ (b : List ℤ). dot b (vector_at (vectors lines) index) ≢ pos 0) e crossing.crosses)
    (omega (arith, bound, length-vectors lines, length-vectors rays))

-- a step with pairs of rays
module _ (width : ℕ) (rows : List Row) (k : ℕ) (lines rays : List (List ℤ)) (values : List ℤ) (below : k < length rows) (s : IsSystem (Upto width rows k) lines rays) (is_values : values ≡ values_on (row_at rows k) rays) (flat : (i : ℕ) → i < length lines → dot (row_at rows k) (vector_at lines i) ≡ pos 0) where
  -- the rays that stay, by their values
  staying : count_by (λ value. stays (is_eq_at rows k) value) values ≡ count_by (λ r. stays (is_eq_at rows k) (dot (row_at rows k) r)) rays
  staying =
      ap (λ vs. count_by (λ value. stays (is_eq_at rows k) value) vs) is_values
      ∙ fold-map (λ (n : ℕ) value. n + cond (stays (is_eq_at rows k) value) 1 0) (λ r. dot (row_at rows k) r) 0 rays

  pub count_kept : (number : ℕ) → number ≤ length lines + count_by (λ value. stays (is_eq_at rows k) value) values → HasSystemOf width rows (k + 1) number
  count_kept number bound = ray_step_kept width rows k (row_at rows k, is_eq_at rows k) lines rays number (row_is_at rows k below) s flat (omega (arith, bound, staying))

  pub count_pairs : (table : Table) (pairs : List (ℕ × ℕ)) (number : ℕ) → IsZeroTable rows k rays table → AreAllCrosses values table pairs → number ≤ length lines + count_by (λ value. stays (is_eq_at rows k) value) values + length pairs → HasSystemOf width rows (k + 1) number
  count_pairs table pairs number zeros crosses bound = ray_step_count width rows k (row_at rows k, is_eq_at rows k) lines rays pairs number (row_is_at rows k below) s flat all (omega (arith, bound, staying))
    where
      on_rays : AreAllCrosses (values_on (row_at rows k) rays) table pairs
      on_rays = subst (λ (vs : List ℤ). AreAllCrosses vs table pairs) is_values crosses

      all : AreAllCrossings rows k (row_at rows k) rays pairs
      all = record {
        cross = λ i h. crossing_from rows k (row_at rows k) rays table (pair_at pairs i).0 (pair_at pairs i).1 zeros (on_rays.each i h);
        all = λ p n c. on_rays.all p n (cross_from rows k (row_at rows k) rays table p n zeros c);
        distinct = on_rays.distinct;
      }

-- ---- all steps
pub counted_none : (width : ℕ) (rows : List Row) (from total : ℕ) → total ≡ 0 → IsCountedBetween width rows from from total
counted_none width rows from total e = record { counts = []; as_many = omega arith; is_total = sym e; each = λ i h. absurd (omega (arith, h)) }

pub counted_more : (width : ℕ) (rows : List Row) (from k total count more : ℕ) → IsCountedBetween width rows from k total → HasSystemOf width rows (k + 1) count → more ≡ total + count → IsCountedBetween width rows from (k + 1) more
counted_more width rows from k total count more h next is = record {
  counts = h.counts ++ count ∷ [];
  as_many = omega (arith, length_push h.counts count, h.as_many);
  is_total = sum_by_push (λ (n : ℕ). n) h.counts count ∙ ap (λ t. t + count) h.is_total ∙ sym is;
  each = λ i below. elim (cases_lt (from + i) k) [
    | inl less ↦
        let P : ℕ → Type 0 = λ c. HasSystemOf width rows (from + i + 1) c in
        subst P (sym (get_or_append_left h.counts (count ∷ []) 0 i (omega (arith, h.as_many, less)))) (h.each i less)
    | inr at ↦
        let here : from + i ≡ k = omega (arith, at, below) in
        let P : ℕ → Type 0 = λ c. HasSystemOf width rows (from + i + 1) c in
        let Q : ℕ → Type 0 = λ m. HasSystemOf width rows (m + 1) count in
        subst P (sym (get_or_push h.counts count 0 i (omega (arith, h.as_many, here)))) (subst Q (sym here) next)
  ];
}

-- nothing was counted at the further rows
counted_further : (width : ℕ) (rows : List Row) (from k further total : ℕ) → k + further ≤ length rows → IsCountedBetween width rows from k total → IsCountedBetween width rows from (k + further) total
counted_further width rows from k zero total below h = subst (λ (n : ℕ). IsCountedBetween width rows from n total) (let e : k ≡ k + zero = omega arith in e) h
counted_further width rows from k (suc further) total below h =
    subst (λ (n : ℕ). IsCountedBetween width rows from n total) (let e : (k + further) + 1 ≡ k + suc further = omega arith in e)
    (counted_more width rows from (k + further) total 0 total (counted_further width rows from k further total (omega arith) h) (count_none width rows (k + further) 0 (omega arith) refl) (omega arith))

pub counted_all : (width : ℕ) (rows : List Row) (from k total : ℕ) → k ≤ length rows → IsCountedBetween width rows from k total → IsCountedBetween width rows from (length rows) total
counted_all width rows from k total below h =
    subst (λ (n : ℕ). IsCountedBetween width rows from n total) (let e : k + (length rows - k) ≡ length rows = omega arith in e)
    (counted_further width rows from k (length rows - k) total (omega arith) h)

-- no row was taken in
pub counted_start_from : (width : ℕ) (rows : List Row) (from total : ℕ) → from ≤ length rows → total ≡ 0 → IsCountedBetween width rows from (length rows) total
counted_start_from width rows from total below e = counted_all width rows from from total below (counted_none width rows from total e)

pub counted_start : (width : ℕ) (rows : List Row) (total : ℕ) → total ≡ 0 → IsCountedUpto width rows (length rows) total
counted_start width rows total e = counted_start_from width rows 0 total (omega arith) e

-- what was counted up to an overflow at the step with row k
pub counted_before : (width : ℕ) (rows : List Row) (from k total : ℕ) (error : ConvErr) → IsAtStep k error → IsCountedBetween width rows from (k + 1) total → IsCountedBeforeFrom width rows from total error
counted_before width rows from k total (Overflow over) e h = subst (λ (n : ℕ). IsCountedBetween width rows from (n + 1) total) (sym e) h
counted_before width rows from k total Memory e h = tt

-- ---- the rows before
-- nothing was counted at the row before
counted_earlier : (width : ℕ) (rows : List Row) (from k total : ℕ) → from < length rows → IsCountedBetween width rows (from + 1) k total → IsCountedBetween width rows from k total
counted_earlier width rows from k total inside h = record { counts = 0 ∷ h.counts; as_many = omega (arith, h.as_many); is_total = h.is_total; each = each }
  where
    each : (i : ℕ) → from + i < k → HasSystemOf width rows (from + i + 1) (slice_index_or (0 ∷ h.counts) i 0)
    each zero below = subst (λ (m : ℕ). HasSystemOf width rows m 0) (let e : from + 1 ≡ from + zero + 1 = omega arith in e) (count_none width rows from 0 inside refl)
    each (suc i) below = subst (λ (m : ℕ). HasSystemOf width rows m (slice_index_or h.counts i 0)) (let e : from + 1 + i + 1 ≡ from + suc i + 1 = omega arith in e) (h.each i (omega (arith, below)))

-- a total that was counted between two rows is counted up to the last of them
pub counted_upto : (width : ℕ) (rows : List Row) (from k total : ℕ) → from ≤ length rows → IsCountedBetween width rows from k total → IsCountedUpto width rows k total
counted_upto width rows zero k total inside h = h
counted_upto width rows (suc from) k total inside h =
    counted_upto width rows from k total (omega arith)
    (counted_earlier width rows from k total (omega arith) (subst (λ (n : ℕ). IsCountedBetween width rows n k total) (let e : suc from ≡ from + 1 = omega arith in e) h))
