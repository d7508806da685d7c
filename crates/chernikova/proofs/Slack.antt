-- What is counted in another order fits what the bound of the list's order leaves.
use Rattle.std.specs.Prelude.{◌≡◌, ℕ, ◌+◌, ◌-◌, ◌<◌, ◌≤◌, List, [], ◌∷◌, length, sum, count_by, slice_index_or, ℤ}
use Prim.Native.Nat.{suc, zero}
use Rattle.std.proofs.Common.{refl, sym, ap, ◌∙◌, subst, arith, inl, inr}
use Rattle.std.proofs.lemmas.Bool.{cases_lt}
use Rattle.std.proofs.lemmas.List.Sums.{sum_by-cons}
use Rattle.row_core.specs.Lists.{Row, row_at, is_eq_at, vectors}
use Rattle.row_core.specs.Signs.{stays}
use Rattle.cone_laws.specs.SystemLaws.{HasSystemOf}
use Rattle.chernikova.specs.declared.system.System.{System}
use Rattle.chernikova.specs.declared.plan.Position.{Position}
use Rattle.chernikova.specs.declared.plan.Position.TheVariants as position
use Rattle.chernikova.specs.declared.plan.Plan.{Plan}
use Rattle.chernikova.specs.declared.plan.Plan.TheVariants as plan
use Rattle.sat_matrix.specs.Pairs.{AreAllCrosses}
use Rattle.chernikova.specs.Conversion.{IsState, IsCountedBetween, IsCountedUpto}
use Rattle.chernikova.specs.Plans.{StepLists, IsFlat, IsPosition, IsPlan, kept_of, combinations_of}
use Rattle.chernikova.proofs.Counts.{count_none, count_line, count_kept, count_pairs, counted_more, counted_all}
use Rattle.row_core.proofs.RowListLemmas.{length-vectors}

-- numbers of which none is above the one at its index, with a sum of their own
record AreLower (counts : List ℕ) (less : ℕ) : Type 0 where
  lower : List ℕ
  as_many : length lower ≡ length counts
  is_total : sum lower ≡ less
  each : (i : ℕ) → slice_index_or lower i 0 ≤ slice_index_or counts i 0

lower_each : (x c : ℕ) (xs cs : List ℕ) → x ≤ c → ((i : ℕ) → slice_index_or xs i 0 ≤ slice_index_or cs i 0) → (i : ℕ) → slice_index_or (x ∷ xs) i 0 ≤ slice_index_or (c ∷ cs) i 0
lower_each x c xs cs first rest zero = first
lower_each x c xs cs first rest (suc i) = rest i

lower_counts : (counts : List ℕ) (less : ℕ) → less ≤ sum counts → AreLower counts less
lower_counts [] less h = record { lower = []; as_many = refl; is_total = omega (arith, h); each = λ i. omega arith }
lower_counts (c ∷ cs) less h =
    elim (cases_lt less c) [
      | inl small ↦
          let rest : AreLower cs 0 = lower_counts cs 0 (omega arith) in
          record { lower = less ∷ rest.lower; as_many = omega (arith, rest.as_many); is_total = sum_by-cons (λ (n : ℕ). n) less rest.lower ∙ ap (λ n. less + n) rest.is_total ∙ (let e : less + 0 ≡ less = omega arith in e); each = lower_each less c rest.lower cs (omega (arith, small)) rest.each }
      | inr large ↦
          let rest : AreLower cs (less - c) = lower_counts cs (less - c) (omega (arith, h, large, sum_by-cons (λ (n : ℕ). n) c cs)) in
          record { lower = c ∷ rest.lower; as_many = omega (arith, rest.as_many); is_total = sum_by-cons (λ (n : ℕ). n) c rest.lower ∙ ap (λ n. c + n) rest.is_total ∙ (let e : c + (less - c) ≡ less = omega (arith, large) in e); each = lower_each c c rest.lower cs (omega arith) rest.each }
    ]

pub has_less : (width : ℕ) (rows : List Row) (k number less : ℕ) → HasSystemOf width rows k number → less ≤ number → HasSystemOf width rows k less
has_less width rows k number less h below = record { lines = h.lines; rays = h.rays; system = h.system; bound = omega (arith, h.bound, below) }

-- a smaller total is bounded as well
pub counted_less : (width : ℕ) (rows : List Row) (from k total less : ℕ) → IsCountedBetween width rows from k total → less ≤ total → IsCountedBetween width rows from k less
counted_less width rows from k total less h below =
    let lower : AreLower h.counts less = lower_counts h.counts less (omega (arith, h.is_total, below)) in
    record {
      counts = lower.lower;
      as_many = omega (arith, lower.as_many, h.as_many);
      is_total = lower.is_total;
      each = λ i inside. has_less width rows (from + i + 1) (slice_index_or h.counts i 0) (slice_index_or lower.lower i 0) (h.each i inside) (lower.each i);
    }

-- ---- one row
-- the combinations of a plan are at most as many as the next system has vectors
pub plan_counted : (width : ℕ) (rows : List Row) (k : ℕ) (cone : System) (lists : StepLists) (p : Plan) (number : ℕ) → k < length rows → IsState width rows k cone → IsPlan rows k cone lists p → number ≤ combinations_of cone lists p → HasSystemOf width rows (k + 1) number
plan_counted width rows k cone lists (plan.Line index) number below state is_plan bound =
    count_line width rows k cone.lines.rows cone.rays.rows _ index number below state.system refl is_plan.crossing (omega (arith, bound, is_plan.crossing.below, length-vectors cone.lines.rows))
plan_counted width rows k cone lists plan.Same number below state is_plan bound = count_none width rows k number below (omega (arith, bound))
plan_counted width rows k cone lists plan.Ray number below state is_plan bound =
    count_pairs width rows k (vectors cone.lines.rows) (vectors cone.rays.rows) lists.ray_values below state.system is_plan.cutting.0.are_values is_plan.cutting.0.flat cone.sat lists.pairs number state.zeros is_plan.crosses (omega (arith, bound))

-- a row that is 0 on all lines: these and the rays that meet it may be counted, however many pairs cross
flat_kept : (width : ℕ) (rows : List Row) (k : ℕ) (cone : System) (values : List ℤ) (number : ℕ) → k < length rows → IsState width rows k cone → IsFlat (row_at rows k, is_eq_at rows k) cone values → number ≤ length cone.lines.rows + count_by (λ value. stays (is_eq_at rows k) value) values → HasSystemOf width rows (k + 1) number
flat_kept width rows k cone values number below state is bound =
    count_kept width rows k (vectors cone.lines.rows) (vectors cone.rays.rows) values below state.system is.are_values is.flat number (omega (arith, bound, length-vectors cone.lines.rows))

-- and the combinations of its plan
flat_counted : (width : ℕ) (rows : List Row) (k : ℕ) (cone : System) (values : List ℤ) (lists : StepLists) (p : Plan) (number : ℕ) → k < length rows → IsState width rows k cone → IsFlat (row_at rows k, is_eq_at rows k) cone values → IsPlan rows k cone lists p → number ≤ length cone.lines.rows + count_by (λ value. stays (is_eq_at rows k) value) values + combinations_of cone lists p → HasSystemOf width rows (k + 1) number
flat_counted width rows k cone values lists (plan.Line index) number below state is is_plan bound = absurd (is_plan.crossing.crosses (is.flat index is_plan.crossing.below))
flat_counted width rows k cone values lists plan.Same number below state is is_plan bound = flat_kept width rows k cone values number below state is (omega (arith, bound))
flat_counted width rows k cone values lists plan.Ray number below state is is_plan bound =
    count_pairs width rows k (vectors cone.lines.rows) (vectors cone.rays.rows) values below state.system is.are_values is.flat cone.sat lists.pairs number state.zeros
    (subst (λ (vs : List ℤ). AreAllCrosses vs cone.sat lists.pairs) (is_plan.cutting.0.are_values ∙ sym is.are_values) is_plan.crosses)
    (omega (arith, bound, length-vectors cone.lines.rows))

-- what stays may be counted before the row's pairs are known
pub kept_counted : (width : ℕ) (rows : List Row) (k : ℕ) (cone : System) (lists : StepLists) (p : Position) (number : ℕ) → k < length rows → IsState width rows k cone → IsPosition rows k cone lists p → number ≤ kept_of (is_eq_at rows k) cone lists p → HasSystemOf width rows (k + 1) number
kept_counted width rows k cone lists (position.Crossing index) number below state is bound = count_none width rows k number below (omega (arith, bound))
kept_counted width rows k cone lists position.Met number below state is bound = flat_kept width rows k cone lists.ray_values number below state is.0 bound
kept_counted width rows k cone lists position.Cutting number below state is bound = flat_kept width rows k cone lists.ray_values number below state is.0 bound

-- and beside it the combinations of the row's plan
pub placed_counted : (width : ℕ) (rows : List Row) (k : ℕ) (cone : System) (before lists : StepLists) (p : Position) (q : Plan) (number : ℕ) → k < length rows → IsState width rows k cone → IsPosition rows k cone before p → IsPlan rows k cone lists q → number ≤ kept_of (is_eq_at rows k) cone before p + combinations_of cone lists q → HasSystemOf width rows (k + 1) number
placed_counted width rows k cone before lists (position.Crossing index) q number below state is is_plan bound = plan_counted width rows k cone lists q number below state is_plan (omega (arith, bound))
placed_counted width rows k cone before lists position.Met q number below state is is_plan bound = flat_counted width rows k cone before.ray_values lists q number below state is.0 is_plan bound
placed_counted width rows k cone before lists position.Cutting q number below state is is_plan bound = flat_counted width rows k cone before.ray_values lists q number below state is.0 is_plan bound

-- what is left of the vectors of the next system may be counted on top
pub spared_counted : (width : ℕ) (rows : List Row) (k : ℕ) (cone : System) (number made spared : ℕ) → IsState width rows k cone → HasSystemOf width rows k number → number ≤ made → spared ≡ length cone.lines.rows + length cone.rays.rows - made → HasSystemOf width rows k (number + spared)
spared_counted width rows k cone number made spared state counted below is =
    elim (cases_lt made (length cone.lines.rows + length cone.rays.rows)) [
      | inl small ↦ record { lines = vectors cone.lines.rows; rays = vectors cone.rays.rows; system = state.system; bound = omega (arith, below, is, small, length-vectors cone.lines.rows, length-vectors cone.rays.rows) }
      | inr large ↦ has_less width rows k number (number + spared) counted (omega (arith, is, large))
    ]

-- ---- the count of two conversions
-- one row more of the list was taken in
pub counted_step : (width : ℕ) (rows : List Row) (k total count more : ℕ) → IsCountedUpto width rows k total → HasSystemOf width rows (k + 1) count → more ≤ total + count → IsCountedUpto width rows (k + 1) more
counted_step width rows k total count more h next below = counted_less width rows 0 (k + 1) (total + count) more (counted_more width rows 0 k total count (total + count) h next refl) below

-- no further row of the list is taken in
pub counted_rest : (width : ℕ) (rows : List Row) (k total more : ℕ) → k ≤ length rows → IsCountedUpto width rows k total → more ≤ total → IsCountedUpto width rows (length rows) more
counted_rest width rows k total more inside h below = counted_all width rows 0 k more inside (counted_less width rows 0 k total more h below)
