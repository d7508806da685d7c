-- How many lines a list in reduced echelon form has.
use Rattle.std.proofs.Common.{◌≡◌, ℕ, suc, zero, ◌<◌, ◌≤◌, ◌⊎◌, inl, inr, List, [], length, refl, arith, ℤ, pos}
use Rattle.std.specs.Prelude.{◌≢◌, All}
use Rattle.std.proofs.lemmas.Int.{ints}
use Rattle.std.proofs.lemmas.Bool.{cases_lt}
use Rattle.std.proofs.lemmas.List.{get_or_past}
use Rattle.row_core.specs.Vectors.{cell}
use Rattle.cone_laws.specs.Canon.{IsPivot, IsEchelon}
use Rattle.row_core.specs.Lists.{vector_at}
use Rattle.minimise.specs.Bases.{EchelonIsNarrow}

-- a place that isn't 0 is a column
pub nonzero_below : (v : List ℤ) (j : ℕ) → cell v j ≢ pos 0 → j < length v
nonzero_below v j ne = by_order (cases_lt j (length v))
  where
    by_order : (j < length v) ⊎ (length v ≤ j) → j < length v
    by_order (inl h) = h
    by_order (inr h) = absurd (ne (get_or_past v j (pos 0) h))

-- a pivot is a column
pub pivot_below : (v : List ℤ) (j : ℕ) → IsPivot v j → j < length v
pivot_below v j p = nonzero_below v j (λ e. omega (arith, ints, e, p.positive))

module _ (lines rays : List (List ℤ)) (e : IsEchelon lines rays) where
  pivot_least : (i : ℕ) → i < length lines → i ≤ e.pivot i
  pivot_least zero h = omega arith
  pivot_least (suc i) h = omega (arith, pivot_least i (omega arith), e.ordered i (suc i) (omega arith) h)

by_last : (width n : ℕ) (lines rays : List (List ℤ)) → n ≡ length lines → IsEchelon lines rays → All (λ l. length l ≡ width) lines → n ≤ width
by_last width zero lines rays is e wide = omega arith
by_last width (suc n) lines rays is e wide =
    let below : n < length lines = omega (arith, is) in
    omega (arith, pivot_least lines rays e n below, pivot_below (vector_at lines n) (e.pivot n) (e.pivots n below), wide n [] below)

pub echelon_is_narrow : EchelonIsNarrow
echelon_is_narrow width lines rays e wide = by_last width (length lines) lines rays (let r : length lines ≡ length lines = refl in r) e wide
