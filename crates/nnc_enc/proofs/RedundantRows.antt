-- A strict row is redundant exactly where it is bare or covered.
use Rattle.std.proofs.Common.{◌≡◌, ◌≢◌, ◌⊎◌, inl, inr, ℕ, suc, ◌+◌, ◌<◌, List, length, Bool, true, false, ℤ, pos, ◌<ℤ◌, refl, sym, ap, ◌∙◌, arith}
use Rattle.std.proofs.lemmas.Int.{ints}
use mathlib.Core.Bool.{true≢false}
use Rattle.row_core.specs.Vectors.{cell, dot}
use Rattle.row_core.specs.Lists.{Row, row_at}
use Rattle.cone_laws.specs.Cones.{Upto}
use Rattle.cone_laws.specs.Canon.{vector_at, IsSystem}
use Rattle.cone_laws.proofs.Ring.{by_sign}
use Rattle.nnc_enc.specs.Encoding.{lowered, IsEncodedDual}
use Rattle.nnc_enc.specs.StrongRows.{kept_at, IsBare, IsCovered, IsSpare, IsApart, HasPlace, IsLeftOver, Covers}
use Rattle.nnc_enc.specs.Redundant.{IsRedundantRow, StrictRowIsRedundant}
use Rattle.nnc_enc.proofs.MarkedSums.{Without, same_number}
use Rattle.nnc_enc.proofs.KeptSums.{IsKept}
use Rattle.nnc_enc.proofs.Removals.{Stay, bool_cases}
use Rattle.nnc_enc.proofs.Relaxed.{Given, Strict, relaxed, relaxed_lines}
use Rattle.nnc_enc.proofs.LeftOutRows.{stays, stay_all, bare_row, covered_row, all_hold}
use Rattle.nnc_enc.proofs.NeededRows.{left_over}
use Rattle.nnc_enc.proofs.Searches.{Some, all_or_some, bare_or_place, covers_or_apart}

module _ (dim : ℕ) (gens : List Row) (lines rays : List (List ℤ)) (keep : List Bool) (i : ℕ) (wide : (j : ℕ) → j < length gens → length (row_at gens j) ≡ dim + 2) (system : IsSystem (Upto (dim + 2) gens (length gens)) lines rays) (enc : IsEncodedDual dim (Upto (dim + 2) gens (length gens))) (spare : (t : ℕ) → t < length rays → kept_at keep t ≡ false → IsSpare dim gens rays keep t) (hi : i < length rays) (ki : kept_at keep i ≡ true) (si : cell (vector_at rays i) dim <ℤ pos 0) where
  abbrev Kept : ℕ → Type 0
  Kept = Stay (Given rays) (stays dim gens lines rays wide system enc keep spare)

  -- ---- bare or covered: redundant
  without_row : IsBare dim gens (vector_at rays i) ⊎ IsCovered dim gens rays keep i → IsKept (relaxed_lines dim lines) (relaxed dim rays) (Given rays) (Strict dim rays) (Without Kept (suc i))
  without_row (inl b) = bare_row dim gens lines rays wide system enc Kept (stay_all dim gens lines rays wide system enc keep spare) (λ t s. s.0) i hi (tt, refl) si b
  without_row (inr c) = covered_row dim gens lines rays wide system enc Kept (stay_all dim gens lines rays wide system enc keep spare) (λ t s. s.0) i c.index hi c.below (c.below, c.kept) c.other si c.strict c.covers

  redundant : IsBare dim gens (vector_at rays i) ⊎ IsCovered dim gens rays keep i → IsRedundantRow dim lines rays keep i
  redundant c p point on_lines on_others = all_hold dim gens lines rays wide system enc (Without Kept (suc i)) (without_row c) p point on_lines (λ t s. on_others t s.0.0 s.0.1 (λ e. s.1 (ap suc e))) i hi

  -- ---- neither: some point meets all else
  abbrev IsOther : ℕ → Type 0
  IsOther t = kept_at keep t ≡ true → t ≢ i → cell (vector_at rays t) dim <ℤ pos 0 → IsApart dim gens (vector_at rays t) (vector_at rays i)

  other_or_cover : (t : ℕ) → t < length rays → IsOther t ⊎ IsCovered dim gens rays keep i
  other_or_cover t h = by_kept (bool_cases (kept_at keep t)) (same_number t i) (by_sign (cell (vector_at rays t) dim)) (covers_or_apart dim gens (vector_at rays t) (vector_at rays i))
    where
      not_strict : (x : ℤ) → (pos 0 <ℤ x) ⊎ (x ≡ pos 0) → x <ℤ pos 0 → ⊥
      not_strict x (inl p) q = omega (arith, ints, p, q)
      not_strict x (inr p) q = omega (arith, ints, p, q)

      by_kept : (kept_at keep t ≡ true) ⊎ (kept_at keep t ≡ false) → (t ≡ i) ⊎ (t ≢ i) → (pos 0 <ℤ cell (vector_at rays t) dim) ⊎ ((cell (vector_at rays t) dim <ℤ pos 0) ⊎ (cell (vector_at rays t) dim ≡ pos 0)) → Covers dim gens (vector_at rays t) (vector_at rays i) ⊎ IsApart dim gens (vector_at rays t) (vector_at rays i) → IsOther t ⊎ IsCovered dim gens rays keep i
      by_kept (inr e) b c d = inl (λ k ne s. absurd (true≢false (sym k ∙ e)))
      by_kept (inl k) (inl e) c d = inl (λ k ne s. absurd (ne e))
      by_kept (inl k) (inr ne) (inl p) d = inl (λ k ne s. absurd (not_strict (cell (vector_at rays t) dim) (inl p) s))
      by_kept (inl k) (inr ne) (inr (inr p)) d = inl (λ k ne s. absurd (not_strict (cell (vector_at rays t) dim) (inr p) s))
      by_kept (inl k) (inr ne) (inr (inl s)) (inl c) = inr (record { index = t; below = h; other = ne; strict = s; kept = k; covers = c })
      by_kept (inl k) (inr ne) (inr (inl s)) (inr a) = inl (λ k ne s. a)

  not_positive : (x : ℤ) → x ≡ pos 0 → pos 0 <ℤ x → ⊥
  not_positive x e p = omega (arith, ints, e, p)

  not_redundant : IsLeftOver dim lines rays keep i → IsRedundantRow dim lines rays keep i → ⊥
  not_redundant o r = not_positive (dot (lowered dim (vector_at rays i)) o.vector) o.zero_on ((r o.vector o.point o.on_lines (λ t h k ne. record { least = o.least t h; strict = o.strict t h k ne })).strict si)

  cause : IsRedundantRow dim lines rays keep i → IsBare dim gens (vector_at rays i) ⊎ IsCovered dim gens rays keep i
  cause r = by_place (bare_or_place dim gens (vector_at rays i)) (all_or_some IsOther (λ t. IsCovered dim gens rays keep i) (length rays) other_or_cover)
    where
      by_place : IsBare dim gens (vector_at rays i) ⊎ HasPlace dim gens (vector_at rays i) → ((t : ℕ) → t < length rays → IsOther t) ⊎ Some (λ t. IsCovered dim gens rays keep i) (length rays) → IsBare dim gens (vector_at rays i) ⊎ IsCovered dim gens rays keep i
      by_place (inl b) c = inl b
      by_place (inr p) (inr s) = inr s.found
      by_place (inr p) (inl others) = absurd (not_redundant (left_over dim gens lines rays wide system enc keep i hi si p others) r)

pub strict_row_is_redundant : StrictRowIsRedundant
strict_row_is_redundant dim gens lines rays keep i wide system enc spare hi ki si = (cause dim gens lines rays keep i wide system enc spare hi ki si, redundant dim gens lines rays keep i wide system enc spare hi ki si)
