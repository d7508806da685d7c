-- A row that is at least 0 at the points of a cone is at least 0 on its directions too.
use Rattle.std.proofs.Common.{◌≡◌, ◌⊎◌, inl, inr, ℕ, ◌+◌, List, ℤ, pos, ◌+ℤ◌, ◌*ℤ◌, ◌≤ℤ◌, ◌<ℤ◌, sym, ap, ◌∙◌, arith}
use Rattle.std.proofs.lemmas.Int.{ints}
use Rattle.row_core.specs.Vectors.{cell, dot}
use Rattle.cone_laws.specs.ConeSets.{IsCone}
use Rattle.cone_laws.proofs.Ring.{by_sign, at_least_zero_or_not}
use Rattle.cone_laws.proofs.Existence.{both, cell-both, length-both}
use Rattle.cone_laws.proofs.Bipolar.{dot-both}
use Rattle.cone_laws.proofs.Points.{too_far}

once_sum : (x s u t v : ℤ) → x ≡ s *ℤ u +ℤ t *ℤ v → pos 1 *ℤ x ≡ s *ℤ u +ℤ t *ℤ v
once_sum x s u t v e = omega (arith, ints, e)

stays_positive : (x d t e : ℤ) → x ≡ pos 1 *ℤ d +ℤ t *ℤ e → e ≡ pos 0 → pos 0 <ℤ d → pos 0 <ℤ x
stays_positive x d t e h z p = let f : t *ℤ e ≡ pos 0 = ap (λ (y : ℤ). t *ℤ y) z ∙ omega (arith, ints) in omega (arith, ints, h, f, p)

module _ (dim : ℕ) (C : List ℤ → Type 0) (cone : IsCone (dim + 1) C) (inner : List ℤ) (within : C inner) (positive : pos 0 <ℤ cell inner dim) (a : List ℤ) (holds : (p : List ℤ) → C p → pos 0 <ℤ cell p dim → pos 0 ≤ℤ dot a p) where
  -- the point, moved along the direction
  abbrev moved : List ℤ → List ℤ
  moved v = both (pos 1) inner (dot a inner +ℤ pos 1) v

  inner_above : pos 0 ≤ℤ dot a inner
  inner_above = holds inner within positive

  factor_above : (x : ℤ) → pos 0 ≤ℤ x → pos 0 ≤ℤ (x +ℤ pos 1)
  factor_above x h = omega (arith, ints)

  moved_in : (v : List ℤ) → C v → C (moved v)
  moved_in v c =
      cone.closed (pos 1) (pos 1) (dot a inner +ℤ pos 1) inner v (moved v) (omega (arith, ints)) (omega (arith, ints)) (factor_above (dot a inner) inner_above) within c
      (length-both (pos 1) inner (dot a inner +ℤ pos 1) v (cone.wide inner within ∙ sym (cone.wide v c)) ∙ cone.wide v c)
      (λ j. once_sum (cell (moved v) j) (pos 1) (cell inner j) (dot a inner +ℤ pos 1) (cell v j) (cell-both (pos 1) inner (dot a inner +ℤ pos 1) v j))

  direction_above : (v : List ℤ) → C v → cell v dim ≡ pos 0 → pos 0 ≤ℤ dot a v
  direction_above v c e = by_case (at_least_zero_or_not (dot a v))
    where
      by_case : (pos 0 ≤ℤ dot a v) ⊎ (dot a v <ℤ pos 0) → pos 0 ≤ℤ dot a v
      by_case (inl h) = h
      by_case (inr h) =
          absurd (too_far (dot a inner) (dot a v) (dot a (moved v)) inner_above h (dot-both a (pos 1) inner (dot a inner +ℤ pos 1) v)
          (holds (moved v) (moved_in v c) (stays_positive (cell (moved v) dim) (cell inner dim) (dot a inner +ℤ pos 1) (cell v dim) (cell-both (pos 1) inner (dot a inner +ℤ pos 1) v dim) e positive)))

  pub above_everywhere : (v : List ℤ) → C v → pos 0 ≤ℤ cell v dim → pos 0 ≤ℤ dot a v
  above_everywhere v c d = by_case (by_sign (cell v dim))
    where
      by_case : (pos 0 <ℤ cell v dim) ⊎ ((cell v dim <ℤ pos 0) ⊎ (cell v dim ≡ pos 0)) → pos 0 ≤ℤ dot a v
      by_case (inl h) = holds v c h
      by_case (inr (inl h)) = absurd (omega (arith, ints, h, d))
      by_case (inr (inr e)) = direction_above v c e
