-- Where a line stands between others.
use Rattle.std.proofs.Common.{◌≡◌, ℕ, ◌+◌, ◌<◌, ◌≤◌, ◌⊎◌, inl, inr, List, [], length, ℤ, subst, arith, below_more}
use Rattle.std.proofs.lemmas.Bool.{cases_order}
use Rattle.cone_laws.specs.Canon.{IsPivot, IsEchelon}
use Rattle.row_core.specs.Lists.{vector_at}
use Rattle.cone_laws.proofs.UniqueLines.{pivot_same}
use Rattle.minimise.specs.Bases.{IsPlace}

pub place_more : (lines : List (List ℤ)) (column index q : ℕ) → ((i p : ℕ) → i < index → IsPivot (vector_at lines i) p → p < column) → IsPivot (vector_at lines index) q → q ≤ column → ¬ (IsPivot (vector_at lines index) column) → (i p : ℕ) → i < index + 1 → IsPivot (vector_at lines i) p → p < column
place_more lines column index q before at le apart i p h = below_more (λ m. IsPivot (vector_at lines m) p → p < column) index (λ m l. before m p l) here i h
  where
    by_order : (q ≡ column) ⊎ ((q < column) ⊎ (column < q)) → q < column
    by_order (inl e) = absurd (apart (subst (λ (n : ℕ). IsPivot (vector_at lines index) n) e at))
    by_order (inr (inl l)) = l
    by_order (inr (inr l)) = absurd (omega (arith, le, l))

    here : IsPivot (vector_at lines index) p → p < column
    here pivot = subst (λ (n : ℕ). n < column) (pivot_same (vector_at lines index) q p at pivot) (by_order (cases_order q column))

module _ (lines : List (List ℤ)) (column index : ℕ) (before : (i p : ℕ) → i < index → IsPivot (vector_at lines i) p → p < column) where
  pub place_here : (q : ℕ) → IsEchelon lines [] → index < length lines → IsPivot (vector_at lines index) q → column < q → IsPlace lines column index
  place_here q e h at above = record {
    within = omega (arith, h);
    before = before;
    behind = λ i p l b pivot.
        let here : e.pivot index ≡ q = pivot_same (vector_at lines index) (e.pivot index) q (e.pivots index h) at in
        let there : e.pivot i ≡ p = pivot_same (vector_at lines i) (e.pivot i) p (e.pivots i b) pivot in
        omega (arith, above, here, there, not_less i l b e (cases_order index i));
  }
    where
      not_less : (i : ℕ) → index ≤ i → i < length lines → (e : IsEchelon lines []) → (index ≡ i) ⊎ ((index < i) ⊎ (i < index)) → e.pivot index ≤ e.pivot i
      not_less i l b e (inl s) = subst (λ (n : ℕ). e.pivot index ≤ e.pivot n) s (omega arith)
      not_less i l b e (inr (inl s)) = omega (arith, e.ordered index i s b)
      not_less i l b e (inr (inr s)) = absurd (omega (arith, l, s))
