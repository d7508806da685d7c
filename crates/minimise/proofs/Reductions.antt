-- Rows that are reduced by lines in reduced echelon form, one line after another.
use Rattle.std.proofs.Common.{◌≡◌, ◌⊎◌, inl, inr, ℕ, zero, suc, ◌<◌, ◌≤◌, List, [], ◌∷◌, length, take, ℤ, pos, neg_ℤ, ◌+ℤ◌, ◌-ℤ◌, ◌*ℤ◌, refl, sym, ap, ◌∙◌, subst, arith}
use Rattle.std.proofs.lemmas.Int.{ints}
use Rattle.std.proofs.lemmas.Bool.{cases_lt}
use Rattle.std.proofs.lemmas.List.{get_or-take, length-take, take_all}
use Rattle.row_core.specs.Vectors.{cell, scale, add, combined}
use Rattle.row_core.specs.Content.{IsPrimitiveOf}
use Rattle.row_core.proofs.Ring.{ring, mul_assoc, mul-positive}
use Rattle.row_core.proofs.CellLemmas.{cell-scale, combined-scale}
use Rattle.cone_laws.specs.Canon.{IsPivot, IsEchelon}
use Rattle.row_core.specs.Lists.{vector_at}
use Rattle.cone_laws.proofs.EchelonForm.{lowered_zero, zero_right}
use Rattle.cone_laws.proofs.Factors.{combined-add, single, combined-single}
use Rattle.cone_laws.proofs.UniqueLines.{pivot_same}
use Rattle.minimise.specs.Bases.{IsCleared, IsReduced}
use Rattle.minimise.proofs.TakenLines.{cleared}

-- ---- factors of the first lines
combined-take : (n : ℕ) (ks : List ℤ) (gs : List (List ℤ)) (j : ℕ) → combined (take n ks) (take (suc n) gs) j ≡ combined ks (take n gs) j
combined-take zero [] gs j = refl
combined-take zero (k ∷ ks) gs j = refl
combined-take (suc n) [] gs j = refl
combined-take (suc n) (k ∷ ks) [] j = refl
combined-take (suc n) (k ∷ ks) (g ∷ gs) j = ap (λ (x : ℤ). k *ℤ cell g j +ℤ x) (combined-take n ks gs j)

-- the factors with one more line
more_factors : ℤ → List ℤ → ℕ → ℤ → List ℤ
more_factors l ks i k = add (scale l (take i ks)) (single i k)

combined-more : (l : ℤ) (ks : List ℤ) (i : ℕ) (k : ℤ) (gs : List (List ℤ)) (j : ℕ) → combined (more_factors l ks i k) (take (suc i) gs) j ≡ l *ℤ combined ks (take i gs) j +ℤ k *ℤ cell (vector_at gs i) j
unfolding more_factors
combined-more l ks i k gs j =
    let two = combined-add (scale l (take i ks)) (single i k) (take (suc i) gs) j in
    let first : combined (scale l (take i ks)) (take (suc i) gs) j ≡ l *ℤ combined ks (take i gs) j = combined-scale l (take i ks) (take (suc i) gs) j ∙ ap (λ (x : ℤ). l *ℤ x) (combined-take i ks gs j) in
    let second : combined (single i k) (take (suc i) gs) j ≡ k *ℤ cell (vector_at gs i) j = combined-single (take (suc i) gs) i j k ∙ ap (λ (v : List ℤ). k *ℤ cell v j) (get_or-take (suc i) gs i [] (omega arith)) in
    two ∙ ap (λ (x : ℤ). x +ℤ combined (single i k) (take (suc i) gs) j) first ∙ ap (λ (x : ℤ). l *ℤ combined ks (take i gs) j +ℤ x) second

-- ---- one line more
spread : (m t lp w wp l : ℤ) → m *ℤ (lp *ℤ w -ℤ wp *ℤ l) ≡ lp *ℤ (m *ℤ w) +ℤ neg_ℤ (m *ℤ wp) *ℤ l
spread m t lp w wp l = simp ring (omega (arith, ints))

gather : (lp f a c k l : ℤ) → lp *ℤ (f *ℤ a +ℤ c) +ℤ k *ℤ l ≡ (lp *ℤ f) *ℤ a +ℤ (lp *ℤ c +ℤ k *ℤ l)
gather lp f a c k l = simp ring (omega (arith, ints))

same_more : (m t r lp w wp l f a c : ℤ) → t *ℤ r ≡ lp *ℤ w -ℤ wp *ℤ l → m *ℤ w ≡ f *ℤ a +ℤ c → (m *ℤ t) *ℤ r ≡ (lp *ℤ f) *ℤ a +ℤ (lp *ℤ c +ℤ neg_ℤ (m *ℤ wp) *ℤ l)
same_more m t r lp w wp l f a c e g =
    mul_assoc m t r ∙ ap (λ (x : ℤ). m *ℤ x) e ∙ spread m t lp w wp l ∙ ap (λ (x : ℤ). lp *ℤ x +ℤ neg_ℤ (m *ℤ wp) *ℤ l) g ∙ gather lp f a c (neg_ℤ (m *ℤ wp)) l

module _ (lines : List (List ℤ)) (e : IsEchelon lines []) (a w r : List ℤ) (i p : ℕ) (below : i < length lines) (at : IsPivot (vector_at lines i) p) (before : IsReduced (take i lines) a w) (made : IsCleared p (vector_at lines i) w r) where
  line : List ℤ
  line = vector_at lines i

  zero_before : (m q : ℕ) → m < i → IsPivot (vector_at lines m) q → cell r q ≡ pos 0
  zero_before m q h pivot =
      let of_row : cell w q ≡ pos 0 = before.zeros m q (omega (arith, h, length-take i lines)) (subst (λ (v : List ℤ). IsPivot v q) (sym (get_or-take i lines m [] h)) pivot) in
      let of_line : cell (vector_at lines i) q ≡ pos 0 = subst (λ (n : ℕ). cell (vector_at lines i) n ≡ pos 0) (pivot_same (vector_at lines m) (e.pivot m) q (e.pivots m (omega (arith, h, below))) pivot) (e.lines_zero m i (omega (arith, h, below)) below (λ s. omega (arith, h, s))) in
      lowered_zero made.cleared.times (cell r q) (cell (vector_at lines i) p) (cell w q) (cell w p) (cell (vector_at lines i) q) made.cleared.positive (made.cleared.same q) of_row (zero_right (cell w p) (cell (vector_at lines i) q) of_line)

  zero_here : (q : ℕ) → IsPivot (vector_at lines i) q → cell r q ≡ pos 0
  zero_here q pivot =
      subst (λ (n : ℕ). cell r n ≡ pos 0) (pivot_same (vector_at lines i) p q at pivot)
      (cleared made.cleared.times (cell r p) (cell (vector_at lines i) p) (cell w p) made.cleared.positive (made.cleared.same p))

  zero_upto : (m q : ℕ) → m < suc i → IsPivot (vector_at lines m) q → (m < i) ⊎ (i ≤ m) → cell r q ≡ pos 0
  zero_upto m q h pivot (inl l) = zero_before m q l pivot
  zero_upto m q h pivot (inr l) = let s : m ≡ i = omega (arith, h, l) in zero_here q (subst (λ (n : ℕ). IsPivot (vector_at lines n) q) s pivot)

  pub reduced_more : IsReduced (take (suc i) lines) a r
  reduced_more = record {
    times = before.times *ℤ made.cleared.times;
    positive = mul-positive before.times made.cleared.times before.positive made.cleared.positive;
    factor = cell (vector_at lines i) p *ℤ before.factor;
    factor_positive = mul-positive (cell (vector_at lines i) p) before.factor at.positive before.factor_positive;
    factors = more_factors (cell (vector_at lines i) p) before.factors i (neg_ℤ (before.times *ℤ cell w p));
    same = λ j.
        same_more before.times made.cleared.times (cell r j) (cell (vector_at lines i) p) (cell w j) (cell w p) (cell (vector_at lines i) j) before.factor (cell a j) (combined before.factors (take i lines) j) (made.cleared.same j) (before.same j)
        ∙ ap (λ (x : ℤ). (cell (vector_at lines i) p *ℤ before.factor) *ℤ cell a j +ℤ x) (sym (combined-more (cell (vector_at lines i) p) before.factors i (neg_ℤ (before.times *ℤ cell w p)) lines j));
    zeros = λ m q h pivot.
        let b : m < suc i = omega (arith, h, length-take (suc i) lines) in
        zero_upto m q b (subst (λ (v : List ℤ). IsPivot v q) (get_or-take (suc i) lines m [] b) pivot) (cases_lt m i);
    wide = made.wide ∙ before.wide;
    primitive = made.primitive;
  }

-- ---- the start and the end
once : (x : ℤ) → x ≡ pos 1 *ℤ x +ℤ pos 0
once x = omega (arith, ints)

pub reduced_none : (a r : List ℤ) → IsPrimitiveOf a r → length r ≡ length a → IsReduced [] a r
reduced_none a r is w = record {
  times = pos is.multiple.times;
  positive = let h = is.multiple.positive in omega (arith, ints, h);
  factor = pos 1;
  factor_positive = omega (arith, ints);
  factors = [];
  same = λ j. sym (cell-scale (pos is.multiple.times) r j) ∙ ap (λ (v : List ℤ). cell v j) (sym is.multiple.same) ∙ once (cell a j);
  zeros = λ i p h at. absurd (omega (arith, h));
  wide = w;
  primitive = is.primitive;
}

pub reduced_all : (lines : List (List ℤ)) (n : ℕ) (a r : List ℤ) → length lines ≤ n → IsReduced (take n lines) a r → IsReduced lines a r
reduced_all lines n a r h is = subst (λ (ls : List (List ℤ)). IsReduced ls a r) (take_all n lines h) is
