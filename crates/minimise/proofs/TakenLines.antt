-- A list in reduced echelon form takes in a line.
use Rattle.std.proofs.Common.{◌≡◌, ◌≢◌, ℕ, ◌+◌, ◌-◌, ◌<◌, ◌≤◌, ◌⊎◌, inl, inr, cond, List, [], length, slice_index_or, refl, sym, ap, ◌∙◌, subst, arith, ℤ, pos, ◌<ℤ◌}
use Rattle.std.specs.Prelude.{remove, ◌-ℤ◌}
use lib.Dec.{ltb}
use Rattle.std.proofs.Math.IntN.{◌*ℤ◌}
use Rattle.std.proofs.lemmas.Int.{ints}
use Rattle.std.proofs.lemmas.Bool.{cases_lt, cond-true, cond-false, lt-ltb, le-ltb}
use Rattle.std.proofs.lemmas.List.Edits.{length-remove, get_or-remove_below, get_or-remove_above}
use Rattle.row_core.specs.Vectors.{cell}
use Rattle.cone_laws.specs.Canon.{IsPivot, IsEchelon}
use Rattle.row_core.specs.Lists.{vector_at, Pointwise}
use Rattle.row_core.proofs.Ring.{ring, zero_of_mul}
use Rattle.cone_laws.proofs.EchelonForm.{lowered_zero, lowered_positive, zero_right, zero_left}
use Rattle.minimise.specs.Bases.{IsClearedAt, EchelonTakesLine}

pub cleared : (t r n w : ℤ) → pos 0 <ℤ t → t *ℤ r ≡ n *ℤ w -ℤ w *ℤ n → r ≡ pos 0
cleared t r n w p e = zero_of_mul t r p (e ∙ same_products n w)
  where
    same_products : (n w : ℤ) → n *ℤ w -ℤ w *ℤ n ≡ pos 0
    same_products n w = simp ring (omega (arith, ints))

module _ (lines new : List (List ℤ)) (k c : ℕ) (e : IsEchelon lines []) (within : k < length new) (at : IsPivot (vector_at new k) c) (zeros : (i : ℕ) → i < length lines → cell (vector_at new k) (e.pivot i) ≡ pos 0)
    (before : (i : ℕ) → i < length lines → i < k → e.pivot i < c) (behind : (i : ℕ) → i < length lines → k ≤ i → c < e.pivot i) (made : Pointwise (IsClearedAt c (vector_at new k)) lines (remove new k)) where
  pivot : ℕ → ℕ
  pivot i = cond (ltb i k) (e.pivot i) (cond (ltb k i) (e.pivot (i - 1)) c)

  record Old (i : ℕ) : Type 0 where
    place : ℕ
    below : place < length lines
    order : ((i < k) × (place ≡ i)) ⊎ ((k < i) × (place + 1 ≡ i))
    is : pivot i ≡ e.pivot place
    from : IsClearedAt c (vector_at new k) (vector_at lines place) (vector_at new i)

  sizes : length new ≡ length lines + 1
  sizes = omega (arith, made.as_many, length-remove new k within)

  old_before : (i : ℕ) → i < length new → i < k → Old i
  unfolding pivot
  old_before i h l = record {
    place = i;
    below = omega (arith, sizes, within, l);
    order = inl (l, refl);
    is = cond-true (ltb i k) (e.pivot i) (cond (ltb k i) (e.pivot (i - 1)) c) (lt-ltb i k l);
    from = subst (λ (r : List ℤ). IsClearedAt c (vector_at new k) (vector_at lines i) r) (get_or-remove_below new k [] i l within) (made.each i [] [] (omega (arith, sizes, within, l)));
  }

  old_behind : (i : ℕ) → i < length new → k < i → Old i
  unfolding pivot
  old_behind i h l = record {
    place = i - 1;
    below = omega (arith, sizes, h, l);
    order = inr (l, omega arith);
    is = cond-false (ltb i k) (e.pivot i) (cond (ltb k i) (e.pivot (i - 1)) c) (le-ltb i k (omega (arith, l))) ∙ cond-true (ltb k i) (e.pivot (i - 1)) c (lt-ltb k i l);
    from = subst (λ (r : List ℤ). IsClearedAt c (vector_at new k) (vector_at lines (i - 1)) r) (get_or-remove_above new k [] (i - 1) (omega arith) within ∙ ap (λ (n : ℕ). slice_index_or new n []) (omega arith)) (made.each (i - 1) [] [] (omega (arith, sizes, h, l)));
  }

  new_pivot : pivot k ≡ c
  unfolding pivot
  new_pivot = cond-false (ltb k k) (e.pivot k) (cond (ltb k k) (e.pivot (k - 1)) c) (le-ltb k k (omega arith)) ∙ cond-false (ltb k k) (e.pivot (k - 1)) c (le-ltb k k (omega arith))

  line : ℕ → List ℤ
  line m = vector_at lines m

  -- a line of the list as it was, and its successor
  old_pivot : (i : ℕ) → Old i → IsPivot (vector_at new i) (pivot i)
  old_pivot i o = subst (λ (q : ℕ). IsPivot (vector_at new i) q) (sym o.is) (record {
    positive = lowered_positive o.from.times (cell (vector_at new i) p) (cell l c) (cell x p) (cell x c) (cell l p) o.from.positive at.positive (o.from.same p) (e.pivots o.place o.below).positive (zero_right (cell x c) (cell l p) (zeros o.place o.below));
    before = λ j h. lowered_zero o.from.times (cell (vector_at new i) j) (cell l c) (cell x j) (cell x c) (cell l j) o.from.positive (o.from.same j) ((e.pivots o.place o.below).before j h) (nothing_added j h o.order);
  })
    where
      p : ℕ
      p = e.pivot o.place

      x : List ℤ
      x = vector_at lines o.place

      l : List ℤ
      l = vector_at new k

      nothing_added : (j : ℕ) → j < e.pivot o.place → ((i < k) × (o.place ≡ i)) ⊎ ((k < i) × (o.place + 1 ≡ i)) → cell (vector_at lines o.place) c *ℤ cell (vector_at new k) j ≡ pos 0
      nothing_added j h (inl (m, q)) = zero_right (cell (vector_at lines o.place) c) (cell (vector_at new k) j) (at.before j (omega (arith, h, before o.place o.below (omega (arith, m, q)))))
      nothing_added j h (inr (m, q)) = zero_left (cell (vector_at lines o.place) c) (cell (vector_at new k) j) ((e.pivots o.place o.below).before c (behind o.place o.below (omega (arith, m, q))))

  old_at_new : (i : ℕ) → Old i → cell (vector_at new i) c ≡ pos 0
  old_at_new i o = cleared o.from.times (cell (vector_at new i) c) (cell (vector_at new k) c) (cell (vector_at lines o.place) c) o.from.positive (o.from.same c)

  old_at_old : (i : ℕ) → (o : Old i) → (m : ℕ) → m < length lines → m ≢ o.place → cell (vector_at new i) (e.pivot m) ≡ pos 0
  old_at_old i o m below other =
      lowered_zero o.from.times (cell (vector_at new i) (e.pivot m)) (cell (vector_at new k) c) (cell (vector_at lines o.place) (e.pivot m)) (cell (vector_at lines o.place) c) (cell (vector_at new k) (e.pivot m)) o.from.positive (o.from.same (e.pivot m))
      (e.lines_zero m o.place below o.below other) (zero_right (cell (vector_at lines o.place) c) (cell (vector_at new k) (e.pivot m)) (zeros m below))

  classify : (i : ℕ) → i < length new → (i ≡ k) ⊎ Old i
  classify i h = by_first (cases_lt i k)
    where
      by_second : k ≤ i → (k < i) ⊎ (i ≤ k) → (i ≡ k) ⊎ Old i
      by_second m (inl l) = inr (old_behind i h l)
      by_second m (inr l) = inl (omega (arith, m, l))

      by_first : (i < k) ⊎ (k ≤ i) → (i ≡ k) ⊎ Old i
      by_first (inl l) = inr (old_before i h l)
      by_first (inr l) = by_second l (cases_lt k i)

  pivots_by : (i : ℕ) → (i ≡ k) ⊎ Old i → IsPivot (vector_at new i) (pivot i)
  pivots_by i (inl a) = subst (λ (n : ℕ). IsPivot (vector_at new n) (pivot n)) (sym a) (subst (λ (q : ℕ). IsPivot (vector_at new k) q) (sym new_pivot) at)
  pivots_by i (inr o) = old_pivot i o

  ordered_by : (i j : ℕ) → i < j → (i ≡ k) ⊎ Old i → (j ≡ k) ⊎ Old j → pivot i < pivot j
  ordered_by i j l (inl a) (inl b) = absurd (omega (arith, l, a, b))
  ordered_by i j l (inl a) (inr o) = omega (arith, ap pivot a ∙ new_pivot, o.is, behind o.place o.below (omega (arith, o.order, a, l)))
  ordered_by i j l (inr o) (inl b) = omega (arith, ap pivot b ∙ new_pivot, o.is, before o.place o.below (omega (arith, o.order, b, l)))
  ordered_by i j l (inr o) (inr r) = omega (arith, o.is, r.is, e.ordered o.place r.place (omega (arith, o.order, r.order, l)) r.below)

  zero_by : (i j : ℕ) → i ≢ j → (i ≡ k) ⊎ Old i → (j ≡ k) ⊎ Old j → cell (vector_at new j) (pivot i) ≡ pos 0
  zero_by i j other (inl a) (inl b) = absurd (other (a ∙ sym b))
  zero_by i j other (inl a) (inr r) = subst (λ (q : ℕ). cell (vector_at new j) q ≡ pos 0) (sym (ap pivot a ∙ new_pivot)) (old_at_new j r)
  zero_by i j other (inr o) (inl b) = subst (λ (n : ℕ). cell (vector_at new n) (pivot i) ≡ pos 0) (sym b) (subst (λ (q : ℕ). cell (vector_at new k) q ≡ pos 0) (sym o.is) (zeros o.place o.below))
  zero_by i j other (inr o) (inr r) = subst (λ (q : ℕ). cell (vector_at new j) q ≡ pos 0) (sym o.is) (old_at_old j r o.place o.below (λ same. other (omega (arith, o.order, r.order, same))))

  pub taken : IsEchelon new []
  taken = record {
    pivot = pivot;
    pivots = λ i h. pivots_by i (classify i h);
    ordered = λ i j l h. ordered_by i j l (classify i (omega (arith, l, h))) (classify j h);
    lines_zero = λ i j hi hj other. zero_by i j other (classify i hi) (classify j hj);
    rays_zero = λ i j h below. absurd (omega (arith, below));
  }

pub echelon_takes_line : EchelonTakesLine
echelon_takes_line lines new k c e within at zeros before behind made = taken lines new k c e within at zeros before behind made
