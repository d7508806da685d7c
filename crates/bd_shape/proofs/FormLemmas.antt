-- The form of a row.
use Rattle.std.specs.Prelude.{◌≡◌, ◌≢◌, ◌⊎◌, ℕ, suc, ◌+◌, ◌<◌, ◌≤◌, List, length, ℤ, pos, neg_ℤ, ◌+ℤ◌, ◌<ℤ◌, cond, int_lt}
use Rattle.std.proofs.Common.{arith, sym, ◌∙◌, ap, subst, inl, inr}
use Rattle.std.proofs.lemmas.Int.{ints}
use Rattle.std.proofs.lemmas.Bool.{cases_order}
use Rattle.std.proofs.lemmas.List.{ext_get_or}
use Rattle.row_core.proofs.Ring.{by_sign}
use Rattle.row_core.specs.Vectors.{cell}
use Rattle.bd_shape.specs.Differences.{with_place}
use Rattle.bd_shape.specs.Rows.{constant_row}
use Rattle.bd_shape.specs.Forms.{scaled_row, IsOther, IsForm, signed_form}
use Rattle.bd_shape.specs.declared.forms.Form.{Form}
use Rattle.bd_shape.specs.declared.forms.Form.TheVariants.{Difference}
use Rattle.bd_shape.proofs.DifferenceRows.{length_with}
use Rattle.bd_shape.proofs.RowLists.{place_other, place_here, constant_zero, constant_last, length_constant}

pub same_or : (i j : ℕ) → (i ≡ j) ⊎ (i ≢ j)
same_or i j = by (cases_order i j)
  where
    by : (i ≡ j) ⊎ ((i < j) ⊎ (j < i)) → (i ≡ j) ⊎ (i ≢ j)
    by (inl e) = inl e
    by (inr (inl l)) = inr (λ e. omega arith)
    by (inr (inr l)) = inr (λ e. omega arith)

last_or : (dim q : ℕ) → q < dim + 1 → (q ≡ dim) ⊎ (q < dim)
last_or dim q l = by (cases_order q dim)
  where
    by : (q ≡ dim) ⊎ ((q < dim) ⊎ (dim < q)) → (q ≡ dim) ⊎ (q < dim)
    by (inl e) = inl e
    by (inr (inl k)) = inr k
    by (inr (inr k)) = absurd (omega arith)

pub constant_form : (dim : ℕ) (row : List ℤ) → length row ≡ dim + 1 → ((k : ℕ) → k < dim → cell row k ≡ pos 0) → row ≡ constant_row dim (cell row dim)
constant_form dim row w z = ext_get_or (pos 0) row (constant_row dim (cell row dim)) (w ∙ sym (length_constant dim (cell row dim))) (λ q l. by q (last_or dim q (omega (arith, w))))
  where
    by : (q : ℕ) → (q ≡ dim) ⊎ (q < dim) → cell row q ≡ cell (constant_row dim (cell row dim)) q
    by q (inl e) = ap (cell row) e ∙ sym (constant_last dim (cell row dim)) ∙ ap (cell (constant_row dim (cell row dim))) (sym e)
    by q (inr l) = z q l ∙ sym (constant_zero dim q (cell row dim) l)

-- the entries of a difference
pub record HasEntries (dim : ℕ) (row : List ℤ) (i j : ℕ) (c : ℤ) : Type 0 where
  pub at_first : (q : ℕ) → q < dim → i ≡ suc q → cell row q ≡ c
  pub at_second : (q : ℕ) → q < dim → j ≡ suc q → cell row q ≡ neg_ℤ c
  pub elsewhere : (q : ℕ) → q < dim → i ≢ suc q → j ≢ suc q → cell row q ≡ pos 0

pub place_at : (u : List ℤ) (i k : ℕ) (x : ℤ) → k < length u → i ≡ suc k → cell (with_place u i x) k ≡ x
place_at u i k x l e = ap (λ (z : ℕ). cell (with_place u z x) k) e ∙ place_here u k x l

module _ (dim : ℕ) (row : List ℤ) (w : length row ≡ dim + 1) where
  scaled_same : (i j : ℕ) (c : ℤ) → i < dim + 1 → j < dim + 1 → i ≢ j → HasEntries dim row i j c → row ≡ scaled_row dim i j c (cell row dim)
  scaled_same i j c li lj n h = ext_get_or (pos 0) row (scaled_row dim i j c b) (w ∙ sym wide) (λ q l. by q (last_or dim q (omega (arith, w))))
    where
      b : ℤ
      b = cell row dim

      u : List ℤ
      u = with_place (constant_row dim b) i c

      wide_u : length u ≡ dim + 1
      wide_u = length_with (constant_row dim b) i c ∙ length_constant dim b

      wide : length (scaled_row dim i j c b) ≡ dim + 1
      wide = length_with u j (neg_ℤ c) ∙ wide_u

      inner : (q : ℕ) → q < dim → (j ≡ suc q) ⊎ (j ≢ suc q) → (i ≡ suc q) ⊎ (i ≢ suc q) → cell row q ≡ cell (scaled_row dim i j c b) q
      inner q l (inl e) f = h.at_second q l e ∙ sym (place_at u j q (neg_ℤ c) (let v = wide_u in omega (arith, v)) e)
      inner q l (inr m) (inl e) = h.at_first q l e ∙ sym (place_other u j q (neg_ℤ c) m ∙ place_at (constant_row dim b) i q c (let v = length_constant dim b in omega (arith, v)) e)
      inner q l (inr m) (inr k) = h.elsewhere q l k m ∙ sym (place_other u j q (neg_ℤ c) m ∙ place_other (constant_row dim b) i q c k ∙ constant_zero dim q b l)

      by : (q : ℕ) → (q ≡ dim) ⊎ (q < dim) → cell row q ≡ cell (scaled_row dim i j c b) q
      by q (inr l) = inner q l (same_or j (suc q)) (same_or i (suc q))
      by q (inl e) = ap (cell row) e ∙ sym (place_other u j dim (neg_ℤ c) (λ f. omega arith) ∙ place_other (constant_row dim b) i dim c (λ f. omega arith) ∙ constant_last dim b) ∙ ap (cell (scaled_row dim i j c b)) (sym e)

  turned : (i j : ℕ) (c : ℤ) → HasEntries dim row i j c → HasEntries dim row j i (neg_ℤ c)
  turned i j c h = record {
    at_first = h.at_second;
    at_second = λ q l e. h.at_first q l e ∙ twice c;
    elsewhere = λ q l m k. h.elsewhere q l k m;
  }
    where
      twice : (c : ℤ) → c ≡ neg_ℤ (neg_ℤ c)
      twice c = omega (arith, ints)

  cond_positive : (c : ℤ) (x y : Form) → pos 0 <ℤ c → cond (int_lt (pos 0) c) x y ≡ x
  cond_positive c x y h = grind (arith, ints)

  cond_negative : (c : ℤ) (x y : Form) → c <ℤ pos 0 → cond (int_lt (pos 0) c) x y ≡ y
  cond_negative c x y h = grind (arith, ints)

  pub signed_is : (i j : ℕ) (c : ℤ) (r : Form) → i < dim + 1 → j < dim + 1 → i ≢ j → c ≢ pos 0 → HasEntries dim row i j c → r ≡ signed_form i j c → IsForm dim row r
  signed_is i j c r li lj n z h e = by (by_sign c)
    where
      by : (pos 0 <ℤ c) ⊎ ((c <ℤ pos 0) ⊎ (c ≡ pos 0)) → IsForm dim row r
      by (inl p) = subst (IsForm dim row) (sym (e ∙ cond_positive c (Difference i j c) (Difference j i (neg_ℤ c)) p)) (record { first = li; second = lj; apart = n; positive = p; same = scaled_same i j c li lj n h })
      by (inr (inl m)) = subst (IsForm dim row) (sym (e ∙ cond_negative c (Difference i j c) (Difference j i (neg_ℤ c)) m)) (record { first = lj; second = li; apart = λ f. n (sym f); positive = omega (arith, ints); same = scaled_same j i (neg_ℤ c) lj li (λ f. n (sym f)) (turned i j c h) })
      by (inr (inr e)) = absurd (z e)

  -- ---- one column, or two
  pub single_entries : (f s : ℕ) → f < dim → s ≡ dim → ((k : ℕ) → 0 ≤ k → k < f → cell row k ≡ pos 0) → ((k : ℕ) → f + 1 ≤ k → k < s → cell row k ≡ pos 0) → HasEntries dim row (f + 1) 0 (cell row f)
  single_entries f s lf e z y = record {
    at_first = λ q l g. let h : q ≡ f = omega arith in ap (cell row) h;
    at_second = λ q l g. absurd (let h : 0 ≡ suc q = g in omega arith);
    elsewhere = λ q l m k. by q l m (cases_order q f);
  }
    where
      by : (q : ℕ) → q < dim → f + 1 ≢ suc q → (q ≡ f) ⊎ ((q < f) ⊎ (f < q)) → cell row q ≡ pos 0
      by q l m (inl h) = absurd (m (omega arith))
      by q l m (inr (inl h)) = z q (omega arith) h
      by q l m (inr (inr h)) = y q (omega arith) (omega arith)

  pub pair_entries : (f s t : ℕ) → f < s → s < dim → t ≡ dim → ((k : ℕ) → 0 ≤ k → k < f → cell row k ≡ pos 0) → ((k : ℕ) → f + 1 ≤ k → k < s → cell row k ≡ pos 0) → ((k : ℕ) → s + 1 ≤ k → k < t → cell row k ≡ pos 0) → cell row f ≡ neg_ℤ (cell row s) → HasEntries dim row (f + 1) (s + 1) (cell row f)
  pair_entries f s t lf ls e z y x n = record {
    at_first = λ q l g. let h : q ≡ f = omega arith in ap (cell row) h;
    at_second = λ q l g. let h : q ≡ s = omega arith in ap (cell row) h ∙ back (cell row f) (cell row s) n;
    elsewhere = λ q l m k. by q l m k (cases_order q f) (cases_order q s);
  }
    where
      back : (a b : ℤ) → a ≡ neg_ℤ b → b ≡ neg_ℤ a
      back a b h = omega (arith, ints, h)

      by : (q : ℕ) → q < dim → f + 1 ≢ suc q → s + 1 ≢ suc q → (q ≡ f) ⊎ ((q < f) ⊎ (f < q)) → (q ≡ s) ⊎ ((q < s) ⊎ (s < q)) → cell row q ≡ pos 0
      by q l m k (inl h) o = absurd (m (omega arith))
      by q l m k (inr (inl h)) o = z q (omega arith) h
      by q l m k (inr (inr h)) (inl o) = absurd (k (omega arith))
      by q l m k (inr (inr h)) (inr (inl o)) = y q (omega arith) o
      by q l m k (inr (inr h)) (inr (inr o)) = x q (omega arith) (omega arith)

  pub unequal_other : (f s : ℕ) → f < s → s < dim → cell row f ≢ pos 0 → cell row s ≢ pos 0 → cell row f ≢ neg_ℤ (cell row s) → IsOther dim row
  unequal_other f s lf ls nf ns u = inr (record { first = f; second = s; before = lf; within = ls; first_one = nf; second_one = ns; unequal = λ e. u (moved (cell row f) (cell row s) e) })
    where
      moved : (a b : ℤ) → a +ℤ b ≡ pos 0 → a ≡ neg_ℤ b
      moved a b e = omega (arith, ints, e)

  pub three_other : (f s t : ℕ) → f < s → s < t → t < dim → cell row f ≢ pos 0 → cell row s ≢ pos 0 → cell row t ≢ pos 0 → IsOther dim row
  three_other f s t lf ls lt nf ns nt = inl (record { first = f; second = s; third = t; before = lf; between = ls; within = lt; first_one = nf; second_one = ns; third_one = nt })
