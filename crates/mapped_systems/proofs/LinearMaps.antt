-- The maps of the operators are linear.
use Rattle.std.proofs.Common.{◌≡◌, ◌≢◌, ◌⊎◌, inl, inr, ℕ, zero, suc, ◌+◌, ◌-◌, ◌<◌, ◌≤◌, List, [], ◌∷◌, length, slice_index_or, ℤ, pos, ◌+ℤ◌, ◌*ℤ◌, ◌<ℤ◌, sym, ap, ◌∙◌, subst, arith}
use Rattle.std.proofs.lemmas.Int.{ints}
use Rattle.std.proofs.lemmas.Bool.{cases_eq, cases_lt}
use Rattle.std.proofs.lemmas.List.{get_or-set_same, get_or-set_other, length-set}
use Rattle.row_core.specs.Vectors.{cell, dot, scale}
use Rattle.cone_laws.proofs.Columns.{cell-scale, length-scale}
use Rattle.cone_laws.proofs.Factors.{single}
use Rattle.mapped_systems.specs.Maps.{substituted, with_zeros, without, picked, remaining, kept_variables}
use Rattle.mapped_systems.proofs.ColumnLemmas.{cell-before, cell-within, cell-behind, length-with_zeros, cell-without_before, cell-without_behind, length-without, cell-picked, cell-picked_last, cell-picked_past, length-picked}

-- each column of the map's result is the value of a row, and the last one is a positive multiple of the divisor
pub record IsLinearMap (dim to : ℕ) (f : List ℤ → List ℤ) : Type 0 where
  pub rows : ℕ → List ℤ
  pub values : (v : List ℤ) → length v ≡ dim + 1 → (j : ℕ) → cell (f v) j ≡ dot (rows j) v
  pub wide : (v : List ℤ) → length v ≡ dim + 1 → length (f v) ≡ to + 1
  pub divisor : ℤ
  pub positive : pos 0 <ℤ divisor
  pub last : (v : List ℤ) → length v ≡ dim + 1 → cell (f v) to ≡ divisor *ℤ cell v dim

-- ---- a row with one entry
one_term : (k b : ℤ) → k *ℤ b +ℤ pos 0 ≡ k *ℤ b
one_term k b = omega (arith, ints)

no_term : (b d e : ℤ) → d ≡ e → pos 0 *ℤ b +ℤ d ≡ e
no_term b d e h = omega (arith, ints, h)

times_zero : (k : ℤ) → pos 0 ≡ k *ℤ pos 0
times_zero k = omega (arith, ints)

pub one_is : (x : ℤ) → x ≡ pos 1 *ℤ x
one_is x = omega (arith, ints)

pub dot-single : (i : ℕ) (k : ℤ) (v : List ℤ) → dot (single i k) v ≡ k *ℤ cell v i
dot-single zero k [] = times_zero k
dot-single zero k (b ∷ v) = one_term k b
dot-single (suc i) k [] = times_zero k
dot-single (suc i) k (b ∷ v) = no_term b (dot (single i k) v) (k *ℤ cell v i) (dot-single i k v)

by_column : (i : ℕ) (v : List ℤ) → cell v i ≡ dot (single i (pos 1)) v
by_column i v = one_is (cell v i) ∙ sym (dot-single i (pos 1) v)

-- ---- a variable replaced
replaced_row : (var : ℕ) (expr : List ℤ) (den : ℤ) (j : ℕ) → (j ≡ var) ⊎ (j ≢ var) → List ℤ
replaced_row var expr den j (inl e) = expr
replaced_row var expr den j (inr e) = single j den

pub substituted_other : (var : ℕ) (expr : List ℤ) (den : ℤ) (v : List ℤ) (j : ℕ) → j ≢ var → cell (substituted var expr den v) j ≡ den *ℤ cell v j
substituted_other var expr den v j ne = get_or-set_other (scale den v) var j (dot expr v) (pos 0) ne ∙ cell-scale den v j

module _ (dim var : ℕ) (expr : List ℤ) (den : ℤ) (below : var < dim) (positive : pos 0 <ℤ den) where
  replaced_values : (v : List ℤ) → length v ≡ dim + 1 → (j : ℕ) (c : (j ≡ var) ⊎ (j ≢ var)) → cell (substituted var expr den v) j ≡ dot (replaced_row var expr den j c) v
  unfolding replaced_row
  replaced_values v w j (inl e) = subst (λ (n : ℕ). cell (substituted var expr den v) n ≡ dot expr v) (sym e) (get_or-set_same (scale den v) var (dot expr v) (pos 0) (omega (arith, length-scale den v, w, below)))
  replaced_values v w j (inr ne) = substituted_other var expr den v j ne ∙ sym (dot-single j den v)

  pub substitution_linear : IsLinearMap dim dim (substituted var expr den)
  substitution_linear = record {
    rows = λ j. replaced_row var expr den j (cases_eq j var);
    values = λ v w j. replaced_values v w j (cases_eq j var);
    wide = λ v w. length-set (scale den v) var (dot expr v) ∙ length-scale den v ∙ w;
    divisor = den;
    positive = positive;
    last = λ v w. substituted_other var expr den v dim (λ e. omega (arith, e, below));
  }

-- ---- zeros before the divisor
padded_row : (dim k j : ℕ) → (j < dim) ⊎ (dim ≤ j) → (j < dim + k) ⊎ (dim + k ≤ j) → List ℤ
padded_row dim k j (inl h) c = single j (pos 1)
padded_row dim k j (inr h) (inl g) = []
padded_row dim k j (inr h) (inr g) = single (j - k) (pos 1)

back_again : (j k dim : ℕ) → dim + k ≤ j → j ≡ (j - k) + k
back_again j k dim h = omega (arith, h)

module _ (dim k : ℕ) where
  pub behind_value : (v : List ℤ) → length v ≡ dim + 1 → (j : ℕ) → dim + k ≤ j → cell (with_zeros dim k v) j ≡ cell v (j - k)
  behind_value v w j h = ap (cell (with_zeros dim k v)) (back_again j k dim h) ∙ cell-behind dim k v (j - k) (omega (arith, w)) (omega (arith, h))

  padded_values : (v : List ℤ) → length v ≡ dim + 1 → (j : ℕ) (c : (j < dim) ⊎ (dim ≤ j)) (d : (j < dim + k) ⊎ (dim + k ≤ j)) → cell (with_zeros dim k v) j ≡ dot (padded_row dim k j c d) v
  unfolding padded_row
  padded_values v w j (inl h) d = cell-before dim k v j (omega (arith, w)) h ∙ by_column j v
  padded_values v w j (inr h) (inl g) = cell-within dim k v j (omega (arith, w)) h g
  padded_values v w j (inr h) (inr g) = behind_value v w j g ∙ by_column (j - k) v

  one_more : (n m : ℕ) → n ≡ m + 1 → n + k ≡ (m + k) + 1
  one_more n m e = omega (arith, e)

  pub padding_linear : IsLinearMap dim (dim + k) (with_zeros dim k)
  padding_linear = record {
    rows = λ j. padded_row dim k j (cases_lt j dim) (cases_lt j (dim + k));
    values = λ v w j. padded_values v w j (cases_lt j dim) (cases_lt j (dim + k));
    wide = λ v w. length-with_zeros dim k v ∙ one_more (length v) dim w;
    divisor = pos 1;
    positive = omega (arith, ints);
    last = λ v w. cell-behind dim k v dim (omega (arith, w)) (omega arith) ∙ one_is (cell v dim);
  }

-- ---- the columns before the divisor left out
cut_row : (dim k j : ℕ) → (j < dim) ⊎ (dim ≤ j) → List ℤ
cut_row dim k j (inl h) = single j (pos 1)
cut_row dim k j (inr h) = single (j + k) (pos 1)

module _ (dim k : ℕ) where
  cut_values : (v : List ℤ) (j : ℕ) (c : (j < dim) ⊎ (dim ≤ j)) → cell (without dim (dim + k) v) j ≡ dot (cut_row dim k j c) v
  unfolding cut_row
  cut_values v j (inl h) = cell-without_before dim k v j h ∙ by_column j v
  cut_values v j (inr h) = cell-without_behind dim k v j h ∙ by_column (j + k) v

  pub cutting_linear : IsLinearMap (dim + k) dim (without dim (dim + k))
  cutting_linear = record {
    rows = λ j. cut_row dim k j (cases_lt j dim);
    values = λ v w j. cut_values v j (cases_lt j dim);
    wide = λ v w. let e = length-without dim k v (omega (arith, w)) in omega (arith, e, w);
    divisor = pos 1;
    positive = omega (arith, ints);
    last = λ v w. cell-without_behind dim k v dim (omega arith) ∙ one_is (cell v (dim + k));
  }

-- ---- columns left out
picked_row : (columns : List ℕ) (divisor j : ℕ) → (j < length columns) ⊎ (length columns ≤ j) → (j ≡ length columns) ⊎ (j ≢ length columns) → List ℤ
picked_row columns divisor j (inl h) c = single (slice_index_or columns j 0) (pos 1)
picked_row columns divisor j (inr h) (inl e) = single divisor (pos 1)
picked_row columns divisor j (inr h) (inr ne) = []

above : (j n : ℕ) → n ≤ j → j ≢ n → n < j
above j n h ne = by (cases_lt n j)
  where
    by : (n < j) ⊎ (j ≤ n) → n < j
    by (inl l) = l
    by (inr g) = absurd (ne (omega (arith, g, h)))

module _ (dim : ℕ) (columns : List ℕ) where
  picked_values : (v : List ℤ) (j : ℕ) (c : (j < length columns) ⊎ (length columns ≤ j)) (d : (j ≡ length columns) ⊎ (j ≢ length columns)) → cell (picked columns dim v) j ≡ dot (picked_row columns dim j c d) v
  unfolding picked_row
  picked_values v j (inl h) d = cell-picked columns dim v j h ∙ by_column (slice_index_or columns j 0) v
  picked_values v j (inr h) (inl e) = ap (cell (picked columns dim v)) e ∙ cell-picked_last columns dim v ∙ by_column dim v
  picked_values v j (inr h) (inr ne) = cell-picked_past columns dim v j (above j (length columns) h ne)

  pub picking_linear : IsLinearMap dim (length columns) (picked columns dim)
  picking_linear = record {
    rows = λ j. picked_row columns dim j (cases_lt j (length columns)) (cases_eq j (length columns));
    values = λ v w j. picked_values v j (cases_lt j (length columns)) (cases_eq j (length columns));
    wide = λ v w. length-picked columns dim v;
    divisor = pos 1;
    positive = omega (arith, ints);
    last = λ v w. cell-picked_last columns dim v ∙ one_is (cell v dim);
  }

pub remaining_linear : (dim : ℕ) (named : List ℕ) → IsLinearMap dim (length (kept_variables dim named)) (remaining dim named)
remaining_linear dim named = picking_linear dim (kept_variables dim named)
