-- Rows by their cells.
use Rattle.std.proofs.Common.{◌≡◌, ◌≢◌, ℕ, ◌+◌, ◌-◌, ◌≤◌, List, ◌∷◌, ◌++◌, zero, suc, length, replicate, ℤ, pos, negsuc, ◌+ℤ◌, ◌*ℤ◌, neg_ℤ, refl, ap, sym, ◌∙◌, subst, arith, Bool, true, false, ◌==◌, if◌then◌else◌}
use Rattle.std.proofs.lemmas.Int.{ints}
use Rattle.std.proofs.lemmas.Bool.Decides.{nat_tests}
use Rattle.std.proofs.lemmas.List.{length-append, length-replicate, ext_get_or}
use Rattle.row_core.specs.Vectors.{cell, add}
use Rattle.row_core.proofs.CellLemmas.{cell-scale, length-scale, cell-add, length-add}
use Rattle.soundness.specs.TextsExpressions.{at_column, opposite, difference}

pub column_wide : (dim j : ℕ) (n : ℤ) → j ≤ dim → length (at_column dim j n) ≡ dim + 1
column_wide dim j n h = omega (arith, length-append (replicate j (pos 0)) (n ∷ replicate (dim - j) (pos 0)), length-replicate j (pos 0), length-replicate (dim - j) (pos 0))

zeros_cell : (m k : ℕ) → cell (replicate m (pos 0)) k ≡ pos 0
zeros_cell zero k = refl
zeros_cell (suc m) zero = refl
zeros_cell (suc m) (suc k) = zeros_cell m k

-- the cell of the column, and of the others
pub column_same : (dim j : ℕ) (n : ℤ) → cell (at_column dim j n) j ≡ n
column_same dim zero n = refl
column_same dim (suc j) n = column_from dim j n
  where
    column_from : (d j : ℕ) (n : ℤ) → cell (replicate j (pos 0) ++ n ∷ replicate (d - suc j) (pos 0)) j ≡ n
    column_from d j n = shifted j (replicate (d - suc j) (pos 0))
      where
        shifted : (j : ℕ) (rest : List ℤ) → cell (replicate j (pos 0) ++ n ∷ rest) j ≡ n
        shifted zero rest = refl
        shifted (suc j) rest = shifted j rest

pub beside : (j k m : ℕ) (n : ℤ) → j ≢ k → cell (replicate j (pos 0) ++ n ∷ replicate m (pos 0)) k ≡ pos 0
beside zero zero m n ne = absurd (ne refl)
beside zero (suc k) m n ne = zeros_cell m k
beside (suc j) zero m n ne = refl
beside (suc j) (suc k) m n ne = beside j k m n (λ e. ne (ap suc e))

pub column_cell : (dim j k : ℕ) (n : ℤ) → cell (at_column dim j n) k ≡ (if j == k then n else pos 0)
column_cell dim j k n = by_test (j == k) refl
  where
    same : (j == k) ≡ true → j ≡ k
    same e = grind (arith, nat_tests)

    other : (j == k) ≡ false → j ≢ k
    other e f = grind (arith, nat_tests)

    by_test : (b : Bool) → (j == k) ≡ b → cell (at_column dim j n) k ≡ (if b then n else pos 0)
    by_test true e = subst (λ (i : ℕ). cell (at_column dim j n) i ≡ n) (same e) (column_same dim j n)
    by_test false e = beside j k (dim - j) n (other e)

pub opposite_cell : (u : List ℤ) (j : ℕ) → cell (opposite u) j ≡ neg_ℤ (cell u j)
opposite_cell u j = cell-scale (negsuc 0) u j ∙ minus_one (cell u j)
  where
    minus_one : (z : ℤ) → negsuc 0 *ℤ z ≡ neg_ℤ z
    minus_one z = omega (arith, ints)

pub opposite_wide : (u : List ℤ) → length (opposite u) ≡ length u
opposite_wide u = length-scale (negsuc 0) u

pub difference_cell : (u v : List ℤ) (j : ℕ) → cell (difference u v) j ≡ cell u j +ℤ neg_ℤ (cell v j)
difference_cell u v j = cell-add u (opposite v) j ∙ ap (λ (z : ℤ). cell u j +ℤ z) (opposite_cell v j)

pub add_wide : (n : ℕ) (u v : List ℤ) → length u ≡ n → length v ≡ n → length (add u v) ≡ n
add_wide n u v e f = length-add u v (e ∙ sym f) ∙ f

pub difference_wide : (n : ℕ) (u v : List ℤ) → length u ≡ n → length v ≡ n → length (difference u v) ≡ n
difference_wide n u v e f = add_wide n u (opposite v) e (opposite_wide v ∙ f)

-- rows of the same cells are the same
pub same_rows : (dim : ℕ) (u v : List ℤ) → length u ≡ dim + 1 → length v ≡ dim + 1 → ((j : ℕ) → j ≤ dim → cell u j ≡ cell v j) → u ≡ v
same_rows dim u v e f same = ext_get_or (pos 0) u v (e ∙ sym f) (λ i h. same i (omega arith))
