-- Primitive vectors that are multiples of one another.
use Rattle.std.specs.Prelude.{◌≡◌, ℕ, ◌<◌, ◌≤◌, ◌⊎◌, refl, List, length, ℤ, pos, negsuc, ◌<ℤ◌}
use Rattle.std.proofs.Math.IntN.{◌*ℤ◌}
use Rattle.std.proofs.Common.{sym, ◌∙◌, inl, inr, arith}
use Rattle.std.proofs.lemmas.Int.{ints}
use Rattle.std.proofs.lemmas.Bool.{cases_lt}
use Rattle.std.proofs.lemmas.List.{ext_get_or, get_or_past}
use Rattle.row_core.specs.Vectors.{cell, scale}
use Rattle.row_core.specs.Content.{IsPrimitive}
use Rattle.row_core.proofs.Ring.{mul_comm, mul-positive, positive_of_mul}
use Rattle.row_core.proofs.CellLemmas.{cell-scale, length-scale}
use Rattle.row_core.proofs.OnePrimitive.{IsPrimitiveOf-once}

-- two primitive vectors of one width, a positive multiple of the one a positive multiple of the other, are equal
pub primitive_same : (m n : ℤ) (u v : List ℤ) → pos 0 <ℤ m → pos 0 <ℤ n → length u ≡ length v → ((j : ℕ) → m *ℤ cell u j ≡ n *ℤ cell v j) → IsPrimitive u → IsPrimitive v → u ≡ v
primitive_same (negsuc m) n u v p q w e pu pv = absurd (omega (arith, ints, p))
primitive_same (pos m) (negsuc n) u v p q w e pu pv = absurd (omega (arith, ints, q))
primitive_same (pos m) (pos n) u v p q w e pu pv =
    IsPrimitiveOf-once (scale (pos m) u) u v
    (record { multiple = record { times = m; positive = omega (arith, ints, p); same = refl }; primitive = pu })
    (record { multiple = record { times = n; positive = omega (arith, ints, q); same = same }; primitive = pv })
  where
    same : scale (pos m) u ≡ scale (pos n) v
    same = ext_get_or (pos 0) (scale (pos m) u) (scale (pos n) v) (length-scale (pos m) u ∙ w ∙ sym (length-scale (pos n) v)) (λ j h. cell-scale (pos m) u j ∙ e j ∙ sym (cell-scale (pos n) v j))

-- an entry other than 0 stands within the vector
pub within_length : (v : List ℤ) (j : ℕ) → pos 0 <ℤ cell v j → j < length v
within_length v j p = by_place (cases_lt j (length v))
  where
    by_place : (j < length v) ⊎ (length v ≤ j) → j < length v
    by_place (inl h) = h
    by_place (inr h) = absurd (omega (arith, ints, get_or_past v j (pos 0) h, p))

factor_positive : (t v k l : ℤ) → t *ℤ v ≡ k *ℤ l → pos 0 <ℤ t → pos 0 <ℤ v → pos 0 <ℤ l → pos 0 <ℤ k
factor_positive t v k l e p q r = positive_of_mul l k r (let h : pos 0 <ℤ (t *ℤ v) = mul-positive t v p q in omega (arith, ints, h, e, mul_comm l k))

-- the same with the second factor of any sign, where both vectors are positive at one column
pub primitive_same_at : (m n : ℤ) (u v : List ℤ) (i : ℕ) → pos 0 <ℤ m → length u ≡ length v → ((j : ℕ) → m *ℤ cell u j ≡ n *ℤ cell v j) → IsPrimitive u → IsPrimitive v → pos 0 <ℤ cell u i → pos 0 <ℤ cell v i → u ≡ v
primitive_same_at m n u v i p w e pu pv a b =
    primitive_same m n u v p (factor_positive m (cell u i) n (cell v i) (e i) p a b) w e pu pv
