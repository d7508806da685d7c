use Rattle.std.specs.Prelude.{◌≡◌, ℕ, ◌+◌, ◌<◌, zero, suc, List, [], ◌∷◌, length, take, ℤ, pos, ◌+ℤ◌}
use Rattle.std.proofs.Common.{arith, sym, refl, add-one}
use Rattle.std.proofs.lemmas.Int.{ints}
use Rattle.std.proofs.Math.IntN.{◌*ℤ◌}
use Rattle.row_core.specs.Vectors.{cell, dot, scale}
use Rattle.row_core.proofs.Ring.{mul_comm, mul_left_comm, mul-add, mul-zero}

pub add_zero_z : (a : ℤ) → a +ℤ pos 0 ≡ pos 0 +ℤ a
add_zero_z a = omega (arith, ints)

dot-take_more_cons : (p a b c : ℤ) → a ≡ b +ℤ c → p +ℤ a ≡ (p +ℤ b) +ℤ c
dot-take_more_cons p a b c e = omega (arith, ints, e)

-- one column more
pub dot-take_suc : (u v : List ℤ) (j : ℕ) → j < length u → j < length v →
    dot (take (suc j) u) (take (suc j) v) ≡ dot (take j u) (take j v) +ℤ cell u j *ℤ cell v j
dot-take_suc [] v j h k = absurd (omega arith)
dot-take_suc (a ∷ u) [] j h k = absurd (omega arith)
dot-take_suc (a ∷ u) (b ∷ v) zero h k = add_zero_z (a *ℤ b)
dot-take_suc (a ∷ u) (b ∷ v) (suc j) h k =
    dot-take_more_cons (a *ℤ b) (dot (take (suc j) u) (take (suc j) v)) (dot (take j u) (take j v))
    (cell u j *ℤ cell v j) (dot-take_suc u v j (omega arith) (omega arith))

pub dot-take_more : (u v : List ℤ) (j : ℕ) → j < length u → j < length v →
    dot (take (j + 1) u) (take (j + 1) v) ≡ dot (take j u) (take j v) +ℤ cell u j *ℤ cell v j
dot-take_more u v j h k = rw add-one (dot-take_suc u v j h k)

pub dot_comm : (u v : List ℤ) → dot u v ≡ dot v u
dot_comm [] [] = refl
dot_comm [] (b ∷ v) = refl
dot_comm (a ∷ u) [] = refl
dot_comm (a ∷ u) (b ∷ v) = swapped a b (dot u v) (dot v u) (dot_comm u v)
  where
    swapped : (a b s t : ℤ) → s ≡ t → a *ℤ b +ℤ s ≡ b *ℤ a +ℤ t
    swapped a b s t e = omega (arith, ints, e, mul_comm a b)

one_column_more : (a b k d e : ℤ) → e ≡ k *ℤ d → a *ℤ (k *ℤ b) +ℤ e ≡ k *ℤ (a *ℤ b +ℤ d)
one_column_more a b k d e same =
    omega (arith, ints, same, mul_left_comm a k b, mul-add k (a *ℤ b) d)

pub dot-scale : (u : List ℤ) (k : ℤ) (v : List ℤ) → dot u (scale k v) ≡ k *ℤ dot u v
dot-scale [] k v = sym (mul-zero k)
dot-scale (a ∷ u) k [] = sym (mul-zero k)
dot-scale (a ∷ u) k (b ∷ v) = one_column_more a b k (dot u v) (dot u (scale k v)) (dot-scale u k v)
