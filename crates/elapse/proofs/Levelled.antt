-- Vectors with 0 as their last entry.
use Rattle.std.proofs.Common.{◌≡◌, ◌≢◌, ℕ, zero, suc, ◌+◌, List, [], ◌∷◌, length, ℤ, pos, ◌+ℤ◌, ◌*ℤ◌, refl, ap, arith}
use Rattle.std.proofs.lemmas.Int.{ints}
use Rattle.std.proofs.lemmas.List.{length-set, get_or-set_same, get_or-set_other}
use Rattle.row_core.specs.Vectors.{cell, dot}
use Rattle.elapse.specs.Directions.{levelled}

pub length-levelled : (dim : ℕ) (v : List ℤ) → length (levelled dim v) ≡ length v
length-levelled dim v = length-set v dim (pos 0)

pub cell-levelled_last : (dim : ℕ) (v : List ℤ) → length v ≡ dim + 1 → cell (levelled dim v) dim ≡ pos 0
cell-levelled_last dim v w = get_or-set_same v dim (pos 0) (pos 0) (omega (arith, w))

pub cell-levelled_other : (dim : ℕ) (v : List ℤ) (j : ℕ) → j ≢ dim → cell (levelled dim v) j ≡ cell v j
cell-levelled_other dim v j ne = get_or-set_other v dim j (pos 0) (pos 0) ne

no_product : (a b d : ℤ) → pos 0 *ℤ b +ℤ d ≡ a *ℤ pos 0 +ℤ d
no_product a b d = omega (arith, ints)

-- either vector may be the one without its last entry
pub dot_levelled : (dim : ℕ) (a v : List ℤ) → dot (levelled dim a) v ≡ dot a (levelled dim v)
dot_levelled dim [] v = refl
dot_levelled zero (a ∷ u) [] = refl
dot_levelled (suc dim) (a ∷ u) [] = refl
dot_levelled zero (a ∷ u) (b ∷ v) = no_product a b (dot u v)
dot_levelled (suc dim) (a ∷ u) (b ∷ v) = ap (λ z. a *ℤ b +ℤ z) (dot_levelled dim u v)
