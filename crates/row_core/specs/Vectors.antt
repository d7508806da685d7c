use Rattle.std.specs.Prelude.{ℕ, List, [], ◌∷◌, ℤ, pos, ◌+ℤ◌, slice_index_or}
use Rattle.std.proofs.Math.IntN.{◌*ℤ◌}

-- the entry at column j, and 0 past the end
abbrev pub cell : List ℤ → ℕ → ℤ
cell v j = slice_index_or v j (pos 0)

-- the sum of the products of equal columns
abbrev pub dot : List ℤ → List ℤ → ℤ
dot [] v = pos 0
dot (a ∷ u) [] = pos 0
dot (a ∷ u) (b ∷ v) = a *ℤ b +ℤ dot u v

-- each entry times the factor
abbrev pub scale : ℤ → List ℤ → List ℤ
scale k [] = []
scale k (a ∷ v) = (k *ℤ a) ∷ scale k v

-- the sums of equal columns; the shorter vector counts as 0 past its end
abbrev pub add : List ℤ → List ℤ → List ℤ
add [] v = v
add (a ∷ u) [] = a ∷ u
add (a ∷ u) (b ∷ v) = (a +ℤ b) ∷ add u v

-- column j of the first factor times the first vector, plus the second times the second, and so on
abbrev pub combined : List ℤ → List (List ℤ) → ℕ → ℤ
combined [] gs j = pos 0
combined (k ∷ ks) [] j = pos 0
combined (k ∷ ks) (g ∷ gs) j = k *ℤ cell g j +ℤ combined ks gs j
