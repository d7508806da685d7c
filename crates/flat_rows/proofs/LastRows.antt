-- The row that was appended last.
use Rattle.std.proofs.Common.{◌≡◌, ℕ, List, [], ◌∷◌, ◌++◌, length, set, refl, ap, ◌∙◌}
use Rattle.flat_rows.specs.Flat.{entries_at}

pub set_last : {X : Type 0} (xs : List X) (x y : X) → set (xs ++ x ∷ []) (length xs) y ≡ xs ++ y ∷ []
set_last [] x y = refl
set_last {X = X} (z ∷ xs) x y = ap (λ (ys : List X). z ∷ ys) (set_last xs x y)

-- the row that was appended
pub last_row : {X : Type 0} (old rows : List (List X)) (x : List X) (n : ℕ) → rows ≡ old ++ x ∷ [] → n ≡ length old → entries_at rows n ≡ x
last_row {X = X} old rows x n is at =
    ap (λ (rs : List (List X)). entries_at rs n) is ∙ ap (λ (k : ℕ). entries_at (old ++ x ∷ []) k) at ∙ at_end old x
  where
    at_end : (xs : List (List X)) (x : List X) → entries_at (xs ++ x ∷ []) (length xs) ≡ x
    at_end [] x = refl
    at_end (z ∷ xs) x = at_end xs x
