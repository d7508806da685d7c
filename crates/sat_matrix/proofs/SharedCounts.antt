-- How many true places two rows share.
use Rattle.std.proofs.Common.{◌≡◌, ℕ, ◌+◌, ◌≤◌, Bool, true, false, List, [], ◌∷◌, refl, arith}
use Rattle.sat_matrix.specs.Tables.{conjunction}
use Rattle.sat_matrix.specs.Counts.{ones}

pub fewer_both : (xs ys : List Bool) → ones (conjunction xs ys) ≤ ones xs
fewer_both [] ys = omega arith
fewer_both (x ∷ xs) [] = omega arith
fewer_both (true ∷ xs) (true ∷ ys) = omega (arith, fewer_both xs ys)
fewer_both (true ∷ xs) (false ∷ ys) = omega (arith, fewer_both xs ys)
fewer_both (false ∷ xs) (y ∷ ys) = fewer_both xs ys

one_more_true : (a b : ℕ) → a ≡ b → 1 + a ≡ 1 + b
one_more_true a b e = omega arith

pub both_turned : (xs ys : List Bool) → ones (conjunction xs ys) ≡ ones (conjunction ys xs)
both_turned [] [] = refl
both_turned [] (y ∷ ys) = refl
both_turned (x ∷ xs) [] = refl
both_turned (true ∷ xs) (true ∷ ys) = one_more_true (ones (conjunction xs ys)) (ones (conjunction ys xs)) (both_turned xs ys)
both_turned (true ∷ xs) (false ∷ ys) = both_turned xs ys
both_turned (false ∷ xs) (true ∷ ys) = both_turned xs ys
both_turned (false ∷ xs) (false ∷ ys) = both_turned xs ys
