-- Where the vectors that pass a test stand in the list.
use Rattle.std.proofs.Common.{◌≡◌, ℕ, zero, suc, ◌<◌, List, [], ◌∷◌, length, Bool, true, false, cond, refl, arith}
use Rattle.std.specs.List.{filter}
use Rattle.row_core.specs.Lists.{vector_at}
use Rattle.std.specs.Prelude.{ℤ}

-- place i of the rest, where one element stands before it that passes or doesn't
abbrev place_in : Bool → ℕ → (ℕ → ℕ) → ℕ
place_in true zero rest = zero
place_in true (suc i) rest = suc (rest i)
place_in false i rest = suc (rest i)

-- the place in the list of the i-th vector that passes
abbrev pub kept_place : (List ℤ → Bool) → List (List ℤ) → ℕ → ℕ
kept_place test [] i = i
kept_place test (x ∷ xs) i = place_in (test x) i (kept_place test xs)

-- vector i of the second list stands at the place in the first
pub record IsKept (xs ys : List (List ℤ)) (place i : ℕ) : Type 0 where
  pub below : place < length xs
  pub same : vector_at ys i ≡ vector_at xs place

kept_step : (b : Bool) (x : List ℤ) (xs ys : List (List ℤ)) (rest : ℕ → ℕ) → ((i : ℕ) → i < length ys → IsKept xs ys (rest i) i) → (i : ℕ) → i < length (cond b (x ∷ ys) ys) → IsKept (x ∷ xs) (cond b (x ∷ ys) ys) (place_in b i rest) i
kept_step true x xs ys rest h zero l = record { below = omega arith; same = refl }
kept_step true x xs ys rest h (suc i) l = let k = h i (omega arith) in record { below = omega (arith, k.below); same = k.same }
kept_step false x xs ys rest h i l = let k = h i l in record { below = omega (arith, k.below); same = k.same }

pub kept_is : (test : List ℤ → Bool) (xs : List (List ℤ)) (i : ℕ) → i < length (filter test xs) → IsKept xs (filter test xs) (kept_place test xs i) i
kept_is test [] i l = absurd (omega (arith, l))
kept_is test (x ∷ xs) i l = kept_step (test x) x xs (filter test xs) (kept_place test xs) (λ m g. kept_is test xs m g) i l

order_step : (b : Bool) (rest : ℕ → ℕ) → ((i k : ℕ) → i < k → rest i < rest k) → (i k : ℕ) → i < k → place_in b i rest < place_in b k rest
order_step true rest h zero zero l = absurd (omega arith)
order_step true rest h zero (suc k) l = omega arith
order_step true rest h (suc i) zero l = absurd (omega arith)
order_step true rest h (suc i) (suc k) l = omega (arith, h i k (omega arith))
order_step false rest h i k l = omega (arith, h i k l)

pub kept_place-order : (test : List ℤ → Bool) (xs : List (List ℤ)) (i k : ℕ) → i < k → kept_place test xs i < kept_place test xs k
kept_place-order test [] i k l = l
kept_place-order test (x ∷ xs) i k l = order_step (test x) (kept_place test xs) (λ m n g. kept_place-order test xs m n g) i k l

-- a vector of the list stands among those that pass
pub record Passes (ys : List (List ℤ)) (v : List ℤ) : Type 0 where
  pub index : ℕ
  pub below : index < length ys
  pub same : vector_at ys index ≡ v

passes_first : (b : Bool) (x : List ℤ) (ys : List (List ℤ)) → b ≡ true → Passes (cond b (x ∷ ys) ys) x
passes_first true x ys e = record { index = 0; below = omega arith; same = refl }
passes_first false x ys e = absurd (cc)

passes_later : (b : Bool) (x : List ℤ) (ys : List (List ℤ)) (v : List ℤ) → Passes ys v → Passes (cond b (x ∷ ys) ys) v
passes_later true x ys v p = record { index = suc p.index; below = omega (arith, p.below); same = p.same }
passes_later false x ys v p = p

pub passes : (test : List ℤ → Bool) (xs : List (List ℤ)) (j : ℕ) → j < length xs → test (vector_at xs j) ≡ true → Passes (filter test xs) (vector_at xs j)
passes test [] j l e = absurd (omega (arith, l))
passes test (x ∷ xs) zero l e = passes_first (test x) x (filter test xs) e
passes test (x ∷ xs) (suc j) l e = passes_later (test x) x (filter test xs) (vector_at xs j) (passes test xs j (omega arith) e)
