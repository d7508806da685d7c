-- Searches among the rows or vectors of a list.
use Rattle.std.proofs.Common.{◌≡◌, ◌≢◌, ◌⊎◌, inl, inr, ℕ, zero, suc, ◌+◌, ◌<◌, List, length, ℤ, pos, arith, subst}
use Rattle.std.proofs.Math.Nat.{eq-or-lt_of_le}
use Rattle.row_core.specs.Vectors.{cell, dot}
use Rattle.row_core.specs.Lists.{Row, row_at}
use Rattle.cone_laws.proofs.Ring.{same_or_not}
use Rattle.nnc_enc.specs.StrongRows.{Covers, IsBare, IsApart, HasPlace}

-- all of the first numbers are of the one kind, or some is of the other
pub record Some (Q : ℕ → Type 0) (n : ℕ) : Type 0 where
  pub number : ℕ
  pub below : number < n
  pub found : Q number

pub all_or_some : (P Q : ℕ → Type 0) (n : ℕ) → ((j : ℕ) → j < n → P j ⊎ Q j) → ((j : ℕ) → j < n → P j) ⊎ Some Q n
all_or_some P Q zero h = inl (λ j l. absurd (omega (arith, l)))
all_or_some P Q (suc n) h = with_last (all_or_some P Q n (λ j l. h j (omega (arith, l)))) (h n (omega arith))
  where
    with_last : ((j : ℕ) → j < n → P j) ⊎ Some Q n → P n ⊎ Q n → ((j : ℕ) → j < suc n → P j) ⊎ Some Q (suc n)
    with_last (inr s) last = inr (record { number = s.number; below = omega (arith, s.below); found = s.found })
    with_last (inl all) (inr q) = inr (record { number = n; below = omega arith; found = q })
    with_last (inl all) (inl p) = inl (λ j l. by_place j (eq-or-lt_of_le l))
      where
        by_place : (j : ℕ) → (suc j ≡ suc n) ⊎ (suc j < suc n) → P j
        by_place j (inl e) = subst P (omega (arith, e)) p
        by_place j (inr l) = all j (omega (arith, l))

-- an implication of numbers that are 0, or a case that breaks it
by_level : (x y z : ℤ) → (x ≡ pos 0) ⊎ (x ≢ pos 0) → (y ≡ pos 0) ⊎ (y ≢ pos 0) → (z ≡ pos 0) ⊎ (z ≢ pos 0) → (x ≡ pos 0 → y ≡ pos 0 → z ≡ pos 0) ⊎ ((x ≡ pos 0) × (y ≡ pos 0) × (z ≢ pos 0))
by_level x y z (inr n) b c = inl (λ e. absurd (n e))
by_level x y z (inl e) (inr n) c = inl (λ e f. absurd (n f))
by_level x y z (inl e) (inl f) (inl g) = inl (λ e f. g)
by_level x y z (inl e) (inl f) (inr n) = inr (e, f, n)

by_numbers : (x y z : ℤ) → (x ≡ pos 0 → y ≡ pos 0 → z ≡ pos 0) ⊎ ((x ≡ pos 0) × (y ≡ pos 0) × (z ≢ pos 0))
by_numbers x y z = by_level x y z (same_or_not x (pos 0)) (same_or_not y (pos 0)) (same_or_not z (pos 0))

module _ (dim : ℕ) (gens : List Row) where
  pub bare_or_place : (a : List ℤ) → IsBare dim gens a ⊎ HasPlace dim gens a
  bare_or_place a = turned (all_or_some (λ j. cell (row_at gens j) dim ≡ pos 0 → dot (row_at gens j) a ≡ pos 0 → cell (row_at gens j) (dim + 1) ≡ pos 0) (λ j. (cell (row_at gens j) dim ≡ pos 0) × (dot (row_at gens j) a ≡ pos 0) × (cell (row_at gens j) (dim + 1) ≢ pos 0)) (length gens) (λ j l. by_numbers (cell (row_at gens j) dim) (dot (row_at gens j) a) (cell (row_at gens j) (dim + 1))))
    where
      turned : IsBare dim gens a ⊎ Some (λ j. (cell (row_at gens j) dim ≡ pos 0) × (dot (row_at gens j) a ≡ pos 0) × (cell (row_at gens j) (dim + 1) ≢ pos 0)) (length gens) → IsBare dim gens a ⊎ HasPlace dim gens a
      turned (inl b) = inl b
      turned (inr s) = inr (record { number = s.number; below = s.below; level = s.found.0; zero_on = s.found.1; place = s.found.2 })

  pub covers_or_apart : (b a : List ℤ) → Covers dim gens b a ⊎ IsApart dim gens b a
  covers_or_apart b a = turned (all_or_some (λ j. cell (row_at gens j) dim ≡ pos 0 → dot (row_at gens j) a ≡ pos 0 → dot (row_at gens j) b ≡ pos 0) (λ j. (cell (row_at gens j) dim ≡ pos 0) × (dot (row_at gens j) a ≡ pos 0) × (dot (row_at gens j) b ≢ pos 0)) (length gens) (λ j l. by_numbers (cell (row_at gens j) dim) (dot (row_at gens j) a) (dot (row_at gens j) b)))
    where
      turned : Covers dim gens b a ⊎ Some (λ j. (cell (row_at gens j) dim ≡ pos 0) × (dot (row_at gens j) a ≡ pos 0) × (dot (row_at gens j) b ≢ pos 0)) (length gens) → Covers dim gens b a ⊎ IsApart dim gens b a
      turned (inl c) = inl c
      turned (inr s) = inr (record { number = s.number; below = s.below; level = s.found.0; zero_on = s.found.1; other = s.found.2 })
