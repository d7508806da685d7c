-- Sums of multiplied vectors by lists of factors, and cones that hold them.
use Rattle.std.specs.Prelude.{◌≡◌, ◌≢◌, ℕ, ◌<◌, ◌≤◌, List, [], ◌∷◌, length, remove, take, drop, ℤ, pos, ◌+ℤ◌, ◌≤ℤ◌, ◌⊎◌, All, refl}
use Prim.Native.Nat.{suc, zero}
use Rattle.std.proofs.Math.IntN.{◌*ℤ◌}
use Rattle.std.proofs.Common.{sym, ◌∙◌, ap, inl, inr, arith}
use Rattle.std.proofs.lemmas.Int.{ints}
use Rattle.std.proofs.lemmas.Bool.{cases_lt}
use Rattle.std.proofs.lemmas.List.{get_or_past}
use Rattle.std.proofs.lemmas.List.Elements.{All-append, All-take, All-drop, All-from_get_or}
use Rattle.row_core.specs.Vectors.{cell, scale, add, combined}
use Rattle.row_core.specs.Lists.{vector_at}
use Rattle.row_core.proofs.Ring.{ring}
pub use Rattle.row_core.proofs.CellLemmas.{combined-scale}
use Rattle.cone_laws.proofs.Columns.{cell-scale, cell-add}
use Rattle.cone_laws.proofs.EchelonForm.{zero_right, zero_left}

-- ---- sums by lists of factors
pub combined-nil : (ks : List ℤ) (j : ℕ) → combined ks [] j ≡ pos 0
combined-nil [] j = refl
combined-nil (k ∷ ks) j = refl

add_step : (a b g x y z : ℤ) → z ≡ x +ℤ y → (a +ℤ b) *ℤ g +ℤ z ≡ (a *ℤ g +ℤ x) +ℤ (b *ℤ g +ℤ y)
add_step a b g x y z e = simp ring (omega (arith, ints, e))

pub combined-add : (xs ys : List ℤ) (gs : List (List ℤ)) (j : ℕ) → combined (add xs ys) gs j ≡ combined xs gs j +ℤ combined ys gs j
combined-add [] ys gs j = omega (arith, ints)
combined-add (a ∷ xs) [] gs j = omega (arith, ints)
combined-add (a ∷ xs) (b ∷ ys) [] j = refl
combined-add (a ∷ xs) (b ∷ ys) (g ∷ gs) j = add_step a b (cell g j) (combined xs gs j) (combined ys gs j) (combined (add xs ys) gs j) (combined-add xs ys gs j)

-- c times the one sum plus d times the other
pub combined-both : (c d : ℤ) (xs ys : List ℤ) (gs : List (List ℤ)) (j : ℕ) → combined (add (scale c xs) (scale d ys)) gs j ≡ c *ℤ combined xs gs j +ℤ d *ℤ combined ys gs j
combined-both c d xs ys gs j =
    let e = combined-add (scale c xs) (scale d ys) gs j in
    let f = combined-scale c xs gs j in
    let g = combined-scale d ys gs j in
    omega (arith, ints, e, f, g)

pub cell-both : (c d : ℤ) (u v : List ℤ) (j : ℕ) → cell (add (scale c u) (scale d v)) j ≡ c *ℤ cell u j +ℤ d *ℤ cell v j
cell-both c d u v j =
    let e = cell-add (scale c u) (scale d v) j in
    let f = cell-scale c u j in
    let g = cell-scale d v j in
    omega (arith, ints, e, f, g)

remove_step : (h y z r x : ℤ) → z ≡ x +ℤ r → h +ℤ z ≡ x +ℤ (h +ℤ r)
remove_step h y z r x e = omega (arith, ints, e)

-- the summand at one index and the rest
pub combined-remove : (ks : List ℤ) (gs : List (List ℤ)) (i j : ℕ) → combined ks gs j ≡ cell ks i *ℤ cell (vector_at gs i) j +ℤ combined (remove ks i) (remove gs i) j
combined-remove [] gs zero j = omega (arith, ints)
combined-remove [] gs (suc i) j = omega (arith, ints)
combined-remove (k ∷ ks) [] zero j =
    let e = combined-nil ks j in
    let f = zero_right k (pos 0) refl in
    omega (arith, ints, e, f)
combined-remove (k ∷ ks) [] (suc i) j =
    let f = zero_right (cell ks i) (pos 0) refl in
    omega (arith, ints, f)
combined-remove (k ∷ ks) (g ∷ gs) zero j = refl
combined-remove (k ∷ ks) (g ∷ gs) (suc i) j =
    remove_step (k *ℤ cell g j) (pos 0) (combined ks gs j) (combined (remove ks i) (remove gs i) j) (cell ks i *ℤ cell (vector_at gs i) j) (combined-remove ks gs i j)

pub combined-none : (ks : List ℤ) (gs : List (List ℤ)) (j : ℕ) → ((i : ℕ) → i < length gs → cell ks i *ℤ cell (vector_at gs i) j ≡ pos 0) → combined ks gs j ≡ pos 0
combined-none [] gs j h = refl
combined-none (k ∷ ks) [] j h = refl
combined-none (k ∷ ks) (g ∷ gs) j h =
    let e = h zero (omega arith) in
    let f = combined-none ks gs j (λ i l. h (suc i) (omega (arith, l))) in
    omega (arith, ints, e, f)

pub combined-one : (ks : List ℤ) (gs : List (List ℤ)) (i j : ℕ) → ((m : ℕ) → m < length gs → m ≢ i → cell ks m *ℤ cell (vector_at gs m) j ≡ pos 0) → combined ks gs j ≡ cell ks i *ℤ cell (vector_at gs i) j
combined-one [] gs i j h = sym (zero_left (cell [] i) (cell (vector_at gs i) j) refl)
combined-one (k ∷ ks) [] i j h = sym (zero_right (cell (k ∷ ks) i) (cell (vector_at [] i) j) refl)
combined-one (k ∷ ks) (g ∷ gs) zero j h =
    let e = combined-none ks gs j (λ m l. h (suc m) (omega (arith, l)) (λ e. omega (arith, e))) in
    omega (arith, ints, e)
combined-one (k ∷ ks) (g ∷ gs) (suc i) j h =
    let e = h zero (omega arith) (λ e. omega (arith, e)) in
    let f = combined-one ks gs i j (λ m l ne. h (suc m) (omega (arith, l)) (λ e. ne (omega (arith, e)))) in
    omega (arith, ints, e, f)

-- one factor at one index
abbrev pub single : ℕ → ℤ → List ℤ
single zero k = k ∷ []
single (suc i) k = pos 0 ∷ single i k

pub cell-single_same : (i : ℕ) (k : ℤ) → cell (single i k) i ≡ k
cell-single_same zero k = refl
cell-single_same (suc i) k = cell-single_same i k

pub cell-single_other : (i m : ℕ) (k : ℤ) → m ≢ i → cell (single i k) m ≡ pos 0
cell-single_other zero zero k ne = absurd (ne refl)
cell-single_other zero (suc m) k ne = refl
cell-single_other (suc i) zero k ne = refl
cell-single_other (suc i) (suc m) k ne = cell-single_other i m k (λ e. ne (ap suc e))

pub combined-single : (gs : List (List ℤ)) (i j : ℕ) (k : ℤ) → combined (single i k) gs j ≡ k *ℤ cell (vector_at gs i) j
combined-single gs i j k =
    combined-one (single i k) gs i j (λ m l ne. zero_left (cell (single i k) m) (cell (vector_at gs m) j) (cell-single_other i m k ne))
    ∙ ap (λ (z : ℤ). z *ℤ cell (vector_at gs i) j) (cell-single_same i k)

-- ---- factors of at least 0
abbrev pub AtLeastZero : List ℤ → Type 0
AtLeastZero ks = (i : ℕ) → pos 0 ≤ℤ cell ks i

pub at_least_zero_from_all : (ks : List ℤ) → All (λ k. pos 0 ≤ℤ k) ks → AtLeastZero ks
at_least_zero_from_all ks h i = by_place (cases_lt i (length ks))
  where
    by_place : (i < length ks) ⊎ (length ks ≤ i) → pos 0 ≤ℤ cell ks i
    by_place (inl l) = h i (pos 0) l
    by_place (inr l) = omega (arith, ints, get_or_past ks i (pos 0) l)

pub all_from_at_least_zero : (ks : List ℤ) → AtLeastZero ks → All (λ k. pos 0 ≤ℤ k) ks
all_from_at_least_zero ks h = All-from_get_or (λ k. pos 0 ≤ℤ k) ks (pos 0) (λ i _. h i)

pub All-remove : {X : Type 0} (P : X → Type 0) (xs : List X) (i : ℕ) → All P xs → All P (remove xs i)
All-remove P xs i h = All-append P (take i xs) (drop (suc i) xs) (All-take P i xs h) (All-drop P (suc i) xs h)

pub at_least_zero_remove : (ks : List ℤ) (i : ℕ) → AtLeastZero ks → AtLeastZero (remove ks i)
at_least_zero_remove ks i h = at_least_zero_from_all (remove ks i) (All-remove (λ k. pos 0 ≤ℤ k) ks i (all_from_at_least_zero ks h))
