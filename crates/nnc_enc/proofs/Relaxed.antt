-- Vectors and rows without column e.
use Rattle.std.proofs.Common.{◌≡◌, ◌≢◌, ◌⊎◌, inl, inr, ℕ, zero, suc, ◌<◌, List, [], ◌∷◌, ◌++◌, length, replicate, Bool, true, false, ℤ, pos, ◌+ℤ◌, ◌-ℤ◌, ◌*ℤ◌, neg_ℤ, ◌≤ℤ◌, ◌<ℤ◌, refl, ap, ◌∙◌, arith}
use Rattle.std.specs.Prelude.{⊤, remove}
use Rattle.std.proofs.lemmas.Int.{ints}
use Rattle.row_core.specs.Vectors.{cell, scale}
use Rattle.cone_laws.specs.Canon.{vector_at}
use Rattle.cone_laws.proofs.Ring.{ring, by_sign, mul-zero, mul-at_least_zero}
use Rattle.cone_laws.proofs.Sums.{V, Among, Sums, none, line, ray}
use Rattle.cone_laws.proofs.Bridge.{Below}
use Rattle.cone_laws.proofs.UptoRows.{IsSumOf, Asks}
use Rattle.cone_laws.proofs.Existence.{both, cell-both}
use Rattle.nnc_enc.specs.Encoding.{lowered}
use Rattle.nnc_enc.specs.StrongRows.{kept_at}

-- ---- columns without one
abbrev pub skip : ℕ → ℕ → ℕ
skip zero j = suc j
skip (suc n) zero = zero
skip (suc n) (suc j) = suc (skip n j)

pub cell-remove : (n : ℕ) (v : List ℤ) (j : ℕ) → cell (remove v n) j ≡ cell v (skip n j)
cell-remove zero [] j = refl
cell-remove zero (x ∷ v) j = refl
cell-remove (suc n) [] zero = refl
cell-remove (suc n) [] (suc j) = refl
cell-remove (suc n) (x ∷ v) zero = refl
cell-remove (suc n) (x ∷ v) (suc j) = cell-remove n v j

-- vectors over other columns
pub sums_columns : {L R M S : V → Type 0} (at : ℕ → ℕ) → ((l : V) → L l → M (λ j. l (at j))) → ((r : V) → R r → S (λ j. r (at j))) → (v : V) → Sums L R v → Sums M S (λ j. v (at j))
sums_columns at f g v (none h) = none (λ j. h (at j))
sums_columns at f g v (line k l u m s h) = line k (λ j. l (at j)) (λ j. u (at j)) (f l m) (sums_columns at f g u s) (λ j. h (at j))
sums_columns at f g v (ray k r u p m s h) = ray k (λ j. r (at j)) (λ j. u (at j)) p (g r m) (sums_columns at f g u s) (λ j. h (at j))

-- the row d
abbrev pub last_row : ℕ → List ℤ
last_row dim = replicate dim (pos 0) ++ pos 1 ∷ []

-- number 0 is the row d, and number i + 1 is row i of the list without column e
abbrev pub relaxed : ℕ → List (List ℤ) → ℕ → V
relaxed dim rays zero = cell (last_row dim)
relaxed dim rays (suc i) = cell (lowered dim (vector_at rays i))

abbrev pub relaxed_lines : ℕ → List (List ℤ) → V → Type 0
relaxed_lines dim lines = Among (λ i. cell (lowered dim (vector_at lines i))) (Below (length lines))

-- the numbers of the rows
abbrev pub Numbered : List (List ℤ) → ℕ → Type 0
Numbered rays zero = ⊥
Numbered rays (suc i) = i < length rays

-- all numbers
abbrev pub Given : List (List ℤ) → ℕ → Type 0
Given rays zero = ⊤
Given rays (suc i) = i < length rays

-- the row d, and the strict rows
abbrev pub Strict : ℕ → List (List ℤ) → ℕ → Type 0
Strict dim rays zero = ⊤
Strict dim rays (suc i) = cell (vector_at rays i) dim <ℤ pos 0

-- the points
abbrev pub PointAt_of : ℕ → List (List ℤ) → ℕ → Type 0
PointAt_of dim rays zero = ⊥
PointAt_of dim rays (suc i) = pos 0 <ℤ cell (vector_at rays i) dim

-- number 0 stays, and number i + 1 where row i is kept
abbrev pub remain_by : List Bool → ℕ → Bool
remain_by keep zero = true
remain_by keep (suc i) = kept_at keep i

-- ---- numbers
pub remove_scale : (n : ℕ) (k : ℤ) (v : List ℤ) → remove (scale k v) n ≡ scale k (remove v n)
remove_scale zero k [] = refl
remove_scale zero k (x ∷ v) = refl
remove_scale (suc n) k [] = refl
remove_scale (suc n) k (x ∷ v) = ap (λ (w : List ℤ). (k *ℤ x) ∷ w) (remove_scale n k v)

pub no_height : (s g t : ℤ) → t ≡ s +ℤ g *ℤ pos 0 → t ≡ s
no_height s g t e = let h = mul-zero g in omega (arith, ints, e, h)

-- a row whose value without column e is 0, whose value is at least 0 and which is below 0 in column e
pub no_slack : (x y c e : ℤ) → x ≡ y +ℤ c *ℤ e → pos 0 ≤ℤ x → c <ℤ pos 0 → pos 0 ≤ℤ e → y ≡ pos 0 → e ≡ pos 0
no_slack x y c e h p q r z =
    let t : pos 0 ≤ℤ ((neg_ℤ c -ℤ pos 1) *ℤ e) = mul-at_least_zero (neg_ℤ c -ℤ pos 1) e (omega (arith, ints, q)) r in
    let i : (neg_ℤ c -ℤ pos 1) *ℤ e ≡ neg_ℤ (c *ℤ e) -ℤ e = simp ring (omega (arith, ints)) in
    omega (arith, ints, h, p, z, t, i, r)

pub same_level : (x y c e : ℤ) → x ≡ y +ℤ c *ℤ e → e ≡ pos 0 → x ≡ y
same_level x y c e h z = let t = ap (λ (n : ℤ). c *ℤ n) z ∙ mul-zero c in omega (arith, ints, h, t)

pub same_level_right : (x y c e : ℤ) → x ≡ y +ℤ c *ℤ e → c ≡ pos 0 → x ≡ y
same_level_right x y c e h z = let t = ap (λ (n : ℤ). n *ℤ e) z in omega (arith, ints, h, t)

pub asks_combined : (eq : Bool) (z s x t y : ℤ) → z ≡ s *ℤ x +ℤ t *ℤ y → Asks eq x → Asks eq y → pos 0 ≤ℤ z → Asks eq z
asks_combined true z s x t y e p q h =
    let f = ap (λ (n : ℤ). s *ℤ n) p ∙ mul-zero s in
    let g = ap (λ (n : ℤ). t *ℤ n) q ∙ mul-zero t in
    omega (arith, ints, e, f, g)
asks_combined false z s x t y e p q h = h

pub skip_before : (n j : ℕ) → j < n → skip n j ≡ j
skip_before zero j h = absurd (omega arith)
skip_before (suc n) zero h = refl
skip_before (suc n) (suc j) h = ap suc (skip_before n j (omega arith))

pub last_before : (n j : ℕ) → j < n → cell (last_row n) j ≡ pos 0
last_before zero j h = absurd (omega arith)
last_before (suc n) zero h = refl
last_before (suc n) (suc j) h = last_before n j (omega arith)

pub last_at : (n : ℕ) → cell (last_row n) n ≡ pos 1
last_at zero = refl
last_at (suc n) = last_at n

pub no_entry : (x b y : ℤ) → x ≡ pos 0 → y ≡ pos 0 → x ≡ b *ℤ y
no_entry x b y e f = let h = ap (λ (z : ℤ). b *ℤ z) f ∙ mul-zero b in omega (arith, ints, e, h)

pub own_entry : (b y : ℤ) → y ≡ pos 1 → b ≡ b *ℤ y
own_entry b y e = let h = ap (λ (z : ℤ). b *ℤ z) e in omega (arith, ints, h)

pub once_of : (x y : ℤ) → x ≡ y → pos 1 *ℤ x ≡ y +ℤ pos 0
once_of x y e = omega (arith, ints, e)

pub skip_self : (n : ℕ) → skip n n ≡ suc n
skip_self zero = refl
skip_self (suc n) = ap suc (skip_self n)

-- every column is dim or one of the others
pub column_cases : (n j : ℕ) → (j ≡ n) ⊎ ((k : ℕ) × (skip n k ≡ j))
column_cases zero zero = inl refl
column_cases zero (suc j) = inr (j, refl)
column_cases (suc n) zero = inr (zero, refl)
column_cases (suc n) (suc j) = by_less (column_cases n j)
  where
    by_less : (j ≡ n) ⊎ ((k : ℕ) × (skip n k ≡ j)) → (suc j ≡ suc n) ⊎ ((k : ℕ) × (skip (suc n) k ≡ suc j))
    by_less (inl e) = inl (ap suc e)
    by_less (inr (k, e)) = inr (suc k, ap suc e)

pub replicate_entry : (n j : ℕ) → cell (replicate n (pos 0)) j ≡ pos 0
replicate_entry zero j = refl
replicate_entry (suc n) zero = refl
replicate_entry (suc n) (suc j) = replicate_entry n j

pub sum_is : (u : List ℤ) (k : ℤ) (w : List ℤ) → IsSumOf (both (pos 1) u k w) (pos 1) u k w
sum_is u k w = record { times = pos 1; positive = omega (arith, ints); same = λ j. omega (arith, ints, cell-both (pos 1) u k w j) }

pub sum_entry : (u : List ℤ) (k : ℤ) (w : List ℤ) (j : ℕ) → cell (both (pos 1) u k w) j ≡ k *ℤ cell w j +ℤ cell u j
sum_entry u k w j = omega (arith, ints, cell-both (pos 1) u k w j)

pub sum_same : (x k l u y z w : ℤ) → x ≡ k *ℤ l +ℤ u → l ≡ y → u ≡ z → w ≡ k *ℤ y +ℤ z → x ≡ w
sum_same x k l u y z w e f g h = let i = ap (λ (n : ℤ). k *ℤ n) f in omega (arith, ints, e, i, g, h)

pub same_height : (x k y z : ℤ) → x ≡ k *ℤ y +ℤ z → y ≡ pos 0 → x ≡ z
same_height x k y z e f = let h = ap (λ (n : ℤ). k *ℤ n) f ∙ mul-zero k in omega (arith, ints, e, h)

pub no_factor : (v k l u : ℤ) → v ≡ k *ℤ l +ℤ u → k ≡ pos 0 → v ≡ u
no_factor v k l u e z = let t = ap (λ (x : ℤ). x *ℤ l) z in omega (arith, ints, e, t)

pub positive_least : (k : ℤ) → pos 0 <ℤ k → pos 0 ≤ℤ k
positive_least k h = omega (arith, ints, h)

pub both_least : (x y : ℤ) → pos 0 ≤ℤ x → pos 0 ≤ℤ y → y ≡ neg_ℤ x → x ≡ pos 0
both_least x y p q e = omega (arith, ints, p, q, e)

pub positive_of_other : (x : ℤ) → pos 0 ≤ℤ x → x ≢ pos 0 → pos 0 <ℤ x
positive_of_other x p ne = by_sign_of (by_sign x)
  where
    by_sign_of : (pos 0 <ℤ x) ⊎ ((x <ℤ pos 0) ⊎ (x ≡ pos 0)) → pos 0 <ℤ x
    by_sign_of (inl h) = h
    by_sign_of (inr (inl h)) = absurd (omega (arith, ints, p, h))
    by_sign_of (inr (inr h)) = absurd (ne h)
