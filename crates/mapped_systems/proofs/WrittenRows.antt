-- Rows that are written into a buffer.
use Rattle.std.proofs.Common.{◌≡◌, inl, inr, ℕ, ◌+◌, ◌-◌, ◌≤◌, List, [], ◌∷◌, ◌++◌, length, take, drop, replicate, slice_set, ℤ, pos, ◌*ℤ◌, refl, sym, ap, ◌∙◌, subst, arith, All}
use Prim.Native.Nat.{◌∣◌}
use Rattle.std.specs.Prelude.{unsigned_abs}
use Rattle.std.proofs.lemmas.Int.{ints}
use Rattle.std.proofs.lemmas.List.{take_all, length-take-le}
use Rattle.std.proofs.lemmas.List.Elements.{All-append, All-take, All-drop, All-replicate, All-set}
use Rattle.row_core.specs.Range.{InRange, AllInRange}
use Rattle.row_core.specs.Vectors.{scale}
use Rattle.row_core.specs.Content.{DividesAll, IsPrimitive}
use Rattle.mapped_systems.specs.Maps.{with_zeros, without}
use Rattle.mapped_systems.proofs.ColumnLemmas.{without-with_zeros}

-- ---- zeros before a column
-- the front of a row is filled up with zeros
pub zeros_put : (column count len : ℕ) (row front : List ℤ) → column ≤ length row → front ≡ take column row → len ≡ column → take (column + count) front ++ replicate (column + count - len) (pos 0) ≡ take column row ++ replicate count (pos 0)
zeros_put column count len row front within is full =
    let short : length front ≤ column + count = omega (arith, ap length is, length-take-le column row within) in
    let zeros : column + count - len ≡ count = omega (arith, full) in
    ap (λ (xs : List ℤ). xs ++ replicate (column + count - len) (pos 0)) (take_all (column + count) front short ∙ is) ∙ ap (λ (n : ℕ). take column row ++ replicate n (pos 0)) zeros

pub with_zeros-in_range : (column count : ℕ) (row : List ℤ) → AllInRange row → AllInRange (with_zeros column count row)
with_zeros-in_range column count row h =
    let zero : InRange (pos 0) = record { size = omega arith } in
    All-append InRange (take column row ++ replicate count (pos 0)) (drop column row)
    (All-append InRange (take column row) (replicate count (pos 0)) (All-take InRange column row h) (All-replicate InRange count (pos 0) zero))
    (All-drop InRange column row h)

-- what holds of all entries holds of those besides the columns
all_without : (P : ℤ → Type 0) (first end : ℕ) (v : List ℤ) → All P v → All P (without first end v)
all_without P first end v h = All-append P (take first v) (drop end v) (All-take P first v h) (All-drop P end v h)

-- a primitive row is so with zeros in it
pub with_zeros-primitive : (column count : ℕ) (row : List ℤ) → column ≤ length row → IsPrimitive row → IsPrimitive (with_zeros column count row)
with_zeros-primitive column count row within (inl zeros) =
    inl (All-append (λ z. z ≡ pos 0) (take column row ++ replicate count (pos 0)) (drop column row)
    (All-append (λ z. z ≡ pos 0) (take column row) (replicate count (pos 0)) (All-take (λ z. z ≡ pos 0) column row zeros) (All-replicate (λ z. z ≡ pos 0) count (pos 0) refl))
    (All-drop (λ z. z ≡ pos 0) column row zeros))
with_zeros-primitive column count row within (inr one) =
    inr (λ d divides. one d (subst (DividesAll d) (without-with_zeros column count row within) (all_without (λ z. d ∣ unsigned_abs z) column (column + count) (with_zeros column count row) divides)))

-- ---- a variable replaced
scale-one : (v : List ℤ) → scale (pos 1) v ≡ v
scale-one [] = refl
scale-one (x ∷ v) =
    let once : pos 1 *ℤ x ≡ x = omega (arith, ints) in
    ap (λ (y : ℤ). y ∷ scale (pos 1) v) once ∙ ap (λ (w : List ℤ). x ∷ w) (scale-one v)

-- where the divisor is 1, only the variable's entry changes
pub written_alone : (den x : ℤ) (v : List ℤ) (var : ℕ) → den ≡ pos 1 → AllInRange v → InRange x → (slice_set v var x ≡ slice_set (scale den v) var x) × AllInRange (slice_set v var x)
written_alone den x v var one in_range x_in_range = (
  ap (λ (w : List ℤ). slice_set w var x) (sym (scale-one v) ∙ ap (λ (factor : ℤ). scale factor v) (sym one)),
  All-set InRange v var x x_in_range in_range,
)
