-- Rows with all signs changed.
use Rattle.std.proofs.Common.{◌≡◌, ℕ, ◌<◌, List, length, ℤ, pos, negsuc, zero, suc, neg_ℤ, All, unsigned_abs, inl, inr, refl, sym, ap, ◌∙◌, subst, arith}
use Prim.Native.Nat.{◌∣◌}
use Rattle.std.proofs.Math.IntN.{◌*ℤ◌}
use Rattle.std.proofs.lemmas.Int.{ints}
use Rattle.std.proofs.lemmas.List.{ext_get_or}
use Rattle.std.proofs.lemmas.List.Elements.{All-from_get_or}
use Rattle.row_core.specs.Vectors.{cell, scale}
use Rattle.row_core.specs.Content.{DividesAll, IsPrimitive}
use Rattle.row_core.proofs.CellLemmas.{cell-scale, length-scale}

negate_is : (x y : ℤ) → x ≡ neg_ℤ (pos 1) *ℤ y → x ≡ neg_ℤ y
negate_is x y e = omega (arith, ints)

cell-negative : (v : List ℤ) (j : ℕ) → cell (scale (neg_ℤ (pos 1)) v) j ≡ neg_ℤ (cell v j)
cell-negative v j =
    negate_is (cell (scale (neg_ℤ (pos 1)) v) j) (cell v j) (cell-scale (neg_ℤ (pos 1)) v j)

-- a row whose entries are those of another with their signs changed
pub negated_within : (u v : List ℤ) → length v ≡ length u →
    ((j : ℕ) → j < length u → cell v j ≡ neg_ℤ (cell u j)) → v ≡ scale (neg_ℤ (pos 1)) u
negated_within u v e h = ext_get_or (pos 0) v (scale (neg_ℤ (pos 1)) u)
    (e ∙ sym (length-scale (neg_ℤ (pos 1)) u))
    (λ j b. h j (omega (arith, b, e)) ∙ sym (cell-negative u j))

-- ---- primitive rows
same_size : (x : ℤ) → unsigned_abs (neg_ℤ x) ≡ unsigned_abs x
same_size (pos zero) = refl
same_size (pos (suc n)) = refl
same_size (negsuc n) = refl

negated_below : (v : List ℤ) (i : ℕ) → i < length v → i < length (scale (neg_ℤ (pos 1)) v)
negated_below v i b = omega (arith, b, length-scale (neg_ℤ (pos 1)) v)

below_negated : (v : List ℤ) (i : ℕ) → i < length (scale (neg_ℤ (pos 1)) v) → i < length v
below_negated v i b = omega (arith, b, length-scale (neg_ℤ (pos 1)) v)

divides_back : (d : ℕ) (v : List ℤ) → DividesAll d (scale (neg_ℤ (pos 1)) v) → DividesAll d v
divides_back d v h = All-from_get_or (λ z. d ∣ unsigned_abs z) v (pos 0)
    (λ i b. subst (λ (n : ℕ). d ∣ n) (ap unsigned_abs (cell-negative v i) ∙ same_size (cell v i))
    (h i (pos 0) (negated_below v i b)))

zero_negated : (v : List ℤ) → All (λ z. z ≡ pos 0) v →
    All (λ z. z ≡ pos 0) (scale (neg_ℤ (pos 1)) v)
zero_negated v h = All-from_get_or (λ z. z ≡ pos 0) (scale (neg_ℤ (pos 1)) v) (pos 0)
    (λ i b. cell-negative v i ∙ ap neg_ℤ (h i (pos 0) (below_negated v i b)))

pub primitive_negated : (v : List ℤ) → IsPrimitive v → IsPrimitive (scale (neg_ℤ (pos 1)) v)
primitive_negated v (inl z) = inl (zero_negated v z)
primitive_negated v (inr f) = inr (λ d h. f d (divides_back d v h))
