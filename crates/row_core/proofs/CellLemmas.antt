use Rattle.std.specs.Prelude.{◌≡◌, ◌≢◌, ℕ, ◌+◌, ◌<◌, zero, suc, List, [], ◌∷◌, length, set, ℤ, pos, ◌+ℤ◌}
use Rattle.std.proofs.Common.{arith, sym, ◌∙◌, ap, refl, subst, below_more}
use Rattle.std.proofs.lemmas.Int.{ints}
use Rattle.std.proofs.lemmas.List.{ext_get_or, get_or-set_same, get_or-set_other}
use Rattle.std.proofs.Math.IntN.{◌*ℤ◌}
use Rattle.row_core.specs.Vectors.{cell, scale, add, combined}
use Rattle.row_core.proofs.Ring.{mul_assoc, mul-add, mul-zero}

zero_add_z : (a : ℤ) → a ≡ pos 0 +ℤ a
zero_add_z a = omega (arith, ints)

add_zero_z : (a : ℤ) → a ≡ a +ℤ pos 0
add_zero_z a = omega (arith, ints)

pub cell-scale : (k : ℤ) (v : List ℤ) (j : ℕ) → cell (scale k v) j ≡ k *ℤ cell v j
cell-scale k [] j = sym (mul-zero k)
cell-scale k (a ∷ v) zero = refl
cell-scale k (a ∷ v) (suc j) = cell-scale k v j

pub length-scale : (k : ℤ) (v : List ℤ) → length (scale k v) ≡ length v
length-scale k [] = refl
length-scale k (a ∷ v) = ap suc (length-scale k v)

pub cell-add : (u v : List ℤ) (j : ℕ) → cell (add u v) j ≡ cell u j +ℤ cell v j
cell-add [] v j = zero_add_z (cell v j)
cell-add (a ∷ u) [] j = add_zero_z (cell (a ∷ u) j)
cell-add (a ∷ u) (b ∷ v) zero = refl
cell-add (a ∷ u) (b ∷ v) (suc j) = cell-add u v j

pub length-add : (u v : List ℤ) → length u ≡ length v → length (add u v) ≡ length v
length-add [] v e = refl
length-add (a ∷ u) [] e = e
length-add (a ∷ u) (b ∷ v) e = ap suc (length-add u v (omega arith))

scale_step : (c a g x z : ℤ) → z ≡ c *ℤ x → (c *ℤ a) *ℤ g +ℤ z ≡ c *ℤ (a *ℤ g +ℤ x)
scale_step c a g x z e = omega (arith, ints, e, mul_assoc c a g, mul-add c (a *ℤ g) x)

-- with all factors multiplied, the sum is multiplied
pub combined-scale : (c : ℤ) (factors : List ℤ) (rows : List (List ℤ)) (j : ℕ) →
    combined (scale c factors) rows j ≡ c *ℤ combined factors rows j
combined-scale c [] rows j = sym (mul-zero c)
combined-scale c (a ∷ factors) [] j = sym (mul-zero c)
combined-scale c (a ∷ factors) (row ∷ rows) j = scale_step c a (cell row j)
    (combined factors rows j) (combined (scale c factors) rows j) (combined-scale c factors rows j)

-- a row whose columns are those of the combination is the combination
pub combination_from_cells : (d u v : List ℤ) (s t : ℤ) → length d ≡ length u →
    length u ≡ length v → ((k : ℕ) → k < length d → cell d k ≡ s *ℤ cell u k +ℤ t *ℤ cell v k) →
    d ≡ add (scale s u) (scale t v)
combination_from_cells d u v s t e f cells =
    ext_get_or (pos 0) d (add (scale s u) (scale t v))
    (e ∙ f ∙ sym (length-scale t v) ∙
    sym (length-add (scale s u) (scale t v) (length-scale s u ∙ (f ∙ sym (length-scale t v)))))
    (λ k h. cells k h ∙
    (ap (λ (a : ℤ). a +ℤ t *ℤ cell v k) (sym (cell-scale s u k)) ∙
    (ap (λ (b : ℤ). cell (scale s u) k +ℤ b) (sym (cell-scale t v k)) ∙
    sym (cell-add (scale s u) (scale t v) k))))

-- a row with the scaled cells of another is that row scaled
pub scale_from_cells : (d v : List ℤ) (s : ℤ) → length d ≡ length v →
    ((k : ℕ) → k < length d → cell d k ≡ s *ℤ cell v k) → d ≡ scale s v
scale_from_cells d v s e cells = ext_get_or (pos 0) d (scale s v) (e ∙ sym (length-scale s v))
    (λ k h. cells k h ∙ sym (cell-scale s v k))

-- after a write at column j, what held of each column below j, and holds of what was written, holds
-- up to j
pub written_more : (P : ℕ → ℤ → Type 0) (d : List ℤ) (j : ℕ) (x : ℤ) → j < length d →
    ((k : ℕ) → k < j → P k (cell d k)) → P j x → (k : ℕ) → k < j + 1 → P k (cell (set d j x) k)
written_more P d j x h before here =
    below_more (λ k. P k (cell (set d j x) k)) j
    (λ k less. let apart : k ≢ j = omega arith in
    subst (P k) (sym (get_or-set_other d j k x (pos 0) apart)) (before k less))
    (subst (P j) (sym (get_or-set_same d j x (pos 0) h)) here)
