-- Lists of numbers as vectors by column: the entries of sums and multiples, and a row as a linear map.
use Rattle.std.proofs.Common.{◌≡◌, ℕ, suc, List, [], ◌∷◌, ℤ, pos, ◌+ℤ◌, ◌*ℤ◌, neg_ℤ, refl, sym, ap, ◌∙◌, arith}
use Rattle.std.proofs.lemmas.Int.{ints}
use Rattle.row_core.specs.Vectors.{cell, dot, add}
use Rattle.cone_laws.specs.Cones.{negated}
use Rattle.row_core.proofs.Ring.{ring}
pub use Rattle.row_core.proofs.CellLemmas.{cell-scale, length-scale, cell-add, length-add}
pub use Rattle.row_core.proofs.DotLemmas.{dot_comm, dot-scale}
use Rattle.cone_laws.proofs.Sums.{V, IsMore, IsLinear}

negate_is : (x y : ℤ) → x ≡ neg_ℤ (pos 1) *ℤ y → x ≡ neg_ℤ y
negate_is x y e = omega (arith, ints)

pub cell-negated : (v : List ℤ) (j : ℕ) → cell (negated v) j ≡ neg_ℤ (cell v j)
cell-negated v j = negate_is (cell (negated v) j) (cell v j) (cell-scale (neg_ℤ (pos 1)) v j)

add_zero : (x : ℤ) → x ≡ x +ℤ pos 0
add_zero x = omega (arith, ints)

-- ---- a row as a map of vectors by column
abbrev pub value : List ℤ → V → ℤ
value [] v = pos 0
value (a ∷ u) v = a *ℤ v 0 +ℤ value u (λ j. v (suc j))

zero_sum : (a v s : ℤ) → v ≡ pos 0 → s ≡ pos 0 → a *ℤ v +ℤ s ≡ pos 0
zero_sum a v s e f = let g = ap (λ (z : ℤ). a *ℤ z) e in omega (arith, ints, g)

value_zero : (a : List ℤ) (v : V) → ((j : ℕ) → v j ≡ pos 0) → value a v ≡ pos 0
value_zero [] v h = refl
value_zero (a ∷ u) v h = zero_sum a (v 0) (value u (λ j. v (suc j))) (h 0) (value_zero u (λ j. v (suc j)) (λ j. h (suc j)))

more_sum : (a k w u v s t r : ℤ) → w ≡ k *ℤ u +ℤ v → s ≡ k *ℤ t +ℤ r → a *ℤ w +ℤ s ≡ k *ℤ (a *ℤ u +ℤ t) +ℤ (a *ℤ v +ℤ r)
more_sum a k w u v s t r e f =
    let g = ap (λ (z : ℤ). a *ℤ z) e in
    let h : a *ℤ (k *ℤ u +ℤ v) +ℤ (k *ℤ t +ℤ r) ≡ k *ℤ (a *ℤ u +ℤ t) +ℤ (a *ℤ v +ℤ r) = simp ring (omega (arith, ints)) in
    omega (arith, ints, g, h, f)

value_more : (a : List ℤ) (w u v : V) (k : ℤ) → IsMore w k u v → value a w ≡ k *ℤ value a u +ℤ value a v
value_more [] w u v k h = omega (arith, ints)
value_more (a ∷ b) w u v k h =
    more_sum a k (w 0) (u 0) (v 0) (value b (λ j. w (suc j))) (value b (λ j. u (suc j))) (value b (λ j. v (suc j))) (h 0)
    (value_more b (λ j. w (suc j)) (λ j. u (suc j)) (λ j. v (suc j)) k (λ j. h (suc j)))

value_multiple : (a : List ℤ) (w u : V) (k : ℤ) → ((j : ℕ) → w j ≡ k *ℤ u j) → value a w ≡ k *ℤ value a u
value_multiple a w u k h =
    let e : value a w ≡ k *ℤ value a u +ℤ value a (λ j. pos 0) = value_more a w u (λ j. pos 0) k (λ j. h j ∙ add_zero (k *ℤ u j)) in
    let f : value a (λ j. pos 0) ≡ pos 0 = value_zero a (λ j. pos 0) (λ j. refl) in
    omega (arith, ints)

pub value_linear : (a : List ℤ) → IsLinear (value a)
value_linear a = record { zero = value_zero a; more = value_more a; multiple = value_multiple a }

pub dot_is : (a v : List ℤ) → dot a v ≡ value a (cell v)
dot_is [] v = refl
dot_is (a ∷ u) [] = sym (zero_sum a (pos 0) (value u (λ j. pos 0)) refl (value_zero u (λ j. pos 0) (λ j. refl)))
dot_is (a ∷ u) (b ∷ v) = ap (λ (z : ℤ). a *ℤ b +ℤ z) (dot_is u v)

-- ---- dot, without a premise on widths
pub dot-multiple : (a w u : List ℤ) (k : ℤ) → ((j : ℕ) → cell w j ≡ k *ℤ cell u j) → dot a w ≡ k *ℤ dot a u
dot-multiple a w u k e = dot_is a w ∙ value_multiple a (cell w) (cell u) k e ∙ ap (λ (z : ℤ). k *ℤ z) (sym (dot_is a u))

pub dot-negated : (a v : List ℤ) → dot a (negated v) ≡ neg_ℤ (dot a v)
dot-negated a v = negate_is (dot a (negated v)) (dot a v) (dot-scale a (neg_ℤ (pos 1)) v)

one_times : (x u v : ℤ) → x ≡ u +ℤ v → x ≡ pos 1 *ℤ u +ℤ v
one_times x u v e = omega (arith, ints)

times_one : (x u v : ℤ) → x ≡ pos 1 *ℤ u +ℤ v → x ≡ u +ℤ v
times_one x u v e = omega (arith, ints)

pub dot-add : (a u v : List ℤ) → dot a (add u v) ≡ dot a u +ℤ dot a v
dot-add a u v =
    let e : value a (cell (add u v)) ≡ pos 1 *ℤ value a (cell u) +ℤ value a (cell v) = value_more a (cell (add u v)) (cell u) (cell v) (pos 1) (λ j. one_times (cell (add u v) j) (cell u j) (cell v j) (cell-add u v j)) in
    times_one (dot a (add u v)) (dot a u) (dot a v) (dot_is a (add u v) ∙ e ∙ sym (ap (λ (z : ℤ). pos 1 *ℤ z +ℤ dot a v) (dot_is a u) ∙ ap (λ (z : ℤ). pos 1 *ℤ value a (cell u) +ℤ z) (dot_is a v)))

-- the value on a combination s times u plus t times v
pub value_both : (a : V → ℤ) → IsLinear a → (w u v : V) (s t : ℤ) → ((j : ℕ) → w j ≡ s *ℤ u j +ℤ t *ℤ v j) → a w ≡ s *ℤ a u +ℤ t *ℤ a v
value_both a lin w u v s t e = lin.more w u (λ j. t *ℤ v j) s e ∙ ap (λ (z : ℤ). s *ℤ a u +ℤ z) (lin.multiple (λ j. t *ℤ v j) v t (λ j. refl))
