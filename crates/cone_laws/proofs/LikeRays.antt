-- A primitive vector that is 0 at the pivots and is spanned by the lines and one ray is that ray.
use Rattle.std.proofs.Common.{◌≡◌, ◌≢◌, ◌⊎◌, inl, inr, ℕ, ◌<◌, List, [], ◌∷◌, length, ℤ, pos, ◌+ℤ◌, ◌*ℤ◌, ◌≤ℤ◌, ◌<ℤ◌, refl, sym, ap, ◌∙◌, arith}
use Rattle.std.specs.Prelude.{All}
use Rattle.std.proofs.lemmas.Int.{ints}
use Rattle.std.proofs.lemmas.List.Elements.{All-head}
use Rattle.row_core.specs.Vectors.{cell, combined}
use Rattle.row_core.specs.Content.{IsPrimitive}
use Rattle.cone_laws.specs.Cones.{Spans}
use Rattle.cone_laws.specs.Canon.{IsEchelon}
use Rattle.row_core.specs.Lists.{vector_at}
use Rattle.cone_laws.proofs.Ring.{mul_comm, zero_of_mul, by_sign}
use Rattle.cone_laws.proofs.Primitive.{primitive_same}
use Rattle.cone_laws.proofs.EchelonForm.{zero_left, zero_right}
use Rattle.cone_laws.proofs.Factors.{combined-nil, combined-none, combined-one}
use Rattle.cone_laws.proofs.UniqueSystems.{other_than_zero}

positive_zero : (k l : ℤ) → pos 0 <ℤ l → k *ℤ l ≡ pos 0 → k ≡ pos 0
positive_zero k l p e = zero_of_mul l k p (mul_comm l k ∙ e)

line_part : (t s c y x l : ℤ) → t *ℤ s ≡ x +ℤ c *ℤ y → s ≡ pos 0 → y ≡ pos 0 → x ≡ l → l ≡ pos 0
line_part t s c y x l e f g h =
    let a = zero_right t s f in
    let b = zero_right c y g in
    omega (arith, ints, a, b, e, h)

without_rest : (x a b z : ℤ) → x ≡ a +ℤ (b +ℤ z) → z ≡ pos 0 → x ≡ a +ℤ b
without_rest x a b z e f = omega (arith, ints, e, f)

only_part : (x a b : ℤ) → x ≡ a +ℤ b → a ≡ pos 0 → x ≡ b
only_part x a b e f = omega (arith, ints, e, f)

module _ (lines rays : List (List ℤ)) (i : ℕ) (v : List ℤ) (e : IsEchelon lines rays) (b : i < length rays) (w : length v ≡ length (vector_at rays i)) (pv : IsPrimitive v) (pr : IsPrimitive (vector_at rays i)) (zeros : (x : ℕ) → x < length lines → cell v (e.pivot x) ≡ pos 0) (other : ¬ ((j : ℕ) → cell v j ≡ pos 0)) where
  with_part : (t : ℤ) → pos 0 <ℤ t → (ks : List ℤ) (c : ℤ) → pos 0 ≤ℤ c → ((j : ℕ) → t *ℤ cell v j ≡ combined ks lines j +ℤ c *ℤ cell (vector_at rays i) j) → v ≡ vector_at rays i
  with_part t p ks c q s = by_entry (other_than_zero v)
    where
      r : List ℤ
      r = vector_at rays i

      factor : (x : ℕ) → x < length lines → cell ks x ≡ pos 0
      factor x l =
          positive_zero (cell ks x) (cell (vector_at lines x) (e.pivot x)) (e.pivots x l).positive
          (line_part t (cell v (e.pivot x)) c (cell (vector_at rays i) (e.pivot x)) (combined ks lines (e.pivot x)) (cell ks x *ℤ cell (vector_at lines x) (e.pivot x)) (s (e.pivot x)) (zeros x l) (e.rays_zero x i l b)
          (combined-one ks lines x (e.pivot x) (λ y k ne. zero_right (cell ks y) (cell (vector_at lines y) (e.pivot x)) (e.lines_zero x y l k (λ f. ne (sym f))))))

      multiple : (j : ℕ) → t *ℤ cell v j ≡ c *ℤ cell (vector_at rays i) j
      multiple j = only_part (t *ℤ cell v j) (combined ks lines j) (c *ℤ cell (vector_at rays i) j) (s j) (combined-none ks lines j (λ x l. zero_left (cell ks x) (cell (vector_at lines x) j) (factor x l)))

      all_zero : ((j : ℕ) → t *ℤ cell v j ≡ pos 0) → ⊥
      all_zero z = other (λ j. zero_of_mul t (cell v j) p (z j))

      no_part : c ≡ pos 0 → ⊥
      no_part f = all_zero (λ j. multiple j ∙ zero_left c (cell (vector_at rays i) j) f)

      by_part : (j : ℕ) → j < length v → cell v j ≢ pos 0 → (pos 0 <ℤ c) ⊎ ((c <ℤ pos 0) ⊎ (c ≡ pos 0)) → v ≡ vector_at rays i
      by_part j l ne (inl f) = primitive_same t c v (vector_at rays i) p f w multiple pv pr
      by_part j l ne (inr (inl f)) = absurd (omega (arith, ints, f, q))
      by_part j l ne (inr (inr f)) = absurd (no_part f)

      by_entry : ((j : ℕ) → cell v j ≡ pos 0) ⊎ ((j : ℕ) × (j < length v) × (cell v j ≢ pos 0)) → v ≡ vector_at rays i
      by_entry (inl z) = absurd (other z)
      by_entry (inr (j, l, ne)) = by_part j l ne (by_sign c)

  by_factors : (t : ℤ) → pos 0 <ℤ t → (ks fs : List ℤ) → All (λ k. pos 0 ≤ℤ k) fs → ((j : ℕ) → t *ℤ cell v j ≡ combined ks lines j +ℤ combined fs (vector_at rays i ∷ []) j) → v ≡ vector_at rays i
  by_factors t p ks [] q s = with_part t p ks (pos 0) (omega (arith, ints)) (λ j. s j ∙ ap (λ (z : ℤ). combined ks lines j +ℤ z) (sym (zero_left (pos 0) (cell (vector_at rays i) j) refl)))
  by_factors t p ks (c ∷ fs) q s = with_part t p ks c (All-head (λ k. pos 0 ≤ℤ k) c fs q)
      (λ j. without_rest (t *ℤ cell v j) (combined ks lines j) (c *ℤ cell (vector_at rays i) j) (combined fs [] j) (s j) (combined-nil fs j))

pub like_ray_is_same : (lines rays : List (List ℤ)) (i : ℕ) (v : List ℤ) (e : IsEchelon lines rays) → i < length rays → length v ≡ length (vector_at rays i) → IsPrimitive v → IsPrimitive (vector_at rays i) → ((x : ℕ) → x < length lines → cell v (e.pivot x) ≡ pos 0) → ¬ ((j : ℕ) → cell v j ≡ pos 0) → Spans lines (vector_at rays i ∷ []) v → v ≡ vector_at rays i
like_ray_is_same lines rays i v e b w pv pr zeros other s = by_factors lines rays i v e b w pv pr zeros other s.times s.positive s.line_factors s.ray_factors s.at_least_zero s.sum
