-- What is spanned by lines alone.
use Rattle.std.proofs.Common.{◌≡◌, ℕ, zero, suc, ◌<◌, List, [], ◌∷◌, length, ℤ, pos, ◌+ℤ◌, ◌*ℤ◌, ◌<ℤ◌, ◌≤ℤ◌, refl, sym, arith}
use Rattle.std.proofs.lemmas.Int.{ints}
use Rattle.row_core.specs.Vectors.{cell, combined}
use Rattle.row_core.specs.Lists.{vector_at}
use Rattle.cone_laws.proofs.Sums.{V, Nothing, none, SpansBy, spans_sums, spans_add, lines_spans_scale, spans_of_multiple}

once : (x y c v d w : ℤ) → x ≡ c *ℤ v → y ≡ d *ℤ w → x +ℤ y ≡ pos 1 *ℤ x +ℤ pos 1 *ℤ y
once x y c v d w e f = omega (arith, ints)

one_least : pos 0 ≤ℤ pos 1
one_least = omega (arith, ints)

module _ (S : V → Type 0) where
  -- a positive multiple of the vector is a sum of multiples of two spanned ones
  pub spanned_two : (m c d : ℤ) (v w x : V) → pos 0 <ℤ m → SpansBy S Nothing v → SpansBy S Nothing w → ((j : ℕ) → m *ℤ x j ≡ c *ℤ v j +ℤ d *ℤ w j) → SpansBy S Nothing x
  spanned_two m c d v w x p s t h =
      let both : SpansBy S Nothing (λ j. c *ℤ v j +ℤ d *ℤ w j) =
      spans_add (pos 1) (pos 1) (λ j. c *ℤ v j) (λ j. d *ℤ w j) (λ j. c *ℤ v j +ℤ d *ℤ w j) one_least one_least
      (lines_spans_scale c v (λ j. c *ℤ v j) s (λ j. refl)) (lines_spans_scale d w (λ j. d *ℤ w j) t (λ j. refl)) (λ j. once (c *ℤ v j) (d *ℤ w j) c (v j) d (w j) refl refl) in
      spans_of_multiple m x (λ j. c *ℤ v j +ℤ d *ℤ w j) p both (λ j. sym (h j))

  spanned_none : (v : V) → ((j : ℕ) → v j ≡ pos 0) → SpansBy S Nothing v
  spanned_none v h = spans_sums v (none h)

  -- a sum of multiples of spanned vectors
  pub spanned_combined : (ks : List ℤ) (gs : List (List ℤ)) → ((i : ℕ) → i < length gs → SpansBy S Nothing (cell (vector_at gs i))) → SpansBy S Nothing (combined ks gs)
  spanned_combined [] gs h = spanned_none (combined [] gs) (λ j. refl)
  spanned_combined (k ∷ ks) [] h = spanned_none (combined (k ∷ ks) []) (λ j. refl)
  spanned_combined (k ∷ ks) (g ∷ gs) h =
      spanned_two (pos 1) k (pos 1) (cell g) (combined ks gs) (combined (k ∷ ks) (g ∷ gs)) one_positive (h zero (omega arith)) (spanned_combined ks gs (λ i l. h (suc i) (omega (arith, l)))) (λ j. whole (k *ℤ cell g j) (combined ks gs j))
    where
      one_positive : pos 0 <ℤ pos 1
      one_positive = omega (arith, ints)

      whole : (x y : ℤ) → pos 1 *ℤ (x +ℤ y) ≡ x +ℤ pos 1 *ℤ y
      whole x y = omega (arith, ints)
