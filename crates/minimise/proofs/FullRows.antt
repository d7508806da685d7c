-- Rows that are true at each place.
use Rattle.std.proofs.Common.{◌≡◌, ℕ, zero, suc, ◌+◌, ◌<◌, Bool, true, false, List, [], ◌∷◌, ◌++◌, length, slice_index_or, refl, sym, ap, ◌∙◌, subst, arith, below_more}
use Rattle.std.specs.Prelude.{IsTrue, ◌↔◌}
use Rattle.std.proofs.lemmas.Bool.{false≢true}
use Rattle.std.proofs.lemmas.List.{get_or_append_left, get_or_push}
use Rattle.sat_matrix.specs.Tables.{bits_of}
use Rattle.sat_matrix.specs.Counts.{ones}
use Rattle.sat_matrix.proofs.Counting.{ones-le}
use Rattle.minimise.specs.Facets.{IsFull}

full_tail : (b : Bool) (bits : List Bool) → IsFull (b ∷ bits) → IsFull bits
full_tail b bits f j h = f (suc j) (omega (arith, h))

full_cons : (bits : List Bool) → IsFull bits → IsFull (true ∷ bits)
full_cons bits f zero h = refl
full_cons bits f (suc j) h = f j (omega (arith, h))

pub full_from_ones : (bits : List Bool) → ones bits ≡ length bits → IsFull bits
full_from_ones [] e = λ j h. absurd (omega (arith, h))
full_from_ones (true ∷ bits) e = full_cons bits (full_from_ones bits (omega (arith, e)))
full_from_ones (false ∷ bits) e = absurd (omega (arith, e, ones-le bits))

pub ones_from_full : (bits : List Bool) → IsFull bits → ones bits ≡ length bits
ones_from_full [] f = refl
ones_from_full (true ∷ bits) f = omega (arith, ones_from_full bits (full_tail true bits f))
ones_from_full (false ∷ bits) f = absurd (false≢true (f 0 (omega arith)))

-- one row more was tested
pub full_more : (rows : List (List Bool)) (full new : List Bool) (i : ℕ) (b : Bool) → new ≡ full ++ b ∷ [] → length full ≡ i → (IsTrue b ↔ (ones (bits_of rows i) ≡ length (bits_of rows i))) → ((k : ℕ) → k < i → IsTrue (slice_index_or full k false) ↔ IsFull (bits_of rows k)) → (k : ℕ) → k < i + 1 → IsTrue (slice_index_or new k false) ↔ IsFull (bits_of rows k)
full_more rows full new i b is size test before =
    below_more (λ k. IsTrue (slice_index_or new k false) ↔ IsFull (bits_of rows k)) i
    (λ k h. subst (λ (x : Bool). IsTrue x ↔ IsFull (bits_of rows k)) (sym (ap (λ (xs : List Bool). slice_index_or xs k false) is ∙ get_or_append_left full (b ∷ []) false k (omega (arith, h, size)))) (before k h))
    (subst (λ (x : Bool). IsTrue x ↔ IsFull (bits_of rows i)) (sym (ap (λ (xs : List Bool). slice_index_or xs i false) is ∙ get_or_push full b false i size))
    ((λ t. full_from_ones (bits_of rows i) (test.0 t)), (λ f. test.1 (ones_from_full (bits_of rows i) f))))
