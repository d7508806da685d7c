-- Whether a third ray is 0 on all of the first rows on which two rays are: a search that finds one or shows that there is none.
use Rattle.std.proofs.Common.{◌≡◌, ◌≢◌, ◌⊎◌, inl, inr, ℕ, zero, suc, ◌<◌, ◌≤◌, List, length, ℤ, pos, sym, arith, subst}
use Rattle.row_core.specs.Vectors.{dot}
use Rattle.row_core.specs.Lists.{Row, row_at, vector_at}
use Rattle.cone_laws.specs.Steps.{IsBetween, NoThird}
use Rattle.row_core.proofs.Ring.{same_or_not}

pub same_number : (m n : ℕ) → (m ≡ n) ⊎ (m ≢ n)
same_number m n = by_order (grind arith)
  where
    by_order : ((m < n) ⊎ (n < m)) ⊎ (m ≡ n) → (m ≡ n) ⊎ (m ≢ n)
    by_order (inl (inl h)) = inr (λ e. omega arith)
    by_order (inl (inr h)) = inr (λ e. omega arith)
    by_order (inr e) = inl e

-- 0 where two others are
abbrev ZeroWith : ℤ → ℤ → ℤ → Type 0
ZeroWith x y z = x ≡ pos 0 → y ≡ pos 0 → z ≡ pos 0

zero_with : (x y z : ℤ) → ZeroWith x y z ⊎ (¬ (ZeroWith x y z))
zero_with x y z = by_zeros (same_or_not x (pos 0)) (same_or_not y (pos 0)) (same_or_not z (pos 0))
  where
    by_zeros : (x ≡ pos 0) ⊎ (x ≢ pos 0) → (y ≡ pos 0) ⊎ (y ≢ pos 0) → (z ≡ pos 0) ⊎ (z ≢ pos 0) → ZeroWith x y z ⊎ (¬ (ZeroWith x y z))
    by_zeros (inr e) f g = inl (λ h i. absurd (e h))
    by_zeros (inl e) (inr f) g = inl (λ h i. absurd (f i))
    by_zeros (inl e) (inl f) (inl g) = inl (λ h i. g)
    by_zeros (inl e) (inl f) (inr g) = inr (λ h. g (h e f))

-- a ray of another number that is 0 on all of the rows
pub record IsThird (rows : List Row) (k : ℕ) (rays : List (List ℤ)) (p n : ℕ) : Type 0 where
  pub index : ℕ
  pub below : index < length rays
  pub not_first : index ≢ p
  pub not_second : index ≢ n
  pub between : IsBetween rows k rays p n index

module _ (rows : List Row) (rays : List (List ℤ)) (p n : ℕ) where
  -- ray i is 0 on row m if both rays are
  abbrev AtRow : ℕ → ℕ → Type 0
  AtRow m i = ZeroWith (dot (row_at rows m) (vector_at rays p)) (dot (row_at rows m) (vector_at rays n)) (dot (row_at rows m) (vector_at rays i))

  between_or_not : (k i : ℕ) → IsBetween rows k rays p n i ⊎ (¬ (IsBetween rows k rays p n i))
  between_or_not zero i = inl (λ m l. absurd (omega arith))
  between_or_not (suc k) i = by_last (between_or_not k i) (zero_with (dot (row_at rows k) (vector_at rays p)) (dot (row_at rows k) (vector_at rays n)) (dot (row_at rows k) (vector_at rays i)))
    where
      at_row : IsBetween rows k rays p n i → AtRow k i → (m : ℕ) → (m < k) ⊎ (m ≡ k) → AtRow m i
      at_row b z m (inl l) = b m l
      at_row b z m (inr e) = subst (λ (r : ℕ). AtRow r i) (sym e) z

      by_last : IsBetween rows k rays p n i ⊎ (¬ (IsBetween rows k rays p n i)) → AtRow k i ⊎ (¬ (AtRow k i)) → IsBetween rows (suc k) rays p n i ⊎ (¬ (IsBetween rows (suc k) rays p n i))
      by_last (inl b) (inl z) = inl (λ m l. at_row b z m (grind arith))
      by_last (inl b) (inr z) = inr (λ h. z (h k (omega arith)))
      by_last (inr b) z = inr (λ h. b (λ m l. h m (omega arith)))

  module _ (k : ℕ) where
    -- no ray of another number below c
    abbrev NoneBelow : ℕ → Type 0
    NoneBelow c = (i : ℕ) → i < c → i ≢ p → i ≢ n → ¬ (IsBetween rows k rays p n i)

    search_below : (c : ℕ) → c ≤ length rays → NoneBelow c ⊎ IsThird rows k rays p n
    search_below zero h = inl (λ i l. absurd (omega arith))
    search_below (suc c) h = by_rest (search_below c (omega arith)) (same_number c p) (same_number c n) (between_or_not k c)
      where
        more : NoneBelow c → (c ≢ p → c ≢ n → ¬ (IsBetween rows k rays p n c)) → (i : ℕ) → (i < c) ⊎ (i ≡ c) → i ≢ p → i ≢ n → ¬ (IsBetween rows k rays p n i)
        more s last i (inl l) = s i l
        more s last i (inr e) = subst (λ (m : ℕ). m ≢ p → m ≢ n → ¬ (IsBetween rows k rays p n m)) (sym e) last

        by_rest : NoneBelow c ⊎ IsThird rows k rays p n → (c ≡ p) ⊎ (c ≢ p) → (c ≡ n) ⊎ (c ≢ n) → IsBetween rows k rays p n c ⊎ (¬ (IsBetween rows k rays p n c)) → NoneBelow (suc c) ⊎ IsThird rows k rays p n
        by_rest (inr t) x y b = inr t
        by_rest (inl s) (inl x) y b = inl (λ i l. more s (λ d e. absurd (d x)) i (grind arith))
        by_rest (inl s) (inr x) (inl y) b = inl (λ i l. more s (λ d e. absurd (e y)) i (grind arith))
        by_rest (inl s) (inr x) (inr y) (inl b) = inr (record { index = c; below = omega arith; not_first = x; not_second = y; between = b })
        by_rest (inl s) (inr x) (inr y) (inr b) = inl (λ i l. more s (λ d e. b) i (grind arith))

    pub third_or_none : NoThird rows k rays p n ⊎ IsThird rows k rays p n
    third_or_none = search_below (length rays) (omega arith)
