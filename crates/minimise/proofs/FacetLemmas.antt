-- The rows with the greatest sets of zeros.
use Rattle.std.proofs.Common.{◌≡◌, ◌≢◌, ◌⊎◌, inl, inr, ℕ, zero, suc, ◌+◌, ◌-◌, ◌<◌, ◌≤◌, Bool, true, false, not, List, [], ◌∷◌, ◌++◌, length, map, slice_index_or, ℤ, pos, refl, sym, ap, ◌∙◌, subst, arith}
use Rattle.std.specs.Prelude.{All, Contains, IsPermutation, IsTrue, reverse}
use Rattle.std.specs.List.{range_with_len, swap}
use Rattle.std.specs.List.Sorted.{IsNonDecreasingBy}
use Rattle.std.proofs.lemmas.Bool.{cases_lt, cases_order, false≢true}
use Rattle.std.proofs.lemmas.List.{length-append, length-map, length-reverse, get_or-map, get_or_append_left, get_or_push, get_or-reverse, get_or_default}
use Rattle.std.proofs.lemmas.List.FromFn.{length-range_with_len, get_or-range_with_len}
use Rattle.std.proofs.lemmas.List.Elements.{All-from_get_or, All-map, All-contains, Contains-get_or}
use Rattle.std.proofs.lemmas.List.Edits.{Swapped, swapped_from_swap, length-swap}
use Rattle.std.proofs.lemmas.List.Sorted.{IsPermutation-keeps, All-permutation, Contains-permutation}
use Rattle.row_core.specs.Vectors.{dot}
use Rattle.flat_rows.specs.Flat.{marked}
use Rattle.row_core.specs.Lists.{Row, row_at}
use Rattle.sat_matrix.specs.Tables.{bits_of, IsWithin, IsWithinSome}
use Rattle.sat_matrix.specs.Counts.{ones}
use Rattle.sat_matrix.proofs.TurnedTables.{TellsRows}
use Rattle.cone_laws.specs.Canon.{IsSystem}
use Rattle.cone_laws.specs.Members.{ConeOf}
use Rattle.minimise.specs.FlatRows.{IsZeroOnAll, TellsFlat}
use Rattle.minimise.specs.Facets.{KeepsZeros, AreFacets, IsFull, TellsFull, IsUneven, AreUneven, AreApart, AreGreatest, counted_row, IsCounted, AreFalling}
use Rattle.minimise.specs.declared.facets.CountedRow.{CountedRow}
use Rattle.minimise.proofs.FlatRows.{flat_is_zero_on_rays}

zero_more : (n : ℕ) → 0 + n ≡ n
zero_more n = omega arith

-- ---- marked elements of two lists
-- the marked elements at one place come from one index
pub record ComesFrom {X Y : Type 0} (marks : List Bool) (xs : List X) (ys : List Y) (x : X) (y : Y) (p : ℕ) : Type 0 where
  pub index : ℕ
  pub below : index < length xs
  pub mark : slice_index_or marks index false ≡ true
  pub first : slice_index_or (marked marks xs) p x ≡ slice_index_or xs index x
  pub second : slice_index_or (marked marks ys) p y ≡ slice_index_or ys index y

from_tail : {X Y : Type 0} (m : Bool) (marks : List Bool) (a : X) (xs : List X) (b : Y) (ys : List Y) (x : X) (y : Y) (p : ℕ) (q : ℕ) → slice_index_or (marked (m ∷ marks) (a ∷ xs)) q x ≡ slice_index_or (marked marks xs) p x → slice_index_or (marked (m ∷ marks) (b ∷ ys)) q y ≡ slice_index_or (marked marks ys) p y → ComesFrom marks xs ys x y p → ComesFrom (m ∷ marks) (a ∷ xs) (b ∷ ys) x y q
from_tail m marks a xs b ys x y p q e f c = record { index = suc c.index; below = omega (arith, c.below); mark = c.mark; first = e ∙ c.first; second = f ∙ c.second }

pub comes_from : {X Y : Type 0} (marks : List Bool) (xs : List X) (ys : List Y) (x : X) (y : Y) (p : ℕ) → length ys ≡ length xs → p < length (marked marks xs) → ComesFrom marks xs ys x y p
comes_from [] xs ys x y p e h = absurd (omega (arith, h))
comes_from (m ∷ marks) [] ys x y p e h = absurd (omega (arith, h))
comes_from (m ∷ marks) (a ∷ xs) [] x y p e h = absurd (omega (arith, e))
comes_from (true ∷ marks) (a ∷ xs) (b ∷ ys) x y zero e h = record { index = 0; below = omega arith; mark = refl; first = refl; second = refl }
comes_from (true ∷ marks) (a ∷ xs) (b ∷ ys) x y (suc p) e h = from_tail true marks a xs b ys x y p (suc p) refl refl (comes_from marks xs ys x y p (omega (arith, e)) (omega (arith, h)))
comes_from (false ∷ marks) (a ∷ xs) (b ∷ ys) x y p e h = from_tail false marks a xs b ys x y p p refl refl (comes_from marks xs ys x y p (omega (arith, e)) h)

-- the place of an element that is marked
pub record GoesTo {X : Type 0} (marks : List Bool) (xs : List X) (x : X) (i : ℕ) : Type 0 where
  pub place : ℕ
  pub below : place < length (marked marks xs)
  pub same : slice_index_or (marked marks xs) place x ≡ slice_index_or xs i x

pub goes_to : {X : Type 0} (marks : List Bool) (xs : List X) (x : X) (i : ℕ) → i < length xs → slice_index_or marks i false ≡ true → GoesTo marks xs x i
goes_to [] xs x i h e = absurd (false≢true e)
goes_to (m ∷ marks) [] x i h e = absurd (omega (arith, h))
goes_to (true ∷ marks) (a ∷ xs) x zero h e = record { place = 0; below = omega arith; same = refl }
goes_to (false ∷ marks) (a ∷ xs) x zero h e = absurd (false≢true e)
goes_to (true ∷ marks) (a ∷ xs) x (suc i) h e = let g = goes_to marks xs x i (omega (arith, h)) e in record { place = suc g.place; below = omega (arith, g.below); same = g.same }
goes_to (false ∷ marks) (a ∷ xs) x (suc i) h e = let g = goes_to marks xs x i (omega (arith, h)) e in record { place = g.place; below = g.below; same = g.same }

-- elements that are marked and those that aren't are all
pub length-both : {X Y : Type 0} (marks : List Bool) (xs : List X) (ys : List Y) → length marks ≡ length xs → length marks ≡ length ys → length (marked marks xs) + length (marked (map not marks) ys) ≡ length xs
length-both [] [] ys e f = omega arith
length-both [] (x ∷ xs) ys e f = absurd (omega (arith, e))
length-both (m ∷ marks) [] ys e f = absurd (omega (arith, e))
length-both (m ∷ marks) (x ∷ xs) [] e f = absurd (omega (arith, f))
length-both (true ∷ marks) (x ∷ xs) (y ∷ ys) e f = omega (arith, length-both marks xs ys (omega (arith, e)) (omega (arith, f)))
length-both (false ∷ marks) (x ∷ xs) (y ∷ ys) e f = omega (arith, length-both marks xs ys (omega (arith, e)) (omega (arith, f)))

-- ---- the turned table
module _ (rows : List Row) (rays : List (List ℤ)) (table : List (List Bool)) (t : TellsRows rows rays table) where
  -- ---- zeros by bits
  pub zero_from_full : (i : ℕ) → i < length rows → IsFull (bits_of table i) → IsZeroOnAll rays (row_at rows i)
  zero_from_full i h f = All-from_get_or (λ y. dot (row_at rows i) y ≡ pos 0) rays [] (λ j k. (t.tells i j h k).0 (f j (omega (arith, k, t.wide i h))))

  pub full_from_zero : (i : ℕ) → i < length rows → IsZeroOnAll rays (row_at rows i) → IsFull (bits_of table i)
  full_from_zero i h z j k = let b : j < length rays = omega (arith, k, t.wide i h) in (t.tells i j h b).1 (z j [] b)

  pub keeps_from_within : (i m : ℕ) → i < length rows → m < length rows → IsWithin (bits_of table i) (bits_of table m) → KeepsZeros rays (row_at rows i) (row_at rows m)
  keeps_from_within i m h k w = All-from_get_or (λ y. dot (row_at rows i) y ≡ pos 0 → dot (row_at rows m) y ≡ pos 0) rays [] (λ j b z.
      let true_there = (t.tells i j h b).1 z in
      (t.tells m j k b).0 (w j (omega (arith, b, t.wide i h)) true_there true_there))

  pub within_from_keeps : (i m : ℕ) → i < length rows → m < length rows → KeepsZeros rays (row_at rows i) (row_at rows m) → IsWithin (bits_of table i) (bits_of table m)
  within_from_keeps i m h k z j b first second = let c : j < length rays = omega (arith, b, t.wide i h) in (t.tells m j k c).1 (z j [] c ((t.tells i j h c).0 first))

  -- ---- the marks
  pub flat_told : (width : ℕ) (lines : List (List ℤ)) (marks : List Bool) → IsSystem (ConeOf width rows) lines rays → TellsFull table marks → TellsFlat width rows marks
  flat_told width lines marks sys f = record {
    as_many = f.as_many ∙ t.as_many;
    tells = λ i h.
        let full = f.tells i (omega (arith, h, t.as_many)) in
        let flat = flat_is_zero_on_rays width rows lines rays i sys h in
        ((λ b. flat.1 (zero_from_full i h (full.0 b))), (λ z. full.1 (full_from_zero i h (flat.0 z))));
  }

  -- ---- the facets
  pub are_facets : (places : List ℕ) → AreGreatest table places → AreFacets rows rays places
  are_facets places g = record {
    within = All-from_get_or (λ i. i < length rows) places 0 within;
    uneven = All-from_get_or (λ i. ¬ (IsZeroOnAll rays (row_at rows i))) places 0 (λ k h z. (g.uneven k 0 h).1 (full_from_zero (slice_index_or places k 0) (within k h) z));
    apart = λ k m hk hm ne z. g.apart k m hk hm ne (within_from_keeps (slice_index_or places k 0) (slice_index_or places m 0) (within k hk) (within m hm) z);
    each = λ i h n.
        let q = g.each i (omega (arith, h, t.as_many), (λ f. n (zero_from_full i h f))) in
        (q.0, q.1, keeps_from_within i (slice_index_or places q.0 0) h (within q.0 q.1) q.2);
  }
    where
      within : (k : ℕ) → k < length places → slice_index_or places k 0 < length rows
      within k h = omega (arith, (g.uneven k 0 h).0, t.as_many)

-- ---- rows that aren't true everywhere
module _ (rows : List (List Bool)) (marks : List Bool) (f : TellsFull rows marks) where
  is_unmarked : (i : ℕ) → i < length rows → ¬ (IsFull (bits_of rows i)) → slice_index_or (map not marks) i false ≡ true
  is_unmarked i h n = get_or-map not marks i false false (omega (arith, h, f.as_many)) ∙ by_mark (slice_index_or marks i false) (λ b. n ((f.tells i h).0 b))
    where
      by_mark : (b : Bool) → ¬ (IsTrue b) → not b ≡ true
      by_mark true unmarked = absurd (unmarked refl)
      by_mark false unmarked = refl

  uneven_from_unmarked : (i : ℕ) → i < length marks → slice_index_or (map not marks) i false ≡ true → IsUneven rows i
  uneven_from_unmarked i h e = (below, (λ full. turned (slice_index_or marks i false) (sym (get_or-map not marks i false false h) ∙ e) ((f.tells i below).1 full)))
    where
      below : i < length rows
      below = omega (arith, h, f.as_many)

      turned : (b : Bool) → not b ≡ true → IsTrue b → ⊥
      turned true n t = false≢true n
      turned false n t = false≢true t

  pub unmarked_uneven : All (IsUneven rows) (marked (map not marks) (range_with_len 0 (length marks)))
  unmarked_uneven =
      All-from_get_or (IsUneven rows) (marked (map not marks) (range_with_len 0 (length marks))) 0
      (λ k h.
      let range : List ℕ = range_with_len 0 (length marks) in
      let c : ComesFrom (map not marks) range range 0 0 k = comes_from (map not marks) range range 0 0 k refl h in
      let at : c.index < length marks = omega (arith, c.below, length-range_with_len 0 (length marks)) in
      subst (IsUneven rows) (sym (c.first ∙ get_or-range_with_len 0 (length marks) c.index 0 at ∙ zero_more c.index)) (uneven_from_unmarked c.index at c.mark))

  pub uneven_among : (i : ℕ) → IsUneven rows i → Contains (marked (map not marks) (range_with_len 0 (length marks))) i
  uneven_among i u =
      let range : List ℕ = range_with_len 0 (length marks) in
      let at : i < length marks = omega (arith, u.0, f.as_many) in
      let g : GoesTo (map not marks) range i i = goes_to (map not marks) range i i (omega (arith, at, length-range_with_len 0 (length marks))) (is_unmarked i u.0 u.1) in
      (g.place, g.below, g.same ∙ get_or-range_with_len 0 (length marks) i i at ∙ zero_more i)

-- ---- of two sets the greater one isn't within the lesser
pub within_self : (bits : List Bool) → IsWithin bits bits
within_self bits c h first second = first

within_tail : (x y : Bool) (a b : List Bool) → IsWithin (x ∷ a) (y ∷ b) → IsWithin a b
within_tail x y a b w c h first second = w (suc c) (omega (arith, h)) first second

ones_within : (a b : List Bool) → length a ≡ length b → IsWithin a b → ones a ≤ ones b
ones_within [] b e w = omega arith
ones_within (x ∷ a) [] e w = absurd (omega (arith, e))
ones_within (true ∷ a) (true ∷ b) e w = omega (arith, ones_within a b (omega (arith, e)) (within_tail true true a b w))
ones_within (true ∷ a) (false ∷ b) e w = absurd (false≢true (w 0 (omega arith) refl refl))
ones_within (false ∷ a) (true ∷ b) e w = omega (arith, ones_within a b (omega (arith, e)) (within_tail false true a b w))
ones_within (false ∷ a) (false ∷ b) e w = omega (arith, ones_within a b (omega (arith, e)) (within_tail false false a b w))

within_cons : (x y : Bool) (a b : List Bool) → (IsTrue x → IsTrue y) → IsWithin a b → IsWithin (x ∷ a) (y ∷ b)
within_cons x y a b head tail zero h first second = head first
within_cons x y a b head tail (suc c) h first second = tail c (omega (arith, h)) first second

pub within_back : (a b : List Bool) → length a ≡ length b → IsWithin a b → ones b ≤ ones a → IsWithin b a
within_back [] [] e w l = within_self []
within_back (x ∷ a) [] e w l = absurd (omega (arith, e))
within_back [] (y ∷ b) e w l = absurd (omega (arith, e))
within_back (true ∷ a) (true ∷ b) e w l = within_cons true true b a (λ t. t) (within_back a b (omega (arith, e)) (within_tail true true a b w) (omega (arith, l)))
within_back (true ∷ a) (false ∷ b) e w l = absurd (false≢true (w 0 (omega arith) refl refl))
within_back (false ∷ a) (true ∷ b) e w l = absurd (omega (arith, l, ones_within a b (omega (arith, e)) (within_tail false true a b w)))
within_back (false ∷ a) (false ∷ b) e w l = within_cons false false b a (λ t. t) (within_back a b (omega (arith, e)) (within_tail false false a b w) (omega (arith, l)))

-- ---- a place more
module _ (rows : List (List Bool)) (places new : List ℕ) (p : ℕ) (is : new ≡ places ++ p ∷ []) where
  size_more : length new ≡ length places + 1
  size_more = omega (arith, ap length is, length-append places (p ∷ []))

  at_old : (k : ℕ) → k < length places → slice_index_or new k 0 ≡ slice_index_or places k 0
  at_old k h = ap (λ (ns : List ℕ). slice_index_or ns k 0) is ∙ get_or_append_left places (p ∷ []) 0 k h

  at_new : (k : ℕ) → k ≡ length places → slice_index_or new k 0 ≡ p
  at_new k e = ap (λ (ns : List ℕ). slice_index_or ns k 0) is ∙ get_or_push places p 0 k (sym e)

  pub led_more : (m : ℕ) → IsWithinSome rows m places → IsWithinSome rows m new
  led_more m l = (l.0, omega (arith, l.1, size_more), subst (λ (n : ℕ). IsWithin (bits_of rows m) (bits_of rows n)) (sym (at_old l.0 l.1)) l.2)

  pub led_by_itself : IsWithinSome rows p new
  led_by_itself = (length places, omega (arith, size_more), subst (λ (n : ℕ). IsWithin (bits_of rows p) (bits_of rows n)) (sym (at_new (length places) refl)) (within_self (bits_of rows p)))

  -- the new row has at most as many true places as the others, and isn't within one of them
  pub apart_more : AreApart rows places → ¬ (IsWithinSome rows p places) → ((q : ℕ) → q < length places → length (bits_of rows (slice_index_or places q 0)) ≡ length (bits_of rows p)) → ((q : ℕ) → q < length places → ones (bits_of rows p) ≤ ones (bits_of rows (slice_index_or places q 0))) → AreApart rows new
  apart_more apart unled wide longer k m hk hm ne w = by_place (cases_lt k (length places)) (cases_lt m (length places))
    where
      by_place : (k < length places) ⊎ (length places ≤ k) → (m < length places) ⊎ (length places ≤ m) → ⊥
      by_place (inl a) (inl b) = apart k m a b ne (subst (λ (n : ℕ). IsWithin (bits_of rows (slice_index_or places k 0)) (bits_of rows n)) (at_old m b) (subst (λ (n : ℕ). IsWithin (bits_of rows n) (bits_of rows (slice_index_or new m 0))) (at_old k a) w))
      by_place (inl a) (inr b) =
          let last : slice_index_or new m 0 ≡ p = at_new m (omega (arith, b, hm, size_more)) in
          let old : IsWithin (bits_of rows (slice_index_or places k 0)) (bits_of rows p) = subst (λ (n : ℕ). IsWithin (bits_of rows (slice_index_or places k 0)) (bits_of rows n)) last (subst (λ (n : ℕ). IsWithin (bits_of rows n) (bits_of rows (slice_index_or new m 0))) (at_old k a) w) in
          unled (k, a, within_back (bits_of rows (slice_index_or places k 0)) (bits_of rows p) (wide k a) old (longer k a))
      by_place (inr a) (inl b) =
          let last : slice_index_or new k 0 ≡ p = at_new k (omega (arith, a, hk, size_more)) in
          unled (m, b, subst (λ (n : ℕ). IsWithin (bits_of rows p) (bits_of rows n)) (at_old m b) (subst (λ (n : ℕ). IsWithin (bits_of rows n) (bits_of rows (slice_index_or new m 0))) last w))
      by_place (inr a) (inr b) = ne (omega (arith, a, b, hk, hm, size_more))

-- ---- the places in another order
-- where an element stood before two others changed places
record StoodAt (old new : List ℕ) (i j k : ℕ) : Type 0 where
  place : ℕ
  below : place < length old
  same : slice_index_or new k 0 ≡ slice_index_or old place 0
  which : ((k ≡ i) × (place ≡ j)) ⊎ (((k ≡ j) × (place ≡ i)) ⊎ ((k ≢ i) × (k ≢ j) × (place ≡ k)))

module _ (old : List ℕ) (i j : ℕ) (first : i < length old) (second : j < length old) where
  swapped : Swapped (λ k. slice_index_or old k 0) (λ k. slice_index_or (swap old i j) k 0) i j
  swapped = swapped_from_swap old (swap old i j) i j 0 first second refl

  third_place : (k : ℕ) → k < length old → (k ≢ i) → (k ≢ j) → StoodAt old (swap old i j) i j k
  third_place k h a b = record { place = k; below = h; same = swapped.2 k a b; which = inr (inr (a, b, refl)) }

  not_first : (k : ℕ) → k < length old → (k ≢ i) → (k ≡ j) ⊎ ((k < j) ⊎ (j < k)) → StoodAt old (swap old i j) i j k
  not_first k h a (inl e) = record { place = i; below = first; same = ap (λ n. slice_index_or (swap old i j) n 0) e ∙ swapped.1; which = inr (inl (e, refl)) }
  not_first k h a (inr (inl l)) = third_place k h a (λ e. omega (arith, e, l))
  not_first k h a (inr (inr l)) = third_place k h a (λ e. omega (arith, e, l))

  stood : (k : ℕ) → k < length old → (k ≡ i) ⊎ ((k < i) ⊎ (i < k)) → StoodAt old (swap old i j) i j k
  stood k h (inl e) = record { place = j; below = second; same = ap (λ n. slice_index_or (swap old i j) n 0) e ∙ swapped.0; which = inl (e, refl) }
  stood k h (inr (inl l)) = not_first k h (λ e. omega (arith, e, l)) (cases_order k j)
  stood k h (inr (inr l)) = not_first k h (λ e. omega (arith, e, l)) (cases_order k j)

  stood_apart : (k m p q : ℕ) → k ≢ m → p ≡ q → ((k ≡ i) × (p ≡ j)) ⊎ (((k ≡ j) × (p ≡ i)) ⊎ ((k ≢ i) × (k ≢ j) × (p ≡ k))) → ((m ≡ i) × (q ≡ j)) ⊎ (((m ≡ j) × (q ≡ i)) ⊎ ((m ≢ i) × (m ≢ j) × (q ≡ m))) → ⊥
  stood_apart k m p q ne e (inl a) (inl b) = ne (omega (arith, a.0, b.0))
  stood_apart k m p q ne e (inl a) (inr (inl b)) = ne (omega (arith, a.0, a.1, b.0, b.1, e))
  stood_apart k m p q ne e (inl a) (inr (inr b)) = b.1 (omega (arith, a.1, b.2, e))
  stood_apart k m p q ne e (inr (inl a)) (inl b) = ne (omega (arith, a.0, a.1, b.0, b.1, e))
  stood_apart k m p q ne e (inr (inl a)) (inr (inl b)) = ne (omega (arith, a.0, b.0))
  stood_apart k m p q ne e (inr (inl a)) (inr (inr b)) = b.0 (omega (arith, a.1, b.2, e))
  stood_apart k m p q ne e (inr (inr a)) (inl b) = a.1 (omega (arith, b.1, a.2, e))
  stood_apart k m p q ne e (inr (inr a)) (inr (inl b)) = a.0 (omega (arith, b.1, a.2, e))
  stood_apart k m p q ne e (inr (inr a)) (inr (inr b)) = ne (omega (arith, a.2, b.2, e))

  apart_swapped : (rows : List (List Bool)) → AreApart rows old → AreApart rows (swap old i j)
  apart_swapped rows apart k m hk hm ne w =
      let size : length (swap old i j) ≡ length old = length-swap old i j in
      let a : StoodAt old (swap old i j) i j k = stood k (omega (arith, hk, size)) (cases_order k i) in
      let b : StoodAt old (swap old i j) i j m = stood m (omega (arith, hm, size)) (cases_order m i) in
      apart a.place b.place a.below b.below (λ e. stood_apart k m a.place b.place ne e a.which b.which)
      (subst (λ (n : ℕ). IsWithin (bits_of rows n) (bits_of rows (slice_index_or old b.place 0))) a.same (subst (λ (n : ℕ). IsWithin (bits_of rows (slice_index_or (swap old i j) k 0)) (bits_of rows n)) b.same w))

led_moved : (rows : List (List Bool)) (places new : List ℕ) (m : ℕ) → IsPermutation places new → IsWithinSome rows m places → IsWithinSome rows m new
led_moved rows places new m moved l =
    let p : ℕ = slice_index_or places l.0 0 in
    let c : Contains new p = Contains-permutation places new p moved (Contains-get_or places l.0 0 l.1) in
    (c.0, c.1, subst (λ (n : ℕ). IsWithin (bits_of rows m) (bits_of rows n)) (sym (get_or_default new c.0 0 p c.1 ∙ c.2)) l.2)

-- rows by rising number of true places, the other way round
pub falling_reversed : (rising new : List CountedRow) → new ≡ reverse rising → IsNonDecreasingBy (λ (row : CountedRow). row.ones) rising → AreFalling new
falling_reversed rising new is rises i j d h b =
    let size : length new ≡ length rising = ap (λ (list : List CountedRow). length list) is ∙ length-reverse rising in
    let first = ap (λ (list : List CountedRow). (slice_index_or list i d).ones) is ∙ ap (λ (row : CountedRow). row.ones) (get_or-reverse rising i d (omega (arith, h, b, size))) in
    let second = ap (λ (list : List CountedRow). (slice_index_or list j d).ones) is ∙ ap (λ (row : CountedRow). row.ones) (get_or-reverse rising j d (omega (arith, b, size))) in
    omega (arith, first, second, rises (length rising - 1 - j) (length rising - 1 - i) d (omega (arith, h)) (omega (arith, h, b, size)))

-- ---- the whole
-- rows that are counted, in any order
pub counted_moved : (rows : List (List Bool)) (places : List ℕ) (ranked : List CountedRow) → All (IsUneven rows) places → IsPermutation (map (counted_row rows) places) ranked → All (IsCounted rows) ranked
counted_moved rows places ranked u moved = All-permutation (IsCounted rows) (map (counted_row rows) places) ranked moved (All-map (IsCounted rows) (counted_row rows) places (λ i d h. (u i d h, refl)))

counted_among : (rows : List (List Bool)) (places : List ℕ) (i : ℕ) → Contains places i → Contains (map (counted_row rows) places) (counted_row rows i)
counted_among rows places i c = (c.0, omega (arith, c.1, length-map places (counted_row rows)), get_or-map (counted_row rows) places c.0 i (counted_row rows i) c.1 ∙ ap (counted_row rows) c.2)

pub greatest_moved : (rows : List (List Bool)) (places : List ℕ) (ranked : List CountedRow) (found new : List ℕ) → AreUneven rows places → IsPermutation (map (counted_row rows) places) ranked → All (IsUneven rows) found → AreApart rows found → All (λ (row : CountedRow). IsWithinSome rows row.place found) ranked → IsPermutation found new → AreGreatest rows new
greatest_moved rows places ranked found new all ranking uneven apart led moved = record {
  uneven = All-permutation (IsUneven rows) found new moved uneven;
  apart = IsPermutation-keeps found (AreApart rows) apart (λ l i j hi hj a. apart_swapped l i j hi hj rows a) new moved;
  each = λ i u.
      led_moved rows found new i moved
      (All-contains (λ (row : CountedRow). IsWithinSome rows row.place found) ranked (counted_row rows i) led
      (Contains-permutation (map (counted_row rows) places) ranked (counted_row rows i) ranking (counted_among rows places i (all.each i u))));
}
