-- How many places are true.
use Rattle.std.proofs.Common.{◌≡◌, ◌↔◌, ℕ, zero, suc, ◌+◌, ◌-◌, ◌*◌, ◌^◌, ◌<◌, ◌≤◌, ◌&&◌, Bool, true, false, IsTrue, cond, min, bit_and, nat_eq, w64, List, [], ◌∷◌, length, map, slice_index_or, refl, sym, ap, ◌∙◌, arith}
use Rattle.std.specs.Prelude.{not}
use Rattle.std.specs.Int.{bit_at}
use Rattle.std.specs.Int.RustNames.{count_ones}
use Rattle.std.specs.List.{range_with_len, count_by}
use Rattle.std.specs.Simd.Lanes.{mask_l}
use Rattle.std.proofs.lemmas.Simd.{mask_l-lt, bit_mask_l, ones-mask_l}
use Rattle.std.proofs.lemmas.Nat.{and_le_l}
use Rattle.std.proofs.lemmas.Nat.Bits.{bit_at-lt, bit_at_and, bit_at_not, same_from_bits_below}
use Rattle.std.proofs.lemmas.List.FromFn.{length-range_with_len, length-map-range_with_len, get_or-map-range_with_len}
use Rattle.std.proofs.lemmas.List.Sums.{sum_by-cons, count_by-le-length}
use Rattle.sat_bits.specs.Places.{bit_in, place}
use Rattle.sat_bits.specs.Searches.{shared_places}
use Rattle.sat_bits.proofs.WordLemmas.{bit_and_is, from_true, to_true}
use Rattle.sat_bits.proofs.PlaceLemmas.{place_of}

bit_again : (n : ℕ) → n < 2 → cond (nat_eq n 1) 1 0 ≡ n
bit_again n h = grind (arith, h)

bits_below : (ms : List Bool) → length ms ≡ 64 → mask_l ms < 2 ^ 64
bits_below ms e = omega (arith, mask_l-lt ms, ap (λ (n : ℕ). 2 ^ n) e)

-- a word is the mask of its bits
word_is : (word : ℕ) → word < 2 ^ 64 → mask_l (map (bit_in word) (range_with_len 0 64)) ≡ word
word_is word fits =
    let ms : List Bool = map (bit_in word) (range_with_len 0 64) in
    same_from_bits_below 64 (mask_l ms) word (bits_below ms (length-map-range_with_len (bit_in word) 0 64)) fits
    (λ j h. bit_mask_l ms j ∙ ap (λ (b : Bool). cond b 1 0) (get_or-map-range_with_len (bit_in word) 0 64 j j false h (omega arith)) ∙ bit_again (bit_at word j) (bit_at-lt word j))

pub word_count : (word : ℕ) → word < 2 ^ 64 → count_ones word ≡ count_by (bit_in word) (range_with_len 0 64)
word_count word fits = ap (λ (w : ℕ). count_ones w) (sym (word_is word fits)) ∙ ones-mask_l (bit_in word) (range_with_len 0 64)

-- runs of places that agree have one count
shifted : (p q : ℕ → Bool) (s t n : ℕ) → ((i : ℕ) → i < n → p (s + i) ≡ q (t + i)) → count_by p (range_with_len s n) ≡ count_by q (range_with_len t n)
shifted p q s t zero f = refl
shifted p q s t (suc n) f =
    sum_by-cons (λ (x : ℕ). cond (p x) 1 0) s (range_with_len (s + 1) n)
    ∙ ap (λ (b : Bool). cond b 1 0 + count_by p (range_with_len (s + 1) n)) (ap p (omega arith) ∙ f 0 (omega arith) ∙ ap q (omega arith))
    ∙ ap (λ (k : ℕ). cond (q t) 1 0 + k) (shifted p q (s + 1) (t + 1) n (λ i h. ap p (omega arith) ∙ f (suc i) (omega arith) ∙ ap q (omega arith)))
    ∙ sym (sum_by-cons (λ (x : ℕ). cond (q x) 1 0) t (range_with_len (t + 1) n))

none_plus : (n : ℕ) → 0 + n ≡ n
none_plus n = omega arith

from_start : (k j : ℕ) → 0 + k * 64 + j ≡ k * 64 + j
from_start k j = omega arith

plus_zero : (s : ℕ) → s ≡ s + 0
plus_zero s = omega arith

one_more : (m n : ℕ) → suc m + n ≡ suc (m + n)
one_more m n = omega arith

moved : (s m : ℕ) → s + 1 + m ≡ s + suc m
moved s m = omega arith

grouped : (a b c : ℕ) → a + (b + c) ≡ a + b + c
grouped a b c = omega arith

plus_none : (k : ℕ) → k ≡ 0 + k
plus_none k = omega arith

-- a run of places is one run and the next
pub joined : (p : ℕ → Bool) (s m n : ℕ) → count_by p (range_with_len s (m + n)) ≡ count_by p (range_with_len s m) + count_by p (range_with_len (s + m) n)
joined p s zero n = ap (λ (k : ℕ). count_by p (range_with_len s k)) (none_plus n) ∙ ap (λ (k : ℕ). count_by p (range_with_len k n)) (plus_zero s) ∙ plus_none (count_by p (range_with_len (s + 0) n))
joined p s (suc m) n =
    ap (λ (k : ℕ). count_by p (range_with_len s k)) (one_more m n)
    ∙ sum_by-cons (λ (x : ℕ). cond (p x) 1 0) s (range_with_len (s + 1) (m + n))
    ∙ ap (λ (k : ℕ). cond (p s) 1 0 + k) (joined p (s + 1) m n ∙ ap (λ (k : ℕ). count_by p (range_with_len (s + 1) m) + count_by p (range_with_len k n)) (moved s m))
    ∙ grouped (cond (p s) 1 0) (count_by p (range_with_len (s + 1) m)) (count_by p (range_with_len (s + suc m) n))
    ∙ ap (λ (k : ℕ). k + count_by p (range_with_len (s + suc m) n)) (sym (sum_by-cons (λ (x : ℕ). cond (p x) 1 0) s (range_with_len (s + 1) m)))

-- where the places of a word are its bits, the word adds its ones
pub count_more : (p : ℕ → Bool) (k word : ℕ) → word < 2 ^ 64 → ((j : ℕ) → j < 64 → p (k * 64 + j) ≡ bit_in word j) → count_by p (range_with_len 0 ((k + 1) * 64)) ≡ count_by p (range_with_len 0 (k * 64)) + count_ones word
count_more p k word fits same =
    let size : (k + 1) * 64 ≡ k * 64 + 64 = omega arith in
    let here : count_by p (range_with_len (0 + k * 64) 64) ≡ count_ones word = shifted p (bit_in word) (0 + k * 64) 0 64 (λ j h. ap p (from_start k j) ∙ same j h ∙ ap (bit_in word) (sym (none_plus j))) ∙ sym (word_count word fits) in
    ap (λ (n : ℕ). count_by p (range_with_len 0 n)) size
    ∙ joined p 0 (k * 64) 64
    ∙ ap (λ (n : ℕ). count_by p (range_with_len 0 (k * 64)) + n) here

-- the ones so far fit, since they are no more than all
pub count_fits : (p : ℕ → Bool) (k n word total : ℕ) → word < 2 ^ 64 → ((j : ℕ) → j < 64 → p (k * 64 + j) ≡ bit_in word j) → k < n → count_by p (range_with_len 0 (n * 64)) < 2 ^ 64 → total ≡ count_by p (range_with_len 0 (k * 64)) → total + count_ones word < 2 ^ 64
count_fits p k n word total fits same below few is =
    let size : n * 64 ≡ (k + 1) * 64 + (n - (k + 1)) * 64 = omega (arith, below) in
    let all : count_by p (range_with_len 0 (n * 64)) ≡ count_by p (range_with_len 0 ((k + 1) * 64)) + count_by p (range_with_len (0 + (k + 1) * 64) ((n - (k + 1)) * 64)) = ap (λ (m : ℕ). count_by p (range_with_len 0 m)) size ∙ joined p 0 ((k + 1) * 64) ((n - (k + 1)) * 64) in
    omega (arith, all, count_more p k word fits same, is, few)

-- no more places are true than there are
pub true_places-le : (p : ℕ → Bool) (n : ℕ) → count_by p (range_with_len 0 n) ≤ n
true_places-le p n = omega (arith, count_by-le-length p (range_with_len 0 n), length-range_with_len 0 n)

pub both_in : (a b : List ℕ) (k j : ℕ) → j < 64 → (place a (k * 64 + j) && place b (k * 64 + j)) ≡ bit_in (bit_and (slice_index_or a k 0) (slice_index_or b k 0)) j
both_in a b k j h =
    ap (λ (x : Bool). x && place b (k * 64 + j)) (place_of a k j h)
    ∙ ap (λ (y : Bool). bit_in (slice_index_or a k 0) j && y) (place_of b k j h)
    ∙ sym (bit_and_is (slice_index_or a k 0) (slice_index_or b k 0) j)

-- ---- places of one row alone
-- the first row is true at a place at which the second isn't
abbrev pub apart_at : List ℕ → List ℕ → ℕ → Bool
apart_at a b i = place a i && not (place b i)

bit_of_first : (m n k : ℕ) → m < 2 → n < 2 → k ≡ min m (1 - n) → nat_eq k 1 ≡ (nat_eq m 1 && not (nat_eq n 1))
bit_of_first m n k hm hn e = grind (arith, hm, hn, e)

first_bits : (a b j : ℕ) → b < 2 ^ 64 → j < 64 → bit_in (bit_and a (2 ^ 64 - 1 - b)) j ≡ (bit_in a j && not (bit_in b j))
first_bits a b j fits h =
    bit_of_first (bit_at a j) (bit_at b j) (bit_at (bit_and a (2 ^ 64 - 1 - b)) j) (bit_at-lt a j) (bit_at-lt b j)
    (bit_at_and a (2 ^ 64 - 1 - b) j ∙ ap (λ (n : ℕ). min (bit_at a j) n) (bit_at_not w64 b j fits h))

pub apart_in : (a b : List ℕ) (k j : ℕ) → slice_index_or b k 0 < 2 ^ 64 → j < 64 → apart_at a b (k * 64 + j) ≡ bit_in (bit_and (slice_index_or a k 0) (2 ^ 64 - 1 - slice_index_or b k 0)) j
apart_in a b k j fits h =
    ap (λ (x : Bool). x && not (place b (k * 64 + j))) (place_of a k j h)
    ∙ ap (λ (y : Bool). bit_in (slice_index_or a k 0) j && not y) (place_of b k j h)
    ∙ sym (first_bits (slice_index_or a k 0) (slice_index_or b k 0) j fits h)

-- the next words add the ones of the first that the second lacks
pub apart_more : (a b : List ℕ) (k : ℕ) → slice_index_or a k 0 < 2 ^ 64 → slice_index_or b k 0 < 2 ^ 64
    → count_by (apart_at a b) (range_with_len 0 ((k + 1) * 64)) ≡ count_by (apart_at a b) (range_with_len 0 (k * 64)) + count_ones (bit_and (slice_index_or a k 0) (2 ^ 64 - 1 - slice_index_or b k 0))
apart_more a b k fits_a fits_b =
    count_more (apart_at a b) k (bit_and (slice_index_or a k 0) (2 ^ 64 - 1 - slice_index_or b k 0)) (omega (arith, and_le_l (slice_index_or a k 0) (2 ^ 64 - 1 - slice_index_or b k 0), fits_a)) (λ j h. apart_in a b k j fits_b h)

in_both_or_one : (x y : Bool) → cond x 1 0 ≡ cond (x && y) 1 0 + cond (x && not y) 1 0
in_both_or_one true true = refl
in_both_or_one true false = refl
in_both_or_one false y = refl

-- a place of the first is one of both or of the first alone
split : (p q : ℕ → Bool) (xs : List ℕ) → count_by p xs ≡ count_by (λ i. p i && q i) xs + count_by (λ i. p i && not (q i)) xs
split p q [] = refl
split p q (x ∷ xs) =
    omega (arith, split p q xs, in_both_or_one (p x) (q x), sum_by-cons (λ (i : ℕ). cond (p i) 1 0) x xs, sum_by-cons (λ (i : ℕ). cond (p i && q i) 1 0) x xs, sum_by-cons (λ (i : ℕ). cond (p i && not (q i)) 1 0) x xs)

pub one_apart : (a b : List ℕ) (n : ℕ) → n ≡ count_by (apart_at a b) (range_with_len 0 (length a * 64)) → IsTrue (nat_eq n 1) ↔ (count_by (place a) (range_with_len 0 (length a * 64)) ≡ shared_places a b + 1)
one_apart a b n e =
    let parts = split (place a) (place b) (range_with_len 0 (length a * 64)) in
    (λ h. let one : n ≡ 1 = from_true n h in omega (arith, parts, e, one), λ h. to_true n (omega (arith, parts, e, h)))

-- two places of the first alone are two in all
pub two_apart : (a b : List ℕ) (k n : ℕ) → k ≤ length a → n ≡ count_by (apart_at a b) (range_with_len 0 (k * 64)) → 1 < n → ¬ (count_by (place a) (range_with_len 0 (length a * 64)) ≡ shared_places a b + 1)
two_apart a b k n within e two h =
    let parts = split (place a) (place b) (range_with_len 0 (length a * 64)) in
    let size : length a * 64 ≡ k * 64 + (length a - k) * 64 = omega (arith, within) in
    let rest = ap (λ (m : ℕ). count_by (apart_at a b) (range_with_len 0 m)) size ∙ joined (apart_at a b) 0 (k * 64) ((length a - k) * 64) in
    omega (arith, parts, rest, e, two, h)
