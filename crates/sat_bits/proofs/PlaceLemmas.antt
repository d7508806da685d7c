-- Places of a row by its words.
use Rattle.std.proofs.Common.{◌≡◌, ℕ, ◌+◌, ◌*◌, ◌/◌, ◌%◌, ◌^◌, ◌<◌, ◌≤◌, ◌&&◌, ◌||◌, ◌⊎◌, ◌≢◌, inl, inr, ◌-◌, bit_and, bit_or, set, Bool, false, IsTrue, List, length, take, drop, slice_index_or, refl, sym, ap, ◌∙◌, arith, subst}
use Rattle.std.specs.Int.Bits.{or_zero_r}
use Rattle.std.proofs.lemmas.Bool.{cases_lt, cases_eq}
use Rattle.std.proofs.lemmas.List.{get_or_past, length-set, get_or-set_same, get_or-set_other}
use Rattle.sat_bits.specs.Places.{bit_in, place, IsCovered, AreCovered, IsNoneMissing, AreNoneMissing, IsSubsetOfAnd}
use Rattle.sat_bits.proofs.BlockLemmas.{in_block, none_missing_from, none_missing_in}
use Rattle.sat_bits.proofs.WordLemmas.{bit_and_is, bit_or_is, covered_bits, covered_from_bits, covered_from_none, none_from_covered}

-- the first n words of a list are the conjunctions of those of two others
abbrev pub AreAnds : List ℕ → List ℕ → List ℕ → ℕ → Type 0
AreAnds a b c n = (k : ℕ) → k < n → slice_index_or c k 0 ≡ bit_and (slice_index_or a k 0) (slice_index_or b k 0)

-- place j of word k
pub place_of : (words : List ℕ) (k j : ℕ) → j < 64 → place words (k * 64 + j) ≡ bit_in (slice_index_or words k 0) j
place_of words k j h =
    let d : (k * 64 + j) / 64 ≡ k = omega arith in
    let m : (k * 64 + j) % 64 ≡ j = omega arith in
    ap (λ (q : ℕ). bit_in (slice_index_or words q 0) ((k * 64 + j) % 64)) d ∙ ap (λ (r : ℕ). bit_in (slice_index_or words k 0) r) m

word_and : (a b c : List ℕ) → length a ≡ length c → length b ≡ length c → AreAnds a b c (length c) → (k : ℕ) → slice_index_or c k 0 ≡ bit_and (slice_index_or a k 0) (slice_index_or b k 0)
word_and a b c la lb f k = by_order (cases_lt k (length c))
  where
    by_order : (k < length c) ⊎ (length c ≤ k) → slice_index_or c k 0 ≡ bit_and (slice_index_or a k 0) (slice_index_or b k 0)
    by_order (inl h) = f k h
    by_order (inr h) =
        get_or_past c k 0 h ∙ ap (λ (x : ℕ). bit_and x 0) (sym (get_or_past a k 0 (omega (arith, la, h))))
        ∙ ap (λ (y : ℕ). bit_and (slice_index_or a k 0) y) (sym (get_or_past b k 0 (omega (arith, lb, h))))

-- conjunctions word by word are conjunctions place by place
pub places_and : (a b c : List ℕ) → length a ≡ length c → length b ≡ length c → AreAnds a b c (length c) → (i : ℕ) → place c i ≡ (place a i && place b i)
places_and a b c la lb f i =
    ap (λ (w : ℕ). bit_in w (i % 64)) (word_and a b c la lb f (i / 64)) ∙ bit_and_is (slice_index_or a (i / 64) 0) (slice_index_or b (i / 64) 0) (i % 64)

-- ---- disjunctions
-- the first n words of a list are the disjunctions of those of two others, and the rest are those of the first
pub record AreOrs (a b c : List ℕ) (n : ℕ) : Type 0 where
  pub width : length c ≡ length a
  pub done : (k : ℕ) → k < n → slice_index_or c k 0 ≡ bit_or (slice_index_or a k 0) (slice_index_or b k 0)
  pub left : (k : ℕ) → n ≤ k → slice_index_or c k 0 ≡ slice_index_or a k 0

pub ors_none : (a b : List ℕ) → AreOrs a b a 0
ors_none a b = record { width = refl; done = λ k h. absurd (omega (arith, h)); left = λ k h. refl }

-- one word more
pub ors_more : (a b c : List ℕ) (n word : ℕ) → n < length a → AreOrs a b c n → word ≡ bit_or (slice_index_or c n 0) (slice_index_or b n 0) → AreOrs a b (set c n word) (n + 1)
ors_more a b c n word inside h is = record {
  width = length-set c n word ∙ h.width;
  done = λ k less. elim (cases_eq k n) as (λ _. slice_index_or (set c n word) k 0 ≡ bit_or (slice_index_or a k 0) (slice_index_or b k 0)) [
    | inl same ↦ rw same (get_or-set_same c n word 0 (omega (arith, h.width)) ∙ is ∙ ap (λ (w : ℕ). bit_or w (slice_index_or b n 0)) (h.left n (omega arith)))
    | inr other ↦ get_or-set_other c n k word 0 other ∙ h.done k (omega (arith, less, other))
  ];
  left = λ k more. get_or-set_other c n k word 0 (let ne : k ≢ n = omega arith in ne) ∙ h.left k (omega arith);
}

-- disjunctions word by word are disjunctions place by place
pub places_or : (a b c : List ℕ) (n : ℕ) → length b ≡ length a → length a ≤ n → AreOrs a b c n → (i : ℕ) → place c i ≡ (place a i || place b i)
places_or a b c n lb all h i = ap (λ (w : ℕ). bit_in w (i % 64)) (by_order (cases_lt (i / 64) n)) ∙ bit_or_is (slice_index_or a (i / 64) 0) (slice_index_or b (i / 64) 0) (i % 64)
  where
    by_order : (i / 64 < n) ⊎ (n ≤ i / 64) → slice_index_or c (i / 64) 0 ≡ bit_or (slice_index_or a (i / 64) 0) (slice_index_or b (i / 64) 0)
    by_order (inl l) = h.done (i / 64) l
    by_order (inr m) =
        h.left (i / 64) m ∙ sym (or_zero_r (slice_index_or a (i / 64) 0))
        ∙ ap (λ (w : ℕ). bit_or (slice_index_or a (i / 64) 0) w) (sym (get_or_past b (i / 64) 0 (omega (arith, lb, all, m))))

word_covered : (a b c : List ℕ) → length b ≡ length a → length c ≡ length a → AreCovered a b c (length a) → (k : ℕ) → IsCovered (slice_index_or a k 0) (slice_index_or b k 0) (slice_index_or c k 0)
word_covered a b c lb lc f k = by_order (cases_lt k (length a))
  where
    both_zero : (x y z : ℕ) → x ≡ 0 → y ≡ 0 → z ≡ 0 → IsCovered x y z
    both_zero x y z p q r = subst (λ (u : ℕ). IsCovered u y z) (sym p) (subst (λ (v : ℕ). IsCovered 0 v z) (sym q) (subst (λ (w : ℕ). IsCovered 0 0 w) (sym r) refl))

    by_order : (k < length a) ⊎ (length a ≤ k) → IsCovered (slice_index_or a k 0) (slice_index_or b k 0) (slice_index_or c k 0)
    by_order (inl h) = f k h
    by_order (inr h) = both_zero _ _ _ (get_or_past a k 0 h) (get_or_past b k 0 (omega (arith, lb, h))) (get_or_past c k 0 (omega (arith, lc, h)))

-- where all words are covered, the places are
pub subset_from_words : (a b c : List ℕ) → length b ≡ length a → length c ≡ length a → AreCovered a b c (length a) → IsSubsetOfAnd a b c
subset_from_words a b c lb lc f i ha hb =
    covered_bits (slice_index_or a (i / 64) 0) (slice_index_or b (i / 64) 0) (slice_index_or c (i / 64) 0) (i % 64) (word_covered a b c lb lc f (i / 64)) ha hb

-- and where the places are, all words are
pub words_from_subset : (a b c : List ℕ) (k : ℕ) → slice_index_or a k 0 < 2 ^ 64 → slice_index_or c k 0 < 2 ^ 64 → IsSubsetOfAnd a b c → IsCovered (slice_index_or a k 0) (slice_index_or b k 0) (slice_index_or c k 0)
words_from_subset a b c k fa fc f = covered_from_bits (slice_index_or a k 0) (slice_index_or b k 0) (slice_index_or c k 0) fa (λ j h p q.
    subst IsTrue (place_of c k j h) (f (k * 64 + j) (subst IsTrue (sym (place_of a k j h)) p) (subst IsTrue (sym (place_of b k j h)) q)))

none_of : (x y z u v w : ℕ) → x ≡ u → y ≡ v → z ≡ w → IsNoneMissing x y z → IsNoneMissing u v w
none_of x y z u v w ex ey ez h = subst (λ (n : ℕ). IsNoneMissing n v w) ex (subst (λ (n : ℕ). IsNoneMissing x n w) ey (subst (λ (n : ℕ). IsNoneMissing x y n) ez h))

-- ---- one block more
pub ands_more : (a b old new x y : List ℕ) (i : ℕ) → AreAnds a b old (i * 8) → x ≡ take 8 (drop (i * 8) a) → y ≡ take 8 (drop (i * 8) b)
    → ((k : ℕ) → k < 8 → slice_index_or new (i * 8 + k) 0 ≡ bit_and (slice_index_or x k 0) (slice_index_or y k 0))
    → ((k : ℕ) → k < i * 8 → slice_index_or new k 0 ≡ slice_index_or old k 0) → AreAnds a b new ((i + 1) * 8)
ands_more a b old new x y i before ex ey inside outside k h = by_order (cases_lt k (i * 8))
  where
    at : (j : ℕ) → j < 8 → slice_index_or new (i * 8 + j) 0 ≡ bit_and (slice_index_or a (i * 8 + j) 0) (slice_index_or b (i * 8 + j) 0)
    at j l = inside j l ∙ ap (λ (u : ℕ). bit_and u (slice_index_or y j 0)) (in_block i j a x l ex) ∙ ap (λ (v : ℕ). bit_and (slice_index_or a (i * 8 + j) 0) v) (in_block i j b y l ey)

    by_order : (k < i * 8) ⊎ (i * 8 ≤ k) → slice_index_or new k 0 ≡ bit_and (slice_index_or a k 0) (slice_index_or b k 0)
    by_order (inl l) = outside k l ∙ before k l
    by_order (inr l) =
        let e : i * 8 + (k - i * 8) ≡ k = omega arith in
        subst (λ (n : ℕ). slice_index_or new n 0 ≡ bit_and (slice_index_or a n 0) (slice_index_or b n 0)) e (at (k - i * 8) (omega arith))

pub covered_more : (a b c x y z : List ℕ) (i : ℕ) → ((k : ℕ) → slice_index_or a k 0 < 2 ^ 64) → ((k : ℕ) → slice_index_or c k 0 < 2 ^ 64) → AreCovered a b c (i * 8)
    → x ≡ take 8 (drop (i * 8) a) → y ≡ take 8 (drop (i * 8) b) → z ≡ take 8 (drop (i * 8) c) → AreNoneMissing x y z 8 → AreCovered a b c ((i + 1) * 8)
covered_more a b c x y z i fa fc before ex ey ez none k h = by_order (cases_lt k (i * 8))
  where
    at : (j : ℕ) → j < 8 → IsCovered (slice_index_or a (i * 8 + j) 0) (slice_index_or b (i * 8 + j) 0) (slice_index_or c (i * 8 + j) 0)
    at j l = covered_from_none (slice_index_or a (i * 8 + j) 0) (slice_index_or b (i * 8 + j) 0) (slice_index_or c (i * 8 + j) 0) (fa (i * 8 + j)) (fc (i * 8 + j)) (none_missing_from a b c x y z i ex ey ez none j l)

    by_order : (k < i * 8) ⊎ (i * 8 ≤ k) → IsCovered (slice_index_or a k 0) (slice_index_or b k 0) (slice_index_or c k 0)
    by_order (inl l) = before k l
    by_order (inr l) =
        let e : i * 8 + (k - i * 8) ≡ k = omega arith in
        subst (λ (n : ℕ). IsCovered (slice_index_or a n 0) (slice_index_or b n 0) (slice_index_or c n 0)) e (at (k - i * 8) (omega arith))

pub none_from_subset : (a b c : List ℕ) (k : ℕ) → ((k : ℕ) → slice_index_or a k 0 < 2 ^ 64) → ((k : ℕ) → slice_index_or c k 0 < 2 ^ 64) → IsSubsetOfAnd a b c → IsNoneMissing (slice_index_or a k 0) (slice_index_or b k 0) (slice_index_or c k 0)
none_from_subset a b c k fa fc f = none_from_covered (slice_index_or a k 0) (slice_index_or b k 0) (slice_index_or c k 0) (fa k) (fc k) (words_from_subset a b c k (fa k) (fc k) f)

-- one word more
pub covered_word_more : (a b c : List ℕ) (x y z n : ℕ) → ((k : ℕ) → slice_index_or a k 0 < 2 ^ 64) → ((k : ℕ) → slice_index_or c k 0 < 2 ^ 64) → AreCovered a b c n
    → x ≡ slice_index_or a n 0 → y ≡ slice_index_or b n 0 → z ≡ slice_index_or c n 0 → IsNoneMissing x y z → AreCovered a b c (n + 1)
covered_word_more a b c x y z n fa fc before ex ey ez none k h = by_order (cases_lt k n)
  where
    at : IsCovered (slice_index_or a n 0) (slice_index_or b n 0) (slice_index_or c n 0)
    at = covered_from_none (slice_index_or a n 0) (slice_index_or b n 0) (slice_index_or c n 0) (fa n) (fc n) (none_of x y z (slice_index_or a n 0) (slice_index_or b n 0) (slice_index_or c n 0) ex ey ez none)

    by_order : (k < n) ⊎ (n ≤ k) → IsCovered (slice_index_or a k 0) (slice_index_or b k 0) (slice_index_or c k 0)
    by_order (inl l) = before k l
    by_order (inr l) =
        let e : n ≡ k = omega arith in
        subst (λ (m : ℕ). IsCovered (slice_index_or a m 0) (slice_index_or b m 0) (slice_index_or c m 0)) e at

-- where a block or a word isn't covered, the row isn't
pub none_in_block : (a b c x y z : List ℕ) (i : ℕ) → ((k : ℕ) → slice_index_or a k 0 < 2 ^ 64) → ((k : ℕ) → slice_index_or c k 0 < 2 ^ 64)
    → x ≡ take 8 (drop (i * 8) a) → y ≡ take 8 (drop (i * 8) b) → z ≡ take 8 (drop (i * 8) c) → IsSubsetOfAnd a b c → AreNoneMissing x y z 8
none_in_block a b c x y z i fa fc ex ey ez f = none_missing_in a b c x y z i ex ey ez (λ k. none_from_subset a b c k fa fc f)

pub none_in_word : (a b c : List ℕ) (x y z n : ℕ) → ((k : ℕ) → slice_index_or a k 0 < 2 ^ 64) → ((k : ℕ) → slice_index_or c k 0 < 2 ^ 64)
    → x ≡ slice_index_or a n 0 → y ≡ slice_index_or b n 0 → z ≡ slice_index_or c n 0 → IsSubsetOfAnd a b c → IsNoneMissing x y z
none_in_word a b c x y z n fa fc ex ey ez f = none_of (slice_index_or a n 0) (slice_index_or b n 0) (slice_index_or c n 0) x y z (sym ex) (sym ey) (sym ez) (none_from_subset a b c n fa fc f)

-- the answer no
no_truth : IsTrue false → ⊥
no_truth h = grind (arith, h)

pub says_no : {S B : Type 0} (result : Bool) → result ≡ false → (IsTrue result → B) × (B → IsTrue result) → (S → B) → (IsTrue false → S) × (S → IsTrue false)
says_no result e r f = (λ h. absurd (no_truth h), λ s. subst IsTrue e (r.1 (f s)))
