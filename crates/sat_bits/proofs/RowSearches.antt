-- Rows of as many words each, one after another, and searches among them.
use Rattle.std.proofs.Common.{◌≡◌, ◌↔◌, ℕ, suc, ◌+◌, ◌*◌, ◌^◌, ◌<◌, ◌≤◌, ◌⊎◌, ◌≢◌, ◌-◌, inl, inr, bit_and, List, length, get_or, drop, refl, ap, sym, subst, ◌∙◌, arith, length-take, length-drop}
use Rattle.std.proofs.Math.Nat.{mul-le-mul_right}
use Rattle.std.proofs.lemmas.Bool.{cases_eq, cases_lt}
use Rattle.std.proofs.lemmas.List.{get_or_past, get_or-take, get_or-drop}
use Rattle.sat_bits.specs.Places.{IsNoneMissing, IsCovered, AreCovered, IsSubsetOfAnd, IsThirdWord, HasThirdWord}
use Rattle.sat_bits.specs.Searches.{row_words, IsThirdRow, HasThirdRow, HasOtherRow, HaveCommonBit, IsFirstFrom, shared_places, shared_by}
use Rattle.sat_bits.proofs.PlaceLemmas.{covered_word_more, subset_from_words, none_in_word}

-- the words of a row lie before those of the end
pub row_end : (w n i : ℕ) → i < n → i * w + w ≤ n * w
row_end w n i h = let le : suc i ≤ n = omega arith in omega (arith, mul-le-mul_right w le)

pub length-row_words : (cells : List ℕ) (w i : ℕ) → i * w + w ≤ length cells → length (row_words cells w i) ≡ w
length-row_words cells w i h = omega (arith, length-take w (drop (i * w) cells), length-drop (i * w) cells, h)

pub places_along : (a b c d : List ℕ) → a ≡ c → b ≡ d → shared_places a b ≡ shared_places c d
places_along a b c d e f = ap (λ (x : List ℕ). shared_places x b) e ∙ ap (λ (y : List ℕ). shared_places c y) f

-- what is owed of the rows that a list names, at a width that is told twice
pub rows_along : (cells among : List ℕ) (w v : ℕ) → w ≡ v → ((q : ℕ) → q < length among → get_or among q 0 * w + w ≤ length cells)
    → (q : ℕ) → q < length among → get_or among q 0 * v + v ≤ length cells
rows_along cells among w v e f = subst (λ (n : ℕ). (q : ℕ) → q < length among → get_or among q 0 * n + n ≤ length cells) e f

pub few_along : (cells among : List ℕ) (i w v : ℕ) → w ≡ v → ((q : ℕ) → q < length among → shared_by cells w i (get_or among q 0) < 2 ^ 64)
    → (q : ℕ) → q < length among → shared_by cells v i (get_or among q 0) < 2 ^ 64
few_along cells among i w v e f = subst (λ (n : ℕ). (q : ℕ) → q < length among → shared_by cells n i (get_or among q 0) < 2 ^ 64) e f

pub none_more : (holds : ℕ → Type 0) (from q : ℕ) → ((p : ℕ) → from ≤ p → p < q → ¬ (holds p)) → ¬ (holds q) → (p : ℕ) → from ≤ p → p < q + 1 → ¬ (holds p)
none_more holds from q before here p a b h = elim (cases_eq p q) [
  | inl e ↦ here (subst holds e h)
  | inr other ↦ before p a (omega (arith, b, other)) h
]

-- the words of a row fit where all words do
pub words_fit : (cells row : List ℕ) (w i : ℕ) → row ≡ row_words cells w i → ((k : ℕ) → get_or cells k 0 < 2 ^ 64) → (k : ℕ) → get_or row k 0 < 2 ^ 64
words_fit cells row w i e fits k = subst (λ (words : List ℕ). get_or words k 0 < 2 ^ 64) (sym e) (by_order (cases_lt k w))
  where
    by_order : (k < w) ⊎ (w ≤ k) → get_or (row_words cells w i) k 0 < 2 ^ 64
    by_order (inl h) = omega (arith, get_or-take w (drop (i * w) cells) k 0 h, get_or-drop (i * w) cells k 0, fits (i * w + k))
    by_order (inr h) = omega (arith, get_or_past (row_words cells w i) k 0 (omega (arith, length-take w (drop (i * w) cells), h)))

-- rows that are equal to three rows are covered as these are
pub subset_along : (a b c x y z : List ℕ) → a ≡ x → b ≡ y → c ≡ z → IsSubsetOfAnd x y z → IsSubsetOfAnd a b c
subset_along a b c x y z ea eb ec h =
    subst (λ (u : List ℕ). IsSubsetOfAnd u b c) (sym ea) (subst (λ (v : List ℕ). IsSubsetOfAnd x v c) (sym eb) (subst (λ (w : List ℕ). IsSubsetOfAnd x y w) (sym ec) h))

-- ---- rows without a bit that both have
-- one of the first three rows is another than two
pub other_of_three : (rows i j : ℕ) → 2 < rows → HasOtherRow rows i j
other_of_three rows i j h = elim (cases_eq 0 i) [
  | inl e ↦ elim (cases_eq 1 j) [
    | inl f ↦ (2, h, let n : 2 ≢ i = omega (arith, e) in n, let n : 2 ≢ j = omega (arith, f) in n)
    | inr second ↦ (1, omega (arith, h), let n : 1 ≢ i = omega (arith, e) in n, second)
  ]
  | inr first ↦ elim (cases_eq 0 j) [
    | inl e ↦ elim (cases_eq 1 i) [
      | inl f ↦ (2, h, let n : 2 ≢ i = omega (arith, f) in n, let n : 2 ≢ j = omega (arith, e) in n)
      | inr other ↦ (1, omega (arith, h), other, let n : 1 ≢ j = omega (arith, e) in n)
    ]
    | inr second ↦ (0, omega (arith, h), first, second)
  ]
]

-- of two rows, the other one
pub other_of_two : (rows i j : ℕ) → rows ≡ 2 → i < rows → i ≡ j → HasOtherRow rows i j
other_of_two rows i j two h e = (1 - i, omega (arith, two), let n : 1 - i ≢ i = omega arith in n, let n : 1 - i ≢ j = omega (arith, e) in n)

none_covered : (x y z : ℕ) → bit_and x y ≡ 0 → IsCovered x y z
none_covered x y z e = subst (λ (n : ℕ). bit_and n z ≡ n) (sym e) refl

-- rows that have no bit in one word have none that a third row lacks
apart_subset : (a b c : List ℕ) → length b ≡ length a → length c ≡ length a → ((k : ℕ) → k < length a → ¬ (HaveCommonBit a b k)) → IsSubsetOfAnd a b c
apart_subset a b c lb lc none = subset_from_words a b c lb lc (λ k h. elim (cases_eq (bit_and (get_or a k 0) (get_or b k 0)) 0) [
  | inl e ↦ none_covered (get_or a k 0) (get_or b k 0) (get_or c k 0) e
  | inr common ↦ absurd (none k h common)
])

-- where two rows have no word in which both have a bit, each other row is a third one
pub third_apart : (cells first second : List ℕ) (width rows i j next : ℕ) (S : Type 0) → length cells ≡ rows * width → first ≡ row_words cells width i → second ≡ row_words cells width j
    → length first ≡ width → length second ≡ width → IsFirstFrom (HaveCommonBit first second) 0 (length first) next → next ≡ width → S ↔ HasOtherRow rows i j → S ↔ HasThirdRow cells width rows i j
third_apart cells first second width rows i j next S size ei ej li lj none all r =
    let to : (k : ℕ) → k < rows → k ≢ i → k ≢ j → IsThirdRow cells width rows i j k = λ k h a b.
    let lk : length (row_words cells width k) ≡ width = length-row_words cells width k (omega (arith, size, row_end width rows k h)) in
    record {
      row = h;
      not_first = a;
      not_second = b;
      covers = subset_along (row_words cells width i) (row_words cells width j) (row_words cells width k) first second (row_words cells width k) (sym ei) (sym ej) refl
          (apart_subset first second (row_words cells width k) (lj ∙ sym li) (lk ∙ sym li) (λ q l. none.before q (omega arith) (omega (arith, l, all, li))));
    } in
    let from : (k : ℕ) → IsThirdRow cells width rows i j k → HasOtherRow rows i j = λ k t. (k, t.row, t.not_first, t.not_second) in
    (λ h. let x = r.0 h in (x.0, to x.0 x.1 x.2 x.3), λ h. r.1 (from h.0 h.1))

-- ---- rows of one word
-- the row is that word alone
record IsWord (row : List ℕ) (word : ℕ) : Type 0 where
  pub one : length row ≡ 1
  pub is : get_or row 0 0 ≡ word
  pub fits : word < 2 ^ 64

word_fits : (row : List ℕ) (word : ℕ) → IsWord row word → (k : ℕ) → get_or row k 0 < 2 ^ 64
word_fits row word r k = by_order (cases_lt k 1)
  where
    by_order : (k < 1) ⊎ (1 ≤ k) → get_or row k 0 < 2 ^ 64
    by_order (inl h) =
        let first : k ≡ 0 = omega arith in
        omega (arith, ap (λ (i : ℕ). get_or row i 0) first, r.is, r.fits)
    by_order (inr h) = omega (arith, get_or_past row k 0 (omega (arith, r.one, h)))

covered_words : (a b c : List ℕ) (x y z : ℕ) → IsWord a x → IsWord b y → IsWord c z → IsNoneMissing x y z → IsSubsetOfAnd a b c
covered_words a b c x y z ra rb rc none =
    let before : AreCovered a b c 0 = λ k h. absurd (omega (arith, h)) in
    let first : AreCovered a b c (0 + 1) = covered_word_more a b c x y z 0 (word_fits a x ra) (word_fits c z rc) before (sym ra.is) (sym rb.is) (sym rc.is) none in
    subset_from_words a b c (rb.one ∙ sym ra.one) (rc.one ∙ sym ra.one) (λ k h. first k (omega (arith, h, ra.one)))

none_of_words : (a b c : List ℕ) (x y z : ℕ) → IsWord a x → IsWord b y → IsWord c z → IsSubsetOfAnd a b c → IsNoneMissing x y z
none_of_words a b c x y z ra rb rc h = none_in_word a b c x y z 0 (word_fits a x ra) (word_fits c z rc) (sym ra.is) (sym rb.is) (sym rc.is) h

-- row i of rows of single words is word i
word_row : (cells : List ℕ) (i : ℕ) → ((k : ℕ) → get_or cells k 0 < 2 ^ 64) → i < length cells → IsWord (row_words cells 1 i) (get_or cells i 0)
word_row cells i fits below =
    let at : i * 1 + 0 ≡ i = omega arith in
    record {
      one = length-row_words cells 1 i (omega (arith, below));
      is = get_or-take 1 (drop (i * 1) cells) 0 0 (omega arith) ∙ get_or-drop (i * 1) cells 0 0 ∙ ap (λ (q : ℕ). get_or cells q 0) at;
      fits = fits i;
    }

-- a third word is a third row
pub third_words : (cells : List ℕ) (width rows i j : ℕ) (S : Type 0) → width ≡ 1 → length cells ≡ rows * width → ((k : ℕ) → get_or cells k 0 < 2 ^ 64) → i < rows → j < rows
    → S ↔ HasThirdWord cells i j → S ↔ HasThirdRow cells width rows i j
third_words cells width rows i j S one size fits in_i in_j r =
    let count : length cells ≡ rows = omega (arith, size, ap (λ (w : ℕ). rows * w) one) in
    let word : (k : ℕ) → k < rows → IsWord (row_words cells 1 k) (get_or cells k 0) = λ k h. word_row cells k fits (omega (arith, count, h)) in
    let to : (k : ℕ) → IsThirdWord cells i j k → IsThirdRow cells 1 rows i j k = λ k h.
    let in_k : k < rows = omega (arith, count, h.inside) in
    record {
      row = in_k;
      not_first = h.not_first;
      not_second = h.not_second;
      covers = covered_words (row_words cells 1 i) (row_words cells 1 j) (row_words cells 1 k) (get_or cells i 0) (get_or cells j 0) (get_or cells k 0) (word i in_i) (word j in_j) (word k in_k) h.covers;
    } in
    let from : (k : ℕ) → IsThirdRow cells 1 rows i j k → IsThirdWord cells i j k = λ k h. record {
      inside = omega (arith, count, h.row);
      not_first = h.not_first;
      not_second = h.not_second;
      covers = none_of_words (row_words cells 1 i) (row_words cells 1 j) (row_words cells 1 k) (get_or cells i 0) (get_or cells j 0) (get_or cells k 0) (word i in_i) (word j in_j) (word k h.row) h.covers;
    } in
    subst (λ (w : ℕ). S ↔ HasThirdRow cells w rows i j) (sym one) (λ h. let x = r.0 h in (x.0, to x.0 x.1), λ h. r.1 (h.0, from h.0 h.1))
