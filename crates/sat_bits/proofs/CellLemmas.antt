-- Places of rows that stand one after another.
use Rattle.std.proofs.Common.{◌≡◌, ◌≢◌, ◌↔◌, ◌⊎◌, inl, inr, ℕ, suc, ◌+◌, ◌*◌, ◌/◌, ◌%◌, ◌-◌, ◌^◌, ◌<◌, ◌≤◌, Bool, true, false, ◌&&◌, ◌||◌, bit_and, bit_or, IsTrue, ℤ, pos, List, length, get_or, set, nat_eq, w64, refl, sym, ap, ◌∙◌, arith}
use Rattle.std.specs.Int.{trailing_zeros, bit_not}
use Rattle.std.specs.Ordering.{int_eq}
use Rattle.std.proofs.Math.Nat.{mul-le-mul_right}
use Rattle.std.proofs.lemmas.Bool.{cases_eq, cases_lt}
use Rattle.std.proofs.lemmas.List.{length-set, get_or-set_same, get_or-set_other, get_or_past}
use Rattle.std.proofs.lemmas.Nat.{and_le_l, pow_below}
use Rattle.std.proofs.lemmas.Nat.Bits.{bit_at-zero, bit_at-trailing_zeros, bit_at_clear_same, bit_at_clear_other, bit_at_ones, bit_at_ones_above}
use Rattle.sat_bits.specs.Places.{bit_in, place}
use Rattle.sat_bits.specs.Cells.{cell_place, IsBitOf, IsMarked, IsZeroColumn, IsFrontFilled, IsJoined, IsWrittenBehind}
use Rattle.sat_bits.proofs.WordLemmas.{bit_and_is, bit_or_is}

-- ---- where a row lies
pub row_ends : (w n i : ℕ) → i < n → i * w + w ≤ n * w
row_ends w n i below = let le : suc i ≤ n = omega arith in omega (arith, mul-le-mul_right w le)

-- words of two rows are apart
rows_apart : (w i k c d : ℕ) → i ≢ k → c < w → d < w → i * w + c ≢ k * w + d
rows_apart w i k c d other in_c in_d e =
    elim (cases_lt i k) [ inl less ↦ absurd (omega (arith, e, row_ends w k i less)) | inr more ↦ absurd (omega (arith, e, row_ends w i k (omega arith))) ]

pub times_most : (n w : ℕ) → 0 < w → n ≤ n * w
times_most n w some = let le : 1 ≤ w = omega arith in omega (arith, mul-le-mul_right n le)

-- ---- one place that is written
pub record IsCellSet (width row column : ℕ) (bit : Bool) (old new : List ℕ) : Type 0 where
  pub len : length new ≡ length old
  pub same : cell_place new width row column ≡ bit
  pub others : (i j : ℕ) → j < width * 64 → (i ≢ row) ⊎ (j ≢ column) → cell_place new width i j ≡ cell_place old width i j

module _ (cells : List ℕ) (w r k word : ℕ) (within : r * w + w ≤ length cells) (in_row : k < w) where
  pub cell_written : (j : ℕ) → j / 64 ≡ k → cell_place (set cells (r * w + k) word) w r j ≡ bit_in word (j % 64)
  cell_written j e =
      ap (λ (q : ℕ). bit_in (get_or (set cells (r * w + k) word) (r * w + q) 0) (j % 64)) e
      ∙ ap (λ (v : ℕ). bit_in v (j % 64)) (get_or-set_same cells (r * w + k) word 0 (omega arith))

  kept_at : (i j : ℕ) → i * w + j / 64 ≢ r * w + k → cell_place (set cells (r * w + k) word) w i j ≡ cell_place cells w i j
  kept_at i j apart = ap (λ (v : ℕ). bit_in v (j % 64)) (get_or-set_other cells (r * w + k) (i * w + j / 64) word 0 apart)

  pub cell_kept : (i j : ℕ) → j < w * 64 → (i ≢ r) ⊎ (j / 64 ≢ k) → cell_place (set cells (r * w + k) word) w i j ≡ cell_place cells w i j
  cell_kept i j wide (inl other) = kept_at i j (rows_apart w i r (j / 64) k other (omega (arith, wide)) in_row)
  cell_kept i j wide (inr other) = elim (cases_eq i r) as (λ _. cell_place (set cells (r * w + k) word) w i j ≡ cell_place cells w i j) [
    | inl e ↦ kept_at i j (λ same. other (let t : i * w ≡ r * w = ap (λ (q : ℕ). q * w) e in let q : j / 64 ≡ k = omega (arith, same, t) in q))
    | inr d ↦ kept_at i j (rows_apart w i r (j / 64) k d (omega (arith, wide)) in_row)
  ]

pub cell_set : (cells : List ℕ) (w r column word : ℕ) (bit : Bool) → r * w + w ≤ length cells → column < w * 64 → bit_in word (column % 64) ≡ bit
    → ((k : ℕ) → k < 64 → k ≢ column % 64 → bit_in word k ≡ bit_in (get_or cells (r * w + column / 64) 0) k)
    → IsCellSet w r column bit cells (set cells (r * w + column / 64) word)
cell_set cells w r column word bit within wide same others = record {
  len = length-set cells (r * w + column / 64) word;
  same = cell_written cells w r (column / 64) word within in_row column refl ∙ same;
  others = by_case;
}
  where
    in_row : column / 64 < w
    in_row = omega (arith, wide)

    new : List ℕ
    new = set cells (r * w + column / 64) word

    in_word : (i j : ℕ) → i ≡ r → j / 64 ≡ column / 64 → j ≢ column → cell_place new w i j ≡ cell_place cells w i j
    in_word i j e q other =
        let apart : j % 64 ≢ column % 64 = λ m. other (let t : j ≡ column = omega (arith, q, m) in t) in
        let below : j % 64 < 64 = omega arith in
        ap (λ (n : ℕ). cell_place new w n j) e
        ∙ cell_written cells w r (column / 64) word within in_row j q
        ∙ others (j % 64) below apart
        ∙ ap (λ (n : ℕ). bit_in (get_or cells (r * w + n) 0) (j % 64)) (sym q)
        ∙ ap (λ (n : ℕ). cell_place cells w n j) (sym e)

    by_row : (i j : ℕ) → j < w * 64 → j ≢ column → (i ≡ r) ⊎ (i ≢ r) → cell_place new w i j ≡ cell_place cells w i j
    by_row i j h other (inr d) = cell_kept cells w r (column / 64) word within in_row i j h (inl d)
    by_row i j h other (inl e) = elim (cases_eq (j / 64) (column / 64)) as (λ _. cell_place new w i j ≡ cell_place cells w i j) [
      | inl q ↦ in_word i j e q other
      | inr d ↦ cell_kept cells w r (column / 64) word within in_row i j h (inr d)
    ]

    by_case : (i j : ℕ) → j < w * 64 → (i ≢ r) ⊎ (j ≢ column) → cell_place new w i j ≡ cell_place cells w i j
    by_case i j h (inl d) = cell_kept cells w r (column / 64) word within in_row i j h (inl d)
    by_case i j h (inr d) = by_row i j h d (cases_eq i r)

-- ---- truth values
not_both : (b : Bool) → IsTrue b → b ≡ false → ⊥
not_both b t f = let e : false ≡ true = sym f ∙ t in grind (arith, e)

first_true : (a b : Bool) → IsTrue (a && b) → IsTrue a
first_true true b t = refl
first_true false b t = t

-- ---- marked columns
pub none_marked : (width column : ℕ) (P : ℕ → Type 0) (cells : List ℕ) → ((i : ℕ) → P i → ⊥) → IsMarked width column P cells cells
none_marked width column P cells none = record {
  len = refl;
  marked = λ i. (λ t. inl t, by_case i);
  others = λ i j h other. refl;
}
  where
    by_case : (i : ℕ) → (IsTrue (cell_place cells width i column) ⊎ P i) → IsTrue (cell_place cells width i column)
    by_case i (inl t) = t
    by_case i (inr p) = absurd (none i p)

-- a column that is marked once more
pub marked_again : (width column : ℕ) (P Q R : ℕ → Type 0) (old mid new : List ℕ) → IsMarked width column P old mid → IsMarked width column Q mid new → ((i : ℕ) → (P i ⊎ Q i) ↔ R i) → IsMarked width column R old new
marked_again width column P Q R old mid new first second both = record {
  len = second.len ∙ first.len;
  marked = λ i. (λ t. from i ((second.marked i).0 t), to i);
  others = λ i j h other. second.others i j h other ∙ first.others i j h other;
}
  where
    from_first : (i : ℕ) → (IsTrue (cell_place old width i column) ⊎ P i) → IsTrue (cell_place old width i column) ⊎ R i
    from_first i (inl t) = inl t
    from_first i (inr p) = inr ((both i).0 (inl p))

    from : (i : ℕ) → (IsTrue (cell_place mid width i column) ⊎ Q i) → IsTrue (cell_place old width i column) ⊎ R i
    from i (inl t) = from_first i ((first.marked i).0 t)
    from i (inr q) = inr ((both i).0 (inr q))

    of_named : (i : ℕ) → (P i ⊎ Q i) → IsTrue (cell_place new width i column)
    of_named i (inl p) = (second.marked i).1 (inl ((first.marked i).1 (inr p)))
    of_named i (inr q) = (second.marked i).1 (inr q)

    to : (i : ℕ) → (IsTrue (cell_place old width i column) ⊎ R i) → IsTrue (cell_place new width i column)
    to i (inl t) = (second.marked i).1 (inl ((first.marked i).1 (inl t)))
    to i (inr r) = of_named i ((both i).1 r)

-- the same rows, named otherwise
pub marked_as : (width column : ℕ) (P Q : ℕ → Type 0) (old new : List ℕ) → IsMarked width column P old new → ((i : ℕ) → P i ↔ Q i) → IsMarked width column Q old new
marked_as width column P Q old new first same =
    marked_again width column (λ _. ⊥) P Q old old new (none_marked width column (λ _. ⊥) old (λ i p. p)) first (λ i. (of i, λ q. inr ((same i).1 q)))
  where
    of : (i : ℕ) → (⊥ ⊎ P i) → Q i
    of i (inl p) = absurd p
    of i (inr p) = (same i).0 p

-- one place that is written marks its row
pub set_marks : (width row column : ℕ) (old new : List ℕ) → column < width * 64 → IsCellSet width row column true old new → IsMarked width column (λ i. i ≡ row) old new
set_marks width row column old new wide written = record {
  len = written.len;
  marked = λ i. (from i, to i);
  others = λ i j h other. written.others i j h (inr other);
}
  where
    is_true : (i : ℕ) → i ≡ row → IsTrue (cell_place new width i column)
    is_true i e = ap (λ (n : ℕ). cell_place new width n column) e ∙ written.same

    from : (i : ℕ) → IsTrue (cell_place new width i column) → IsTrue (cell_place old width i column) ⊎ (i ≡ row)
    from i t = elim (cases_eq i row) as (λ _. IsTrue (cell_place old width i column) ⊎ (i ≡ row)) [
      | inl e ↦ inr e
      | inr d ↦ inl (sym (written.others i column wide (inl d)) ∙ t)
    ]

    to : (i : ℕ) → (IsTrue (cell_place old width i column) ⊎ (i ≡ row)) → IsTrue (cell_place new width i column)
    to i (inr e) = is_true i e
    to i (inl t) = elim (cases_eq i row) as (λ _. IsTrue (cell_place new width i column)) [
      | inl e ↦ is_true i e
      | inr d ↦ written.others i column wide (inl d) ∙ t
    ]

-- ---- the bits of a word
-- the lowest bit of a word, and the word without it
abbrev pub lowest : ℕ → ℕ
lowest word = trailing_zeros w64 word

abbrev pub without_lowest : ℕ → ℕ
without_lowest word = bit_and word (bit_not w64 (1 * 2 ^ lowest word % 2 ^ 64))

module _ (word : ℕ) (some : 0 < word) (fits : word < 2 ^ 64) where
  pub lowest_inside : lowest word < 64
  lowest_inside = (bit_at-trailing_zeros w64 word some fits).0

  pub lowest_set : IsTrue (bit_in word (lowest word))
  lowest_set = ap (λ (n : ℕ). nat_eq n 1) (bit_at-trailing_zeros w64 word some fits).1

  pub lowest_cleared : bit_in (without_lowest word) (lowest word) ≡ false
  lowest_cleared = ap (λ (n : ℕ). nat_eq n 1) (bit_at_clear_same w64 word (lowest word) lowest_inside)

  pub others_kept : (k : ℕ) → k < 64 → k ≢ lowest word → bit_in (without_lowest word) k ≡ bit_in word k
  others_kept k h other = ap (λ (n : ℕ). nat_eq n 1) (bit_at_clear_other w64 word (lowest word) lowest_inside k h other)

  pub no_more_bits : (k : ℕ) → IsTrue (bit_in (without_lowest word) k) → IsTrue (bit_in word k)
  no_more_bits k t = first_true (bit_in word k) _ (sym (bit_and_is word _ k) ∙ t)

  pub is_less : without_lowest word < word
  is_less = elim (cases_eq (without_lowest word) word) as (λ _. without_lowest word < word) [
    | inl e ↦ absurd (not_both (bit_in word (lowest word)) lowest_set (ap (λ (w : ℕ). bit_in w (lowest word)) (sym e) ∙ lowest_cleared))
    | inr d ↦ omega (arith, d, and_le_l word (bit_not w64 (1 * 2 ^ lowest word % 2 ^ 64)))
  ]

bit_named : (index word bit : ℕ) → bit < 64 → IsTrue (bit_in word bit) → IsBitOf index word (index * 64 + bit)
bit_named index word bit below set =
    let place : (index * 64 + bit) % 64 ≡ bit = omega (arith, below) in
    record { at = omega (arith, below); set = ap (bit_in word) place ∙ set }

-- where the row lies that the lowest of the bits that are left numbers
pub row_within : (index word rest width len : ℕ) → 0 < rest → rest < 2 ^ 64 → ((j : ℕ) → IsTrue (bit_in rest j) → IsTrue (bit_in word j)) → ((i : ℕ) → IsBitOf index word i → i * width + width ≤ len) → (index * 64 + lowest rest) * width + width ≤ len
row_within index word rest width len some fits left within = within (index * 64 + lowest rest) (bit_named index word (lowest rest) (lowest_inside rest some fits) (left (lowest rest) (lowest_set rest some fits)))

-- place i is a set bit of the word, and is none of the bits that are left
pub record IsTaken (index word rest i : ℕ) : Type 0 where
  pub bit : IsBitOf index word i
  pub taken : bit_in rest (i % 64) ≡ false

pub none_taken : (index word i : ℕ) → IsTaken index word word i → ⊥
none_taken index word i t = not_both (bit_in word (i % 64)) t.bit.set t.taken

no_bit : (j : ℕ) → bit_in 0 j ≡ false
no_bit j = ap (λ (n : ℕ). nat_eq n 1) (bit_at-zero j)

pub all_taken : (index word rest i : ℕ) → rest ≡ 0 → IsTaken index word rest i ↔ IsBitOf index word i
all_taken index word rest i e = (λ t. t.bit, λ b. record { bit = b; taken = ap (λ (w : ℕ). bit_in w (i % 64)) e ∙ no_bit (i % 64) })

-- one bit more is taken
pub one_taken : (index word rest next j i : ℕ) → j < 64 → IsTrue (bit_in word j) → IsTrue (bit_in rest j) → bit_in next j ≡ false → ((k : ℕ) → k < 64 → k ≢ j → bit_in next k ≡ bit_in rest k) → (IsTaken index word rest i ⊎ (i ≡ index * 64 + j)) ↔ IsTaken index word next i
one_taken index word rest next j i below in_word in_rest cleared kept = (to, from)
  where
    inside : i % 64 < 64
    inside = omega arith

    to : (IsTaken index word rest i ⊎ (i ≡ index * 64 + j)) → IsTaken index word next i
    to (inl t) = record {
      bit = t.bit;
      taken = elim (cases_eq (i % 64) j) as (λ _. bit_in next (i % 64) ≡ false) [
        | inl e ↦ ap (bit_in next) e ∙ cleared
        | inr d ↦ kept (i % 64) inside d ∙ t.taken
      ];
    }
    to (inr e) =
        let which : i / 64 ≡ index = omega (arith, e, below) in
        let place : i % 64 ≡ j = omega (arith, e, below) in
        record { bit = record { at = which; set = ap (bit_in word) place ∙ in_word }; taken = ap (bit_in next) place ∙ cleared }

    from : IsTaken index word next i → IsTaken index word rest i ⊎ (i ≡ index * 64 + j)
    from t = elim (cases_eq (i % 64) j) as (λ _. IsTaken index word rest i ⊎ (i ≡ index * 64 + j)) [
      | inl e ↦ inr (omega (arith, e, t.bit.at))
      | inr d ↦ inl (record { bit = t.bit; taken = sym (kept (i % 64) inside d) ∙ t.taken })
    ]

-- ---- a column of zeros
pub zero_more : (width column n : ℕ) (values : List ℤ) (old mid new : List ℕ) (bit : Bool) → column < width * 64 → IsZeroColumn width column values n old mid → IsCellSet width n column bit mid new → bit ≡ int_eq (get_or values n (pos 0)) (pos 0) → IsZeroColumn width column values (n + 1) old new
zero_more width column n values old mid new bit wide before written is = record {
  len = written.len ∙ before.len;
  told = λ i h. elim (cases_eq i n) as (λ _. cell_place new width i column ≡ int_eq (get_or values i (pos 0)) (pos 0)) [
    | inl e ↦ ap (λ (k : ℕ). cell_place new width k column) e ∙ written.same ∙ is ∙ ap (λ (k : ℕ). int_eq (get_or values k (pos 0)) (pos 0)) (sym e)
    | inr d ↦ written.others i column wide (inl d) ∙ before.told i (omega (arith, h, d))
  ];
  others = λ i j h other. written.others i j h (inr other) ∙ before.others i j h other;
}

-- ---- places at the front of a row
all_ones : (j : ℕ) → j < 64 → bit_in (2 ^ 64 - 1) j ≡ true
all_ones j h = ap (λ (n : ℕ). nat_eq n 1) (bit_at_ones 64 j h)

-- one word more
pub front_more : (w row k : ℕ) (old cells : List ℕ) → row * w + w ≤ length cells → k < w → IsFrontFilled w row (k * 64) old cells → IsFrontFilled w row ((k + 1) * 64) old (set cells (row * w + k) (2 ^ 64 - 1))
front_more w row k old cells within in_row before = record {
  len = length-set cells (row * w + k) (2 ^ 64 - 1) ∙ before.len;
  front = λ j h. elim (cases_lt j (k * 64)) as (λ _. IsTrue (cell_place (set cells (row * w + k) (2 ^ 64 - 1)) w row j)) [
    | inl less ↦ cell_kept cells w row k (2 ^ 64 - 1) within in_row row j (omega (arith, less, in_row)) (inr (let d : j / 64 ≢ k = omega (arith, less) in d)) ∙ before.front j less
    | inr more ↦ cell_written cells w row k (2 ^ 64 - 1) within in_row j (omega (arith, h, more)) ∙ all_ones (j % 64) (omega arith)
  ];
  others = by_case;
}
  where
    by_case : (i j : ℕ) → j < w * 64 → (i ≢ row) ⊎ ((k + 1) * 64 ≤ j) → cell_place (set cells (row * w + k) (2 ^ 64 - 1)) w i j ≡ cell_place old w i j
    by_case i j h (inl d) = cell_kept cells w row k (2 ^ 64 - 1) within in_row i j h (inl d) ∙ before.others i j h (inl d)
    by_case i j h (inr past) = cell_kept cells w row k (2 ^ 64 - 1) within in_row i j h (inr (let d : j / 64 ≢ k = omega (arith, past) in d)) ∙ before.others i j h (inr (omega (arith, past)))

-- the low bits of a word are set, so many
abbrev pub with_low : ℕ → ℕ → ℕ
with_low word m = bit_or word (1 * 2 ^ m % 2 ^ 64 - 1)

low_mask : (m : ℕ) → m < 64 → 1 * 2 ^ m % 2 ^ 64 ≡ 2 ^ m
low_mask m h = let less : 2 ^ m < 2 ^ 64 = pow_below m 64 h in omega (arith, less)

low_set : (word m j : ℕ) → m < 64 → j < m → bit_in (with_low word m) j ≡ true
low_set word m j h l =
    bit_or_is word (1 * 2 ^ m % 2 ^ 64 - 1) j
    ∙ ap (λ (n : ℕ). bit_in word j || bit_in (n - 1) j) (low_mask m h)
    ∙ ap (λ (n : ℕ). bit_in word j || nat_eq n 1) (bit_at_ones m j l)
    ∙ or_true (bit_in word j)
  where
    or_true : (b : Bool) → (b || true) ≡ true
    or_true true = refl
    or_true false = refl

low_kept : (word m j : ℕ) → m < 64 → m ≤ j → bit_in (with_low word m) j ≡ bit_in word j
low_kept word m j h l =
    bit_or_is word (1 * 2 ^ m % 2 ^ 64 - 1) j
    ∙ ap (λ (n : ℕ). bit_in word j || bit_in (n - 1) j) (low_mask m h)
    ∙ ap (λ (n : ℕ). bit_in word j || nat_eq n 1) (bit_at_ones_above m j l)
    ∙ or_false (bit_in word j)
  where
    or_false : (b : Bool) → (b || false) ≡ b
    or_false true = refl
    or_false false = refl

-- the last word
pub front_end : (w row k m : ℕ) (old cells : List ℕ) → row * w + w ≤ length cells → k < w → m < 64 → IsFrontFilled w row (k * 64) old cells → IsFrontFilled w row (k * 64 + m) old (set cells (row * w + k) (with_low (get_or cells (row * w + k) 0) m))
front_end w row k m old cells within in_row small before = record {
  len = length-set cells (row * w + k) word ∙ before.len;
  front = λ j h. elim (cases_lt j (k * 64)) as (λ _. IsTrue (cell_place new w row j)) [
    | inl less ↦ cell_kept cells w row k word within in_row row j (omega (arith, less, in_row)) (inr (let d : j / 64 ≢ k = omega (arith, less) in d)) ∙ before.front j less
    | inr more ↦ cell_written cells w row k word within in_row j (omega (arith, h, more, small)) ∙ low_set (get_or cells (row * w + k) 0) m (j % 64) small (omega (arith, h, more, small))
  ];
  others = by_case;
}
  where
    word : ℕ
    word = with_low (get_or cells (row * w + k) 0) m

    new : List ℕ
    new = set cells (row * w + k) word

    in_word : (j : ℕ) → j / 64 ≡ k → k * 64 + m ≤ j → cell_place new w row j ≡ cell_place cells w row j
    in_word j e past =
        cell_written cells w row k word within in_row j e
        ∙ low_kept (get_or cells (row * w + k) 0) m (j % 64) small (omega (arith, e, past))
        ∙ ap (λ (n : ℕ). bit_in (get_or cells (row * w + n) 0) (j % 64)) (sym e)

    in_same_row : (j : ℕ) → j < w * 64 → k * 64 + m ≤ j → cell_place new w row j ≡ cell_place cells w row j
    in_same_row j h past = elim (cases_eq (j / 64) k) as (λ _. cell_place new w row j ≡ cell_place cells w row j) [
      | inl e ↦ in_word j e past
      | inr d ↦ cell_kept cells w row k word within in_row row j h (inr d)
    ]

    by_case : (i j : ℕ) → j < w * 64 → (i ≢ row) ⊎ (k * 64 + m ≤ j) → cell_place new w i j ≡ cell_place old w i j
    by_case i j h (inl d) = cell_kept cells w row k word within in_row i j h (inl d) ∙ before.others i j h (inl d)
    by_case i j h (inr past) = elim (cases_eq i row) as (λ _. cell_place new w i j ≡ cell_place old w i j) [
      | inl e ↦ ap (λ (n : ℕ). cell_place new w n j) e ∙ in_same_row j h past ∙ before.others row j h (inr (omega (arith, past))) ∙ ap (λ (n : ℕ). cell_place old w n j) (sym e)
      | inr d ↦ cell_kept cells w row k word within in_row i j h (inl d) ∙ before.others i j h (inl d)
    ]

-- ---- a row behind places
pub none_joined : (width row front : ℕ) (P : ℕ → Type 0) (cells : List ℕ) → ((j : ℕ) → P j → ⊥) → IsJoined width row front P cells cells
none_joined width row front P cells none = record {
  len = refl;
  joined = λ j h. (λ t. inl t, by_case j);
  others = λ i p h other. refl;
}
  where
    by_case : (j : ℕ) → (IsTrue (cell_place cells width row (front + j)) ⊎ P j) → IsTrue (cell_place cells width row (front + j))
    by_case j (inl t) = t
    by_case j (inr p) = absurd (none j p)

pub joined_again : (width row front : ℕ) (P Q R : ℕ → Type 0) (old mid new : List ℕ) → IsJoined width row front P old mid → IsJoined width row front Q mid new → ((j : ℕ) → (P j ⊎ Q j) ↔ R j) → IsJoined width row front R old new
joined_again width row front P Q R old mid new first second both = record {
  len = second.len ∙ first.len;
  joined = λ j h. (λ t. from j h ((second.joined j h).0 t), to j h);
  others = λ i p h other. second.others i p h other ∙ first.others i p h other;
}
  where
    from_first : (j : ℕ) → (IsTrue (cell_place old width row (front + j)) ⊎ P j) → IsTrue (cell_place old width row (front + j)) ⊎ R j
    from_first j (inl t) = inl t
    from_first j (inr p) = inr ((both j).0 (inl p))

    from : (j : ℕ) → front + j < width * 64 → (IsTrue (cell_place mid width row (front + j)) ⊎ Q j) → IsTrue (cell_place old width row (front + j)) ⊎ R j
    from j h (inl t) = from_first j ((first.joined j h).0 t)
    from j h (inr q) = inr ((both j).0 (inr q))

    of_named : (j : ℕ) → front + j < width * 64 → (P j ⊎ Q j) → IsTrue (cell_place new width row (front + j))
    of_named j h (inl p) = (second.joined j h).1 (inl ((first.joined j h).1 (inr p)))
    of_named j h (inr q) = (second.joined j h).1 (inr q)

    to : (j : ℕ) → front + j < width * 64 → (IsTrue (cell_place old width row (front + j)) ⊎ R j) → IsTrue (cell_place new width row (front + j))
    to j h (inl t) = (second.joined j h).1 (inl ((first.joined j h).1 (inl t)))
    to j h (inr r) = of_named j h ((both j).1 r)

pub joined_as : (width row front : ℕ) (P Q : ℕ → Type 0) (old new : List ℕ) → IsJoined width row front P old new → ((j : ℕ) → P j ↔ Q j) → IsJoined width row front Q old new
joined_as width row front P Q old new first same =
    joined_again width row front (λ _. ⊥) P Q old old new (none_joined width row front (λ _. ⊥) old (λ j p. p)) first (λ j. (of j, λ q. inr ((same j).1 q)))
  where
    of : (j : ℕ) → (⊥ ⊎ P j) → Q j
    of j (inl p) = absurd p
    of j (inr p) = (same j).0 p

pub set_joins : (width row front k : ℕ) (old new : List ℕ) → IsCellSet width row (front + k) true old new → IsJoined width row front (λ j. j ≡ k) old new
set_joins width row front k old new written = record {
  len = written.len;
  joined = λ j h. (from j h, to j h);
  others = others;
}
  where
    is_true : (j : ℕ) → j ≡ k → IsTrue (cell_place new width row (front + j))
    is_true j e = ap (λ (n : ℕ). cell_place new width row (front + n)) e ∙ written.same

    kept : (j : ℕ) → front + j < width * 64 → j ≢ k → cell_place new width row (front + j) ≡ cell_place old width row (front + j)
    kept j h d = written.others row (front + j) h (inr (λ e. d (let q : j ≡ k = omega (arith, e) in q)))

    from : (j : ℕ) → front + j < width * 64 → IsTrue (cell_place new width row (front + j)) → IsTrue (cell_place old width row (front + j)) ⊎ (j ≡ k)
    from j h t = elim (cases_eq j k) as (λ _. IsTrue (cell_place old width row (front + j)) ⊎ (j ≡ k)) [
      | inl e ↦ inr e
      | inr d ↦ inl (sym (kept j h d) ∙ t)
    ]

    to : (j : ℕ) → front + j < width * 64 → (IsTrue (cell_place old width row (front + j)) ⊎ (j ≡ k)) → IsTrue (cell_place new width row (front + j))
    to j h (inr e) = is_true j e
    to j h (inl t) = elim (cases_eq j k) as (λ _. IsTrue (cell_place new width row (front + j))) [
      | inl e ↦ is_true j e
      | inr d ↦ kept j h d ∙ t
    ]

    others : (i p : ℕ) → p < width * 64 → (i ≢ row) ⊎ (p < front) → cell_place new width i p ≡ cell_place old width i p
    others i p h (inl d) = written.others i p h (inl d)
    others i p h (inr less) = written.others i p h (inr (let d : p ≢ front + k = omega (arith, less) in d))

-- the place behind the others that the lowest of the bits that are left numbers
pub place_within : (index word rest front size : ℕ) → 0 < rest → rest < 2 ^ 64 → ((j : ℕ) → IsTrue (bit_in rest j) → IsTrue (bit_in word j)) → ((j : ℕ) → IsBitOf index word j → front + j < size) → front + (index * 64 + lowest rest) < size
place_within index word rest front size some fits left within = within (index * 64 + lowest rest) (bit_named index word (lowest rest) (lowest_inside rest some fits) (left (lowest rest) (lowest_set rest some fits)))

same_truth : (a b : Bool) → (IsTrue a → IsTrue b) → (IsTrue b → IsTrue a) → a ≡ b
same_truth true b f g = sym (f refl)
same_truth false true f g = g refl
same_truth false false f g = refl

pub written_behind : (width row front : ℕ) (words old mid new : List ℕ) → front ≤ width * 64 → ((p : ℕ) → p < width * 64 → cell_place old width row p ≡ false) → IsFrontFilled width row front old mid → IsJoined width row front (λ j. IsTrue (place words j)) mid new → IsWrittenBehind width row front words old new
written_behind width row front words old mid new few none filled joined = record {
  len = joined.len ∙ filled.len;
  front_true = λ p h. joined.others row p (omega (arith, h, few)) (inr h) ∙ filled.front p h;
  behind = λ j h. same_truth (cell_place new width row (front + j)) (place words j) (λ t. named j h ((joined.joined j h).0 t)) (λ t. (joined.joined j h).1 (inr t));
  others = λ i p h other. joined.others i p h (inl other) ∙ filled.others i p h (inl other);
}
  where
    was_none : (j : ℕ) → front + j < width * 64 → cell_place mid width row (front + j) ≡ false
    was_none j h = filled.others row (front + j) h (inr (let le : front ≤ front + j = omega arith in le)) ∙ none (front + j) h

    named : (j : ℕ) → front + j < width * 64 → (IsTrue (cell_place mid width row (front + j)) ⊎ IsTrue (place words j)) → IsTrue (place words j)
    named j h (inr t) = t
    named j h (inl t) = absurd (not_both (cell_place mid width row (front + j)) t (was_none j h))

-- ---- the words of a list one by one
-- place j is true in one of the first so many words
abbrev pub IsAmongFirst : List ℕ → ℕ → ℕ → Type 0
IsAmongFirst words index j = (j / 64 < index) × IsTrue (place words j)

pub none_first : (words : List ℕ) (j : ℕ) → IsAmongFirst words 0 j → ⊥
none_first words j h = omega (arith, h.0)

pub one_index : (words : List ℕ) (index j : ℕ) → (IsAmongFirst words index j ⊎ IsBitOf index (get_or words index 0) j) ↔ IsAmongFirst words (index + 1) j
one_index words index j = (to, from)
  where
    to : (IsAmongFirst words index j ⊎ IsBitOf index (get_or words index 0) j) → IsAmongFirst words (index + 1) j
    to (inl p) = (omega (arith, p.0), p.1)
    to (inr b) = (omega (arith, b.at), ap (λ (q : ℕ). bit_in (get_or words q 0) (j % 64)) b.at ∙ b.set)

    from : IsAmongFirst words (index + 1) j → IsAmongFirst words index j ⊎ IsBitOf index (get_or words index 0) j
    from t = elim (cases_lt (j / 64) index) as (λ _. IsAmongFirst words index j ⊎ IsBitOf index (get_or words index 0) j) [
      | inl less ↦ inl (less, t.1)
      | inr more ↦
          let e : j / 64 ≡ index = omega (arith, more, t.0) in
          inr (record { at = e; set = ap (λ (q : ℕ). bit_in (get_or words q 0) (j % 64)) (sym e) ∙ t.1 })
    ]

pub all_first : (words : List ℕ) (index j : ℕ) → length words ≤ index → IsAmongFirst words index j ↔ IsTrue (place words j)
all_first words index j all = ((λ p. p.1), from)
  where
    from : IsTrue (place words j) → IsAmongFirst words index j
    from t = elim (cases_lt (j / 64) index) as (λ _. IsAmongFirst words index j) [
      | inl less ↦ (less, t)
      | inr more ↦ absurd (not_both (place words j) t (ap (λ (w : ℕ). bit_in w (j % 64)) (get_or_past words (j / 64) 0 (omega (arith, more, all))) ∙ no_bit (j % 64)))
    ]
