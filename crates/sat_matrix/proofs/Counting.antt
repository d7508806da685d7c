-- Counts of true places, by the words of the rows.
use Rattle.std.proofs.Common.{◌≡◌, ℕ, zero, suc, ◌+◌, ◌-◌, ◌*◌, ◌<◌, ◌≤◌, Bool, true, false, ◌&&◌, cond, List, [], ◌∷◌, length, map, refl, sym, ap, subst, ◌∙◌, arith}
use Rattle.std.specs.List.{range_with_len, count_by}
use Rattle.std.proofs.lemmas.List.Sums.{sum_by-cons}
use Rattle.sat_bits.specs.Places.{place}
use Rattle.sat_bits.proofs.CountLemmas.{joined}
use Rattle.flat_rows.specs.Flat.{Flat, entries_at}
use Rattle.sat_matrix.specs.Tables.{Table, bits_of, conjunction}
use Rattle.sat_matrix.specs.Counts.{ones}
use Rattle.sat_matrix.specs.Words.{bits_in, IsPadded, IsTable}
use Rattle.sat_matrix.proofs.BitRows.{seen_bits, seen_in, length-conjunction}

ones-cons : (x : Bool) (xs : List Bool) → ones (x ∷ xs) ≡ cond x 1 0 + ones xs
ones-cons true xs = refl
ones-cons false xs = omega arith

ones-map : (p : ℕ → Bool) (xs : List ℕ) → ones (map p xs) ≡ count_by p xs
ones-map p [] = refl
ones-map p (x ∷ xs) = ones-cons (p x) (map p xs) ∙ ap (λ (n : ℕ). cond (p x) 1 0 + n) (ones-map p xs) ∙ sym (sum_by-cons (λ (y : ℕ). cond (p y) 1 0) x xs)

pub ones-le : (xs : List Bool) → ones xs ≤ length xs
ones-le [] = omega arith
ones-le (true ∷ xs) = omega (arith, ones-le xs)
ones-le (false ∷ xs) = omega (arith, ones-le xs)

conjunction-map : (p q : ℕ → Bool) (xs : List ℕ) → map (λ i. p i && q i) xs ≡ conjunction (map p xs) (map q xs)
conjunction-map p q [] = refl
conjunction-map p q (x ∷ xs) = ap (λ (ys : List Bool). (p x && q x) ∷ ys) (conjunction-map p q xs)

none_plus : (n : ℕ) → 0 + n ≡ n
none_plus n = omega arith

none_true : (p : ℕ → Bool) (s n : ℕ) → ((i : ℕ) → s ≤ i → p i ≡ false) → count_by p (range_with_len s n) ≡ 0
none_true p s zero f = refl
none_true p s (suc n) f =
    sum_by-cons (λ (x : ℕ). cond (p x) 1 0) s (range_with_len (s + 1) n)
    ∙ ap (λ (b : Bool). cond b 1 0 + count_by p (range_with_len (s + 1) n)) (f s (omega arith))
    ∙ none_plus (count_by p (range_with_len (s + 1) n))
    ∙ none_true p (s + 1) n (λ i h. f i (omega arith))

-- past the columns nothing is counted
padded_count : (p : ℕ → Bool) (columns n : ℕ) → columns ≤ n → ((c : ℕ) → columns ≤ c → p c ≡ false) → count_by p (range_with_len 0 n) ≡ ones (map p (range_with_len 0 columns))
padded_count p columns n h none =
    let size : n ≡ columns + (n - columns) = omega arith in
    let past : count_by p (range_with_len (0 + columns) (n - columns)) ≡ 0 = none_true p (0 + columns) (n - columns) (λ i l. none i (omega arith)) in
    ap (λ (m : ℕ). count_by p (range_with_len 0 m)) size
    ∙ joined p 0 columns (n - columns)
    ∙ omega (arith, past, ones-map p (range_with_len 0 columns))

pub count_seen : (columns : ℕ) (words : Flat ℕ) (t : Table) (i : ℕ) (row : List ℕ) → IsTable columns words → seen_bits columns words ≡ t → i < length t.rows → row ≡ entries_at words.rows i → length row ≡ words.width
    → count_by (place row) (range_with_len 0 (length row * 64)) ≡ ones (bits_of t.rows i)
count_seen columns words t i row table e in_i is wide =
    let s = seen_in columns words t e in
    let below : i < length words.rows = omega (arith, s.count, in_i) in
    let padded : IsPadded columns row = subst (λ (r : List ℕ). IsPadded columns r) (sym is) (table.padded i [] below) in
    padded_count (place row) columns (length row * 64) (omega (arith, table.within, wide)) padded
    ∙ ap (λ (r : List Bool). ones r) (ap (bits_in columns) is ∙ sym (s.row i below))

pub shared_seen : (columns : ℕ) (words : Flat ℕ) (t : Table) (i j : ℕ) (a b : List ℕ) → IsTable columns words → seen_bits columns words ≡ t → i < length t.rows → j < length t.rows → a ≡ entries_at words.rows i → b ≡ entries_at words.rows j → length a ≡ words.width
    → count_by (λ (c : ℕ). place a c && place b c) (range_with_len 0 (length a * 64)) ≡ ones (conjunction (bits_of t.rows i) (bits_of t.rows j))
shared_seen columns words t i j a b table e in_i in_j is_a is_b wide =
    let s = seen_in columns words t e in
    let below_i : i < length words.rows = omega (arith, s.count, in_i) in
    let below_j : j < length words.rows = omega (arith, s.count, in_j) in
    let padded : IsPadded columns a = subst (λ (r : List ℕ). IsPadded columns r) (sym is_a) (table.padded i [] below_i) in
    padded_count (λ (c : ℕ). place a c && place b c) columns (length a * 64) (omega (arith, table.within, wide)) (λ c past. ap (λ (x : Bool). x && place b c) (padded c past))
    ∙ ap (λ (r : List Bool). ones r) (conjunction-map (place a) (place b) (range_with_len 0 columns))
    ∙ ap (λ (r : List Bool). ones (conjunction r (bits_in columns b))) (ap (bits_in columns) is_a ∙ sym (s.row i below_i))
    ∙ ap (λ (r : List Bool). ones (conjunction (bits_of t.rows i) r)) (ap (bits_in columns) is_b ∙ sym (s.row j below_j))

-- no more places are true in both rows than there are
pub shared-le : (xs ys : List Bool) → length ys ≡ length xs → ones (conjunction xs ys) ≤ length xs
shared-le xs ys e = omega (arith, ones-le (conjunction xs ys), length-conjunction xs ys (sym e))
