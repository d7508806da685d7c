-- Conjunctions of two rows of words, and rows of which the first words are conjunctions.
use Rattle.std.proofs.Common.{◌≡◌, ◌≢◌, ℕ, suc, zero, ◌+◌, ◌<◌, bit_and, List, [], ◌∷◌, ◌++◌, length, get_or, set, take, drop, refl, sym, ap, ◌∙◌, arith, add-one}
use Rattle.std.proofs.lemmas.List.{get_or-set_same, get_or-set_other, set-set, get_or_append_left}
use Rattle.flat_rows.specs.Flat.{Flat, entries_at}
use Rattle.flat_rows.specs.Words.{and_words}
use Rattle.flat_rows.proofs.LastRows.{set_last, last_row}

-- the conjunctions of the first words, and then the words of the one row
abbrev pub anded : ℕ → List ℕ → List ℕ → List ℕ
anded k a b = and_words (take k a) (take k b) ++ drop k a

pub get_or-anded : (k : ℕ) (a b : List ℕ) (d : ℕ) → k < length a → k < length b → get_or (anded k a b) k d ≡ get_or a k d
get_or-anded k [] b d h l = absurd (omega (arith, h))
get_or-anded k (x ∷ a) [] d h l = absurd (omega (arith, l))
get_or-anded zero (x ∷ a) (y ∷ b) d h l = refl
get_or-anded (suc k) (x ∷ a) (y ∷ b) d h l = get_or-anded k a b d (omega (arith, h)) (omega (arith, l))

anded_suc : (k : ℕ) (a b : List ℕ) → k < length a → k < length b → set (anded k a b) k (bit_and (get_or a k 0) (get_or b k 0)) ≡ anded (suc k) a b
anded_suc k [] b h l = absurd (omega (arith, h))
anded_suc k (x ∷ a) [] h l = absurd (omega (arith, l))
anded_suc zero (x ∷ a) (y ∷ b) h l = refl
anded_suc (suc k) (x ∷ a) (y ∷ b) h l = ap (λ (zs : List ℕ). bit_and x y ∷ zs) (anded_suc k a b (omega (arith, h)) (omega (arith, l)))

-- one word more of a row
pub anded_put : (k to from : ℕ) (old rows new : Flat ℕ) (x y : ℕ) → rows ≡ record old { rows = set old.rows to (anded k (entries_at old.rows to) (entries_at old.rows from)) } → new ≡ record rows { rows = set rows.rows to (set (entries_at rows.rows to) k (bit_and x y)) }
    → to < length old.rows → from < length old.rows → to ≢ from → k < length (entries_at old.rows to) → k < length (entries_at old.rows from) → x ≡ get_or (entries_at rows.rows to) k 0 → y ≡ get_or (entries_at rows.rows from) k 0
    → new ≡ record old { rows = set old.rows to (anded (k + 1) (entries_at old.rows to) (entries_at old.rows from)) }
anded_put k to from old rows new x y so put in_to in_from other in_a in_b is_x is_y =
    let a : List ℕ = entries_at old.rows to in
    let b : List ℕ = entries_at old.rows from in
    let seen : rows.rows ≡ set old.rows to (anded k a b) = ap (λ (t : Flat ℕ). t.rows) so in
    let row : entries_at rows.rows to ≡ anded k a b = ap (λ (rs : List (List ℕ)). entries_at rs to) seen ∙ get_or-set_same old.rows to (anded k a b) [] in_to in
    let beside : entries_at rows.rows from ≡ b = ap (λ (rs : List (List ℕ)). entries_at rs from) seen ∙ get_or-set_other old.rows to from (anded k a b) [] (λ e. other (sym e)) in
    let first : x ≡ get_or a k 0 = is_x ∙ ap (λ (r : List ℕ). get_or r k 0) row ∙ get_or-anded k a b 0 in_a in_b in
    let second : y ≡ get_or b k 0 = is_y ∙ ap (λ (r : List ℕ). get_or r k 0) beside in
    let value : bit_and x y ≡ bit_and (get_or a k 0) (get_or b k 0) = ap (λ (z : ℕ). bit_and z y) first ∙ ap (λ (z : ℕ). bit_and (get_or a k 0) z) second in
    let make : List (List ℕ) → Flat ℕ = λ rs. record old { rows = rs } in
    put
    ∙ ap (λ (t : Flat ℕ). record t { rows = set t.rows to (set (entries_at rows.rows to) k (bit_and x y)) }) so
    ∙ ap make (
    set-set old.rows to (anded k a b) (set (entries_at rows.rows to) k (bit_and x y))
    ∙ ap (λ (r : List ℕ). set old.rows to (set r k (bit_and x y))) row
    ∙ ap (λ (z : ℕ). set old.rows to (set (anded k a b) k z)) value
    ∙ ap (λ (r : List ℕ). set old.rows to r) (anded_suc k a b in_a in_b ∙ ap (λ (n : ℕ). anded n a b) (sym (add-one k)))
    )

-- the last row, which was a copy of another one
pub and_pushed : (old rows new : List (List ℕ)) (a : List ℕ) (last j : ℕ) → rows ≡ old ++ a ∷ [] → last ≡ length old → j < length old → new ≡ set rows last (and_words (entries_at rows last) (entries_at rows j)) → new ≡ old ++ and_words a (entries_at old j) ∷ []
and_pushed old rows new a last j so at in_j is =
    let other : entries_at rows j ≡ entries_at old j = ap (λ (rs : List (List ℕ)). entries_at rs j) so ∙ get_or_append_left old (a ∷ []) [] j in_j in
    is
    ∙ ap (λ (r : List ℕ). set rows last (and_words r (entries_at rows j))) (last_row old rows a last so at)
    ∙ ap (λ (r : List ℕ). set rows last (and_words a r)) other
    ∙ ap (λ (rs : List (List ℕ)). set rs last (and_words a (entries_at old j))) so
    ∙ ap (λ (n : ℕ). set (old ++ a ∷ []) n (and_words a (entries_at old j))) at
    ∙ set_last old a (and_words a (entries_at old j))

pub length-and_words : (xs ys : List ℕ) → length xs ≡ length ys → length (and_words xs ys) ≡ length xs
length-and_words [] ys e = refl
length-and_words (x ∷ xs) [] e = absurd (omega (arith, e))
length-and_words (x ∷ xs) (y ∷ ys) e = ap (λ n. suc n) (length-and_words xs ys (omega (arith, e)))
