-- Cutting bytes into lines.
use Rattle.std.proofs.Common.{◌≡◌, ℕ, ◌+◌, ◌-◌, ◌<◌, ◌≤◌, List, [], ◌∷◌, length, take, drop, refl, ap, ◌∙◌, sym, arith, Bool, true, false, not, cond, length-drop, ◌++◌, get_or, eqb-true}
use Rattle.std.specs.Prelude.{Some, None, position, nat_lt}
use Rattle.std.specs.List.{slice_split, position_or_len, onto_first}
use Rattle.std.specs.Str.Lines.{lines, lines_of_parts, strip_carriage_return}
use Rattle.std.proofs.lemmas.List.Splits.{slice_split_first, length-slice_split}
use Rattle.std.proofs.lemmas.List.Sums.{split_at_first, passes_at_first}
use Rattle.std.proofs.Math.Seq.{take-length}
use borrow.Author.Tests.{ltb-true, ltb-false}
use Rattle.std.proofs.Math.Dec.{eqb-suc-zero}
use Rattle.plain_text.specs.Lines.{is_feed}

pub some_cases : (b : Bool) (n at : ℕ) → Some at ≡ cond b (Some n) None → (b ≡ true) × (at ≡ n)
some_cases true n at e = (refl, cc)
some_cases false n at e = cc

pub none_cases : (b : Bool) (n : ℕ) → None ≡ cond b (Some n) None → b ≡ false
none_cases true n e = cc
none_cases false n e = refl

slice_split_whole-step : (b : ℕ) (bs : List ℕ) (t : Bool) → length (b ∷ bs) ≤ cond (not t) (1 + position_or_len is_feed bs) 0 → (length bs ≤ position_or_len is_feed bs → slice_split is_feed bs ≡ bs ∷ []) → cond t ([] ∷ slice_split is_feed bs) (onto_first b (slice_split is_feed bs)) ≡ (b ∷ bs) ∷ []
slice_split_whole-step b bs true h ih = absurd (omega arith)
slice_split_whole-step b bs false h ih = let k : length bs ≤ position_or_len is_feed bs = omega arith in ap (onto_first b) (ih k)

slice_split_whole : (bs : List ℕ) → length bs ≤ position_or_len is_feed bs → slice_split is_feed bs ≡ bs ∷ []
slice_split_whole [] h = refl
slice_split_whole (b ∷ bs) h = slice_split_whole-step b bs (is_feed b) h (slice_split_whole bs)

pub lines_of_parts-cons : (x : List ℕ) (parts : List (List ℕ)) → 0 < length parts → lines_of_parts (x ∷ parts) ≡ strip_carriage_return x ∷ lines_of_parts parts
lines_of_parts-cons x [] h = absurd (omega arith)
lines_of_parts-cons x (y ∷ more) h = refl

pub whole_part : (bytes : List ℕ) → 0 < length bytes → lines_of_parts (bytes ∷ []) ≡ bytes ∷ []
whole_part [] h = absurd (omega arith)
whole_part (b ∷ bs) h = ap (λ t. cond t [] ((b ∷ bs) ∷ [])) (eqb-suc-zero (length bs))

-- bytes without a line feed are one line
pub lines-no_feed : (bytes : List ℕ) → 0 < length bytes → None ≡ position is_feed bytes → lines bytes ≡ bytes ∷ []
lines-no_feed bytes h e =
    let k : length bytes ≤ position_or_len is_feed bytes = omega (arith, ltb-false, none_cases (nat_lt (position_or_len is_feed bytes) (length bytes)) (position_or_len is_feed bytes) e) in
    ap lines_of_parts (slice_split_whole bytes k) ∙ whole_part bytes h

-- the first line ends before the first line feed, and the others stand behind it
pub lines-at_feed : (bytes : List ℕ) (at : ℕ) → Some at ≡ position is_feed bytes → lines bytes ≡ strip_carriage_return (take at bytes) ∷ lines (drop (at + 1) bytes)
lines-at_feed bytes at e =
    let p = some_cases (nat_lt (position_or_len is_feed bytes) (length bytes)) (position_or_len is_feed bytes) at e in
    let n = position_or_len is_feed bytes in
    let k : n < length bytes = ltb-true n (length bytes) p.0 in
    let parts = slice_split is_feed (drop (n + 1) bytes) in
    let some : 0 < length parts = omega (arith, length-slice_split is_feed (drop (n + 1) bytes)) in
    rw p.1 (ap lines_of_parts (slice_split_first is_feed bytes 0 k) ∙ lines_of_parts-cons (take n bytes) parts some)

-- the slice behind a place
pub take-behind : (bytes : List ℕ) (at : ℕ) → take (length bytes - at) (drop at bytes) ≡ drop at bytes
take-behind bytes at = ap (λ n. take n (drop at bytes)) (sym (length-drop at bytes)) ∙ take-length (drop at bytes)

-- bytes around their first line feed
pub feed_cut : (bytes : List ℕ) (at : ℕ) → Some at ≡ position is_feed bytes → bytes ≡ take at bytes ++ 10 ∷ take (length bytes - (at + 1)) (drop (at + 1) bytes)
feed_cut bytes at e =
    let p = some_cases (nat_lt (position_or_len is_feed bytes) (length bytes)) (position_or_len is_feed bytes) at e in
    let n = position_or_len is_feed bytes in
    let k : n < length bytes = ltb-true n (length bytes) p.0 in
    let g : get_or bytes n 0 ≡ 10 = eqb-true (get_or bytes n 0) 10 (passes_at_first is_feed bytes 0 k) in
    let whole : bytes ≡ take n bytes ++ 10 ∷ drop (n + 1) bytes = split_at_first is_feed bytes 0 k ∙ ap (λ x. take n bytes ++ x ∷ drop (n + 1) bytes) g in
    whole ∙ ap (λ x. take x bytes ++ 10 ∷ drop (x + 1) bytes) (sym p.1) ∙ ap (λ x. take at bytes ++ 10 ∷ x) (sym (take-behind bytes (at + 1)))
