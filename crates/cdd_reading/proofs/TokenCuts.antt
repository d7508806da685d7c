-- Cutting a line into tokens.
use Rattle.std.proofs.Common.{◌≡◌, ℕ, ◌+◌, ◌-◌, ◌<◌, ◌≤◌, List, [], ◌∷◌, length, take, drop, refl, ap, arith, Bool, true, false, not, cond}
use Rattle.std.specs.Prelude.{Some, None, position, nat_lt}
use Rattle.std.specs.List.{slice_split, position_or_len, onto_first, filter}
use Rattle.std.proofs.lemmas.List.Splits.{slice_split_first}
use borrow.Author.Tests.{ltb-true, ltb-false}
use Rattle.cdd_reading.specs.Tokens.{is_gap, has_some, tokens}
use Rattle.plain_text.proofs.LineCuts.{some_cases, none_cases, take-behind}

whole-step : (b : ℕ) (bs : List ℕ) (t : Bool) → length (b ∷ bs) ≤ cond (not t) (1 + position_or_len is_gap bs) 0 → (length bs ≤ position_or_len is_gap bs → slice_split is_gap bs ≡ bs ∷ []) → cond t ([] ∷ slice_split is_gap bs) (onto_first b (slice_split is_gap bs)) ≡ (b ∷ bs) ∷ []
whole-step b bs true h ih = absurd (omega arith)
whole-step b bs false h ih = let k : length bs ≤ position_or_len is_gap bs = omega arith in ap (onto_first b) (ih k)

whole : (bs : List ℕ) → length bs ≤ position_or_len is_gap bs → slice_split is_gap bs ≡ bs ∷ []
whole [] h = refl
whole (b ∷ bs) h = whole-step b bs (is_gap b) h (whole bs)

-- a line without a gap is one token, unless it is empty
pub tokens-no_gap : (line : List ℕ) → None ≡ position is_gap line → tokens line ≡ cond (has_some line) (line ∷ []) []
tokens-no_gap line e =
    let k : length line ≤ position_or_len is_gap line = omega (arith, ltb-false, none_cases (nat_lt (position_or_len is_gap line) (length line)) (position_or_len is_gap line) e) in
    ap (filter has_some) (whole line k)

-- the tokens before and behind a gap
pub tokens-at_gap : (line : List ℕ) (at : ℕ) → Some at ≡ position is_gap line → tokens line ≡ cond (has_some (take at line)) (take at line ∷ tokens (take (length line - (at + 1)) (drop (at + 1) line))) (tokens (take (length line - (at + 1)) (drop (at + 1) line)))
tokens-at_gap line at e =
    let p = some_cases (nat_lt (position_or_len is_gap line) (length line)) (position_or_len is_gap line) at e in
    let k : position_or_len is_gap line < length line = ltb-true (position_or_len is_gap line) (length line) p.0 in
    rw (take-behind line (at + 1)) (rw p.1 (ap (filter has_some) (slice_split_first is_gap line 0 k)))
