-- Lines of words with one space between.
use Rattle.std.proofs.Common.{◌≡◌, ℕ, ◌+◌, ◌-◌, ◌<◌, ◌==◌, Bool, true, false, not, List, [], ◌∷◌, ◌++◌, length, map, take, get_or, refl, sym, ◌∙◌, ap, arith, subst, ◌≤◌, inl, inr, ◌⊎◌, append_assoc}
use Rattle.std.specs.Prelude.{All, ◌||◌}
use Rattle.std.specs.List.{list_all, flat_map, join_with_byte, slice_split, filter}
use Rattle.std.specs.Str.Lines.{lines, lines_of_parts, strip_carriage_return}
use Rattle.std.proofs.lemmas.Bool.{cond-false, cond-true, cases_lt, and_parts}
use Rattle.std.proofs.lemmas.List.{get_or_past, map-append}
use Rattle.std.proofs.lemmas.List.Splits.{slice_split_none, slice_split_at, length-slice_split}
use Rattle.std.proofs.lemmas.List.Elements.{All-nil, All-cons, All-head, All-tail, All-append, All-get_or, All-weaker}
use Rattle.cdd_reading.specs.Tokens.{is_gap, has_some, tokens, texts, numbered, Token}
use Rattle.cdd_text.specs.Written.{line_of}
use Rattle.plain_text.proofs.LineCuts.{lines_of_parts-cons}
use Rattle.plain_text.specs.Lines.{is_feed}
use Rattle.cdd_text.proofs.WrittenNumbers.{is_inner, is_plain}

not_true : (p : Bool) → not p ≡ true → p ≡ false
not_true true e = cc
not_true false e = refl

last_of_three : (p q r : Bool) → (p || q || r) ≡ false → r ≡ false
last_of_three true true true e = cc
last_of_three true false true e = cc
last_of_three false true true e = cc
last_of_three false false true e = cc
last_of_three p q false e = refl

inner_gap : (b : ℕ) → is_inner b ≡ true → is_gap b ≡ false
inner_gap b e = not_true (is_gap b) (and_parts (not (is_gap b)) (not (b == 10)) e).0

-- no line feed and no carriage return
abbrev IsWithin : ℕ → Type 0
IsWithin b = ((b == 10) ≡ false) × ((b == 13) ≡ false)

inner_within : (b : ℕ) → is_inner b ≡ true → IsWithin b
inner_within b e = (not_true (b == 10) (and_parts (not (is_gap b)) (not (b == 10)) e).1, last_of_three (b == 32) (b == 9) (b == 13) (inner_gap b e))

gap_free : (w : List ℕ) → list_all is_inner w ≡ true → All (λ b. is_gap b ≡ false) w
gap_free [] e = All-nil (λ b. is_gap b ≡ false)
gap_free (b ∷ w) e = All-cons (λ b. is_gap b ≡ false) b w (inner_gap b (and_parts (is_inner b) (list_all is_inner w) e).0) (gap_free w (and_parts (is_inner b) (list_all is_inner w) e).1)

all_within : (w : List ℕ) → list_all is_inner w ≡ true → All IsWithin w
all_within [] e = All-nil IsWithin
all_within (b ∷ w) e = All-cons IsWithin b w (inner_within b (and_parts (is_inner b) (list_all is_inner w) e).0) (all_within w (and_parts (is_inner b) (list_all is_inner w) e).1)

abbrev joined : List (List ℕ) → List ℕ
joined ws = join_with_byte 32 ws

word : (w : List ℕ) (ws : List (List ℕ)) → list_all is_plain (w ∷ ws) ≡ true → (has_some w ≡ true) × (list_all is_inner w ≡ true) × (list_all is_plain ws ≡ true)
word w ws e =
    let first = (and_parts (is_plain w) (list_all is_plain ws) e).0 in
    ((and_parts (has_some w) (list_all is_inner w) first).0, (and_parts (has_some w) (list_all is_inner w) first).1, (and_parts (is_plain w) (list_all is_plain ws) e).1)

-- the tokens of a written line are its words
pub tokens-joined : (ws : List (List ℕ)) → list_all is_plain ws ≡ true → tokens (join_with_byte 32 ws) ≡ ws
tokens-joined [] e = refl
tokens-joined (w ∷ []) e =
    let p = word w [] e in
    ap (filter has_some) (slice_split_none is_gap w (gap_free w p.1)) ∙ cond-true (has_some w) (w ∷ []) [] p.0
tokens-joined (w ∷ v ∷ ws) e =
    let p = word w (v ∷ ws) e in
    ap (filter has_some) (slice_split_at is_gap w 32 (joined (v ∷ ws)) (gap_free w p.1) refl)
    ∙ cond-true (has_some w) (w ∷ tokens (joined (v ∷ ws))) (tokens (joined (v ∷ ws))) p.0
    ∙ ap (λ (l : List (List ℕ)). w ∷ l) (tokens-joined (v ∷ ws) p.2)

within-joined : (ws : List (List ℕ)) → list_all is_plain ws ≡ true → All IsWithin (joined ws)
within-joined [] e = All-nil IsWithin
within-joined (w ∷ []) e = all_within w (word w [] e).1
within-joined (w ∷ v ∷ ws) e =
    let p = word w (v ∷ ws) e in
    All-append IsWithin w (32 ∷ joined (v ∷ ws)) (all_within w p.1) (All-cons IsWithin 32 (joined (v ∷ ws)) (refl, refl) (within-joined (v ∷ ws) p.2))

last_within : (x : List ℕ) → All IsWithin x → (length x - 1 < length x) ⊎ (length x ≤ length x - 1) → (get_or x (length x - 1) 0 == 13) ≡ false
last_within x h (inl k) = (All-get_or IsWithin x (length x - 1) 0 k h).1
last_within x h (inr k) = ap (λ b. b == 13) (get_or_past x (length x - 1) 0 k)

no_return : (x : List ℕ) → All IsWithin x → strip_carriage_return x ≡ x
no_return x h = cond-false (get_or x (length x - 1) 0 == 13) (take (length x - 1) x) x (last_within x h (cases_lt (length x - 1) (length x)))

-- the first line of a written text
pub lines-line_of : (ws : List (List ℕ)) (rest : List ℕ) → list_all is_plain ws ≡ true → lines (line_of ws ++ rest) ≡ join_with_byte 32 ws ∷ lines rest
lines-line_of ws rest e =
    let h = within-joined ws e in
    let feeds : All (λ b. is_feed b ≡ false) (joined ws) = All-weaker IsWithin (λ b. is_feed b ≡ false) (λ b p. p.0) (joined ws) h in
    let some : 0 < length (slice_split is_feed rest) = omega (arith, length-slice_split is_feed rest) in
    ap lines (append_assoc (joined ws) (10 ∷ []) rest)
    ∙ ap lines_of_parts (slice_split_at is_feed (joined ws) 10 rest feeds refl)
    ∙ lines_of_parts-cons (joined ws) (slice_split is_feed rest) some
    ∙ ap (λ (l : List ℕ). l ∷ lines rest) (no_return (joined ws) h)

-- each word of each line
abbrev pub all_plain : List (List (List ℕ)) → Bool
all_plain wss = list_all (λ ws. list_all is_plain ws) wss

pub lines-text : (wss : List (List (List ℕ))) → all_plain wss ≡ true → lines (flat_map line_of wss) ≡ map (join_with_byte 32) wss
lines-text [] e = refl
lines-text (ws ∷ wss) e =
    lines-line_of ws (flat_map line_of wss) (and_parts (list_all is_plain ws) (all_plain wss) e).0
    ∙ ap (λ (l : List (List ℕ)). joined ws ∷ l) (lines-text wss (and_parts (list_all is_plain ws) (all_plain wss) e).1)

-- what is gathered from the tokens of lines is gathered from their words
pub gathered : {A : Type 0} (f : List (List ℕ) → List A) (wss : List (List (List ℕ))) → all_plain wss ≡ true → flat_map (λ line. f (tokens line)) (map (join_with_byte 32) wss) ≡ flat_map f wss
gathered f [] e = refl
gathered f (ws ∷ wss) e =
    ap (λ l. f l ++ flat_map (λ line. f (tokens line)) (map (join_with_byte 32) wss)) (tokens-joined ws (and_parts (list_all is_plain ws) (all_plain wss) e).0)
    ∙ ap (λ l. f ws ++ l) (gathered f wss (and_parts (list_all is_plain ws) (all_plain wss) e).1)

pub all_lines : (P : List (List ℕ) → Type 0) (wss : List (List (List ℕ))) → all_plain wss ≡ true → All P wss → All (λ line. P (tokens line)) (map (join_with_byte 32) wss)
all_lines P [] e h = All-nil (λ line. P (tokens line))
all_lines P (ws ∷ wss) e h = All-cons (λ line. P (tokens line)) (joined ws) (map (join_with_byte 32) wss) (subst P (sym (tokens-joined ws (and_parts (list_all is_plain ws) (all_plain wss) e).0)) (All-head P ws wss h)) (all_lines P wss (and_parts (list_all is_plain ws) (all_plain wss) e).1 (All-tail P ws wss h))

texts-line : (n : ℕ) (ts : List (List ℕ)) → texts (map (λ t. (n, t)) ts) ≡ ts
texts-line n [] = refl
texts-line n (t ∷ ts) = ap (λ (l : List (List ℕ)). t ∷ l) (texts-line n ts)

pub texts-numbered : (n : ℕ) (ls : List (List ℕ)) → texts (numbered n ls) ≡ flat_map tokens ls
texts-numbered n [] = refl
texts-numbered n (line ∷ ls) =
    let with_number : List ℕ → Token = λ t. (n, t) in
    map-append (λ (t : Token). t.1) (map with_number (tokens line)) (numbered (n + 1) ls)
    ∙ ap (λ l. l ++ texts (numbered (n + 1) ls)) (texts-line n (tokens line))
    ∙ ap (λ l. tokens line ++ l) (texts-numbered (n + 1) ls)
