-- Bytes have no more tokens than bytes.
use Rattle.std.proofs.Common.{ℕ, ◌+◌, ◌≤◌, List, [], ◌∷◌, length, arith, Bool, true, false, cond, map, length-append, take, ◌-◌, length-take}
use Rattle.std.proofs.lemmas.List.{length-map}
use Rattle.std.specs.List.{slice_split, onto_first, filter}
use Rattle.std.specs.Str.Lines.{lines, lines_of_parts, strip_carriage_return}
use Rattle.cdd_reading.specs.Tokens.{is_gap, has_some, tokens, numbered, Token}
use Rattle.plain_text.specs.Lines.{is_feed}

-- all bytes of all parts
bytes_of : List (List ℕ) → ℕ
bytes_of [] = 0
bytes_of (x ∷ xs) = length x + bytes_of xs

kept_more : {A : Type 0} (t : Bool) (x : A) (xs : List A) → (length xs ≤ length (cond t (x ∷ xs) xs)) × (length (cond t (x ∷ xs) xs) ≤ length xs + 1)
kept_more true x xs = (omega arith, omega arith)
kept_more false x xs = (omega arith, omega arith)

onto_few : (b : ℕ) (parts : List (List ℕ)) (n : ℕ) → length (filter has_some parts) ≤ n → length (filter has_some (onto_first b parts)) ≤ n + 1
onto_few b [] n h = omega (arith, kept_more (has_some (b ∷ [])) (b ∷ []) [])
onto_few b (part ∷ parts) n h = omega (arith, h, kept_more (has_some part) part (filter has_some parts), kept_more (has_some (b ∷ part)) (b ∷ part) (filter has_some parts))

gap_few : (t : Bool) (b n : ℕ) (parts : List (List ℕ)) → length (filter has_some parts) ≤ n → length (filter has_some (cond t ([] ∷ parts) (onto_first b parts))) ≤ n + 1
gap_few true b n parts h = omega arith
gap_few false b n parts h = onto_few b parts n h

tokens_few : (line : List ℕ) → length (tokens line) ≤ length line
tokens_few [] = omega arith
tokens_few (b ∷ line) = omega (arith, gap_few (is_gap b) b (length line) (slice_split is_gap line) (tokens_few line))

onto_bytes : (b : ℕ) (parts : List (List ℕ)) → bytes_of (onto_first b parts) ≤ bytes_of parts + 1
unfolding bytes_of
onto_bytes b [] = omega arith
onto_bytes b (part ∷ parts) = omega arith

feed_bytes : (t : Bool) (b n : ℕ) (parts : List (List ℕ)) → bytes_of parts ≤ n → bytes_of (cond t ([] ∷ parts) (onto_first b parts)) ≤ n + 1
unfolding bytes_of
feed_bytes true b n parts h = omega arith
feed_bytes false b n parts h = omega (arith, onto_bytes b parts)

parts_bytes : (bytes : List ℕ) → bytes_of (slice_split is_feed bytes) ≤ length bytes
unfolding bytes_of
parts_bytes [] = omega arith
parts_bytes (b ∷ bytes) = omega (arith, feed_bytes (is_feed b) b (length bytes) (slice_split is_feed bytes) (parts_bytes bytes))

front_short : (t : Bool) (n : ℕ) (line : List ℕ) → length (cond t (take n line) line) ≤ length line
front_short true n line = omega (arith, length-take n line)
front_short false n line = omega arith

strip_short : (line : List ℕ) → length (strip_carriage_return line) ≤ length line
strip_short line = front_short _ (length line - 1) line

last_bytes : (t : Bool) (x : List ℕ) → bytes_of (cond t [] (x ∷ [])) ≤ length x + 0
unfolding bytes_of
last_bytes true x = omega arith
last_bytes false x = omega arith

lines_bytes : (parts : List (List ℕ)) → bytes_of (lines_of_parts parts) ≤ bytes_of parts
unfolding bytes_of
lines_bytes [] = omega arith
lines_bytes (x ∷ []) = last_bytes _ x
lines_bytes (x ∷ y ∷ more) = omega (arith, strip_short x, lines_bytes (y ∷ more))

line_few : (n : ℕ) (line : List ℕ) → length {A = Token} (map (λ t. (n, t)) (tokens line)) ≤ length line
line_few n line = let with_number : List ℕ → Token = λ t. (n, t) in omega (arith, tokens_few line, length-map (tokens line) with_number)

numbered_bytes : (n : ℕ) (ls : List (List ℕ)) → length (numbered n ls) ≤ bytes_of ls
unfolding bytes_of
numbered_bytes n [] = omega arith
numbered_bytes n (line ∷ ls) = let with_number : List ℕ → Token = λ t. (n, t) in omega (arith, length-append (map with_number (tokens line)) (numbered (n + 1) ls), line_few n line, numbered_bytes (n + 1) ls)

pub few_tokens : (n : ℕ) (bytes : List ℕ) → length (numbered n (lines bytes)) ≤ length bytes
few_tokens n bytes = omega (arith, numbered_bytes n (lines bytes), lines_bytes (slice_split is_feed bytes), parts_bytes bytes)
