-- The lines of a file, their tokens, and integers of any length.
use Rattle.std.specs.Prelude.{◌≡◌, ℕ, ◌+◌, ◌==◌, ◌||◌, ◌&&◌, List, [], ◌∷◌, ◌++◌, length, map, Bool, false, not, if◌then◌else◌, ℤ, pos}
use Rattle.std.proofs.Math.IntN.{neg_ℤ}
use Rattle.std.specs.List.{slice_split, filter}
use Rattle.std.specs.Str.Lines.{lines}
use Rattle.plain_text.specs.Digits.{is_nat, number}

-- a space, a tab or a CR
abbrev pub is_gap : ℕ → Bool
is_gap b = b == 32 || b == 9 || b == 13

-- a list that isn't empty
abbrev pub has_some : {A : Type 0} → List A → Bool
has_some xs = not (length xs == 0)

-- the tokens of a line: the runs of bytes between gaps
abbrev pub tokens : List ℕ → List (List ℕ)
tokens line = filter has_some (slice_split is_gap line)

-- the line has this token and no other
abbrev pub IsOnly : List ℕ → List ℕ → Type 0
IsOnly token line = tokens line ≡ token ∷ []

-- a token, and the number of its line
abbrev pub Token : Type 0
Token = ℕ × List ℕ

-- the tokens of lines in order; the first of these lines has the number n
abbrev pub numbered : ℕ → List (List ℕ) → List Token
numbered n [] = []
numbered n (line ∷ more) = map (λ t. (n, t)) (tokens line) ++ numbered (n + 1) more

-- the tokens of what is left of line n, and of the lines behind it
abbrev pub left : List ℕ → List ℕ → ℕ → List Token
left line after n = numbered n (line ∷ lines after)

-- tokens without the numbers of their lines
abbrev pub texts : List Token → List (List ℕ)
texts ts = map (λ (t : Token). t.1) ts

-- without one sign
abbrev pub unsigned : List ℕ → List ℕ
unsigned [] = []
unsigned (b ∷ w) = if b == 43 || b == 45 then w else b ∷ w

abbrev pub is_negative : List ℕ → Bool
is_negative [] = false
is_negative (b ∷ w) = b == 45

-- digits, with at most one sign before them
abbrev pub is_integer : List ℕ → Bool
is_integer t = is_nat (unsigned t)

-- the integer that such a token spells
abbrev pub integer : List ℕ → ℤ
integer t = if is_negative t then neg_ℤ (pos (number (unsigned t))) else pos (number (unsigned t))
