-- The words of a text.
use Rattle.std.specs.Prelude.{ℕ, zero, suc, ◌-◌, ◌==◌, Bool, false, not, ◌||◌, ◌&&◌, if◌then◌else◌, List, [], ◌∷◌, take_while, take, drop, length, reverse}
use Rattle.std.specs.Str.{bytes_eq}

-- the word is this one
abbrev pub is_word : List ℕ → List ℕ → Bool
is_word w v = bytes_eq w v

-- a space or a tab
abbrev pub is_blank : ℕ → Bool
is_blank b = (b == 32) || (b == 9)

-- a colon, or a byte of a relation: one of < = >
abbrev pub is_sign : ℕ → Bool
is_sign b = (b == 58) || (b == 60) || (b == 61) || (b == 62)

-- no blank, no colon, no byte of a relation and no #
abbrev pub is_in_word : ℕ → Bool
is_in_word b = not ((b == 32) || (b == 9) || (b == 35) || is_sign b)

-- no colon and no byte of a relation
abbrev pub is_before_sign : ℕ → Bool
is_before_sign b = not (is_sign b)

-- the text begins with this byte
abbrev pub begins_with : ℕ → List ℕ → Bool
begins_with b [] = false
begins_with b (c ∷ text) = c == b

-- not #
abbrev pub is_before_comment : ℕ → Bool
is_before_comment b = not (b == 35)

-- the text without the blanks in front
abbrev pub past_blanks : List ℕ → List ℕ
past_blanks text = drop (length (take_while is_blank text)) text

-- the text without the blanks at its end
abbrev pub before_blanks : List ℕ → List ℕ
before_blanks text = take (length text - length (take_while is_blank (reverse text))) text

-- the text without the blanks around it
abbrev pub without_blanks : List ℕ → List ℕ
without_blanks text = before_blanks (past_blanks text)

-- the first word of the text
abbrev pub word_of : List ℕ → List ℕ
word_of text = take_while is_in_word (past_blanks text)

-- what stands behind the first word
abbrev pub behind_word : List ℕ → List ℕ
behind_word text = drop (length (word_of text)) (past_blanks text)

-- the word with this number, from 0
abbrev pub nth_word : ℕ → List ℕ → List ℕ
nth_word zero text = word_of text
nth_word (suc i) text = nth_word i (behind_word text)

-- the text before a comment
abbrev pub before_comment : List ℕ → List ℕ
before_comment text = take_while is_before_comment text

-- the text from its first colon or relation on
abbrev pub from_sign : List ℕ → List ℕ
from_sign text = drop (length (take_while is_before_sign text)) text

-- how many bytes the colon or relation in front has: two for <= and >=
abbrev pub sign_len : List ℕ → ℕ
sign_len [] = 0
sign_len (b ∷ text) = if ((b == 60) || (b == 62)) && begins_with 61 text then 2 else 1

-- the first colon or relation
abbrev pub sign_in : List ℕ → List ℕ
sign_in text = take (sign_len (from_sign text)) (from_sign text)

-- what stands behind the first colon or relation
abbrev pub behind_sign : List ℕ → List ℕ
behind_sign text = drop (sign_len (from_sign text)) (from_sign text)

-- the first colon or relation before a comment
abbrev pub sign_of : List ℕ → List ℕ
sign_of text = sign_in (before_comment text)

-- what stands between the first colon or relation and a comment, without the blanks around it
abbrev pub part_of : List ℕ → List ℕ
part_of text = without_blanks (behind_sign (before_comment text))
