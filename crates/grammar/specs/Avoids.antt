use Rattle.std.specs.Prelude.{◌≡◌, ℕ, Bool, true, not, ◌&&◌, ◌||◌, ◌==◌, nat_lt, List, [], ◌∷◌, Contains}
use Rattle.grammar.specs.Form.{Form, word, byte, seq, alt, many, upto, Matches}

-- the byte isn't in the text
abbrev pub lacks : List ℕ → ℕ → Bool
lacks [] b = true
lacks (c ∷ cs) b = not (c == b) && lacks cs b

-- no part of the form takes the byte
abbrev pub avoids : Form → ℕ → Bool
avoids (word cs) b = lacks cs b
avoids (byte low high) b = nat_lt b low || nat_lt high b
avoids (seq f g) b = avoids f b && avoids g b
avoids (alt f g) b = avoids f b && avoids g b
avoids (many f) b = avoids f b
avoids (upto k f) b = avoids f b

-- no text of a form has a byte that the form avoids
abbrev pub AvoidedBytes : Type 0
AvoidedBytes = (f : Form) (b : ℕ) (w : List ℕ) → avoids f b ≡ true → Matches f w → ¬ (Contains w b)
