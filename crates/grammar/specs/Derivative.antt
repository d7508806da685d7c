use Rattle.std.specs.Prelude.{◌≡◌, ℕ, Bool, true, false, cond, ◌&&◌, ◌||◌, ◌==◌, nat_le, ◌⊎◌, List, [], ◌∷◌, ◌++◌, zero, suc}
use Rattle.grammar.specs.Form.{Form, word, byte, seq, alt, many, upto, Matches}

-- the empty text has the form
abbrev pub nullable : Form → Bool
nullable (word []) = true
nullable (word (c ∷ cs)) = false
nullable (byte low high) = false
nullable (seq f g) = nullable f && nullable g
nullable (alt f g) = nullable f || nullable g
nullable (many f) = true
nullable (upto k f) = true

-- what may come behind the byte, where a text of the form and then of the row begins with it;
-- a row is a list of forms to come, one behind the other
abbrev pub after : ℕ → Form → List Form → List (List Form)
after b (word []) row = []
after b (word (c ∷ cs)) row = cond (b == c) ((word cs ∷ row) ∷ []) []
after b (byte low high) row = cond (nat_le low b && nat_le b high) (row ∷ []) []
after b (seq f g) row = after b f (g ∷ row) ++ cond (nullable f) (after b g row) []
after b (alt f g) row = after b f row ++ after b g row
after b (many f) row = after b f (many f ∷ row)
after b (upto zero f) row = []
after b (upto (suc n) f) row = after b f (upto n f ∷ row)

-- what may come behind the byte, where a text of the row begins with it
abbrev pub after_row : ℕ → List Form → List (List Form)
after_row b [] = []
after_row b (f ∷ row) = after b f row ++ cond (nullable f) (after_row b row) []

-- what may come behind the byte, where a text of one of the rows begins with it
abbrev pub after_rows : ℕ → List (List Form) → List (List Form)
after_rows b [] = []
after_rows b (row ∷ rows) = after_row b row ++ after_rows b rows

-- what may come behind the bytes, where a text of one of the rows begins with them
abbrev pub states : List (List Form) → List ℕ → List (List Form)
states rows [] = rows
states rows (b ∷ w) = states (after_rows b rows) w

-- the empty text has each form of the row
abbrev pub row_ends : List Form → Bool
row_ends [] = true
row_ends (f ∷ row) = nullable f && row_ends row

-- the empty text has each form of one of the rows
abbrev pub some_ends : List (List Form) → Bool
some_ends [] = false
some_ends (row ∷ rows) = row_ends row || some_ends rows

-- the text is one of each form of the row, in their order
abbrev pub Spells : List Form → List ℕ → Type 0
Spells [] w = w ≡ []
Spells (f ∷ row) w = (u : List ℕ) × (v : List ℕ) × (w ≡ u ++ v) × Matches f u × Spells row v

-- one of the rows spells the text
abbrev pub AnySpells : List (List Form) → List ℕ → Type 0
AnySpells [] w = ⊥
AnySpells (row ∷ rows) w = Spells row w ⊎ AnySpells rows w

-- each range of bytes in the form has a byte, so the form has a text
abbrev pub lives : Form → Bool
lives (word cs) = true
lives (byte low high) = nat_le low high
lives (seq f g) = lives f && lives g
lives (alt f g) = lives f && lives g
lives (many f) = lives f
lives (upto k f) = lives f

-- each form of the row has a text
abbrev pub row_lives : List Form → Bool
row_lives [] = true
row_lives (f ∷ row) = lives f && row_lives row

-- each form of each row has a text
abbrev pub rows_live : List (List Form) → Bool
rows_live [] = true
rows_live (row ∷ rows) = row_lives row && rows_live rows
