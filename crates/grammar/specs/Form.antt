use Rattle.std.specs.Prelude.{◌≡◌, ℕ, ◌+◌, ◌<◌, ◌≤◌, ◌⊎◌, List, [], ◌∷◌, ◌++◌, length, take, zero, suc}

-- a regular form of text
pub data Form : Type 0 where
  -- exactly these bytes
  word : List ℕ → Form
  -- one byte from the first to the second
  byte : ℕ → ℕ → Form
  -- a text of the first, then one of the second
  seq : Form → Form → Form
  -- a text of the first or of the second
  alt : Form → Form → Form
  -- any number of texts one behind the other
  many : Form → Form
  -- at most so many texts one behind the other
  upto : ℕ → Form → Form

-- the text is n pieces, each of P
abbrev pub Times : (List ℕ → Type 0) → ℕ → List ℕ → Type 0
Times P zero w = w ≡ []
Times P (suc n) w = (u : List ℕ) × (v : List ℕ) × (w ≡ u ++ v) × P u × Times P n v

-- the text has this form
abbrev pub Matches : Form → List ℕ → Type 0
Matches (word cs) w = w ≡ cs
Matches (byte low high) w = (b : ℕ) × (low ≤ b) × (b ≤ high) × (w ≡ b ∷ [])
Matches (seq f g) w = (u : List ℕ) × (v : List ℕ) × (w ≡ u ++ v) × Matches f u × Matches g v
Matches (alt f g) w = Matches f w ⊎ Matches g w
Matches (many f) w = (n : ℕ) × Times (Matches f) n w
Matches (upto k f) w = (n : ℕ) × (n ≤ k) × Times (Matches f) n w

-- some text of the form begins so
abbrev pub Begins : Form → List ℕ → Type 0
Begins f p = (rest : List ℕ) × Matches f (p ++ rest)

-- the text hasn't the form, and c is the least number such that its first c bytes begin no text of
-- the form, or the length plus 1 where the whole text begins one
pub record IsColumn (f : Form) (w : List ℕ) (c : ℕ) : Type 0 where
  pub not : ¬ (Matches f w)
  pub before : (i : ℕ) → i < c → Begins f (take i w)
  pub here : (c ≤ length w) × ¬ (Begins f (take c w)) ⊎ c ≡ length w + 1

-- the text has one of the forms
abbrev pub AnyMatches : List Form → List ℕ → Type 0
AnyMatches [] w = ⊥
AnyMatches (f ∷ fs) w = Matches f w ⊎ AnyMatches fs w

-- some text of one of the forms begins so
abbrev pub AnyBegins : List Form → List ℕ → Type 0
AnyBegins [] p = ⊥
AnyBegins (f ∷ fs) p = Begins f p ⊎ AnyBegins fs p

-- the text has none of the forms, and c is the least number such that its first c bytes begin no
-- text of any of them, or the length plus 1 where the whole text begins one
pub record IsColumnOfAny (fs : List Form) (w : List ℕ) (c : ℕ) : Type 0 where
  pub not : ¬ (AnyMatches fs w)
  pub before : (i : ℕ) → i < c → AnyBegins fs (take i w)
  pub here : (c ≤ length w) × ¬ (AnyBegins fs (take c w)) ⊎ c ≡ length w + 1

-- each text has a form or hasn't
abbrev pub DecidesMatches : Type 0
DecidesMatches = (f : Form) (w : List ℕ) → Matches f w ⊎ ¬ (Matches f w)
