-- Bytes: blanks, numbers, variables, names, and texts that are taken apart.
use Rattle.std.specs.Prelude.{◌≡◌, ◌⊎◌, ℕ, ◌+◌, ◌-◌, ◌*◌, ◌≤◌, ◌<◌, List, [], ◌∷◌, ◌++◌, length, All}
use Rattle.plain_text.specs.Digits.{number}

-- a space or a tab
abbrev pub IsBlank : ℕ → Type 0
IsBlank b = (b ≡ 32) ⊎ (b ≡ 9)

-- any number of blanks
abbrev pub AreBlanks : List ℕ → Type 0
AreBlanks w = All IsBlank w

-- a digit from 0 to 9
abbrev pub IsDigit : ℕ → Type 0
IsDigit b = (48 ≤ b) × (b ≤ 57)

-- a letter from A to Z
abbrev pub IsCapital : ℕ → Type 0
IsCapital b = (65 ≤ b) × (b ≤ 90)

-- a letter from a to z
abbrev pub IsSmall : ℕ → Type 0
IsSmall b = (97 ≤ b) × (b ≤ 122)

-- one or more digits, and the number that they spell
pub record IsNumber (w : List ℕ) (n : ℕ) : Type 0 where
  pub digits : All IsDigit w
  pub some : 0 < length w
  pub value : n ≡ number w

-- `A` to `Z` are the variables 0 to 25, `A1` to `Z1` the next 26, then `A2` to `Z2`, and so on
pub data IsVariable : List ℕ → ℕ → Type 0 where
  letter : (b : ℕ) → IsCapital b → IsVariable (b ∷ []) (b - 65)
  numbered : (b d : ℕ) (ds : List ℕ) (n : ℕ) → IsCapital b → 48 < d → IsNumber (d ∷ ds) n →
      IsVariable (b ∷ d ∷ ds) (26 * n + (b - 65))

-- what may stand in a name behind its first letter
abbrev pub IsInName : ℕ → Type 0
IsInName b = IsSmall b ⊎ IsDigit b ⊎ (b ≡ 95)

-- a lower-case letter and then lower-case letters, digits or _, at most so many bytes
abbrev pub IsName : ℕ → List ℕ → Type 0
IsName most [] = ⊥
IsName most (b ∷ w) = IsSmall b × All IsInName w × (length w < most)

-- the pieces of a text between which blanks may stand
abbrev pub Tokens : Type 0
Tokens = List (List ℕ)

-- the text is these tokens in order, with any blanks before, between and behind them
abbrev pub AreTokens : Tokens → List ℕ → Type 0
AreTokens [] text = AreBlanks text
AreTokens (t ∷ ts) text =
    (b rest : List ℕ) × (text ≡ b ++ t ++ rest) × AreBlanks b × AreTokens ts rest

-- the text is tokens that say this, where Means tells what tokens say
pub record IsText {A : Type 0} (Means : Tokens → A → Type 0) (text : List ℕ) (a : A) : Type 0 where
  pub pieces : Tokens
  pub split : AreTokens pieces text
  pub means : Means pieces a
