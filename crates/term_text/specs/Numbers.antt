-- Sizes and variables, with a cap.
use Rattle.std.specs.Prelude.{ℕ, ◌+◌, ◌-◌, ◌*◌, ◌^◌, List, [], ◌∷◌, min}
pub use Rattle.plain_text.specs.Digits.{number_after}

-- the number that digits spell; 2^127 stands for all greater ones too
abbrev pub size_of : List ℕ → ℕ
size_of digits = min (number_after 0 digits) (2 ^ 127)

-- the variable of a letter and the digits behind it; 2^32 stands for all later ones too
abbrev pub index_of : List ℕ → ℕ
index_of [] = 0
index_of (letter ∷ digits) = min (26 * number_after 0 digits + (letter - 65)) (2 ^ 32)
