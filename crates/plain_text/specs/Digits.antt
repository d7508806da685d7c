-- Digits and letters, and the numbers that digits spell.
use Rattle.std.specs.Prelude.{ℕ, ◌+◌, ◌-◌, ◌*◌, ◌==◌, ◌&&◌, nat_le, not, Bool, List, [], ◌∷◌, length, min}
use Rattle.std.specs.List.{list_all}

-- a digit from 0 to 9
abbrev pub is_digit : ℕ → Bool
is_digit b = nat_le 48 b && nat_le b 57

abbrev pub is_upper : ℕ → Bool
is_upper b = nat_le 65 b && nat_le b 90

-- one or more digits
abbrev pub is_nat : List ℕ → Bool
is_nat text = not (length text == 0) && list_all is_digit text

-- the number that the digits of n and then these spell
abbrev pub number_after : ℕ → List ℕ → ℕ
number_after n [] = n
number_after n (b ∷ bs) = number_after (10 * n + (b - 48)) bs

-- the number that digits spell
abbrev pub number : List ℕ → ℕ
number digits = number_after 0 digits

-- the number with one more digit, where the greatest stands for all greater ones too
abbrev pub next_number : ℕ → ℕ → ℕ → ℕ
next_number most n digit = min (10 * n + digit) most
