-- The variables of a list.
use Rattle.std.specs.Prelude.{◌≡◌, ℕ, zero, suc, ◌+◌, ◌-◌, ◌*◌, ◌^◌, min, List, [], ◌∷◌, take_while, if◌then◌else◌}
use Rattle.grammar.specs.Form.{Matches, Times}
use Rattle.grammar.specs.Grammar.{◌·◌, ◌⋯◌, symbol, blanks, var, vars}
use Rattle.plain_text.specs.Digits.{is_digit, is_upper, number_after}

-- the variable in front, by its letter and the digits behind it; 2^64 - 1 stands for all later ones
-- too
abbrev pub variable_of : List ℕ → ℕ
variable_of [] = 0
variable_of (letter ∷ text) =
    min (26 * number_after 0 (take_while is_digit text) + (letter - 65)) (2 ^ 64 - 1)

-- the variables of a text, in order: one at each letter
abbrev pub variables_of : List ℕ → List ℕ
variables_of [] = []
variables_of (b ∷ text) =
    if is_upper b then variable_of (b ∷ text) ∷ variables_of text else variables_of text

-- n times a comma and a variable
abbrev pub further_variables_by :
    (n : ℕ) (w : List ℕ) → Times (Matches (blanks · (symbol 44 ⋯ var))) n w → List ℕ
further_variables_by zero w none = []
further_variables_by (suc n) w (_, v, _, (_, _, _, _, (_, _, _, _, (_, variable, _, _, _))), more) =
    variable_of variable ∷ further_variables_by n v more

-- the variables of a list, by how it matches: one for each, in order
abbrev pub variables_by : (w : List ℕ) → Matches vars w → List ℕ
variables_by w (variable, v, _, _, (n, others)) =
    variable_of variable ∷ further_variables_by n v others

-- the variables of a list, however it matches, are those of its text
abbrev pub VariablesAreListed : Type 0
VariablesAreListed = (w : List ℕ) (m : Matches vars w) → variables_of w ≡ variables_by w m
