use Rattle.std.specs.Prelude.{ℕ, zero, suc, ◌+◌, ◌*◌, ◌/◌, ◌%◌, ◌^◌, List, [], ◌∷◌, ◌++◌, ℤ, pos, ◌-ℤ◌}

-- ---- draws
-- the number that is kept, after one draw more
abbrev pub next : ℕ → ℕ
next x = (1103515245 * x + 12345) % 2 ^ 31

-- what a draw gives, by the number after it
abbrev pub drawn : ℕ → ℕ
drawn x = x / 65536

-- ---- rows
-- the coefficient that a drawn number gives, from -10 to 10
abbrev pub coefficient : ℕ → ℤ
coefficient q = pos (q % 21) -ℤ pos 10

-- the constant that a drawn number gives, from 1 to 100
abbrev pub constant : ℕ → ℤ
constant q = pos (1 + q % 100)

-- the row of the next four draws: three coefficients, and then the constant
abbrev pub row_from : ℕ → List ℤ
row_from x =
    coefficient (drawn (next x)) ∷
    coefficient (drawn (next (next x))) ∷
    coefficient (drawn (next (next (next x)))) ∷
    constant (drawn (next (next (next (next x))))) ∷ []

-- the number before row i: 1 before the first one, and four draws further before each later one
abbrev pub before_row : ℕ → ℕ
before_row zero = 1
before_row (suc i) = next (next (next (next (before_row i))))

-- the rows of the first n fours of draws
abbrev pub drawn_rows : ℕ → List (List ℤ)
drawn_rows zero = []
drawn_rows (suc n) = drawn_rows n ++ row_from (before_row n) ∷ []
