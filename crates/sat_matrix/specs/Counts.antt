use Rattle.std.specs.Prelude.{ℕ, ◌+◌, Bool, true, false, List, [], ◌∷◌}

-- how many places are true
abbrev pub ones : List Bool → ℕ
ones [] = 0
ones (true ∷ bits) = 1 + ones bits
ones (false ∷ bits) = ones bits

-- 1 for true
abbrev pub one_if : Bool → ℕ
one_if true = 1
one_if false = 0
