-- The names of a table as text.
use Rattle.std.specs.Prelude.{ℕ, List, [], ◌∷◌, ◌++◌, length, codes, decimal}
use Rattle.std.specs.Map.{keys_of}
use Rattle.name_table.specs.Table.{Table}

-- each name with a space before it
abbrev pub spaced : List (List ℕ) → List ℕ
spaced [] = []
spaced (name ∷ names) = codes " " ++ name ++ spaced names

-- names, their number, and each
abbrev pub names_text : {E : Type 0} → Table E → List ℕ
names_text table = codes "names " ++ decimal (length table) ++ spaced (keys_of table)
