use Rattle.std.specs.Prelude.{ℕ, List, [], ◌∷◌, bit_and}

-- the conjunctions of two rows, word by word
abbrev pub and_words : List ℕ → List ℕ → List ℕ
and_words [] ys = []
and_words (x ∷ xs) [] = []
and_words (x ∷ xs) (y ∷ ys) = bit_and x y ∷ and_words xs ys
