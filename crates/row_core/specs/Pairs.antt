use Rattle.std.specs.Prelude.{ℕ, ◌<◌, List, length, ℤ, pos, ◌<ℤ◌, slice_index_or}

-- value i
abbrev pub value_at : List ℤ → ℕ → ℤ
value_at values i = slice_index_or values i (pos 0)

-- the pair at index i of the list
abbrev pub pair_at : List (ℕ × ℕ) → ℕ → ℕ × ℕ
pair_at pairs i = slice_index_or pairs i (0, 0)

-- the first of the two values is above 0 and the second below
pub record IsPairAt (values : List ℤ) (p n : ℕ) : Type 0 where
  pub first : p < length values
  pub second : n < length values
  pub above : pos 0 <ℤ value_at values p
  pub below : value_at values n <ℤ pos 0
