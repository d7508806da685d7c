use Rattle.std.specs.Prelude.{◌≡◌, ℕ, ◌+◌, ◌*◌, ◌^◌, ◌<◌, ◌≤◌, Bool, true, false}
use Rattle.std.specs.Prelude.{List, [], ◌∷◌, ◌++◌, length, map, take, drop, slice_index_or}
use Rattle.std.specs.List.{range_with_len, refill}

-- rows of one width, in order, and how many rows can be appended without memory
pub record Flat (X : Type 0) : Type 0 where
  pub width : ℕ
  pub rows : List (List X)
  pub spare : ℕ

-- row i
abbrev pub entries_at : {X : Type 0} → List (List X) → ℕ → List X
entries_at rows i = slice_index_or rows i []

-- n rows of w cells each, one after another
abbrev pub rows_of : {X : Type 0} → ℕ → ℕ → List X → List (List X)
rows_of w n cells = map (λ i. take w (drop (i * w) cells)) (range_with_len 0 n)

-- the cells of rows, one row after another
abbrev pub cells_of : {X : Type 0} → List (List X) → List X
cells_of [] = []
cells_of (row ∷ rows) = row ++ cells_of rows

-- the cells are those of the rows
pub record AreCells {X : Type 0} (t : Flat X) (cells : List X) : Type 0 where
  pub same : cells ≡ cells_of t.rows
  pub rows : rows_of t.width (length t.rows) cells ≡ t.rows
  pub taken : length cells ≡ length t.rows * t.width

-- the rows with other cells, of which there stay as many
abbrev pub with_cells : {X : Type 0} → Flat X → List X → Flat X
with_cells t cells = record t {
  rows = rows_of t.width (length t.rows)
      (refill (length (cells_of t.rows)) (cells_of t.rows) cells);
}

-- the cells from one place on, as many as a row has
abbrev pub window : {X : Type 0} → ℕ → ℕ → List X → List X
window p w cells = take w (drop p cells)

-- the cells with a row over those from one place on
abbrev pub with_window : {X : Type 0} → ℕ → ℕ → List X → List X → List X
with_window p w row cells = take p cells ++ (row ++ drop (p + w) cells)

-- a row of a width: the first entries of another row, and one value past its end
abbrev pub fitted : {X : Type 0} → ℕ → X → List X → List X
fitted width rest row = map (λ k. slice_index_or row k rest) (range_with_len 0 width)

-- the rows fill the cells that are taken, and there is room for the rows that can be appended
pub record IsLaidOut (width count spare len capacity : ℕ) : Type 0 where
  pub taken : len ≡ count * width
  pub room : (count + spare) * width ≤ capacity
  pub counted : count + spare < 2 ^ 64

-- each row has the width
abbrev pub HasOneWidth : {X : Type 0} → Flat X → Type 0
HasOneWidth t = (i : ℕ) → i < length t.rows → length (entries_at t.rows i) ≡ t.width

-- the elements that are marked, in order
abbrev pub marked : {X : Type 0} → List Bool → List X → List X
marked [] xs = []
marked (keep ∷ marks) [] = []
marked (true ∷ marks) (x ∷ xs) = x ∷ marked marks xs
marked (false ∷ marks) (x ∷ xs) = marked marks xs
