use Rattle.std.specs.Prelude.{◌≡◌, ℕ, ◌+◌, ◌≤◌, Bool, List, [], ◌∷◌, ◌++◌, length, map, ℤ}
use Rattle.flat_rows.specs.Flat.{Flat}
use Rattle.row_core.specs.Lists.{Row, Rows}

-- vectors of one width, in order, each with a mark, and how many can be appended without memory
pub record Vectors : Type 0 where
  pub width : ℕ
  pub rows : List Row
  pub spare : ℕ

-- the vectors as a list of rows
abbrev pub as_rows : Vectors → Rows
as_rows list = record { width = list.width; rows = list.rows }

-- the vectors, each with the mark
abbrev pub with_mark : Bool → List (List ℤ) → List Row
with_mark eq vs = map (λ v. (v, eq)) vs

-- a vector that is as said was appended, with the mark, where room was made
pub record IsAppended (eq : Bool) (Is : List ℤ → Type 0) (old new : Vectors) : Type 0 where
  pub vector : List ℤ
  pub is : Is vector
  pub width : new.width ≡ old.width
  pub rows : new.rows ≡ old.rows ++ (vector, eq) ∷ []
  pub spare : new.spare + 1 ≡ old.spare

-- the list has the same vectors
pub record HasSame (old new : Vectors) : Type 0 where
  pub width : new.width ≡ old.width
  pub rows : new.rows ≡ old.rows

-- two lists are empty, and have room for all lines and rays that follow on a row that isn't 0 on
-- some line
pub record HasRoomForStep (lines rays new_lines new_rays : Vectors) : Type 0 where
  pub lines_width : new_lines.width ≡ lines.width
  pub rays_width : new_rays.width ≡ lines.width
  pub no_lines : new_lines.rows ≡ []
  pub no_rays : new_rays.rows ≡ []
  pub line_room : length lines.rows ≤ new_lines.spare
  pub ray_room : length rays.rows + 1 ≤ new_rays.spare

-- a row that is as said was appended, where room was made
pub record IsRowAppended (Is : List ℤ → Type 0) (old new : Flat ℤ) : Type 0 where
  pub row : List ℤ
  pub is : Is row
  pub width : new.width ≡ old.width
  pub rows : new.rows ≡ old.rows ++ row ∷ []
  pub spare : new.spare + 1 ≡ old.spare

-- the store has the same rows
pub record HasSameRows (old new : Flat ℤ) : Type 0 where
  pub width : new.width ≡ old.width
  pub rows : new.rows ≡ old.rows
