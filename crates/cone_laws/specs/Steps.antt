use Rattle.std.specs.Prelude.{◌≡◌, ◌≢◌, ℕ, ◌<◌, List, [], ◌∷◌, ◌++◌, length, slice_index_or, remove, if◌then◌else◌, ℤ, pos, ◌-ℤ◌, ◌<ℤ◌, unsigned_abs, filter, Contains}
use Rattle.std.proofs.Math.IntN.{◌*ℤ◌}
use Rattle.row_core.specs.Vectors.{cell, dot, scale}
use Rattle.row_core.specs.Content.{IsPrimitive}
use Rattle.row_core.specs.Lists.{Row, row_at, Pointwise, vector_at}
use Rattle.row_core.specs.Signs.{sign, stays}
use Rattle.row_core.specs.Pairs.{pair_at}

-- the row is row k of the list
pub record IsRowAt (rows : List Row) (k : ℕ) (row : Row) : Type 0 where
  pub below : k < length rows
  pub same : slice_index_or rows k row ≡ row

-- the vectors of the list are 1 at the column of their index, and 0 at each other column
pub record AreUnits (width : ℕ) (vectors : List (List ℤ)) : Type 0 where
  pub as_many : length vectors ≡ width
  pub wide : (i : ℕ) → i < width → length (vector_at vectors i) ≡ width
  pub one : (i : ℕ) → i < width → cell (vector_at vectors i) i ≡ pos 1
  pub zeros : (i j : ℕ) → i < width → i ≢ j → cell (vector_at vectors i) j ≡ pos 0

-- ---- two rays on the two sides of a row

-- of two vectors, the first above and the second below 0 on the row:
-- a positive multiple of the result is their combination that is 0 on the row
pub record IsPair (a p n r : List ℤ) : Type 0 where
  pub times : ℤ
  pub positive : pos 0 <ℤ times
  pub same : (j : ℕ) → times *ℤ cell r j ≡ dot a p *ℤ cell n j -ℤ dot a n *ℤ cell p j

-- such a combination, primitive and of the width of the two vectors
pub record IsMade (a p n r : List ℤ) : Type 0 where
  pub pair : IsPair a p n r
  pub wide : length r ≡ length p
  pub primitive : IsPrimitive r

-- ray i is 0 on each of the first k rows on which rays p and n both are 0
abbrev pub IsBetween : List Row → ℕ → List (List ℤ) → ℕ → ℕ → ℕ → Type 0
IsBetween rows k rays p n i = (m : ℕ) → m < k →
    dot (row_at rows m) (vector_at rays p) ≡ pos 0 →
    dot (row_at rows m) (vector_at rays n) ≡ pos 0 →
    dot (row_at rows m) (vector_at rays i) ≡ pos 0

-- no ray with another index than p and n is 0 on all of the first k rows on which both are
abbrev pub NoThird : List Row → ℕ → List (List ℤ) → ℕ → ℕ → Type 0
NoThird rows k rays p n = (i : ℕ) → i < length rays → i ≢ p → i ≢ n →
    ¬ (IsBetween rows k rays p n i)

-- the row is above 0 on ray p and below 0 on ray n
pub record IsOpposite (a : List ℤ) (rays : List (List ℤ)) (p n : ℕ) : Type 0 where
  pub first : p < length rays
  pub second : n < length rays
  pub above : pos 0 <ℤ dot a (vector_at rays p)
  pub below : dot a (vector_at rays n) <ℤ pos 0

-- the row is above 0 on ray p and below 0 on ray n, which are adjacent:
-- no third ray is 0 on all of the first k rows on which both are
pub record IsCrossing (rows : List Row) (k : ℕ) (a : List ℤ) (rays : List (List ℤ))
    (p n : ℕ) : Type 0 where
  pub opposite : IsOpposite a rays p n
  pub adjacent : NoThird rows k rays p n

-- the vectors made are one of each of the pairs
abbrev pub IsMadeOf : List ℤ → List (List ℤ) → ℕ × ℕ → List ℤ → Type 0
IsMadeOf a rays pair r = IsMade a (vector_at rays pair.0) (vector_at rays pair.1) r

-- the step with row k of the list, which is 0 on all lines: kept are the rays on which the row
-- stays at its side, and made is one ray of each pair of adjacent rays on the two sides of the row
pub record IsRayStep (rows : List Row) (k : ℕ) (row : Row) (rays new : List (List ℤ)) : Type 0 where
  pub pairs : List (ℕ × ℕ)
  pub made : List (List ℤ)
  pub result : new ≡ filter (λ r. stays row.1 (dot row.0 r)) rays ++ made
  pub cross : (i : ℕ) → i < length pairs →
      IsCrossing rows k row.0 rays (pair_at pairs i).0 (pair_at pairs i).1
  pub all : (p n : ℕ) → IsCrossing rows k row.0 rays p n → Contains pairs (p, n)
  pub distinct : (i j : ℕ) → i < length pairs → j < length pairs → i ≢ j →
      pair_at pairs i ≢ pair_at pairs j
  pub each_made : Pointwise (IsMadeOf row.0 rays) pairs made

-- ---- a line that crosses a row

-- a positive multiple of the result is the magnitude of the row's value on the line times
-- the vector, less so much of the line that the row is 0 on it
pub record IsLoweredBy (a l w r : List ℤ) : Type 0 where
  pub times : ℤ
  pub positive : pos 0 <ℤ times
  pub same : (j : ℕ) → times *ℤ cell r j
      ≡ pos (unsigned_abs (dot a l)) *ℤ cell w j -ℤ (sign (dot a l) *ℤ dot a w) *ℤ cell l j

-- such a vector, primitive and of the width of the old one
pub record IsLowered (a l w r : List ℤ) : Type 0 where
  pub lowered : IsLoweredBy a l w r
  pub wide : length r ≡ length w
  pub primitive : IsPrimitive r

-- the line with the sign with which the row is at least 0 on it
abbrev pub upward : List ℤ → List ℤ → List ℤ
upward a l = scale (sign (dot a l)) l

-- the last line on which the row isn't 0
pub record IsLastCrossing (a : List ℤ) (lines : List (List ℤ)) (index : ℕ) : Type 0 where
  pub below : index < length lines
  pub crosses : dot a (vector_at lines index) ≢ pos 0
  pub last : (i : ℕ) → index < i → i < length lines → dot a (vector_at lines i) ≡ pos 0

-- the step with a row that isn't 0 on some line: the last such line lowers all other lines and rays
-- onto the row and, where the row is no equality, becomes a ray
pub record IsLineStep (row : Row) (lines rays new_lines new_rays : List (List ℤ)) : Type 0 where
  pub index : ℕ
  pub crossing : IsLastCrossing row.0 lines index
  pub lines_lowered :
      Pointwise (IsLowered row.0 (vector_at lines index)) (remove lines index) new_lines
  pub kept : List (List ℤ)
  pub rays_lowered : Pointwise (IsLowered row.0 (vector_at lines index)) rays kept
  pub result :
      new_rays ≡ kept ++ (if row.1 then [] else (upward row.0 (vector_at lines index) ∷ []))
