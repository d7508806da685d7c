use Rattle.std.specs.Prelude.{◌≡◌, ◌≢◌, ℕ, ◌<◌, ◌≤◌, ◌⊎◌, List, [], length, ℤ, pos, ◌+ℤ◌, ◌-ℤ◌, ◌<ℤ◌, All, remove}
use Rattle.std.proofs.Math.IntN.{◌*ℤ◌}
use Rattle.row_core.specs.Vectors.{cell, scale, combined}
use Rattle.row_core.specs.Content.{IsPrimitive}
use Rattle.row_core.specs.Lists.{Row, Pointwise, row_at, is_eq_at, vector_at}
use Rattle.cone_laws.specs.Cones.{Spans}
use Rattle.cone_laws.specs.Canon.{IsPivot, IsEchelon}
use Rattle.row_core.specs.Signs.{sign}

-- the lines are the reduced echelon basis of what the vectors span
pub record IsBasis (spanning lines : List (List ℤ)) : Type 0 where
  pub spans : All (Spans lines []) spanning
  pub spanned : All (Spans spanning []) lines
  pub echelon : IsEchelon lines []
  pub primitive : All IsPrimitive lines

-- the vector isn't 0 at the column, and 0 at each column before it
pub record IsLeading (v : List ℤ) (c : ℕ) : Type 0 where
  pub nonzero : cell v c ≢ pos 0
  pub before : (i : ℕ) → i < c → cell v i ≡ pos 0

-- the primitive line has the pivot, and is 0 at the pivots of the lines
pub record IsNewLine (lines : List (List ℤ)) (line : List ℤ) (c : ℕ) : Type 0 where
  pub at : IsPivot line c
  pub zeros : (i p : ℕ) → i < length lines → IsPivot (vector_at lines i) p → cell line p ≡ pos 0
  pub primitive : IsPrimitive line

-- a positive multiple of the row and multiples of the lines add to a positive multiple of the
-- result, which is 0 at the pivot of each of these lines, and primitive
pub record IsReduced (lines : List (List ℤ)) (a result : List ℤ) : Type 0 where
  pub times : ℤ
  pub positive : pos 0 <ℤ times
  pub factor : ℤ
  pub factor_positive : pos 0 <ℤ factor
  pub factors : List ℤ
  pub same : (j : ℕ) → times *ℤ cell result j ≡ factor *ℤ cell a j +ℤ combined factors lines j
  pub zeros : (i p : ℕ) → i < length lines → IsPivot (vector_at lines i) p → cell result p ≡ pos 0
  pub wide : length result ≡ length a
  pub primitive : IsPrimitive result

-- the vectors are the rows at the indices, each reduced by the lines
abbrev pub AreReduced : List (List ℤ) → List Row → List ℕ → List (List ℤ) → Type 0
AreReduced lines rows indices reduced =
    Pointwise (λ i r. IsReduced lines (row_at rows i) r) indices reduced

-- a list in reduced echelon form has at most as many lines as columns
abbrev pub EchelonIsNarrow : Type 0
EchelonIsNarrow = (width : ℕ) (lines rays : List (List ℤ)) → IsEchelon lines rays
    → All (λ l. length l ≡ width) lines → length lines ≤ width

-- a positive multiple of the result is the vector w, times the positive entry of l at the column,
-- less so much of l that it is 0 there
pub record IsClearedAt (c : ℕ) (l w r : List ℤ) : Type 0 where
  pub times : ℤ
  pub positive : pos 0 <ℤ times
  pub same : (j : ℕ) → times *ℤ cell r j ≡ cell l c *ℤ cell w j -ℤ cell w c *ℤ cell l j

-- such a vector, primitive and of the width of the old one
pub record IsCleared (c : ℕ) (l w r : List ℤ) : Type 0 where
  pub cleared : IsClearedAt c l w r
  pub wide : length r ≡ length w
  pub primitive : IsPrimitive r

-- row i was cleared at the pivot of a line, and the others are as before
pub record IsLineCleared (c : ℕ) (line : List ℤ) (rows : List Row) (i : ℕ)
    (new : List Row) : Type 0 where
  pub as_many : length new ≡ length rows
  pub cleared : IsCleared c line (row_at rows i) (row_at new i)
  pub others : (k : ℕ) → k ≢ i → row_at new k ≡ row_at rows k
  pub marks : (k : ℕ) → is_eq_at new k ≡ is_eq_at rows k

-- the lines before an index were cleared at the pivot of a line, and the others are as before
pub record AreCleared (c : ℕ) (line : List ℤ) (lines : List (List ℤ)) (end : ℕ)
    (new : List (List ℤ)) : Type 0 where
  pub as_many : length new ≡ length lines
  pub each : (i : ℕ) → i < end → IsCleared c line (vector_at lines i) (vector_at new i)
  pub behind : (i : ℕ) → end ≤ i → vector_at new i ≡ vector_at lines i

-- the place at which a line with the pivot stands between lines with lesser and with greater pivots
pub record IsPlace (lines : List (List ℤ)) (c k : ℕ) : Type 0 where
  pub within : k ≤ length lines
  pub before : (i p : ℕ) → i < k → IsPivot (vector_at lines i) p → p < c
  pub behind : (i p : ℕ) → k ≤ i → i < length lines → IsPivot (vector_at lines i) p → c < p

-- the line stands at its place, and the others are the old lines cleared at its pivot
pub record HasTaken (c : ℕ) (lines : List (List ℤ)) (line : List ℤ)
    (new : List (List ℤ)) : Type 0 where
  pub k : ℕ
  pub place : IsPlace lines c k
  pub within : k < length new
  pub line_is : vector_at new k ≡ line
  pub cleared : Pointwise (IsCleared c line) lines (remove new k)

-- the vector, with the sign with which it is positive at the column
abbrev pub turned_up : List ℤ → ℕ → List ℤ
turned_up v c = scale (sign (cell v c)) v

-- the row, reduced by the lines, isn't 0 and was taken in as a line
pub record HasGrown (lines : List (List ℤ)) (reduced : List ℤ) (new : List (List ℤ)) : Type 0 where
  pub column : ℕ
  pub leading : IsLeading reduced column
  pub taken : HasTaken column lines (turned_up reduced column) new

-- the row, reduced by the lines, is 0, or was taken in as a line
pub record IsGrown (lines : List (List ℤ)) (a : List ℤ) (new : List (List ℤ)) : Type 0 where
  pub reduced : List ℤ
  pub is_reduced : IsReduced lines a reduced
  pub outcome : (((j : ℕ) → cell reduced j ≡ pos 0) × (new ≡ lines)) ⊎ HasGrown lines reduced new

-- the new line stands at the index k of the list, where the lines with lesser pivots end; it is 0
-- at the old pivots, and the others are the old lines cleared at its pivot: the list is in
-- reduced echelon form
abbrev pub EchelonTakesLine : Type 0
EchelonTakesLine = (lines new : List (List ℤ)) (k c : ℕ) (e : IsEchelon lines []) → k < length new
    → IsPivot (vector_at new k) c
    → ((i : ℕ) → i < length lines → cell (vector_at new k) (e.pivot i) ≡ pos 0)
    → ((i : ℕ) → i < length lines → i < k → e.pivot i < c)
    → ((i : ℕ) → i < length lines → k ≤ i → c < e.pivot i)
    → Pointwise (IsClearedAt c (vector_at new k)) lines (remove new k) → IsEchelon new []
