use Rattle.std.specs.Prelude.{◌≡◌, ◌⊎◌, ℕ, ◌+◌, ◌*◌, ◌-◌, ◌<◌, ◌≤◌, List, [], ◌∷◌, ◌++◌, length, take, drop, slice_get, Option, Some, None, ℤ, Contains, All}
use Rattle.cons_sys.specs.Constraints.{Constraint, Constraints, constraint_at, In}
use Rattle.poly_pair.specs.Spanning.{HoldNowhere}
use Rattle.cover_search.specs.Inequalities.{complement}
use Rattle.row_core.specs.declared.errors.Overflow.{Overflow}
use Rattle.cover_search.specs.Branches.{IsBranch}
use Rattle.cover_search.specs.Regions.{LeavesOnList, with_one, IsPointIn, LiesIn}
use Rattle.cover_search.specs.declared.pieces.Piece.{Piece}

-- ---- parts of a piece
-- the part on which the next inequality holds
abbrev pub inner_part : Constraints → Piece → Piece
inner_part rows piece = record {
  region = with_one piece.region (constraint_at rows.list piece.row);
  passed = piece.passed;
  row = piece.row + 1;
}

-- the part on which it doesn't
abbrev pub outer_part : Constraints → Piece → Piece
outer_part rows piece = record {
  region = with_one piece.region (complement (constraint_at rows.list piece.row));
  passed = piece.passed + 1;
  row = 0;
}

-- behind other pieces, the part on which it holds, unless that is within the system
pub data IsInner (rows : Constraints) (piece : Piece) (old : List Piece) : List Piece → Type 0 where
  ended : piece.row + 1 ≡ length rows.list → IsInner rows piece old old
  goes_on : piece.row + 1 < length rows.list
      → IsInner rows piece old (old ++ inner_part rows piece ∷ [])

-- the parts of a piece by the next inequality that aren't within the system, without one
-- that has no point
pub data IsSplit (rows : Constraints) (piece : Piece) (old : List Piece) : List Piece → Type 0 where
  within : length rows.list ≡ piece.row → IsSplit rows piece old old
  outer_alone : piece.row < length rows.list → HoldNowhere (inner_part rows piece).region
      → IsSplit rows piece old (old ++ outer_part rows piece ∷ [])
  inner_alone : {new : List Piece} → piece.row < length rows.list
      → HoldNowhere (outer_part rows piece).region → IsInner rows piece old new
      → IsSplit rows piece old new
  both : {middle : List Piece} → piece.row < length rows.list → IsInner rows piece old middle
      → IsSplit rows piece old (middle ++ outer_part rows piece ∷ [])

-- ---- pieces of a set
-- the first inequalities of a system, if there is one
abbrev pub front_of : Option Constraints → ℕ → List Constraint
front_of None row = []
front_of (Some rows) row = take row rows.list

-- so many inequalities are some of the system, if there is one
abbrev pub IsRowOf : Option Constraints → ℕ → Type 0
IsRowOf None row = row ≡ 0
IsRowOf (Some rows) row = row ≤ length rows.list

-- the constraints of a piece are those of a branch, and then the first inequalities of
-- the next system
pub record IsPiece (first : Constraints) (systems : List Constraints) (piece : Piece) : Type 0 where
  pub same_dim : piece.region.dim ≡ first.dim
  pub passed : piece.passed ≤ length systems
  pub row : IsRowOf (slice_get systems piece.passed) piece.row
  pub list : List Constraint
  pub branch : IsBranch first.list systems piece.passed list
  pub joined : piece.region.list ≡ list ++ front_of (slice_get systems piece.passed) piece.row

-- the point is in some of the pieces
pub record IsInSome (pieces : List Piece) (v : List ℤ) : Type 0 where
  pub piece : Piece
  pub listed : Contains pieces piece
  pub holds : In piece.region v

-- ---- how many pieces are still to come
-- those below a piece, itself among them, of which the first inequalities of the first system hold
abbrev pub still : List Constraints → ℕ → ℕ
still [] row = 1
still (rows ∷ systems) row = 1 + (length rows.list - row) * (1 + still systems 0)

-- those below all of a list
abbrev pub all_still : List Constraints → List Piece → ℕ
all_still systems [] = 0
all_still systems (piece ∷ pieces) =
    still (drop piece.passed systems) piece.row + all_still systems pieces

-- ---- what a turn does
-- the number of systems is enough for the next one
pub record IsWithin (systems : List Constraints) (piece : Piece) : Type 0 where
  pub passed : piece.passed ≤ length systems
  pub dims : All (λ (rows : Constraints). rows.dim ≡ piece.region.dim) systems
  pub row : (rows : Constraints) → slice_get systems piece.passed ≡ Some rows
      → piece.row ≤ length rows.list

-- the list of one of the parts leaves the range
pub record LeavesInSplit (rows : Constraints) (piece : Piece) (over : Overflow) : Type 0 where
  pub below : piece.row < length rows.list
  pub leaves : LeavesOnList (outer_part rows piece).region over
      ⊎ ((piece.row + 1 < length rows.list) × LeavesOnList (inner_part rows piece).region over)

-- some system holds at each point of the piece
pub record LiesInSome (systems : List Constraints) (cs : Constraints) : Type 0 where
  pub system : Constraints
  pub listed : Contains systems system
  pub lies : LiesIn cs system

-- the piece has no point, or is seen to lie in one system, or it is split by the next system
abbrev pub IsTurn : List Constraints → Piece → List Piece → List Piece → Type 0
IsTurn systems piece old new = ((HoldNowhere piece.region ⊎ LiesInSome systems piece.region)
    × (new ≡ old)) ⊎ ((rows : Constraints) × (slice_get systems piece.passed ≡ Some rows)
    × IsSplit rows piece old new)

-- a point of the piece, which is outside of all systems
pub record IsFound (systems : List Constraints) (piece : Piece) (v : List ℤ) : Type 0 where
  pub all : piece.passed ≡ length systems
  pub point : IsPointIn piece.region v

-- the split by the next system leaves the range
pub record LeavesInTurn (systems : List Constraints) (piece : Piece)
    (over : Overflow) : Type 0 where
  pub rows : Constraints
  pub at : slice_get systems piece.passed ≡ Some rows
  pub leaves : LeavesInSplit rows piece over
