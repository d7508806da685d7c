use Rattle.std.specs.Prelude.{◌≡◌, ℕ, ◌+◌, ◌-◌, ◌^◌, ◌<◌, ◌≤◌, ⊤, Bool, true, false, List, length, map, sum, ℤ, pos, slice_index_or, Result, IfErr}
use Rattle.row_core.specs.Vectors.{dot}
use Rattle.row_core.specs.Lists.{Row, vectors, vector_at}
use Rattle.row_core.specs.declared.errors.ConvErr.{ConvErr}
use Rattle.row_core.specs.declared.errors.ConvErr.TheVariants.{Overflow, Memory}
use Rattle.cone_laws.specs.Cones.{Upto}
use Rattle.cone_laws.specs.Canon.{Canon, IsSystem}
use Rattle.cone_laws.specs.Steps.{IsLineStep}
use Rattle.row_core.specs.Signs.{stays}
use Rattle.cone_laws.specs.SystemLaws.{HasSystemOf}
use Rattle.cone_laws.specs.UniqueLaws.{AdmitSame}
use Rattle.cone_laws.specs.Leaves.{Leaves}
use Rattle.chernikova.specs.declared.cone.Cone.{Cone}
use Rattle.chernikova.specs.declared.system.System.{System}
use Rattle.sat_matrix.specs.ZeroTables.{IsZeroTable}
use Rattle.row_store.specs.Values.{values_on}
use Rattle.row_store.specs.Vectors.{Vectors, as_rows}
use Rattle.row_core.specs.MarkedLists.{AreLists}
use Rattle.row_store.specs.Changes.{IsRayChange}
use Rattle.sat_matrix.specs.Pairs.{AreAllCrosses}

-- the lines and rays are the system of the first k rows, and the table tells where each ray is 0
pub record IsState (width : ℕ) (rows : List Row) (k : ℕ) (cone : System) : Type 0 where
  pub narrow : width < 2 ^ 32
  pub lists : AreLists width (as_rows cone.lines) (as_rows cone.rays)
  pub system : IsSystem (Upto width rows k) (vectors cone.lines.rows) (vectors cone.rays.rows)
  pub zeros : IsZeroTable rows k (vectors cone.rays.rows) cone.sat

-- what a conversion of the rows gives
pub record IsConverted (width : ℕ) (rows : List Row) (cone : Cone) : Type 0 where
  -- the canonical system of the vectors that the rows admit
  pub canon : Canon (Upto width rows (length rows))
      (vectors cone.lines.rows) (vectors cone.rays.rows)
  -- in lists of that width, the lines marked as equalities and the rays as inequalities
  pub lists : AreLists width cone.lines cone.rays
  -- the table tells the rows on which each ray is 0
  pub sat : IsZeroTable rows (length rows) (vectors cone.rays.rows) cone.sat

-- the system has the lines and rays that a conversion gave, and the rows of their table
pub record IsReopened (cone : Cone) (system : System) : Type 0 where
  pub lines : as_rows system.lines ≡ cone.lines
  pub rays : as_rows system.rays ≡ cone.rays
  pub columns : system.sat.columns ≡ cone.sat.columns
  pub zeros : system.sat.rows ≡ cone.sat.rows

-- a row that isn't 0 on some line: the lines and rays of the next system
pub record IsLineOutcome (width : ℕ) (row : Row) (cone : System) (lines rays : Vectors)
    : Type 0 where
  pub lists : AreLists width (as_rows lines) (as_rows rays)
  pub step : IsLineStep row (vectors cone.lines.rows) (vectors cone.rays.rows)
      (vectors lines.rows) (vectors rays.rows)

-- a row that is 0 on all lines: the next rays, the old ones' values and marks, and the pairs
pub record IsRayOutcome (width : ℕ) (row : Row) (cone : System) (rays : Vectors)
    (values : List ℤ) (marks : List Bool) (pairs : List (ℕ × ℕ)) : Type 0 where
  pub lists : AreLists width (as_rows cone.lines) (as_rows rays)
  pub flat : (i : ℕ) → i < length (vectors cone.lines.rows)
      → dot row.0 (vector_at (vectors cone.lines.rows) i) ≡ pos 0
  pub is_values : values ≡ values_on row.0 (vectors cone.rays.rows)
  pub is_marks : marks ≡ map (λ value. stays row.1 value) values
  pub crosses : AreAllCrosses values cone.sat pairs
  pub step : IsRayChange values marks pairs cone.rays.rows rays.rows

-- the total is a sum of a number for each row, at most that of the vectors of the system up to it
pub record IsCountedBetween (width : ℕ) (rows : List Row) (from to : ℕ) (total : ℕ) : Type 0 where
  pub counts : List ℕ
  pub as_many : from + length counts ≡ to
  pub is_total : sum counts ≡ total
  pub each : (i : ℕ) → from + i < to
      → HasSystemOf width rows (from + i + 1) (slice_index_or counts i 0)

-- one number for each of the first k rows
abbrev pub IsCountedUpto : ℕ → List Row → ℕ → ℕ → Type 0
IsCountedUpto width rows k total = IsCountedBetween width rows 0 k total

-- an overflow shows a number outside the range
abbrev pub IsRealOverflow : ℕ → List Row → ConvErr → Type 0
IsRealOverflow width rows (Overflow over) = Leaves width rows over
IsRealOverflow width rows Memory = ⊤

-- it shows such a number, at the step with one of the rows from an index on
abbrev pub IsRealOverflowFrom : ℕ → List Row → ℕ → ConvErr → Type 0
IsRealOverflowFrom width rows from (Overflow over) = Leaves width rows over × (from ≤ over.step)
IsRealOverflowFrom width rows from Memory = ⊤

-- the overflow is one of the step with row k
abbrev pub IsAtStep : ℕ → ConvErr → Type 0
IsAtStep k (Overflow over) = over.step ≡ k
IsAtStep k Memory = ⊤

-- at an overflow the total is bounded by the systems of the rows from an index up to its step
abbrev pub IsCountedBeforeFrom : ℕ → List Row → ℕ → ℕ → ConvErr → Type 0
IsCountedBeforeFrom width rows from total (Overflow over) =
    IsCountedBetween width rows from (over.step + 1) total
IsCountedBeforeFrom width rows from total Memory = ⊤

-- of all rows up to that of its step
abbrev pub IsCountedBefore : ℕ → List Row → ℕ → ConvErr → Type 0
IsCountedBefore width rows total error = IsCountedBeforeFrom width rows 0 total error

-- what a conversion of the rows costs and shows
pub record ConvertsRows {T : Type 0} (width : ℕ) (rows : List Row) (old new : ℕ)
    (result : Result T ConvErr) : Type 0 where
  -- an overflow shows a number outside the range
  pub overflow : IfErr result (IsRealOverflow width rows)
  -- the count of combinations never falls
  pub no_fewer : old ≤ new
  -- it grows by at most the sizes of the systems of the rows up to each of them
  pub counted : IsCountedUpto width rows (length rows) (new - old)
  -- at an overflow by those up to its step
  pub counted_before : IfErr result (IsCountedBefore width rows (new - old))

-- what taking in the rows from an index on costs and shows
pub record ConvertsFrom {T : Type 0} (width : ℕ) (rows : List Row) (from old new : ℕ)
    (result : Result T ConvErr) : Type 0 where
  -- an overflow shows a number outside the range, at the step with one of these rows
  pub overflow : IfErr result (IsRealOverflowFrom width rows from)
  -- the count of combinations never falls
  pub no_fewer : old ≤ new
  -- it grows by at most the sizes of the systems of the rows up to each of these
  pub counted : IsCountedBetween width rows from (length rows) (new - old)
  -- at an overflow by those up to its step
  pub counted_before : IfErr result (IsCountedBeforeFrom width rows from (new - old))

-- whether the first k rows admit other vectors than the first of them up to an index
abbrev pub TellsChange : ℕ → List Row → ℕ → ℕ → Bool → Type 0
TellsChange width rows from k true = ¬ (AdmitSame width rows from rows k)
TellsChange width rows from k false = AdmitSame width rows from rows k
