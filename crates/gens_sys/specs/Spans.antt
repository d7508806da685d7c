use Rattle.std.specs.Prelude.{◌≡◌, ℕ, ◌<◌, List, length, ℤ, pos, ◌<ℤ◌}
use Rattle.std.proofs.Math.IntN.{◌*ℤ◌}
use Rattle.row_core.specs.Vectors.{cell, combined}
use Rattle.row_core.specs.Points.{IsSamePoint}
use Rattle.gens_sys.specs.Kinds.{AllowsFactor}
use Rattle.gens_sys.specs.Generators.{Generator, Generators, kind_at, rows_of}
use Rattle.gens_sys.specs.declared.kind.GenKind.TheVariants.{Point}

-- some point of the list has a positive factor
pub record HasPointFactor (list : List Generator) (factors : List ℤ) : Type 0 where
  pub index : ℕ
  pub within : index < length list
  pub kind : kind_at list index ≡ Point
  pub positive : pos 0 <ℤ cell factors index

-- a positive multiple of the vector is the sum of the multiplied generators: no factor is negative
-- except on lines, and that of some point is positive
pub record Span (gs : Generators) (v : List ℤ) : Type 0 where
  pub times : ℤ
  pub positive : pos 0 <ℤ times
  pub factors : List ℤ
  pub one_each : length factors ≡ length gs.list
  pub allowed : (i : ℕ) → i < length gs.list → AllowsFactor (kind_at gs.list i) (cell factors i)
  pub point : HasPointFactor gs.list factors
  pub sum : (j : ℕ) → times *ℤ cell v j ≡ combined factors (rows_of gs.list) j

-- generators span both or neither of two vectors of one point
abbrev pub SpansPoints : Type 0
SpansPoints = (gs : Generators) (u v : List ℤ) → IsSamePoint u v → Span gs u → Span gs v
