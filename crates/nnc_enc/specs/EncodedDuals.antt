use Rattle.std.specs.Prelude.{ℕ, ◌+◌, List, ℤ, pos, ◌<ℤ◌}
use Rattle.row_core.specs.Vectors.{cell}
use Rattle.row_core.specs.Lists.{Row, system_rows}
use Rattle.cone_laws.specs.Canon.{IsSystem}
use Rattle.cone_laws.specs.Members.{ConeOf}
use Rattle.nnc_enc.specs.Encoding.{IsEncoded, IsEncodedDual}

-- the rows that are valid on an encoded cone with a vector above 0 in column e are the
-- dual of such a cone
abbrev pub EncodedHasDual : Type 0
EncodedHasDual = (dim : ℕ) (rows : List Row) (lines rays : List (List ℤ)) (point : List ℤ)
    → IsSystem (ConeOf (dim + 2) rows) lines rays → IsEncoded dim (ConeOf (dim + 2) rows)
    → ConeOf (dim + 2) rows point → pos 0 <ℤ cell point dim
    → IsEncodedDual dim (ConeOf (dim + 2) (system_rows lines rays))

-- some vector of the set is above 0 in column e
pub record HasVectorAbove (dim : ℕ) (C : List ℤ → Type 0) : Type 0 where
  pub vector : List ℤ
  pub member : C vector
  pub above : pos 0 <ℤ cell vector dim

-- what such a dual admits is an encoded cone with a vector above 0 in column e
abbrev pub DualIsEncoded : Type 0
DualIsEncoded = (dim : ℕ) (gens : List Row) (lines rays : List (List ℤ))
    → IsSystem (ConeOf (dim + 2) gens) lines rays → IsEncodedDual dim (ConeOf (dim + 2) gens)
    → IsEncoded dim (ConeOf (dim + 2) (system_rows lines rays))
    × HasVectorAbove dim (ConeOf (dim + 2) (system_rows lines rays))
