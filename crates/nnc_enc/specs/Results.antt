use Rattle.std.specs.Prelude.{◌≡◌, ◌↔◌, ℕ, ◌+◌, ◌<◌, List, length, ℤ, pos, ◌<ℤ◌}
use Rattle.row_core.specs.Vectors.{cell}
use Rattle.row_core.specs.Lists.{Row, Rows, vectors}
use Rattle.row_core.specs.Points.{IsPoint}
use Rattle.cone_laws.specs.Members.{ConeOf}
use Rattle.cone_laws.specs.Canon.{IsSystem}
use Rattle.cons_sys.specs.Constraints.{Constraint, Constraints, In}
use Rattle.gens_sys.specs.Generators.{Generators}
use Rattle.gens_sys.specs.Spans.{Span}
use Rattle.nnc_enc.specs.Encoding.{HaveWidth, Codes, IsEncoded, IsEncodedDual}
use Rattle.nnc_enc.specs.StrongRows.{IsAdmittedVector}
use Rattle.nnc_enc.specs.Decoding.{AreDecodedRows, AreDecodedVectors}
use Rattle.nnc_enc.specs.Sorting.{AreStrongRows, AreStrongVectors}
use Rattle.nnc_enc.specs.Kept.{IsNeededConstraint}

-- the lists are the canonical system of the rows that are valid on the list, an encoded one
pub record AreRowsOf (dim : ℕ) (gens lines rays : List Row) : Type 0 where
  pub wide : HaveWidth (dim + 2) gens
  pub system : IsSystem (ConeOf (dim + 2) gens) (vectors lines) (vectors rays)
  pub encoded : IsEncodedDual dim (ConeOf (dim + 2) gens)

-- the lists are the canonical system of the cone of the list, an encoded one with a vector
-- above 0 in column e
pub record AreVectorsOf (dim : ℕ) (rows lines rays : List Row) : Type 0 where
  pub wide : HaveWidth (dim + 2) rows
  pub system : IsSystem (ConeOf (dim + 2) rows) (vectors lines) (vectors rays)
  pub encoded : IsEncoded dim (ConeOf (dim + 2) rows)
  pub vector : List ℤ
  pub member : ConeOf (dim + 2) rows vector
  pub above : pos 0 <ℤ cell vector dim

-- lists with a column for each of some variables and the columns e and d: the lines and the rays
-- are the canonical system of the rows that are valid on the first list, an encoded one
pub record AreRowListsOf (gens lines rays : Rows) : Type 0 where
  pub dim : ℕ
  pub gens_width : gens.width ≡ dim + 2
  pub lines_width : lines.width ≡ dim + 2
  pub rays_width : rays.width ≡ dim + 2
  pub rows : AreRowsOf dim gens.rows lines.rows rays.rows

-- such lists: the lines and the rays are the canonical system of the cone of the first list, an
-- encoded one with a vector above 0 in column e
pub record AreVectorListsOf (cons lines rays : Rows) : Type 0 where
  pub dim : ℕ
  pub cons_width : cons.width ≡ dim + 2
  pub lines_width : lines.width ≡ dim + 2
  pub rays_width : rays.width ≡ dim + 2
  pub vectors : AreVectorsOf dim cons.rows lines.rows rays.rows

-- such lists are the canonical system of the rows that are valid on some encoded cone
pub record AreRowLists (lines rays : Rows) : Type 0 where
  pub dim : ℕ
  pub lines_width : lines.width ≡ dim + 2
  pub rays_width : rays.width ≡ dim + 2
  pub gens : List Row
  pub rows : AreRowsOf dim gens lines.rows rays.rows

-- such lists are the canonical system of some encoded cone
pub record AreVectorLists (lines rays : Rows) : Type 0 where
  pub dim : ℕ
  pub lines_width : lines.width ≡ dim + 2
  pub rays_width : rays.width ≡ dim + 2
  pub rows : List Row
  pub vectors : AreVectorsOf dim rows lines.rows rays.rows

-- the constraints hold exactly at the points that the set codes
abbrev pub HoldAtCoded : (List ℤ → Type 0) → Constraints → Type 0
HoldAtCoded C cons = (p : List ℤ) → IsPoint cons.dim p → In cons p ↔ Codes cons.dim C p

-- the generators span exactly the points that the set codes
abbrev pub SpanCoded : (List ℤ → Type 0) → Generators → Type 0
SpanCoded C gens = (v : List ℤ) → length v ≡ gens.dim + 1 → Span gens v ↔ Codes gens.dim C v

-- decoded constraints hold exactly at the points that the cone codes
abbrev pub DecodedRowsCode : Type 0
DecodedRowsCode = (dim : ℕ) (gens lines rays : List Row) (cs : Constraints) (p : List ℤ)
    → AreRowsOf dim gens lines rays → AreDecodedRows dim lines rays cs.list → IsPoint dim p
    → In cs p ↔ Codes dim (IsAdmittedVector (dim + 2) gens) p

-- strong constraints do so too
abbrev pub StrongRowsCode : Type 0
StrongRowsCode = (dim : ℕ) (gens lines rays : List Row) (cs : Constraints) (p : List ℤ)
    → AreRowsOf dim gens lines rays → AreStrongRows dim gens lines rays cs.list → IsPoint dim p
    → In cs p ↔ Codes dim (IsAdmittedVector (dim + 2) gens) p

-- and none of them can be left out
abbrev pub StrongRowsAreNeeded : Type 0
StrongRowsAreNeeded = (dim : ℕ) (gens lines rays : List Row) (list : List Constraint)
    → AreRowsOf dim gens lines rays → AreStrongRows dim gens lines rays list
    → (i : ℕ) → i < length list → IsNeededConstraint dim list i

-- decoded generators span exactly the points that the cone codes
abbrev pub DecodedVectorsCode : Type 0
DecodedVectorsCode = (dim : ℕ) (rows lines rays : List Row) (gs : Generators) (v : List ℤ)
    → AreVectorsOf dim rows lines rays → AreDecodedVectors dim lines rays gs.list
    → length v ≡ dim + 1 → Span gs v ↔ Codes dim (ConeOf (dim + 2) rows) v

-- strong generators do so too
abbrev pub StrongVectorsCode : Type 0
StrongVectorsCode = (dim : ℕ) (rows lines rays : List Row) (gs : Generators) (v : List ℤ)
    → AreVectorsOf dim rows lines rays → AreStrongVectors dim rows lines rays gs.list
    → length v ≡ dim + 1 → Span gs v ↔ Codes dim (ConeOf (dim + 2) rows) v
