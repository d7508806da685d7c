use Rattle.std.specs.Prelude.{◌↔◌, ℕ, ◌+◌, ◌<◌, List, length, ℤ, pos, ◌<ℤ◌}
use Rattle.row_core.specs.Vectors.{cell}
use Rattle.row_core.specs.Lists.{Row, row_at, system_rows}
use Rattle.cone_laws.specs.Cones.{Generates}
use Rattle.cone_laws.specs.Members.{ConeOf}
use Rattle.nnc_enc.specs.Encoding.{lowered, Codes}
use Rattle.nnc_enc.specs.StrongRows.{IsAdmittedVector}
use Rattle.nnc_enc.specs.Results.{AreVectorsOf}

-- a ray above 0 in column e codes a point: the vector without column e
abbrev pub RayIsCoded : Type 0
RayIsCoded = (dim : ℕ) (rows lines rays : List Row) (i : ℕ) → AreVectorsOf dim rows lines rays
    → i < length rays → pos 0 <ℤ cell (row_at rays i) dim
    → Codes dim (ConeOf (dim + 2) rows) (lowered dim (row_at rays i))

-- each row that is valid on the list of a system is at least 0 exactly on the cone that
-- the system generates
abbrev pub SecondListAdmits : Type 0
SecondListAdmits = (width : ℕ) (rows : List Row) (lines rays : List (List ℤ)) (v : List ℤ)
    → Generates (ConeOf width rows) lines rays
    → IsAdmittedVector width (system_rows lines rays) v ↔ ConeOf width rows v
