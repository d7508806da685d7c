use Rattle.std.specs.Prelude.{ℕ, ◌+◌, ◌<◌, List, length, pos, ◌<ℤ◌, All}
use Rattle.row_core.specs.Vectors.{cell}
use Rattle.row_core.specs.Lists.{Row, IsRow, row_at, vectors, system_rows}
use Rattle.cone_laws.specs.Canon.{IsSystem}
use Rattle.cone_laws.specs.Members.{ConeOf}
use Rattle.cons_sys.specs.Constraints.{Constraints, FitDimension}
use Rattle.gens_sys.specs.Generators.{Generators, FitDimension as FitGenerators}
use Rattle.nnc_enc.specs.Encoding.{encoded_constraints}
use Rattle.nnc_enc.specs.EncodedGenerators.{encoded_generators, HasPoint}
use Rattle.nnc_enc.specs.Results.{AreRowsOf, AreVectorsOf}

-- where some ray is above 0 in column e, the system of the list of constraints is one of vectors
abbrev pub ConstraintsHaveVectors : Type 0
ConstraintsHaveVectors = (cs : Constraints) (lines rays : List Row) (i : ℕ) → FitDimension cs
    → All (IsRow (cs.dim + 2)) (encoded_constraints cs)
    → IsSystem (ConeOf (cs.dim + 2) (encoded_constraints cs)) (vectors lines) (vectors rays)
    → i < length rays → pos 0 <ℤ cell (row_at rays i) cs.dim
    → AreVectorsOf cs.dim (encoded_constraints cs) lines rays

-- the system of the list of generators with a point is one of valid rows
abbrev pub GeneratorsHaveRows : Type 0
GeneratorsHaveRows = (gs : Generators) (lines rays : List Row) → FitGenerators gs → HasPoint gs.list
    → All (IsRow (gs.dim + 2)) (encoded_generators gs.dim gs.list)
    → IsSystem (ConeOf (gs.dim + 2) (encoded_generators gs.dim gs.list)) (vectors lines)
    (vectors rays) → AreRowsOf gs.dim (encoded_generators gs.dim gs.list) lines rays

-- the system of the list of a system of vectors is one of valid rows
abbrev pub VectorsHaveRows : Type 0
VectorsHaveRows = (dim : ℕ) (rows lines rays equalities inequalities : List Row)
    → AreVectorsOf dim rows lines rays
    → IsSystem (ConeOf (dim + 2) (system_rows (vectors lines) (vectors rays))) (vectors equalities)
    (vectors inequalities)
    → AreRowsOf dim (system_rows (vectors lines) (vectors rays)) equalities inequalities

-- and the system of the list of a system of valid rows is one of vectors
abbrev pub RowsHaveVectors : Type 0
RowsHaveVectors = (dim : ℕ) (gens equalities inequalities lines rays : List Row)
    → AreRowsOf dim gens equalities inequalities
    → IsSystem (ConeOf (dim + 2) (system_rows (vectors equalities) (vectors inequalities)))
    (vectors lines) (vectors rays)
    → AreVectorsOf dim (system_rows (vectors equalities) (vectors inequalities)) lines rays
