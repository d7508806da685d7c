use Rattle.std.specs.Prelude.{◌≡◌, ℕ, zero, true, false, pos, ◌+◌, ◌-◌, ◌^◌, ◌<◌, List, [], ◌∷◌, ◌++◌, length, map, ℤ, All, slice_index_or}
use Rattle.row_core.specs.Vectors.{cell}
use Rattle.row_core.specs.Range.{AllInRange}
use Rattle.row_core.specs.Lists.{Row}
use Rattle.row_core.specs.Content.{IsPrimitive, IsPrimitiveOf}
use Rattle.gens_sys.specs.Kinds.{HasBadDivisor, IsZeroDirection}
use Rattle.gens_sys.specs.declared.kind.GenKind.{GenKind}
use Rattle.gens_sys.specs.declared.kind.GenKind.TheVariants.{Line, Ray, Point}

-- the vector `(x1, .., xn, d)`, with its kind
abbrev pub Generator : Type 0
Generator = List ℤ × GenKind

-- generators over one dimension, in order
pub record Generators : Type 0 where
  pub dim : ℕ
  pub list : List Generator

-- generator i
abbrev pub generator_at : List Generator → ℕ → Generator
generator_at list i = slice_index_or list i ([], Line)

-- the vector of generator i
abbrev pub row_at : List Generator → ℕ → List ℤ
row_at list i = (generator_at list i).0

-- the kind of generator i
abbrev pub kind_at : List Generator → ℕ → GenKind
kind_at list i = (generator_at list i).1

-- the vectors, in order
abbrev pub rows_of : List Generator → List (List ℤ)
rows_of list = map (λ g. g.0) list

-- the vector has a column for each variable and one more, its numbers are of the range, it is
-- primitive, its last entry fits its kind, and it is no direction of length 0
pub record IsGenerator (dim : ℕ) (g : Generator) : Type 0 where
  pub wide : length g.0 ≡ dim + 1
  pub in_range : AllInRange g.0
  pub primitive : IsPrimitive g.0
  pub divisor : ¬ (HasBadDivisor g.1 (cell g.0 dim))
  pub nonzero : ¬ (IsZeroDirection g.1 g.0)

-- the kind of a ray of a cone with the last entry: a ray, or a point of the set
abbrev pub vector_kind : ℤ → GenKind
vector_kind (pos zero) = Ray
vector_kind d = Point

-- the generator of a row: a line where it is marked so, and else a ray or a point by its last entry
abbrev pub generator_of : ℕ → Row → Generator
generator_of dim (row, true) = (row, Line)
generator_of dim (row, false) = (row, vector_kind (cell row dim))

-- each vector fits the dimension and its kind, and a u32 names each column
pub record FitDimension (gs : Generators) : Type 0 where
  pub each : All (IsGenerator gs.dim) gs.list
  pub narrow : gs.dim < 2 ^ 32 - 2

-- the list gained the vector, made primitive, with its kind
pub record Gains (old new : List Generator) (row : List ℤ) (kind : GenKind) : Type 0 where
  pub stored : List ℤ
  pub primitive : IsPrimitiveOf row stored
  pub list : new ≡ old ++ (stored, kind) ∷ []
