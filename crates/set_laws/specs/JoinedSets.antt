-- What generators and further ones generate together.
use Rattle.std.specs.Prelude.{◌≡◌, ◌↔◌, ◌⊎◌, List, [], ◌++◌, ℤ}
use Rattle.row_core.specs.Points.{IsPoint}
use Rattle.gens_sys.specs.Generators.{Generator, Generators, FitDimension}
use Rattle.gens_sys.specs.Spans.{Span}
use Rattle.nnc_enc.specs.EncodedGenerators.{HasPoint}

-- the generators fit their dimension, and one of them is a point where there are any
pub record AreOfSet (gs : Generators) : Type 0 where
  pub fit : FitDimension gs
  pub point : (gs.list ≡ []) ⊎ HasPoint gs.list

-- both generate the same points
abbrev pub GenerateSame : Generators → Generators → Type 0
GenerateSame gs hs = (v : List ℤ) → IsPoint gs.dim v → Span gs v ↔ Span hs v

-- the generators, and then the further ones
abbrev pub joined : Generators → List Generator → Generators
joined gs added = record { dim = gs.dim; list = gs.list ++ added }

-- generators of one dimension that generate the same points do so with the same further generators
-- behind each
abbrev pub JoinedSetsAreSame : Type 0
JoinedSetsAreSame =
    (gs hs : Generators) (added : List Generator) → AreOfSet gs → AreOfSet hs → gs.dim ≡ hs.dim →
    GenerateSame gs hs → GenerateSame (joined gs added) (joined hs added)
