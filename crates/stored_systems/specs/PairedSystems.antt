use Rattle.std.specs.Prelude.{◌≡◌, ◌⊎◌, ◌↔◌, List, [], ℤ}
use Rattle.cons_sys.specs.Constraints.{Constraints}
use Rattle.gens_sys.specs.Generators.{Generators}
use Rattle.stored_systems.specs.PointSets.{IsWithin, HoldSame}
use Rattle.stored_systems.specs.StoredForms.{IsStored}
use Rattle.stored_systems.specs.StoredLaws.{IsPair}

-- ---- two systems of one set, be it closed or not
-- both hold the same points, and there is no generator or some point
pub record ArePaired (cs : Constraints) (gs : Generators) : Type 0 where
  pub same_dim : gs.dim ≡ cs.dim
  pub pair : IsPair cs gs
  pub some : (gs.list ≡ []) ⊎ ((p : List ℤ) × IsWithin cs p)

-- ---- one list of each kind for each closed set
-- both hold the same points exactly where their constraints are one list, and exactly where their
-- generators are
pub record AreToldByLists (cs ds : Constraints) (gs hs : Generators) : Type 0 where
  pub constraints : HoldSame cs ds ↔ (cs.list ≡ ds.list)
  pub generators : HoldSame cs ds ↔ (gs.list ≡ hs.list)

-- so it is with the stored systems of two sets of a dimension
abbrev pub StoredListsTell : Type 0
StoredListsTell = (cs ds : Constraints) (gs hs : Generators) → cs.dim ≡ ds.dim → IsStored cs gs
    → IsStored ds hs → AreToldByLists cs ds gs hs
