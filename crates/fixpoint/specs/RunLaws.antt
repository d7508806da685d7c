use Rattle.std.specs.Prelude.{◌≡◌, ℕ, List, length, slice_get, Some, ℤ}
use Rattle.row_core.specs.Points.{IsPoint}
use Rattle.cons_sys.specs.Constraints.{In}
use Rattle.poly_pair.specs.Polyhedra.{Polyhedron}
use Rattle.trans_sys.specs.declared.transition.Transition.{Transition}
use Rattle.trans_sys.specs.Systems.{TransitionSystem, IsKeptSystem}
use Rattle.widening.specs.RunLaws as run
use Rattle.widening.specs.RunLaws.{IncludeEach}
use Rattle.affine_maps.specs.Posts.{IsStepTo}
use Rattle.fixpoint.specs.Runs.{HasLimit}

-- a closed polyhedron of the system's dimension for each location
abbrev pub AreSetsOf : TransitionSystem → List Polyhedron → Type 0
AreSetsOf system sets = run.AreSetsOf system.dim (length system.initial) sets

-- the set of each location includes its initial set
abbrev pub IncludeInitial : TransitionSystem → List Polyhedron → Type 0
IncludeInitial system sets = IncludeEach system.initial sets

-- for each transition the set of its target includes all successors of the states of its source
abbrev pub AreClosedUnder : List Transition → List Polyhedron → Type 0
AreClosedUnder transitions sets = (k : ℕ) (t : Transition) (source target : Polyhedron)
    → slice_get transitions k ≡ Some t → slice_get sets t.source ≡ Some source
    → slice_get sets t.target ≡ Some target → (y : List ℤ) → IsPoint source.cons.dim y
    → IsStepTo source.cons t.relation.cons y → In target.cons y

-- a system and a delay have one limit
abbrev pub HasOneLimit : Type 0
HasOneLimit = (system : TransitionSystem) (delay : ℕ) (one other : List Polyhedron)
    → IsKeptSystem system → HasLimit system delay one → HasLimit system delay other → one ≡ other
