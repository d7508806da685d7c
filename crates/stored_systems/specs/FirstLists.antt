use Rattle.std.specs.Prelude.{◌≡◌, ℕ, ◌+◌, ◌<◌, ◌↔◌, List, length, ℤ, pos, ◌<ℤ◌, All}
use Rattle.row_core.specs.Vectors.{cell}
use Rattle.row_core.specs.Points.{IsPoint}
use Rattle.cone_laws.specs.Canon.{Canon}
use Rattle.cone_laws.specs.Cones.{Spans}
use Rattle.cone_laws.specs.Duality.{lines_of, rays_of}
use Rattle.cons_sys.specs.Constraints.{Constraints, In}
use Rattle.gens_sys.specs.declared.kind.GenKind.TheVariants.{Point}
use Rattle.gens_sys.specs.Generators.{Generators, kind_at}
use Rattle.gens_sys.specs.Spans.{Span}
use Rattle.cone_laws.specs.Members.{ConeOf}
use Rattle.cone_laws.specs.DualSystems.{AreSystemsOf}
use Rattle.stored_systems.specs.WorkLists.{constraint_list, generator_list, HasPoint}
use Rattle.stored_systems.specs.PointSets.{AreClosed, AreClosedGens, AreWideGens, IsWithin, HoldSame}
use Rattle.stored_systems.specs.StoredForms.{stored_constraints, stored_generators, AreClosedSystems}

-- constraints hold at the points that their list admits
abbrev pub ConstraintListAdmits : Type 0
ConstraintListAdmits = (cs : Constraints) (p : List ℤ) → AreClosed cs → IsPoint cs.dim p → In cs p
    ↔ ConeOf (cs.dim + 1) (constraint_list cs) p

-- generators generate the points that their list spans
abbrev pub GeneratorListSpans : Type 0
GeneratorListSpans = (gs : Generators) (p : List ℤ) → AreClosedGens gs → IsPoint gs.dim p
    → Span gs p ↔ Spans (lines_of (generator_list gs)) (rays_of (generator_list gs)) p

-- where no ray of the system of the constraint list has a positive last entry, the constraints hold
-- at no point
abbrev pub NoPointInConstraints : Type 0
NoPointInConstraints = (cs : Constraints) (lines rays : List (List ℤ)) → AreClosed cs
    → Canon (ConeOf (cs.dim + 1) (constraint_list cs)) lines rays
    → All (λ r. ¬ (pos 0 <ℤ cell r cs.dim)) rays → (p : List ℤ) → ¬ (IsWithin cs p)

-- where some ray has, the two systems of the list are dual, and what is stored of them holds where
-- the constraints hold
abbrev pub PairOfConstraints : Type 0
PairOfConstraints = (cs : Constraints) (lines rays equalities inequalities : List (List ℤ))
    → AreClosed cs
    → AreSystemsOf (cs.dim + 1) (constraint_list cs) lines rays equalities inequalities
    → HasPoint cs.dim rays → AreClosedSystems cs.dim lines rays equalities inequalities
    × HoldSame cs
    (record { dim = cs.dim; list = stored_constraints cs.dim equalities inequalities })

-- the first system of a generator list with a point has a ray with a positive last entry
abbrev pub PointOfGenerators : Type 0
PointOfGenerators = (gs : Generators) (equalities inequalities : List (List ℤ)) (k : ℕ)
    → AreClosedGens gs → AreWideGens gs
    → Canon (ConeOf (gs.dim + 1) (generator_list gs)) equalities inequalities → k < length gs.list
    → kind_at gs.list k ≡ Point → HasPoint gs.dim inequalities

-- the two systems of such a list are dual, and what is stored of them generates what the generators
-- generate
abbrev pub PairOfGenerators : Type 0
PairOfGenerators = (gs : Generators) (equalities inequalities lines rays : List (List ℤ)) (k : ℕ)
    → AreClosedGens gs → AreWideGens gs
    → AreSystemsOf (gs.dim + 1) (generator_list gs) equalities inequalities lines rays
    → k < length gs.list → kind_at gs.list k ≡ Point
    → AreClosedSystems gs.dim lines rays equalities inequalities × ((p : List ℤ) → IsPoint gs.dim p
    → Span gs p ↔ Span (record { dim = gs.dim; list = stored_generators gs.dim lines rays }) p)
