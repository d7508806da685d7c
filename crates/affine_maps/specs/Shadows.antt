use Rattle.std.specs.Prelude.{◌≡◌, ◌⊎◌, ◌↔◌, ℕ, List, ℤ, Option, Some, None, Result}
use Rattle.row_core.specs.Points.{IsPoint}
use Rattle.row_core.specs.declared.errors.Overflow.{Overflow}
use Rattle.row_core.specs.declared.errors.ConvErr.{ConvErr}
use Rattle.cone_laws.specs.Leaves.{Leaves}
use Rattle.cons_sys.specs.Constraints.{Constraints, In}
use Rattle.gens_sys.specs.Generators.{Generators}
use Rattle.gens_sys.specs.Spans.{Span}
use Rattle.stored_systems.specs.WorkLists.{LeavesOn}
use Rattle.poly_pair.specs.declared.topology.Topology.{Topology}
use Rattle.poly_pair.specs.TopologyLists.{AreGeneratorsFor, list_width, constraints_of, generators_of}
use Rattle.poly_pair.specs.FirstLists.{LacksPoint}
use Rattle.poly_pair.specs.Polyhedra.{Polyhedron, IsOver}
use Rattle.poly_pair.specs.Parts.{AreStoredOfGenerators}
use Rattle.poly_pair.specs.Spanning.{HoldNowhere, AreOfSystem}
use Rattle.poly_pair.specs.Work.{Work, gens_work, conv_overflow, overflow_in, IsConversion, IsFirstConversion}
use Rattle.mapped_systems.specs.MappedLists.{IsMappedSystem}
use Rattle.mapped_systems.specs.Sources.{HasSource}

-- ---- sets
-- the polyhedron of the points that the map gives of those at which the constraints hold
pub record IsShadow (topology : Topology) (f : List ℤ → List ℤ) (dim : ℕ) (cs : Constraints)
    (shadow : Polyhedron) : Type 0 where
  pub over : IsOver topology dim shadow
  pub points : (v : List ℤ) → IsPoint dim v → In shadow.cons v ↔ HasSource f cs v

-- ---- lists
-- the generators that the canonical system of the constraint list stands for, mapped
pub record IsShadowSystem (topology : Topology) (f : List ℤ → List ℤ) (dim : ℕ) (cs : Constraints)
    (system : Generators) : Type 0 where
  pub gens : Generators
  pub of_system : AreOfSystem topology cs gens.list
  pub mapped : IsMappedSystem f dim gens system

-- what is stored is of the list of these, or nothing where the constraints hold at no point
pub record IsStoredOfSystem (topology : Topology) (f : List ℤ → List ℤ) (dim : ℕ) (cs : Constraints)
    (shadow : Polyhedron) : Type 0 where
  pub system : Generators
  pub is_system : IsShadowSystem topology f dim cs system
  pub stored : AreStoredOfGenerators topology system shadow

-- these, which generate the shadow
pub record SpanShadow (topology : Topology) (f : List ℤ → List ℤ) (dim : ℕ) (cs : Constraints)
    (gs : Generators) : Type 0 where
  pub kinds : AreGeneratorsFor topology gs
  pub point : ¬ (LacksPoint gs.list)
  pub points : (v : List ℤ) → IsPoint dim v → Span gs v ↔ HasSource f cs v
  pub is_system : IsShadowSystem topology f dim cs gs

-- or nothing where the constraints hold at no point
abbrev pub SpanShadowIfAny : Topology → (List ℤ → List ℤ) → ℕ → Constraints → Option Generators
    → Type 0
SpanShadowIfAny topology f dim cs None = HoldNowhere cs
SpanShadowIfAny topology f dim cs (Some gs) = SpanShadow topology f dim cs gs

-- the conversion of that list, or of its second list, leaves the range
pub record LeavesOnSystem (topology : Topology) (f : List ℤ → List ℤ) (dim : ℕ) (cs : Constraints)
    (over : Overflow) : Type 0 where
  pub system : Generators
  pub is_system : IsShadowSystem topology f dim cs system
  pub leaves : LeavesOn (list_width topology dim) dim (generators_of topology system) over

-- or that of the constraint list does; its second list isn't converted
abbrev pub LeavesOnShadow : Topology → (List ℤ → List ℤ) → ℕ → Constraints → Overflow → Type 0
LeavesOnShadow topology f dim cs over = Leaves (list_width topology cs.dim)
    (constraints_of topology cs) over ⊎ LeavesOnSystem topology f dim cs over

-- what is stored: of that system, where the constraints hold somewhere
abbrev pub IsStoredOfShadow : Topology → (List ℤ → List ℤ) → ℕ → Constraints → Polyhedron → Type 0
IsStoredOfShadow topology f dim cs shadow = HoldNowhere cs
    ⊎ IsStoredOfSystem topology f dim cs shadow

-- ---- what a call costs and shows
-- the conversion of the list of the mapped generators
pub record IsSystemConversion (topology : Topology) (f : List ℤ → List ℤ) (dim : ℕ)
    (cs : Constraints) (old new : ℕ) (over : Option Overflow) : Type 0 where
  pub system : Generators
  pub is_system : IsShadowSystem topology f dim cs system
  pub conversion : IsConversion (gens_work topology system) old new over

-- or nothing, where the constraints hold at no point or memory runs out before they are made
abbrev pub IsSecondConversion : Topology → (List ℤ → List ℤ) → ℕ → Constraints → ℕ → ℕ
    → Option Overflow → Type 0
IsSecondConversion topology f dim cs old new over =
    ((new ≡ old) × (over ≡ None)) ⊎ IsSystemConversion topology f dim cs old new over

-- the conversion of the constraint list without its second list, and then that of the mapped
-- generators
pub record AreBothConversions (work : Work) (topology : Topology) (f : List ℤ → List ℤ) (dim : ℕ)
    (cs : Constraints) (old new : ℕ) (over : Option Overflow) : Type 0 where
  pub between : ℕ
  pub first : IsFirstConversion work old between None
  pub second : IsSystemConversion topology f dim cs between new over

-- or the first alone
abbrev pub IsShadowConversion : Work → Topology → (List ℤ → List ℤ) → ℕ → Constraints → ℕ → ℕ
    → Option Overflow → Type 0
IsShadowConversion work topology f dim cs old new over =
    IsFirstConversion work old new over ⊎ AreBothConversions work topology f dim cs old new over

abbrev pub ConvertsSystem : Topology → (List ℤ → List ℤ) → ℕ → Constraints → ℕ → ℕ
    → Result Polyhedron ConvErr → Type 0
ConvertsSystem topology f dim cs old new result =
    IsSecondConversion topology f dim cs old new (overflow_in conv_overflow result)

abbrev pub ConvertsShadow : Work → Topology → (List ℤ → List ℤ) → ℕ → Constraints → ℕ → ℕ
    → Result Polyhedron ConvErr → Type 0
ConvertsShadow work topology f dim cs old new result =
    IsShadowConversion work topology f dim cs old new (overflow_in conv_overflow result)
