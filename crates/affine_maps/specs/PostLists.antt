use Rattle.std.specs.Prelude.{◌≡◌, ◌⊎◌, ℕ, List, ◌++◌, ⊤, Option, Some, None, Result}
use Rattle.std.specs.List.{range_with_len}
use Rattle.row_core.specs.declared.errors.Overflow.{Overflow}
use Rattle.row_core.specs.declared.errors.ConvErr.{ConvErr}
use Rattle.cons_sys.specs.Constraints.{Constraint, Constraints}
use Rattle.gens_sys.specs.Generators.{Generators}
use Rattle.poly_pair.specs.declared.topology.Topology.TheVariants.{Closed}
use Rattle.poly_pair.specs.Polyhedra.{Polyhedron}
use Rattle.poly_pair.specs.Work.{begun_cons, conv_overflow, overflow_in, IsFirstConversion}
use Rattle.mapped_systems.specs.Maps.{with_zeros, picked}
use Rattle.mapped_systems.specs.MappedLists.{ArePulled}
use Rattle.affine_maps.specs.Shadows.{IsShadowSystem, LeavesOnShadow, IsShadowConversion}

-- the constraints of a set on the first variables of a pair, and then those of a relation
pub record IsPairSystem (p relation pairs : Constraints) : Type 0 where
  pub same_dim : pairs.dim ≡ relation.dim
  pub front : List Constraint
  pub pulled : ArePulled (with_zeros p.dim p.dim) p.list front
  pub joined : pairs.list ≡ front ++ relation.list

-- the constraints of a relation, and then those of a set on the first variables of a pair
pub record IsStepSystem (p relation steps : Constraints) : Type 0 where
  pub same_dim : steps.dim ≡ relation.dim
  pub front : List Constraint
  pub pulled : ArePulled (with_zeros p.dim p.dim) p.list front
  pub joined : steps.list ≡ relation.list ++ front

-- the columns behind the first n of n + n variables
abbrev pub later : ℕ → List ℕ
later n = range_with_len n n

-- the conversion of the constraint list of a relation and a set leaves the range, or that of the
-- list of the generators which its system stands for, without the first variables, or of the second
-- list of the latter
pub record LeavesOnSteps (p relation : Polyhedron) (over : Overflow) : Type 0 where
  pub steps : Constraints
  pub are_steps : IsStepSystem p.cons relation.cons steps
  pub leaves : LeavesOnShadow Closed (picked (later p.cons.dim) steps.dim) p.cons.dim steps over

-- the generators that the canonical system of the list of a relation's constraints and then a set's
-- stands for, without the first variables
pub record AreOfSteps (p relation : Polyhedron) (gs : Generators) : Type 0 where
  pub steps : Constraints
  pub are_steps : IsStepSystem p.cons relation.cons steps
  pub is_system : IsShadowSystem Closed (picked (later p.cons.dim) steps.dim) p.cons.dim steps gs

-- if there are any
abbrev pub AreOfStepsIfAny : Polyhedron → Polyhedron → Option Generators → Type 0
AreOfStepsIfAny p relation None = ⊤
AreOfStepsIfAny p relation (Some gs) = AreOfSteps p relation gs

-- ---- what a call costs and shows
-- the conversion of the list of a relation's constraints and then a set's, from the stored pair of
-- the relation, and then that of their successors
pub record IsStepConversion (p relation : Polyhedron) (old new : ℕ)
    (over : Option Overflow) : Type 0 where
  pub steps : Constraints
  pub are_steps : IsStepSystem p.cons relation.cons steps
  pub conversion : IsShadowConversion (begun_cons relation steps) Closed
      (picked (later p.cons.dim) steps.dim) p.cons.dim steps old new over

-- the first alone
pub record IsFirstStepConversion (p relation : Polyhedron) (old new : ℕ)
    (over : Option Overflow) : Type 0 where
  pub steps : Constraints
  pub are_steps : IsStepSystem p.cons relation.cons steps
  pub conversion : IsFirstConversion (begun_cons relation steps) old new over

-- a call that converts these, or nothing where memory runs out before the list is made
abbrev pub ConvertsSteps : Polyhedron → Polyhedron → ℕ → ℕ → Result Polyhedron ConvErr → Type 0
ConvertsSteps p relation old new result =
    ((new ≡ old) × (overflow_in conv_overflow result ≡ None))
    ⊎ IsStepConversion p relation old new (overflow_in conv_overflow result)

-- one that gives generators
abbrev pub ConvertsFirstSteps : Polyhedron → Polyhedron → ℕ → ℕ → Result (Option Generators) ConvErr
    → Type 0
ConvertsFirstSteps p relation old new result =
    ((new ≡ old) × (overflow_in conv_overflow result ≡ None))
    ⊎ IsFirstStepConversion p relation old new (overflow_in conv_overflow result)
