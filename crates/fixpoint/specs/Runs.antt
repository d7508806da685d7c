use Rattle.std.specs.Prelude.{◌≡◌, ◌⊎◌, ◌↔◌, ℕ, List, length, slice_get, Option, Some, None, Result, ℤ}
use Rattle.row_core.specs.Points.{IsPoint}
use Rattle.row_core.specs.declared.errors.Overflow.{Overflow}
use Rattle.row_core.specs.declared.errors.ConvErr.{ConvErr}
use Rattle.cons_sys.specs.Constraints.{Constraint, In, Satisfies}
use Rattle.gens_sys.specs.Generators.{Generators}
use Rattle.stored_systems.specs.WorkLists.{generator_list, LeavesOn, LeavesOnClosed}
use Rattle.poly_pair.specs.TopologyConstraints.{IsConstraintFor}
use Rattle.poly_pair.specs.Polyhedra.{Polyhedron, IsKept, IsOver}
use Rattle.poly_pair.specs.Work.{added_gens, conv_overflow, overflow_in, IsConversion}
use Rattle.trans_sys.specs.declared.transition.Transition.{Transition}
use Rattle.trans_sys.specs.Systems.{TransitionSystem}
use Rattle.lattice_ops.specs.Sets.{IsValidOn, both_generators, hull_work}
use Rattle.lattice_ops.specs.Sequences.{IsOneOrNone, IsThen, IsElse}
use Rattle.widening.specs.Runs as run
use Rattle.widening.specs.Runs.{TurnList}
use Rattle.affine_maps.specs.Posts.{IsPost, IsStepTo, SpanPost}
use Rattle.affine_maps.specs.PostLists.{LeavesOnSteps, AreOfSteps, IsFirstStepConversion}
use Rattle.fixpoint.specs.PostLists.{LeavesOnPairedPost, IsPostConversion}

-- ---- turns
-- the constraint holds at each successor of a state of the set
abbrev pub IsValidOnPost : Polyhedron → Polyhedron → Constraint → Type 0
IsValidOnPost source relation c = (y : List ℤ) → IsPoint source.cons.dim y
    → IsStepTo source.cons relation.cons y → Satisfies y c

-- the hull of the set of the target and the post of that of the source: the points at which each
-- constraint holds that is valid on both
pub record IsHullWithSuccessors (source relation old joined : Polyhedron) : Type 0 where
  pub over : IsOver old.topology old.cons.dim joined
  pub points : (v : List ℤ) → IsPoint old.cons.dim v → In joined.cons v
      ↔ ((c : Constraint) → IsConstraintFor old.topology old.cons.dim c → IsValidOn old c
      → IsValidOnPost source relation c → Satisfies v c)
  pub kept : IsKept joined

-- what a transition joins to the set of its target, where these are the sets
pub record IsJoinedBy (transition : Transition) (sets : List Polyhedron)
    (joined : Polyhedron) : Type 0 where
  pub source : Polyhedron
  pub old : Polyhedron
  pub has_source : slice_get sets transition.source ≡ Some source
  pub has_old : slice_get sets transition.target ≡ Some old
  pub is_joined : IsHullWithSuccessors source transition.relation old joined

-- the conversion of the list of the generators of the set and of the post, or of its second
-- list, leaves the range
pub record LeavesOnHullWithPost (source relation old : Polyhedron) (over : Overflow) : Type 0 where
  pub post : Polyhedron
  pub is_post : IsPost source relation post
  pub post_kept : IsKept post
  pub leaves : LeavesOnClosed old.cons.dim (generator_list (both_generators old post)) over

-- by generators of the post: the conversion of the list of those of the set and then these, or of
-- its second list, does
pub record LeavesOnGrowth (source relation old : Polyhedron) (over : Overflow) : Type 0 where
  pub gens : Generators
  pub span : SpanPost source relation gens
  pub leaves : LeavesOn (added_gens old gens).width (added_gens old gens).column
      (added_gens old gens).rows over

-- or that of the list of the relation's constraints and then those of the set of the source
abbrev pub LeavesByGenerators : Polyhedron → Polyhedron → Polyhedron → Overflow → Type 0
LeavesByGenerators source relation old over = LeavesOnSteps source relation over
    ⊎ LeavesOnGrowth source relation old over

-- of the post, or of the hull with it
abbrev pub LeavesByPost : Polyhedron → Polyhedron → Polyhedron → Overflow → Type 0
LeavesByPost source relation old over = LeavesOnPairedPost source relation over
    ⊎ LeavesOnHullWithPost source relation old over

-- generators of the post come to an overflow, and then the post does, which is shown
pub record LeavesBothWays (source relation old : Polyhedron) (over : Overflow) : Type 0 where
  pub first : Overflow
  pub by_generators : LeavesByGenerators source relation old first
  pub by_post : LeavesByPost source relation old over

-- an overflow of finding what a transition joins
pub record LeavesInJoin (transition : Transition) (sets : List Polyhedron)
    (over : Overflow) : Type 0 where
  pub source : Polyhedron
  pub old : Polyhedron
  pub has_source : slice_get sets transition.source ≡ Some source
  pub has_old : slice_get sets transition.target ≡ Some old
  pub leaves : LeavesBothWays source transition.relation old over

-- ---- what finding the joined set counts and shows
-- the conversion of the list of the relation's constraints and then the set's, from the stored pair
-- of the relation, or nothing where memory runs out before
abbrev pub AreStepsConverted : Polyhedron → Polyhedron → ℕ → ℕ → Option Overflow → Type 0
AreStepsConverted source relation old new over =
    IsOneOrNone (IsFirstStepConversion source relation) old new over

-- that of the list of the generators of the set and then those of the post
pub record IsGrowthConversion (source relation set : Polyhedron) (old new : ℕ)
    (over : Option Overflow) : Type 0 where
  pub gens : Generators
  pub of_steps : AreOfSteps source relation gens
  pub conversion : IsConversion (added_gens set gens) old new over

-- that of the list of the generators of the set and of the post
pub record IsHullConversion (source relation set : Polyhedron) (old new : ℕ)
    (over : Option Overflow) : Type 0 where
  pub post : Polyhedron
  pub is_post : IsPost source relation post
  pub post_kept : IsKept post
  pub conversion : IsConversion (hull_work set post) old new over

-- by generators of the post
abbrev pub IsConversionByGenerators : Polyhedron → Polyhedron → Polyhedron → ℕ → ℕ
    → Option Overflow → Type 0
IsConversionByGenerators source relation set old new over =
    IsThen (AreStepsConverted source relation) (IsGrowthConversion source relation set) old new over

-- by the post
abbrev pub IsConversionByPost : Polyhedron → Polyhedron → Polyhedron → ℕ → ℕ → Option Overflow
    → Type 0
IsConversionByPost source relation set old new over =
    IsThen (IsPostConversion source relation) (IsHullConversion source relation set) old new over

-- the first, and where that comes to an overflow the second
abbrev pub IsConversionBothWays : Polyhedron → Polyhedron → Polyhedron → ℕ → ℕ → Option Overflow
    → Type 0
IsConversionBothWays source relation set old new over =
    IsElse (IsConversionByGenerators source relation set) (IsConversionByPost source relation set)
    old new over

-- of a transition, where these are the sets
pub record IsJoinConversion (transition : Transition) (sets : List Polyhedron) (old new : ℕ)
    (over : Option Overflow) : Type 0 where
  pub source : Polyhedron
  pub set : Polyhedron
  pub has_source : slice_get sets transition.source ≡ Some source
  pub has_set : slice_get sets transition.target ≡ Some set
  pub conversion : IsConversionBothWays source transition.relation set old new over

-- calls that find it
abbrev pub ConvertsByGenerators : {T : Type 0} → Polyhedron → Polyhedron → Polyhedron → ℕ → ℕ
    → Result T ConvErr → Type 0
ConvertsByGenerators source relation set old new result =
    IsConversionByGenerators source relation set old new (overflow_in conv_overflow result)

abbrev pub ConvertsByPost : {T : Type 0} → Polyhedron → Polyhedron → Polyhedron → ℕ → ℕ
    → Result T ConvErr → Type 0
ConvertsByPost source relation set old new result =
    IsConversionByPost source relation set old new (overflow_in conv_overflow result)

abbrev pub ConvertsBothWays : {T : Type 0} → Polyhedron → Polyhedron → Polyhedron → ℕ → ℕ
    → Result T ConvErr → Type 0
ConvertsBothWays source relation set old new result =
    IsConversionBothWays source relation set old new (overflow_in conv_overflow result)

-- ---- the turns of a system
abbrev pub target_of : Option Transition → ℕ
target_of None = 0
target_of (Some t) = t.target

abbrev pub JoinsBy : Option Transition → List Polyhedron → Polyhedron → Type 0
JoinsBy None sets joined = ⊥
JoinsBy (Some t) sets joined = IsJoinedBy t sets joined

abbrev pub LeavesBy : Option Transition → List Polyhedron → Overflow → Type 0
LeavesBy None sets over = ⊥
LeavesBy (Some t) sets over = LeavesInJoin t sets over

abbrev pub CountsBy : Option Transition → List Polyhedron → ℕ → ℕ → Option Overflow → Type 0
CountsBy None sets old new over = ⊥
CountsBy (Some t) sets old new over = IsJoinConversion t sets old new over

-- those of its transitions in order, each with the place of its target
abbrev pub turns_of : TransitionSystem → TurnList
turns_of system = record {
  dim = system.dim;
  places = length system.initial;
  count = length system.transitions;
  place = λ k. target_of (slice_get system.transitions k);
  Joins = λ k. JoinsBy (slice_get system.transitions k);
  Leaves = λ k. LeavesBy (slice_get system.transitions k);
  Counts = λ k. CountsBy (slice_get system.transitions k);
}

-- the sets of the limit
abbrev pub HasLimit : TransitionSystem → ℕ → List Polyhedron → Type 0
HasLimit system delay sets = run.HasLimit (turns_of system) system.initial delay sets
