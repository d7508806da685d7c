use Rattle.std.specs.Prelude.{◌≡◌, ◌⊎◌, ℕ, List, length, slice_get, Option, Some, Result, ℤ}
use Rattle.row_core.specs.Points.{IsPoint}
use Rattle.row_core.specs.declared.errors.Overflow.{Overflow}
use Rattle.row_core.specs.declared.errors.ConvErr.{ConvErr}
use Rattle.cons_sys.specs.Constraints.{In}
use Rattle.stored_systems.specs.PointSets.{IsWithin}
use Rattle.poly_pair.specs.Polyhedra.{Polyhedron}
use Rattle.poly_pair.specs.Work.{conv_overflow, overflow_in}
use Rattle.lattice_ops.specs.Sequences.{IsThen, AreCalls}
use Rattle.trans_sys.specs.declared.transition.Transition.{Transition}
use Rattle.elapse.specs.ElapsedPoints.{IsMoved}
use Rattle.widening.specs.Runs.{HasLimit}
use Rattle.widening.specs.RunOverflows.{LeavesInRun}
use Rattle.widening.specs.RunConversions.{IsRunConversion}
use Rattle.hybrid.specs.Systems.{HybridAutomaton, IsKeptHybrid}
use Rattle.affine_maps.specs.Posts.{IsStepTo}
use Rattle.hybrid.specs.Steps.{IsPartIn, LeavesOnMeet}
use Rattle.hybrid.specs.Conversions.{IsMeetConversion}
use Rattle.hybrid.specs.Turns.{turns_of}

-- ---- the answer
-- the states of the set of a location that are in its invariant
abbrev pub IsPartAt : List Polyhedron → List Polyhedron → ℕ → Polyhedron → Type 0
IsPartAt invariants sets l part = (inv set : Polyhedron) → slice_get invariants l ≡ Some inv
    → slice_get sets l ≡ Some set → IsPartIn set inv part

-- in each location
pub record AreParts (invariants sets parts : List Polyhedron) : Type 0 where
  pub as_many : length parts ≡ length sets
  pub each : (l : ℕ) (part : Polyhedron) → slice_get parts l ≡ Some part
      → IsPartAt invariants sets l part

-- of the limit of the turns from the initial sets
pub record AreReached (h : HybridAutomaton) (delay : ℕ) (parts : List Polyhedron) : Type 0 where
  pub sets : List Polyhedron
  pub limit : HasLimit (turns_of h) h.system.initial delay sets
  pub of_limit : AreParts h.invariants sets parts

-- ---- overflows
-- of meeting the set of a location with its invariant
pub record LeavesInPart (invariants sets : List Polyhedron) (l : ℕ) (over : Overflow) : Type 0 where
  pub set : Polyhedron
  pub inv : Polyhedron
  pub has_set : slice_get sets l ≡ Some set
  pub has_inv : slice_get invariants l ≡ Some inv
  pub leaves : LeavesOnMeet set inv over

abbrev pub LeavesInParts : List Polyhedron → List Polyhedron → Overflow → Type 0
LeavesInParts invariants sets over = (l : ℕ) × LeavesInPart invariants sets l over

-- of a set of the limit
pub record LeavesAtEnd (h : HybridAutomaton) (delay : ℕ) (over : Overflow) : Type 0 where
  pub sets : List Polyhedron
  pub limit : HasLimit (turns_of h) h.system.initial delay sets
  pub leaves : LeavesInParts h.invariants sets over

-- of a turn that the run comes to, or at its end
abbrev pub LeavesInReach : HybridAutomaton → ℕ → Overflow → Type 0
LeavesInReach h delay over = LeavesInRun (turns_of h) h.system.initial delay over
    ⊎ LeavesAtEnd h delay over

-- ---- what is counted and shown
-- the meet of the set of a location with its invariant
pub record IsPartConversion (invariants sets : List Polyhedron) (l old new : ℕ)
    (over : Option Overflow) : Type 0 where
  pub set : Polyhedron
  pub inv : Polyhedron
  pub has_set : slice_get sets l ≡ Some set
  pub has_inv : slice_get invariants l ≡ Some inv
  pub conversion : IsMeetConversion set inv old new over

-- of each location in order, or of the first ones
abbrev pub ArePartConversions : List Polyhedron → List Polyhedron → ℕ → ℕ → Option Overflow → Type 0
ArePartConversions invariants sets old new over =
    AreCalls (IsPartConversion invariants sets) (length sets) old new over

-- of the sets of the limit
pub record IsEndConversion (h : HybridAutomaton) (delay old new : ℕ)
    (over : Option Overflow) : Type 0 where
  pub sets : List Polyhedron
  pub limit : HasLimit (turns_of h) h.system.initial delay sets
  pub conversions : ArePartConversions h.invariants sets old new over

-- the run, and then these
abbrev pub IsReachConversion : HybridAutomaton → ℕ → ℕ → ℕ → Option Overflow → Type 0
IsReachConversion h delay old new over = IsThen
    (IsRunConversion (turns_of h) h.system.initial delay) (IsEndConversion h delay) old new over

-- calls
abbrev pub ConvertsPart : {T : Type 0} → List Polyhedron → List Polyhedron → ℕ → ℕ → ℕ
    → Result T ConvErr → Type 0
ConvertsPart invariants sets l old new result =
    IsPartConversion invariants sets l old new (overflow_in conv_overflow result)

abbrev pub ConvertsParts : {T : Type 0} → List Polyhedron → List Polyhedron → ℕ → ℕ
    → Result T ConvErr → Type 0
ConvertsParts invariants sets old new result =
    ArePartConversions invariants sets old new (overflow_in conv_overflow result)

abbrev pub ConvertsReach : {T : Type 0} → HybridAutomaton → ℕ → ℕ → ℕ → Result T ConvErr → Type 0
ConvertsReach h delay old new result =
    IsReachConversion h delay old new (overflow_in conv_overflow result)

-- ---- what the sets include
-- each initial state that is in its invariant
abbrev pub IncludeInitial : HybridAutomaton → List Polyhedron → Type 0
IncludeInitial h parts =
    (l : ℕ) (initial inv part : Polyhedron) → slice_get h.system.initial l ≡ Some initial
    → slice_get h.invariants l ≡ Some inv → slice_get parts l ≡ Some part
    → (v : List ℤ) → IsPoint h.system.dim v → In initial.cons v → In inv.cons v → In part.cons v

-- each state of the invariant that a state of the set comes to as time passes with a
-- velocity of the flow
abbrev pub AreClosedUnderFlow : HybridAutomaton → List Polyhedron → Type 0
AreClosedUnderFlow h parts = (l : ℕ) (inv flow part : Polyhedron)
    → slice_get h.invariants l ≡ Some inv → slice_get h.flows l ≡ Some flow
    → slice_get parts l ≡ Some part → (x q v : List ℤ) → IsWithin part.cons x → IsWithin flow.cons q
    → IsMoved h.system.dim x q v → In inv.cons v → In part.cons v

-- for each transition each successor, in the target's invariant, of a state of the set
-- of its source
abbrev pub AreClosedUnderJumps : HybridAutomaton → List Polyhedron → Type 0
AreClosedUnderJumps h parts = (k : ℕ) (t : Transition) (source target inv : Polyhedron)
    → slice_get h.system.transitions k ≡ Some t → slice_get parts t.source ≡ Some source
    → slice_get parts t.target ≡ Some target → slice_get h.invariants t.target ≡ Some inv
    → (y : List ℤ) → IsPoint h.system.dim y → IsStepTo source.cons t.relation.cons y → In inv.cons y
    → In target.cons y

-- ---- one answer
-- an automaton and a delay have one answer
abbrev pub HasOneReach : Type 0
HasOneReach = (h : HybridAutomaton) (delay : ℕ) (one other : List Polyhedron) → IsKeptHybrid h
    → AreReached h delay one → AreReached h delay other → one ≡ other
