-- Transition systems and hybrid automata, and what their runs promise.
use Rattle.std.specs.Prelude.{◌≡◌, ◌<◌, ◌*◌, ℕ, List, [], ◌∷◌, ◌++◌, length, slice_get, slice_set, Some, All, ℤ, false, ⊤}
use Rattle.row_core.specs.Points.{IsPoint}
use Rattle.cons_sys.specs.Constraints.{In}
use Rattle.stored_systems.specs.PointSets.{IsWithin}
use Rattle.elapse.specs.ElapsedPoints.{IsMoved}
use Rattle.affine_maps.specs.Posts.{IsStepTo}
use Rattle.script_text.specs.declared.command.LocationPart.{LocationPart}
use Rattle.script_text.specs.declared.command.LocationPart.TheVariants.{Invariant, Flow}
use Rattle.soundness.specs.Points.{PointSet, IsOver, HasNoPoint}
use Rattle.soundness.specs.Values.{Transition, TransitionSystem, HybridAutomaton}

-- ---- making
-- no location has an initial state, and there is no transition
pub record IsEmptySystem (n locations : ℕ) (s : TransitionSystem) : Type 0 where
  pub dim : s.dim ≡ n
  pub as_many : length s.initial ≡ locations
  pub over : All (IsOver false n) s.initial
  pub initial : All HasNoPoint s.initial
  pub transitions : s.transitions ≡ []

-- a system with these initial states at one of its locations
pub record IsWithInitial (location : ℕ) (s : TransitionSystem) (p : PointSet)
    (r : TransitionSystem) : Type 0 where
  pub there : location < length s.initial
  pub over : IsOver false s.dim p
  pub is : r ≡ record s { initial = slice_set s.initial location p }

-- a system with one more transition between two of its locations
pub record IsWithTransition (source target : ℕ) (s : TransitionSystem) (p : PointSet)
    (r : TransitionSystem) : Type 0 where
  pub source_there : source < length s.initial
  pub target_there : target < length s.initial
  pub over : IsOver false (2 * s.dim) p
  pub is : r ≡ record {
    dim = s.dim;
    initial = s.initial;
    transitions = s.transitions
        ++ record { source = source; target = target; relation = p } ∷ [];
  }

-- a closed set for each location
pub record AreOfLocations (s : TransitionSystem) (sets : List PointSet) : Type 0 where
  pub as_many : length sets ≡ length s.initial
  pub over : All (IsOver false s.dim) sets

-- the automaton of a system in which no time passes: each invariant holds everywhere, and no
-- location has a velocity
pub record IsStill (s : TransitionSystem) (h : HybridAutomaton) : Type 0 where
  pub system : h.system ≡ s
  pub invariants : AreOfLocations s h.invariants
  pub flows : AreOfLocations s h.flows
  pub everywhere : All (λ (p : PointSet). (v : List ℤ) → IsPoint s.dim v → In p.cons v) h.invariants
  pub still : All HasNoPoint h.flows

-- the automaton with this invariant, or this flow, of the location
abbrev pub with_part : LocationPart → HybridAutomaton → ℕ → PointSet → HybridAutomaton
with_part Invariant h location p = record h { invariants = slice_set h.invariants location p }
with_part Flow h location p = record h { flows = slice_set h.flows location p }

-- an automaton with this part of one of its locations
pub record IsWithPart (part : LocationPart) (location : ℕ) (h : HybridAutomaton) (p : PointSet)
    (r : HybridAutomaton) : Type 0 where
  pub there : location < length h.system.initial
  pub over : IsOver false h.system.dim p
  pub is : r ≡ with_part part h location p

-- ---- runs
-- the state is in the set of the location
abbrev pub IsAt : List PointSet → ℕ → List ℤ → Type 0
IsAt sets l v = (set : PointSet) × (slice_get sets l ≡ Some set) × IsWithin set.cons v

-- each initial state that may stay at its location is in the set of it
abbrev pub IncludeInitial : TransitionSystem → (ℕ → List ℤ → Type 0) → List PointSet → Type 0
IncludeInitial s MayStay sets =
    (l : ℕ) (v : List ℤ) → IsAt s.initial l v → MayStay l v → IsAt sets l v

-- each transition leads from the set of its source into that of its target, or to a state that may
-- not stay there
abbrev pub AreClosedUnder : TransitionSystem → (ℕ → List ℤ → Type 0) → List PointSet → Type 0
AreClosedUnder s MayStay sets = (k : ℕ) (t : Transition) (source : PointSet) (v : List ℤ) →
    slice_get s.transitions k ≡ Some t → slice_get sets t.source ≡ Some source → IsPoint s.dim v →
    IsStepTo source.cons t.relation.cons v → MayStay t.target v → IsAt sets t.target v

-- an invariant of the system
pub record AreInvariant (s : TransitionSystem) (sets : List PointSet) : Type 0 where
  pub are : AreOfLocations s sets
  pub initial : IncludeInitial s (λ l v. ⊤) sets
  pub transitions : AreClosedUnder s (λ l v. ⊤) sets

-- an invariant of the automaton, within the invariants of its locations: it has each state too to
-- which one of its states comes as time passes with a velocity of the flow, and which may stay
pub record AreReached (h : HybridAutomaton) (sets : List PointSet) : Type 0 where
  pub are : AreOfLocations h.system sets
  pub within : (l : ℕ) (v : List ℤ) → IsAt sets l v → IsAt h.invariants l v
  pub initial : IncludeInitial h.system (IsAt h.invariants) sets
  pub flow : (l : ℕ) (x y v : List ℤ) → IsAt sets l x → IsAt h.flows l y →
      IsMoved h.system.dim x y v → IsAt h.invariants l v → IsAt sets l v
  pub jumps : AreClosedUnder h.system (IsAt h.invariants) sets
