use Rattle.std.specs.Prelude.{◌≡◌, ℕ, List, length, slice_set, All}
use Rattle.poly_pair.specs.Polyhedra.{Polyhedron}
use Rattle.poly_pair.specs.ClosedPolyhedra.{IsClosedOver}
use Rattle.trans_sys.specs.Systems.{TransitionSystem, IsKeptSystem}

-- a transition system, and for each location the states in which it may stay and the velocities
-- with which its state moves there
pub record HybridAutomaton : Type 0 where
  pub system : TransitionSystem
  pub invariants : List Polyhedron
  pub flows : List Polyhedron

-- a closed polyhedron of the system's states for each location
pub record AreOfLocations (system : TransitionSystem) (sets : List Polyhedron) : Type 0 where
  pub as_many : length sets ≡ length system.initial
  pub each : All (IsClosedOver system.dim) sets

-- what each automaton keeps
pub record IsKeptHybrid (h : HybridAutomaton) : Type 0 where
  pub system : IsKeptSystem h.system
  pub invariants : AreOfLocations h.system h.invariants
  pub flows : AreOfLocations h.system h.flows

-- the system with this invariant, or this flow, of the location
abbrev pub with_invariant : HybridAutomaton → ℕ → Polyhedron → HybridAutomaton
with_invariant h location p =
    record { system = h.system; invariants = slice_set h.invariants location p; flows = h.flows }

abbrev pub with_flow : HybridAutomaton → ℕ → Polyhedron → HybridAutomaton
with_flow h location p =
    record { system = h.system; invariants = h.invariants; flows = slice_set h.flows location p }
