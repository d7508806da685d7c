-- What the command means that makes linear hybrid automata, and the one that runs them.
use Rattle.std.specs.Prelude.{◌≡◌, ℕ, Bool, List, length, All}
use Rattle.poly_pair.specs.Polyhedra.{Polyhedron, IsUniverse, IsEmpty}
use Rattle.poly_pair.specs.declared.topology.Topology.TheVariants.{Closed}
use Rattle.trans_sys.specs.Systems.{TransitionSystem}
use Rattle.trans_sys.specs.Runs.{run_conditions}
use Rattle.hybrid.specs.Systems.{HybridAutomaton}
use Rattle.hybrid.specs.Reaches.{AreReached, LeavesInReach, IncludeInitial, AreClosedUnderFlow, AreClosedUnderJumps}
use Rattle.name_table.specs.Table.{Table}
use Rattle.line_values.specs.declared.change.Change.{Change}
use Rattle.line_values.specs.Meaning.{Meaning, no_overflow, room}
use Rattle.line_values.specs.Effects.{AreAllPut}

-- ---- making
-- the system, in each location with the universe as its invariant and an empty flow
pub record IsStill (s : TransitionSystem) (h : HybridAutomaton) : Type 0 where
  pub system : h.system ≡ s
  pub invariant_count : length h.invariants ≡ length s.initial
  pub invariants : All (IsUniverse Closed s.dim) h.invariants
  pub flow_count : length h.flows ≡ length s.initial
  pub flows : All (IsEmpty Closed s.dim) h.flows

-- hybrid OUT S
abbrev pub hybrid : Bool → TransitionSystem → Meaning HybridAutomaton
hybrid full s = record { conditions = room full; overflows = no_overflow; does = IsStill s }

-- ---- running
-- the parts of the limit in the invariants: initial states, flow and successors stay in them
pub record AreReachedParts (h : HybridAutomaton) (delay : ℕ) (sets : List Polyhedron) : Type 0 where
  pub reached : AreReached h delay sets
  pub initial : IncludeInitial h sets
  pub flow : AreClosedUnderFlow h sets
  pub jumps : AreClosedUnderJumps h sets

-- reach H DELAY PREFIX
abbrev pub reach : {E : Type 0} → Table E → ℕ → List ℕ → HybridAutomaton → Meaning (Change E)
reach table delay prefix h = record {
  conditions = run_conditions table delay prefix (length h.system.initial);
  overflows = LeavesInReach h delay;
  does = AreAllPut prefix (AreReachedParts h delay);
}
