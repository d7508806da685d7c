-- What came of the commands that make and run linear hybrid automata.
use Rattle.std.proofs.Common.{◌≡◌, ◌∙◌, ℕ, ◌<◌, List, length, All, ap, subst}
use Rattle.poly_pair.specs.Polyhedra.{IsUniverse, IsEmpty}
use Rattle.poly_pair.specs.declared.topology.Topology.TheVariants.{Closed}
use Rattle.trans_sys.specs.Systems.{TransitionSystem}
use Rattle.hybrid.specs.Systems.{HybridAutomaton, IsKeptHybrid}
use Rattle.hybrid.specs.Commands.{IsStill, reach}
use Rattle.name_table.specs.Table.{Table, HasNoRoomForAll}
use Rattle.line_values.specs.Order.{Passes}

-- the automaton of a copy of the system, which keeps a set for each location
pub still : (s copy : TransitionSystem) (h : HybridAutomaton) → copy ≡ s → h.system ≡ copy → All (IsUniverse Closed copy.dim) h.invariants → All (IsEmpty Closed copy.dim) h.flows → IsKeptHybrid h → IsStill s h
still s copy h same is universes empties kept = record {
  system = is ∙ same;
  invariant_count = kept.invariants.as_many ∙ ap (λ (x : TransitionSystem). length x.initial) (is ∙ same);
  invariants = subst (λ (x : TransitionSystem). All (IsUniverse Closed x.dim) h.invariants) same universes;
  flow_count = kept.flows.as_many ∙ ap (λ (x : TransitionSystem). length x.initial) (is ∙ same);
  flows = subst (λ (x : TransitionSystem). All (IsEmpty Closed x.dim) h.flows) same empties;
}

-- a run passes its tests
pub reach_passes : {E : Type 0} (table : Table E) (delay : ℕ) (prefix : List ℕ) (h : HybridAutomaton) → ¬ (1000000 < delay) → ¬ (HasNoRoomForAll table prefix (length h.system.initial)) → Passes (reach table delay prefix h).conditions
reach_passes table delay prefix h short room =
    (λ k. k, (λ k. k, (λ k. k, (λ k. k, (λ k. k, (short, (λ k. k, (λ k. k, (λ k. k, (λ k. k, (λ k. k, (λ k. k, (room, (λ k. k, tt))))))))))))))
