-- How a part of a linear hybrid automaton is changed.
use Rattle.std.specs.Prelude.{◌≡◌, ◌<◌, length}
use Rattle.poly_pair.specs.declared.topology.Topology.TheVariants.{Closed}
use Rattle.hybrid.specs.Systems.{HybridAutomaton, with_invariant, with_flow}
use Rattle.hybrid.specs.declared.change.HybridChange.{HybridChange}
use Rattle.hybrid.specs.declared.change.HybridChange.TheVariants.{Invariant, Flow}

-- the automaton after the change
abbrev pub changed_hybrid : HybridAutomaton → HybridChange → HybridAutomaton
changed_hybrid h (Invariant location p) = with_invariant h location p
changed_hybrid h (Flow location p) = with_flow h location p

-- the set is closed and of the automaton's dimension, and the location is there
abbrev pub FitsHybrid : HybridAutomaton → HybridChange → Type 0
FitsHybrid h (Invariant location p) =
    (location < length h.system.initial) × (p.topology ≡ Closed) × (p.cons.dim ≡ h.system.dim)
FitsHybrid h (Flow location p) =
    (location < length h.system.initial) × (p.topology ≡ Closed) × (p.cons.dim ≡ h.system.dim)
