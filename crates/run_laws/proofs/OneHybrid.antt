-- What makes hybrid automata has one result.
use Rattle.std.proofs.Common.{◌≡◌, ℕ, List, length, ap, sym, ◌∙◌}
use Rattle.poly_pair.specs.Polyhedra.{Polyhedron, IsKept, IsEmpty, IsUniverse}
use Rattle.poly_pair.specs.declared.topology.Topology.TheVariants.{Closed}
use Rattle.trans_sys.specs.Systems.{TransitionSystem}
use Rattle.hybrid.specs.Systems.{HybridAutomaton, IsKeptHybrid}
use Rattle.hybrid.specs.Commands.{IsStill}
use Rattle.run_laws.proofs.OneForm.{OneForm}
use Rattle.run_laws.proofs.OneSystem.{one_set_of, one_empty_set, one_list}

-- ---- automata that are made
same_hybrids : (h k : HybridAutomaton) → h.system ≡ k.system → h.invariants ≡ k.invariants → h.flows ≡ k.flows → h ≡ k
same_hybrids h k s i f =
    ap (λ (x : TransitionSystem). record { system = x; invariants = h.invariants; flows = h.flows }) s ∙ ap (λ (x : List Polyhedron). record { system = k.system; invariants = x; flows = h.flows }) i
    ∙ ap (λ (x : List Polyhedron). record { system = k.system; invariants = k.invariants; flows = x }) f

one_universe_set : OneForm → (n : ℕ) (p q : Polyhedron) → IsKept p → IsKept q → IsUniverse Closed n p → IsUniverse Closed n q → p ≡ q
one_universe_set laws n p q a b h k = one_set_of laws n p q a b h.over k.over (λ v is. (λ x. k.points v is, λ y. h.points v is))

pub one_still : OneForm → (s : TransitionSystem) (h k : HybridAutomaton) → IsKeptHybrid h → IsKeptHybrid k → IsStill s h → IsStill s k → h ≡ k
one_still laws s h k a b i j =
    same_hybrids h k system
    (one_list h.system.dim k.system.dim (IsUniverse Closed s.dim) h.invariants k.invariants (one_universe_set laws s.dim) (a.invariants.as_many ∙ locations ∙ sym b.invariants.as_many) a.invariants.each b.invariants.each i.invariants j.invariants)
    (one_list h.system.dim k.system.dim (IsEmpty Closed s.dim) h.flows k.flows (one_empty_set laws s.dim) (a.flows.as_many ∙ locations ∙ sym b.flows.as_many) a.flows.each b.flows.each i.flows j.flows)
  where
    system : h.system ≡ k.system
    system = i.system ∙ sym j.system

    locations : length h.system.initial ≡ length k.system.initial
    locations = ap (λ (x : TransitionSystem). length x.initial) system
