use denote.Enum.Bare.{sameb, same_true}
use Rattle.std.proofs.Common.{◌≡◌, ◌∙◌, Bool, true, false, not, [], refl, sym, rules}
use Rattle.std.specs.Prelude.{◌↔◌, IsTrue, MatchBool}
use Rattle.std.proofs.lemmas.Bool.{false≢true}
use Rattle.poly_pair.specs.contracts.topology.Topology.{the_type}
use Rattle.poly_pair.specs.declared.topology.Topology.{Topology}
use Rattle.poly_pair.specs.declared.topology.Topology.TheVariants.{Closed}
use Rattle.poly_pair.specs.Polyhedra.{Polyhedron}
use Rattle.poly_pair.specs.Starts.{CanStart}
use Rattle.poly_pair.proofs.poly.Poly.can_start.Goals as goal

-- a topology that compares equal is that of closed sets
told_closed : (t : Topology) → true ≡ sameb the_type t Closed → t ≡ Closed
told_closed t h = same_true the_type (search rules) t Closed (sym h)

-- a closed polyhedron can start where it isn't empty
can_start_if : (p : Polyhedron) (b : Bool) → p.topology ≡ Closed → IsTrue b ↔ (p.gens.list ≡ []) → MatchBool (not b) (CanStart p) (¬ (CanStart p))
can_start_if p true e h = λ s. s.some (h.0 refl)
can_start_if p false e h = record { closed = e; some = λ none. false≢true (h.1 none) }

pub returns-then-eq : goal.returns-then-eq
returns-then-eq c = can_start_if c.args.self.now c.is_empty.result (sym c.topology.ensures.value ∙ told_closed c.topology.result c.if-eq.ensures) c.is_empty.ensures.no_generator
