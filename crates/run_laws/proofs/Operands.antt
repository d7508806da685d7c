-- What an accepted command says of its operands.
use Rattle.std.proofs.Common.{◌≡◌, ℕ, ◌%◌, ◌<◌, inl, inr, arith}
use Rattle.std.proofs.lemmas.Bool.{cases_lt}
use Rattle.poly_pair.specs.Polyhedra.{Polyhedron, AreAlike}
use Rattle.poly_pair.specs.declared.topology.Topology.TheVariants.{Closed}
use Rattle.powerset.specs.Powersets.{FinitePowerset}
use Rattle.bd_shape.specs.Shapes.{DifferenceShape}
use Rattle.line_values.specs.Order.{Conditions, Passes}
use Rattle.line_values.specs.Meaning.{alike}
use Rattle.powerset.specs.Commands.{alike_unions, misses_member}
use Rattle.ranking.specs.Commands.{relates_states}
use Rattle.bd_shape.specs.Commands.{closed, of_one_dim}
use Rattle.poly_makers.specs.Widening.{nested, IsWidened}
use Rattle.soundness.proofs.Operands.{one_topology, one_number}
use Rattle.run_laws.specs.Sets.{AreAlikePowersets, HaveOneDim, IsOfNested}

-- ---- the operands of a command that passes its tests
-- two polyhedra
pub are_alike : (p q : Polyhedron) (others : Conditions) → Passes (alike p q others) → AreAlike p q
are_alike p q others passes = record { topology = one_topology p.topology q.topology passes.1.0; dim = one_number p.cons.dim q.cons.dim passes.1.1.1.0 }

-- two powersets
pub are_alike_unions : (s t : FinitePowerset) (others : Conditions) → Passes (alike_unions s t others) → AreAlikePowersets s t
are_alike_unions s t others passes = record { topology = one_topology s.topology t.topology passes.1.0; dim = one_number s.dim t.dim passes.1.1.1.0 }

-- two shapes
pub have_one_dim : (s t : DifferenceShape) (others : Conditions) → Passes (of_one_dim s t others) → HaveOneDim s t
have_one_dim s t others passes = one_number s.dim t.dim passes.1.1.1.0

-- a closed polyhedron, and a closed relation of states
pub is_closed : (p : Polyhedron) (others : Conditions) → Passes (closed p others) → p.topology ≡ Closed
is_closed p others passes = one_topology p.topology Closed passes.1.1.0

pub is_closed_relation : (r : Polyhedron) (others : Conditions) → Passes (relates_states r others) → r.topology ≡ Closed
is_closed_relation r others passes = one_topology r.topology Closed passes.1.1.0

pub is_even : (r : Polyhedron) (others : Conditions) → Passes (relates_states r others) → r.cons.dim % 2 ≡ 0
is_even r others passes = one_number (r.cons.dim % 2) 0 passes.1.1.1.0

-- the number of a member isn't 0
pub is_counted : (count i : ℕ) (others : Conditions) → Passes (misses_member count i others) → 0 < i
is_counted count i others passes =
    elim (cases_lt 0 i) [
      | inl more ↦ more
      | inr most ↦ absurd (passes.1.1.1.1.1.0 (inl (omega (arith, most))))
    ]

-- a widening
pub of_nested : (p q r : Polyhedron) (others : Conditions) → Passes (nested p q others) → IsWidened p q r → IsOfNested p q r
of_nested p q r others passes h = record {
  alike = record { topology = one_topology p.topology q.topology passes.1.0; dim = one_number p.cons.dim q.cons.dim passes.1.1.1.0 };
  closed = one_topology p.topology Closed passes.1.1.0;
  nested = h.nested;
  is = h.widening;
}
