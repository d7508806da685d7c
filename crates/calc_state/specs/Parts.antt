-- What the commands mean that change a part of a transition system or of a hybrid automaton.
use Rattle.std.specs.Prelude.{◌≡◌, ◌≢◌, ◌⊎◌, ℕ, ◌*◌, ◌≤◌, List, length}
use Rattle.reply_text.specs.declared.faults.Fault.TheVariants as fault
use Rattle.poly_pair.specs.Polyhedra.{Polyhedron}
use Rattle.poly_pair.specs.declared.topology.Topology.TheVariants.{Closed}
use Rattle.trans_sys.specs.Systems.{TransitionSystem, with_initial, with_transition}
use Rattle.hybrid.specs.Systems.{HybridAutomaton, with_invariant, with_flow}
use Rattle.script_text.specs.declared.command.LocationPart.{LocationPart}
use Rattle.script_text.specs.declared.command.LocationPart.TheVariants.{Invariant, Flow}
use Rattle.line_values.specs.Order.{Conditions}
use Rattle.line_values.specs.Meaning.{Meaning, no_overflow}
use Rattle.line_values.specs.Effects.{IsPutAs}
use Rattle.calc_state.specs.Table.{as_system, as_hybrid, Change}

-- a set isn't closed or isn't of the dimension, or a location isn't there
abbrev pub misfits : ℕ → Polyhedron → Type 0 → Conditions
misfits dim p Outside fault.NotClosed = p.topology ≢ Closed
misfits dim p Outside fault.DimMismatch = p.cons.dim ≢ dim
misfits dim p Outside fault.OutOfRange = Outside
misfits dim p Outside other = ⊥

-- a set that may be such a part, as it is
abbrev pub as_part : ℕ → Type 0 → Polyhedron → Meaning Polyhedron
as_part dim Outside p =
    record { conditions = misfits dim p Outside; overflows = no_overflow; does = λ copy. copy ≡ p }

-- init S LOC P
abbrev pub init : List ℕ → ℕ → TransitionSystem → Polyhedron → Meaning Change
init name location s p = record {
  conditions = misfits s.dim p (length s.initial ≤ location);
  overflows = no_overflow;
  does = IsPutAs as_system name (λ changed. changed ≡ with_initial s location p);
}

-- trans S LOC LOC2 R
abbrev pub trans : List ℕ → ℕ → ℕ → TransitionSystem → Polyhedron → Meaning Change
trans name source target s relation = record {
  conditions =
      misfits (2 * s.dim) relation ((length s.initial ≤ source) ⊎ (length s.initial ≤ target));
  overflows = no_overflow;
  does =
      IsPutAs as_system name
      (λ changed. changed
      ≡ with_transition s (record { source = source; target = target; relation = relation }));
}

-- the automaton with this invariant, or this flow, of the location
abbrev pub with_part : LocationPart → HybridAutomaton → ℕ → Polyhedron → HybridAutomaton
with_part Invariant h location p = with_invariant h location p
with_part Flow h location p = with_flow h location p

-- inv H LOC P, flow H LOC P
abbrev pub set_part : LocationPart → List ℕ → ℕ → HybridAutomaton → Polyhedron → Meaning Change
set_part part name location h p = record {
  conditions = misfits h.system.dim p (length h.system.initial ≤ location);
  overflows = no_overflow;
  does = IsPutAs as_hybrid name (λ changed. changed ≡ with_part part h location p);
}
