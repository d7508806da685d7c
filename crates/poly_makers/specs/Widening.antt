-- What the command means that makes the widening.
use Rattle.std.specs.Prelude.{◌≢◌, ◌⊎◌, Bool, true, false, Ok}
use Rattle.row_core.specs.declared.errors.Overflow.{Overflow}
use Rattle.reply_text.specs.declared.faults.Fault.TheVariants as fault
use Rattle.poly_pair.specs.declared.topology.Topology.TheVariants.{Closed}
use Rattle.poly_pair.specs.Polyhedra.{Polyhedron, IsIncluded}
use Rattle.lattice_ops.specs.Questions.{Answers}
use Rattle.widening.specs.Widenings.{IsWidening}
use Rattle.widening.specs.Overflows.{LeavesOnWidening}
use Rattle.line_values.specs.Order.{Conditions}
use Rattle.line_values.specs.Meaning.{Meaning, room, alike}
use Rattle.line_values.specs.Pairs.{ShowsRows}

-- two operands of one topology are closed, and the test of pairs doesn't deny that they are nested
abbrev pub nested : Polyhedron → Polyhedron → Conditions → Conditions
nested p q others fault.NotClosed = p.topology ≢ Closed
nested p q others fault.NotNested = Answers q.cons.list p.gens.list false (Ok false)
nested p q others other = alike p q others other

-- the test of pairs comes to its end, so that the first is in the second: this is their widening
pub record IsWidened (p q r : Polyhedron) : Type 0 where
  pub tested : Answers q.cons.list p.gens.list false (Ok true)
  pub nested : IsIncluded p q
  pub widening : IsWidening p q r

-- the test of pairs in order comes to its end, and the overflow is one of the widening
pub record OverflowsInWidening (p q : Polyhedron) (over : Overflow) : Type 0 where
  pub tested : Answers q.cons.list p.gens.list false (Ok true)
  pub leaves : LeavesOnWidening p q over

-- widen OUT P Q
abbrev pub widen : Bool → Polyhedron → Polyhedron → Meaning Polyhedron
widen full p q = record {
  conditions = nested p q (room full);
  overflows = λ over.
      ShowsRows (Answers q.cons.list p.gens.list false) q p over ⊎ OverflowsInWidening p q over;
  does = IsWidened p q;
}
