-- What the commands mean that write files.
use Rattle.std.specs.Prelude.{◌≡◌, ◌≢◌, ℕ, List, Bool, false, true}
use Rattle.reply_text.specs.declared.faults.Fault.TheVariants as fault
use Rattle.cdd_text.specs.Written.{ine_text, ext_text}
use Rattle.poly_pair.specs.Polyhedra.{Polyhedron}
use Rattle.poly_pair.specs.declared.topology.Topology.TheVariants.{Closed}
use Rattle.line_values.specs.Order.{Conditions}
use Rattle.line_values.specs.Meaning.{Meaning, no_overflow}

-- the file of the stored constraints, or of the stored generators
abbrev pub file_of : Bool → Polyhedron → List ℕ
file_of false p = ine_text p.cons
file_of true p = ext_text p.gens

-- a polyhedron that isn't closed isn't written
abbrev pub unwritten : Polyhedron → Conditions
unwritten p fault.NotClosed = p.topology ≢ Closed
unwritten p other = ⊥

-- write P FORM
abbrev pub write : Bool → Polyhedron → Meaning (List ℕ)
write ext p = record {
  conditions = unwritten p;
  overflows = no_overflow;
  does = λ text. text ≡ file_of ext p;
}
