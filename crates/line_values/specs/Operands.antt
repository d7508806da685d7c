-- What the words of a line say, and the polyhedra under its names.
use Rattle.std.specs.Prelude.{ℕ, List, Bool, true, false, Option}
use Rattle.cdd_reading.specs.declared.format.Format.{Format}
use Rattle.cdd_reading.specs.declared.format.Format.TheVariants.{Ine, Ext}
use Rattle.poly_pair.specs.Polyhedra.{Polyhedron}
use Rattle.poly_pair.specs.declared.topology.Topology.{Topology}
use Rattle.poly_pair.specs.declared.topology.Topology.TheVariants.{Closed, Nnc}
use Rattle.script_text.specs.declared.command.Extremum.{Extremum}
use Rattle.script_text.specs.declared.command.Extremum.TheVariants.{Max, Min}
use Rattle.name_table.specs.Table.{Table, entry_of}

-- whether the greatest value is asked for
abbrev pub is_max : Extremum → Bool
is_max Max = true
is_max Min = false

-- the list of a line's file, by whether its word is ext
abbrev pub format_of : Bool → Format
format_of false = Ine
format_of true = Ext

-- the topology of a line, by whether its word is nnc
abbrev pub topology_of : Bool → Topology
topology_of false = Closed
topology_of true = Nnc

-- the polyhedron under the name, in a table of which some entries are polyhedra
abbrev pub poly_of : {E : Type 0} → (Option E → Option Polyhedron) → Table E → List ℕ
    → Option Polyhedron
poly_of as_poly table name = as_poly (entry_of table name)
