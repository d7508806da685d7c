-- Overflows of the conversion of a system.
use Rattle.row_core.specs.declared.errors.Overflow.{Overflow}
use Rattle.cons_sys.specs.Constraints.{Constraints}
use Rattle.gens_sys.specs.Generators.{Generators}
use Rattle.stored_systems.specs.WorkLists.{LeavesOn}
use Rattle.poly_pair.specs.TopologyLists.{list_width, constraints_of, generators_of}
use Rattle.poly_pair.specs.declared.topology.Topology.{Topology}

-- the overflow is one of the conversion of the topology's constraint list, or of its second list
abbrev pub LeavesOnConstraints : Topology → Constraints → Overflow → Type 0
LeavesOnConstraints topology cs over =
    LeavesOn (list_width topology cs.dim) cs.dim (constraints_of topology cs) over

-- in that of the topology's generator list, or of its second list
abbrev pub LeavesOnGenerators : Topology → Generators → Overflow → Type 0
LeavesOnGenerators topology gs over =
    LeavesOn (list_width topology gs.dim) gs.dim (generators_of topology gs) over
