use Rattle.sat_matrix.specs.ZeroTables.{TellsZeros}
use Rattle.stored_systems.specs.WorkLists.{generator_list}
use Rattle.widening.proofs.zeros.zeros_of.Given as goal

abbrev pub invariant-loop-index : goal.invariant-loop-index
invariant-loop-index l = TellsZeros (generator_list l.gens) l.index l.row l.zeros.items
