use Rattle.stored_systems.proofs.ZeroTables.{IsDivisorUpto}
use Rattle.stored_systems.proofs.zeros.zeros_with_room.Given as goal

abbrev pub invariant-loop-index : goal.invariant-loop-index
invariant-loop-index l = IsDivisorUpto l.index l.gens l.table
