use Rattle.row_core.specs.Range.{CombineStays, AllStay}
use Rattle.row_core.proofs.linear.check_combination.Given as goal

abbrev pub invariant-loop-column : goal.invariant-loop-column
invariant-loop-column l = AllStay (CombineStays l.u l.s l.v l.t) l.column
