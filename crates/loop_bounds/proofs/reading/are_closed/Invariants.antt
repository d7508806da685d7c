use Rattle.std.proofs.Common.{ℕ, ◌<◌, ◌≢◌}
use Rattle.cons_sys.specs.Constraints.{kind_at}
use Rattle.cons_sys.specs.declared.kind.ConKind.TheVariants.{Gt}
use Rattle.loop_bounds.proofs.reading.are_closed.Given as goal

abbrev pub invariant-loop-index : goal.invariant-loop-index
invariant-loop-index l = (i : ℕ) → i < l.index → kind_at l.cons.list i ≢ Gt
