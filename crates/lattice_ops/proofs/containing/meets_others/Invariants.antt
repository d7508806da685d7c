use Rattle.std.specs.Prelude.{ℕ, ◌<◌, All}
use Rattle.cons_sys.specs.Constraints.{constraint_at}
use Rattle.set_laws.specs.Asking.{MeetsOn}
use Rattle.lattice_ops.proofs.containing.meets_others.Given as goal

abbrev pub invariant-loop-i : goal.invariant-loop-i
invariant-loop-i l = (k : ℕ) → k < l.i → All (MeetsOn (constraint_at l.cons.list k)) l.q.gens.list
