use Rattle.std.specs.Prelude.{ℕ, ◌<◌}
use Rattle.gens_sys.specs.Generators.{generator_at}
use Rattle.set_laws.specs.Asking.{MeetsOn}
use Rattle.lattice_ops.proofs.containing.all_meet.Given as goal

abbrev pub invariant-loop-j : goal.invariant-loop-j
invariant-loop-j l = (k : ℕ) → k < l.j → MeetsOn (l.row, l.kind) (generator_at l.gens.list k)
