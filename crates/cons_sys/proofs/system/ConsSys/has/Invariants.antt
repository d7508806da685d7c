use Rattle.std.specs.Prelude.{◌≡◌, ℕ, ◌<◌}
use Rattle.cons_sys.specs.Constraints.{constraint_at}
use Rattle.cons_sys.proofs.system.ConsSys.has.Given as goal

abbrev pub invariant-loop-i : goal.invariant-loop-i
invariant-loop-i l = (k : ℕ) → k < l.i → ¬ (constraint_at l.self.list k ≡ (l.row, l.kind))
