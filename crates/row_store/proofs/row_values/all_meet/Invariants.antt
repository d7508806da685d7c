use Rattle.std.proofs.Common.{◌≡◌, ℕ, ◌<◌, true}
use Rattle.row_core.specs.Signs.{stays}
use Rattle.row_core.specs.Pairs.{value_at}
use Rattle.row_store.proofs.row_values.all_meet.Given as goal

abbrev pub invariant-loop-index : goal.invariant-loop-index
invariant-loop-index l = (i : ℕ) → i < l.index → stays l.eq (value_at l.values i) ≡ true
