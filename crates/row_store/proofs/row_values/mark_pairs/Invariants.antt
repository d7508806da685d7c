use Rattle.std.proofs.Common.{◌≡◌, ◌++◌, replicate, true}
use Rattle.row_store.proofs.row_values.mark_pairs.Given as goal

abbrev pub invariant-loop-pair : goal.invariant-loop-pair
invariant-loop-pair l = l.marks.items ≡ l.fn.marks.items ++ replicate l._pair true
