use Rattle.std.proofs.Common.{◌++◌, ◌∷◌, [], ap, sym, ◌∙◌}
use Rattle.std.specs.List.{range_with_len}
use Rattle.sat_matrix.proofs.NearLists.{range_more}
use native.Mathlib.Nat.{le_antisymm}
use Rattle.sat_matrix.proofs.narrowing.list_numbers.Goals as goal

pub loop-number-preserved : goal.loop-number-preserved
loop-number-preserved c = c.in_ok-push.ensures.items ∙ ap (λ list. list ++ c.loop-number.number ∷ []) c.loop-number.invariant ∙ sym (range_more c.loop-number.number)

pub returns : goal.returns
returns c = c.loop-number.invariant ∙ ap (range_with_len 0) (le_antisymm c.loop-number.auto.number-end c.loop-number-test.false)
