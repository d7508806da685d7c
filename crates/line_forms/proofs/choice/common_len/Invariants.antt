use Rattle.std.proofs.Common.{◌≡◌, ◌+◌, ◌-◌, ◌≤◌, eqb, length, drop}
use Rattle.std.specs.List.{common_prefix_len}
use Rattle.line_forms.proofs.choice.common_len.Given as goal

abbrev pub invariant-loop-count : goal.invariant-loop-count
invariant-loop-count l =
    (l.count + common_prefix_len eqb (drop l.count l.text) (drop l.count l.word) ≡ common_prefix_len eqb l.text l.word) × (l.count ≤ length l.text) × (l.count ≤ length l.word)

abbrev pub decreases-loop-count : goal.decreases-loop-count
decreases-loop-count l = length l.text - l.count
