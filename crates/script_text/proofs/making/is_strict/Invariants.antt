use Rattle.std.proofs.Common.{◌≡◌, ◌-◌, ◌||◌, drop}
use Rattle.script_text.specs.Commands.{is_strict}
use Rattle.script_text.proofs.making.is_strict.Given as goal

abbrev pub invariant-loop-index : goal.invariant-loop-index
invariant-loop-index l = (l.found || is_strict (drop (l.index - 1) l.text)) ≡ is_strict l.text
