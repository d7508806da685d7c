use Rattle.std.proofs.Common.{◌≡◌, ◌++◌, drop}
use Rattle.script_text.specs.Variables.{variables_of}
use Rattle.script_text.proofs.making.variables.Given as goal

abbrev pub invariant-loop-index : goal.invariant-loop-index
invariant-loop-index l = (l.numbers ++ variables_of (drop l.index l.text)) ≡ variables_of l.text
