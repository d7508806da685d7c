use Rattle.std.proofs.Common.{◌<◌, take}
use Rattle.grammar.specs.Form.{Form}
use Rattle.grammar.specs.Machine.{Decides}
use Rattle.grammar.proofs.Columns.{Means}
use Rattle.grammar.proofs.machine.Machine.column_by_byte.Given as goal

abbrev pub invariant-loop-index : goal.invariant-loop-index
invariant-loop-index l = (form : Form) (d : Decides l.self.classes.now l.self.steps.now l.self.ends.now form) → (l.state < d.states) × Means form (take l.index l.text) (d.rows l.state)
