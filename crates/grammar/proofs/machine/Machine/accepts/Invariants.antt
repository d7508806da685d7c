use Rattle.std.proofs.Common.{◌≡◌, ◌<◌, ◌⊎◌, take}
use Rattle.grammar.specs.Form.{Form}
use Rattle.grammar.specs.Machine.{Decides}
use Rattle.grammar.proofs.Columns.{Means}
use Rattle.grammar.proofs.machine.Machine.accepts.Given as goal

abbrev pub invariant-loop-byte : goal.invariant-loop-byte
invariant-loop-byte l = (form : Form) (d : Decides l.self.classes.now l.self.steps.now l.self.ends.now form) → (l.state ≡ 255) ⊎ ((l.state < d.states) × Means form (take l.byte-index l.text) (d.rows l.state))
