use Rattle.grammar.proofs.machine.Machine.column.Goals as goal

pub returns-then-accepts : goal.returns-then-accepts
returns-then-accepts c form d = c.accepts.ensures form d c.if-accepts.true
