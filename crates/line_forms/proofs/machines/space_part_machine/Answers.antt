use Rattle.line_forms.proofs.ConsTable.{cons_decides}
use Rattle.line_forms.proofs.GensTable.{gens_decides}
use Rattle.line_forms.proofs.machines.space_part_machine.Goals as goal

pub returns-in-Cons : goal.returns-in-Cons
returns-in-Cons c = λ command. rw c.in-Cons.is cons_decides

pub returns-in-Gens : goal.returns-in-Gens
returns-in-Gens c = λ command. rw c.in-Gens.is gens_decides
