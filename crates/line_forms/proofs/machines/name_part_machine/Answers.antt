use Rattle.line_forms.proofs.AddTable.{add_decides}
use Rattle.line_forms.proofs.AddgenTable.{addgen_decides}
use Rattle.line_forms.proofs.HasTable.{has_decides}
use Rattle.line_forms.proofs.RelationTable.{relation_decides}
use Rattle.line_forms.proofs.OptimumTable.{optimum_decides}
use Rattle.line_forms.proofs.machines.name_part_machine.Goals as goal

pub returns-in-Add : goal.returns-in-Add
returns-in-Add c = λ command. rw c.in-Add.is add_decides

pub returns-in-Addgen : goal.returns-in-Addgen
returns-in-Addgen c = λ command. rw c.in-Addgen.is addgen_decides

pub returns-in-Has : goal.returns-in-Has
returns-in-Has c = λ command. rw c.in-Has.is has_decides

pub returns-in-Relation : goal.returns-in-Relation
returns-in-Relation c = λ command. rw c.in-Relation.is relation_decides

pub returns-in-Max : goal.returns-in-Max
returns-in-Max c = λ command. rw c.in-Max.is optimum_decides

pub returns-in-Min : goal.returns-in-Min
returns-in-Min c = λ command. rw c.in-Min.is optimum_decides
