use Rattle.line_forms.specs.Layouts.{nothing_form}
use Rattle.line_forms.proofs.NothingTable.{nothing_decides}
use Rattle.line_forms.proofs.machines.nothing_verdict.Goals as goal

pub returns : goal.returns
returns c = c.column.ensures nothing_form nothing_decides
