use Rattle.std.proofs.Common.{map, take}
use Rattle.grammar.specs.Form.{IsColumnOfAny}
use Rattle.line_forms.specs.Layouts.{line_form}
use Rattle.line_forms.proofs.choice.column_of_forms.Given as goal

abbrev pub invariant-loop-row : goal.invariant-loop-row
invariant-loop-row l = IsColumnOfAny (map (λ row. line_form row.0 row.1.now) (take l.row-index l.rows)) l.line l.column
