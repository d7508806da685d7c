use Rattle.std.proofs.Common.{rules}
use Rattle.std.proofs.lemmas.List.{nil_from_length}
use Rattle.minimise.proofs.Forms.{form_alone, left_in_form}
use Rattle.minimise.proofs.forming.reduced_parts.Goals as goal

pub returns-then-is_empty-clause-formed : goal.returns-then-is_empty-clause-formed
returns-then-is_empty-clause-formed g c = form_alone c.args.lines c.args.rays (nil_from_length c.args.lines.rows (search rules)) c.requires.lists c.requires.primitive

pub returns-clause-left : goal.returns-clause-left
returns-clause-left g c = λ e. left_in_form c.args.lines.rows c.args.rays.rows c.in-Err-Left.field-0 c.in-Err-Left.field-0-0 c.in-Err-Left.field-0-1 c.in-Err-Left.field-0-2 c.in-Err-Left.field-0-is c.in-Err-Left.ensures.formed
