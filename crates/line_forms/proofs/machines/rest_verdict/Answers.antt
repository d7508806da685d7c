use Rattle.line_forms.specs.Layouts.{rest_form, layout_of}
use Rattle.line_forms.proofs.machines.rest_verdict.Goals as goal

pub returns : goal.returns
returns c = λ command. c.column.ensures (rest_form (layout_of c.args.form command)) (c.machine_of.ensures command)
