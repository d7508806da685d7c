use Rattle.std.specs.Str.Lines.{lines}
use Rattle.std.proofs.Common.{List, subst, sym, rules}
use Rattle.reply_text.specs.declared.faults.Fault.{Fault}
use Rattle.cdd_reading.specs.Refusals.{IsFirstOf, form_tests}
use Rattle.cdd_reading.specs.Tokens.{Token}
use Rattle.cdd_reading.specs.Bodies.{IsBodyFault}
use Rattle.cdd_reading.proofs.Forms.{fault_head, fault_body, form_read}
use Rattle.cdd_reading.proofs.table.read_form.Goals as goal

pub returns-in-Err-clause-read : goal.returns-in-Err-clause-read
returns-in-Err-clause-read c =
    let cut = c.in_ok-cut.cut in
    fault_head c.args.bytes.now (lines cut.file.now) (lines cut.behind.now) cut.end c.in-Err.line c.in_ok-cut.ensures (search rules)

pub returns-in-Err-read_body-clause-read : goal.returns-in-Err-read_body-clause-read
returns-in-Err-read_body-clause-read c =
    let cut = c.in_ok-cut.cut in
    let head = c.in-Ok.head in
    subst (λ (f : Fault). IsFirstOf (form_tests c.args.bytes.now) f) (sym c.fault_of.ensures)
    (fault_body c.args.bytes.now (lines cut.file.now) (lines cut.behind.now) (lines head.behind.now) cut.end head.begin head.said.kind head.said.linearity.now c.in-Err-read_body.error c.in_ok-cut.ensures (search rules) (subst (λ (l : List Token). IsBodyFault l cut.end c.in-Err-read_body.error) c.behind_line.ensures.tokens c.in-Err-read_body.ensures.read))

pub returns-in-Ok-read_body-clause-read : goal.returns-in-Ok-read_body-clause-read
returns-in-Ok-read_body-clause-read c =
    let cut = c.in_ok-cut.cut in
    let head = c.in-Ok.head in
    let body = c.in-Ok-read_body.body in
    form_read c.args.bytes.now (lines cut.file.now) (lines cut.behind.now) (lines head.behind.now) cut.end head.begin body.columns head.said.kind head.said.linearity.now body.numbers c.in_ok-cut.ensures (search rules) (search rules)
