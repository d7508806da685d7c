use Rattle.std.proofs.Common.{rules}
use Rattle.line_forms.specs.Words.{word_of}
use Rattle.line_forms.proofs.ColumnLaws.{form_accepts, form_refuses}
use Rattle.line_forms.proofs.choice.by_word.Goals as goal

pub overflow_add-result : goal.overflow_add-result
overflow_add-result c =
    let verdict = c.rest_verdict.ensures (word_of c.args.line.now) in
    search rules

pub returns-in-Accepted : goal.returns-in-Accepted
returns-in-Accepted c =
    form_accepts c.args.form c.args.line.now c.args.rest.now c.requires.named c.requires.behind (rw c.in-Accepted.is at c.rest_verdict.ensures (word_of c.args.line.now))

pub returns-in-RefusedAt : goal.returns-in-RefusedAt
returns-in-RefusedAt c =
    form_refuses c.args.form c.args.line.now c.args.rest.now c.in-RefusedAt.column c.requires.named c.requires.behind (rw c.in-RefusedAt.is at c.rest_verdict.ensures (word_of c.args.line.now))
