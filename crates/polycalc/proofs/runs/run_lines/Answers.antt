use Rattle.std.proofs.Common.{[], sym, arith}
use Rattle.poly_io.proofs.Known.{prepend_known-nil}
use Rattle.polycalc.proofs.StreamLaws.{none_before, nothing_streamed}
use Rattle.polycalc.proofs.runs.run_lines.Goals as goal

pub returns-in_default-clause-outcome : goal.returns-in_default-clause-outcome
returns-in_default-clause-outcome g c =
    ([], sym (prepend_known-nil (g.S.Source.left c.args.source.now)), (omega arith, nothing_streamed (g.S.Source.left c.args.source.now) (g.W.Sink.held c.args.sink.now)))

pub returns-in_default-clause-lines_before : goal.returns-in_default-clause-lines_before
returns-in_default-clause-lines_before g c = λ memory calm. ([], sym (prepend_known-nil (g.S.Source.left c.args.source.now)), none_before (g.S.Source.left c.args.source.now) (g.W.Sink.held c.args.sink.now))

pub returns-clause-outcome : goal.returns-clause-outcome
returns-clause-outcome g c = c.answer_lines.ensures.outcome

pub returns-clause-lines_before : goal.returns-clause-lines_before
returns-clause-lines_before g c = c.answer_lines.ensures.lines_before
