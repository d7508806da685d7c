use Rattle.std.proofs.Common.{[], sym, subst}
use Rattle.poly_io.proofs.Known.{prepend_known-nil}
use Rattle.polycalc.specs.Outcomes.{Outcome, GivesUp}
use Rattle.job_words.specs.declared.job.Job.{Job}
use Rattle.polycalc.proofs.JobLaws.{never_reads, of_conversion, of_sample}
use Rattle.polycalc.proofs.top.do_job.Goals as goal

pub returns-in-Convert-clause-outcome : goal.returns-in-Convert-clause-outcome
returns-in-Convert-clause-outcome g c =
    let o = c.convert_file.ensures.outcome in
    let left = g.S.Source.left c.convert_file.new.source in
    let held = g.W.Sink.held in (
      o.0,
      o.1,
      subst (λ (task : Job). Outcome task o.0 left (held c.args.sink.now) (held c.convert_file.new.sink) c.convert_file.result) (sym c.in-Convert.is)
          (of_conversion c.in-Convert.want o.0 left (held c.args.sink.now) (held c.convert_file.new.sink) c.convert_file.result o.2),
    )

pub returns-in-Sample-clause-outcome : goal.returns-in-Sample-clause-outcome
returns-in-Sample-clause-outcome g c =
    let left = g.S.Source.left c.args.source.now in
    let held = g.W.Sink.held in (
      [],
      sym (prepend_known-nil left),
      subst (λ (task : Job). Outcome task [] left (held c.args.sink.now) (held c.write_sample.new.sink) c.write_sample.result) (sym c.in-Sample.is)
          (of_sample c.in-Sample.n left (held c.args.sink.now) (held c.write_sample.new.sink) c.write_sample.result c.write_sample.ensures.outcome),
    )

pub returns-in-Sample-clause-read_fault : goal.returns-in-Sample-clause-read_fault
returns-in-Sample-clause-read_fault g c = λ e.
    let held = g.W.Sink.held in
    absurd (never_reads c.in-Sample.n (held c.args.sink.now) (held c.write_sample.new.sink) c.write_sample.result c.write_sample.ensures.outcome e)

pub returns-in-Run-clause-lines_before : goal.returns-in-Run-clause-lines_before
returns-in-Run-clause-lines_before g c = λ memory calm.
    let left = g.S.Source.left in
    let held = g.W.Sink.held in
    subst (λ (task : Job). GivesUp task (left c.args.source.now) (left c.run_lines.new.source) (held c.args.sink.now) (held c.run_lines.new.sink)) (sym c.in-Run.is) (c.run_lines.ensures.lines_before memory calm)

pub returns-in-Convert-clause-lines_before : goal.returns-in-Convert-clause-lines_before
returns-in-Convert-clause-lines_before g c = λ memory calm.
    let o = c.convert_file.ensures.outcome in
    let left = g.S.Source.left in
    let held = g.W.Sink.held in
    subst (λ (task : Job). GivesUp task (left c.args.source.now) (left c.convert_file.new.source) (held c.args.sink.now) (held c.convert_file.new.sink)) (sym c.in-Convert.is)
    (o.0, o.1, c.convert_file.ensures.untouched memory calm)

pub returns-in-Sample-clause-lines_before : goal.returns-in-Sample-clause-lines_before
returns-in-Sample-clause-lines_before g c = λ memory calm.
    let left = g.S.Source.left in
    let held = g.W.Sink.held in
    subst (λ (task : Job). GivesUp task (left c.args.source.now) (left c.args.source.now) (held c.args.sink.now) (held c.write_sample.new.sink)) (sym c.in-Sample.is)
    ([], sym (prepend_known-nil (left c.args.source.now)), c.write_sample.ensures.untouched memory calm)
