use Rattle.std.proofs.Common.{ap, ◌∙◌}
use Rattle.written_replies.specs.Replies.{Written, with_reply}
use Rattle.written_replies.proofs.ReplyLaws.{reply_added}
use Rattle.job_texts.specs.Samples.{SamplesTo}
use Rattle.job_texts.proofs.WriteLaws.{sample_written}
use Rattle.job_texts.proofs.samples.write_sample.Goals as goal

pub returns-clause-outcome : goal.returns-clause-outcome
returns-clause-outcome g c =
    let r = reply_added (SamplesTo c.args.n) c.sampled.result c.new-replies.result c.add.new.self c.sampled.ensures c.in-Ok.ensures.added in
    sample_written c.args.n (g.W.Sink.held c.args.sink.now) (g.W.Sink.held c.write.new.sink) c.add.new.self r.0 c.write.result r.1
    (r.2 ∙ ap (λ (w : Written). with_reply w r.0) c.new-replies.ensures) c.write.ensures.writes

pub returns-clause-write_fault : goal.returns-clause-write_fault
returns-clause-write_fault g c = c.write.ensures.fault

pub returns-clause-untouched : goal.returns-clause-untouched
returns-clause-untouched g c = λ e calm. absurd (calm (c.write.ensures.want e))
