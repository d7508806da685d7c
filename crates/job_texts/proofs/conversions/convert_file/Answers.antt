use Rattle.std.proofs.Common.{ap, Err, inl, refl, ◌∙◌}
use Rattle.written_replies.specs.Replies.{Written, with_reply}
use Rattle.written_replies.proofs.ReplyLaws.{reply_added, writes_unread}
use Rattle.job_texts.specs.Conversions.{ConvertsTo}
use Rattle.job_texts.proofs.WriteLaws.{conversion_written}
use Rattle.job_texts.proofs.conversions.convert_file.Goals as goal

pub returns-clause-outcome : goal.returns-clause-outcome
returns-clause-outcome g c =
    let a = c.in-Ok.ensures.given in
    let r = reply_added (ConvertsTo c.args.want c.as_slice.result.now) c.converted.result c.new-replies.result c.add.new.self c.converted.ensures c.in-Ok-add.ensures.added in
    let held = g.W.Sink.held in (
      a.0,
      a.1,
      conversion_written c.args.want c.as_slice.result.now a.0 (g.S.Source.left c.read_all.new.source) (held c.args.sink.now) (held c.write.new.sink) c.add.new.self r.0 c.write.result
          (c.as_slice.ensures.value ∙ a.2.1) r.1 (r.2 ∙ ap (λ (w : Written). with_reply w r.0) c.new-replies.ensures) a.2.0 c.in-Ok.ensures.end c.write.ensures.writes,
    )

pub returns-clause-read_fault : goal.returns-clause-read_fault
returns-clause-read_fault g c = λ e. absurd (writes_unread c.add.new.self (g.W.Sink.held c.args.sink.now) (g.W.Sink.held c.write.new.sink) c.write.result c.write.ensures.writes e)

pub returns-clause-write_fault : goal.returns-clause-write_fault
returns-clause-write_fault g c = c.write.ensures.fault

pub returns-clause-untouched : goal.returns-clause-untouched
returns-clause-untouched g c = λ e calm. absurd (calm (c.write.ensures.want e))

pub returns-in-Err-Failed-clause-read_fault : goal.returns-in-Err-Failed-clause-read_fault
returns-in-Err-Failed-clause-read_fault g c = λ e. c.in-Err-Failed.ensures.failed_by_fault (ap Err c.in-Err-Failed.field-0-is)

pub returns-in-Err-Failed-clause-outcome : goal.returns-in-Err-Failed-clause-outcome
returns-in-Err-Failed-clause-outcome g c =
    let a = c.in-Err-Failed.ensures.given in
    let few = rw c.in-Err-Failed.field-0-is at a.2 in
    (a.0, a.1, (few, refl))

pub returns-in-Err-TooLong-clause-outcome : goal.returns-in-Err-TooLong-clause-outcome
returns-in-Err-TooLong-clause-outcome g c =
    let a = c.in-Err-TooLong.ensures.given in
    let many = rw c.in-Err-TooLong.field-0-is at a.2 in
    (a.0, a.1, (many.0, many.1, inl refl, refl))

pub returns-in-Err-Memory-clause-outcome : goal.returns-in-Err-Memory-clause-outcome
returns-in-Err-Memory-clause-outcome g c =
    let a = c.in-Err-Memory.ensures.given in
    let few = rw c.in-Err-Memory.field-0-is at a.2 in
    (a.0, a.1, (few, inl refl))

pub returns-in_default-clause-outcome : goal.returns-in_default-clause-outcome
returns-in_default-clause-outcome g c =
    let a = c.in-Ok.ensures.given in
    (a.0, a.1, (a.2.0, inl refl))
