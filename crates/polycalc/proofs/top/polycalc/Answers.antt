use Rattle.std.proofs.Common.{◌≡◌, ◌∙◌, sym, subst, List, ℕ}
use Rattle.std.specs.Prelude.{Option, Some}
use Rattle.poly_io.specs.Counts.{HasRisen}
use Rattle.polycalc.specs.Outcomes.{Outcome, IsAnswered}
use Rattle.job_words.specs.declared.job.Job.TheVariants as job
use Rattle.job_words.specs.declared.job.Job.{Job}
use Rattle.polycalc.proofs.JobLaws.{one_job, answered, sampled, ends_as, ends_unasked, never_usage, size_told, size_unasked}
use Rattle.polycalc.proofs.top.polycalc.Goals as goal

pub returns-in-Some-clause-answered : goal.returns-in-Some-clause-answered
returns-in-Some-clause-answered g c = λ task script before words left held few read write memory.
    let o = c.do_job.ensures.outcome in
    let now = g.S.Source.left c.do_job.new.source in
    let new = g.W.Sink.held c.do_job.new.sink in
    let same : c.in-Some.job ≡ task = one_job c.args.words.now c.in-Some.job task c.in-Some.ensures words in
    subst (λ (t : Job). IsAnswered t script before new c.do_job.result) same
    (answered c.runs_are_complete.ensures c.in-Some.job script before o.0 now new c.do_job.result (sym left ∙ o.1) few
    (subst (λ (h : Option (List ℕ)). Outcome c.in-Some.job o.0 now h new c.do_job.result) held o.2) (λ e. read (c.do_job.ensures.read_fault e)) (λ e. write (c.do_job.ensures.write_fault e)) memory)

pub returns-in-Some-clause-sound : goal.returns-in-Some-clause-sound
returns-in-Some-clause-sound g c = λ task script before words left held few read write memory.
    let o = c.do_job.ensures.outcome in
    let now = g.S.Source.left c.do_job.new.source in
    let new = g.W.Sink.held c.do_job.new.sink in
    let same : c.in-Some.job ≡ task = one_job c.args.words.now c.in-Some.job task c.in-Some.ensures words in
    c.answers_are_sound.ensures task script before new c.do_job.result
    (subst (λ (t : Job). IsAnswered t script before new c.do_job.result) same
    (answered c.runs_are_complete.ensures c.in-Some.job script before o.0 now new c.do_job.result (sym left ∙ o.1) few
    (subst (λ (h : Option (List ℕ)). Outcome c.in-Some.job o.0 now h new c.do_job.result) held o.2) (λ e. read (c.do_job.ensures.read_fault e)) (λ e. write (c.do_job.ensures.write_fault e)) memory))

pub returns-in-Some-clause-sampled : goal.returns-in-Some-clause-sampled
returns-in-Some-clause-sampled g c = λ n before words held write memory.
    let o = c.do_job.ensures.outcome in
    let now = g.S.Source.left c.do_job.new.source in
    let new = g.W.Sink.held c.do_job.new.sink in
    let same : c.in-Some.job ≡ job.Sample n = one_job c.args.words.now c.in-Some.job (job.Sample n) c.in-Some.ensures words in
    sampled n before o.0 now new c.do_job.result
    (subst (λ (t : Job). Outcome t o.0 now (Some before) new c.do_job.result) same (subst (λ (h : Option (List ℕ)). Outcome c.in-Some.job o.0 now h new c.do_job.result) held o.2)) (λ e. write (c.do_job.ensures.write_fault e)) memory

pub returns-in-None-clause-sampled : goal.returns-in-None-clause-sampled
returns-in-None-clause-sampled g c = λ n before words held write memory. absurd (c.in-None.ensures (job.Sample n) words)

pub returns-in-Some-clause-unread : goal.returns-in-Some-clause-unread
returns-in-Some-clause-unread g c = λ n words. c.do_job.ensures.unread n (one_job c.args.words.now c.in-Some.job (job.Sample n) c.in-Some.ensures words)

pub returns-in-Some-clause-ends : goal.returns-in-Some-clause-ends
returns-in-Some-clause-ends g c =
    let o = c.do_job.ensures.outcome in
    let wants = g.W.Sink.wants in
    ends_as c.args.words.now c.in-Some.job o.0 (g.S.Source.left c.args.source.now) (g.S.Source.left c.do_job.new.source) (g.W.Sink.held c.args.sink.now) (g.W.Sink.held c.do_job.new.sink) c.do_job.result c.in-Some.ensures o.1 o.2
    (HasRisen (wants c.args.sink.now) (wants c.do_job.new.sink)) c.do_job.ensures.lines_before

pub returns-in-None-clause-ends : goal.returns-in-None-clause-ends
returns-in-None-clause-ends g c =
    let wants = g.W.Sink.wants in
    ends_unasked c.args.words.now (HasRisen (wants c.args.sink.now) (wants c.args.sink.now)) (g.S.Source.left c.args.source.now) (g.W.Sink.held c.args.sink.now)

pub returns-in-Some-clause-usage : goal.returns-in-Some-clause-usage
returns-in-Some-clause-usage g c =
    let o = c.do_job.ensures.outcome in (
      λ e. absurd (never_usage c.in-Some.job o.0 (g.S.Source.left c.do_job.new.source) (g.W.Sink.held c.args.sink.now) (g.W.Sink.held c.do_job.new.sink) c.do_job.result o.2 e),
      λ none. absurd (none c.in-Some.job c.in-Some.ensures),
    )

pub returns-in-Some-clause-untouched : goal.returns-in-Some-clause-untouched
returns-in-Some-clause-untouched g c = λ e.
    let o = c.do_job.ensures.outcome in
    absurd (never_usage c.in-Some.job o.0 (g.S.Source.left c.do_job.new.source) (g.W.Sink.held c.args.sink.now) (g.W.Sink.held c.do_job.new.sink) c.do_job.result o.2 e)

pub returns-in-Some-clause-too_long : goal.returns-in-Some-clause-too_long
returns-in-Some-clause-too_long g c =
    let o = c.do_job.ensures.outcome in
    size_told c.in-Some.job o.0 (g.S.Source.left c.args.source.now) (g.S.Source.left c.do_job.new.source) (g.W.Sink.held c.args.sink.now) (g.W.Sink.held c.do_job.new.sink) c.do_job.result o.1 o.2

pub returns-in-None-clause-too_long : goal.returns-in-None-clause-too_long
returns-in-None-clause-too_long g c = size_unasked (g.S.Source.left c.args.source.now)
