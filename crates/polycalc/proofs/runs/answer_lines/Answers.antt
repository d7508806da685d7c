use Rattle.std.proofs.Common.{◌≡◌, ℕ, List, ◌++◌, [], take, true, false, ap, sym, refl, subst, ◌∙◌, arith, inl, inr, Err}
use Rattle.std.specs.Prelude.{Contains}
use Rattle.poly_io.specs.Cut.{LacksFeed}
use Rattle.std.specs.Io.KnownBytes.{append_known, prepend_known}
use Rattle.poly_io.specs.LineReading.{Reading}
use Rattle.poly_io.specs.declared.line_reader.LineAns.TheVariants.{Line, End, Failed, TooLong}
use Rattle.poly_io.proofs.CutLaws.{lacks_unless}
use Rattle.poly_io.proofs.Known.{prepend_known-then, prepend_known-nil}
use Rattle.calc_state.specs.Line.{Step}
use Rattle.calc_state.specs.State.{State}
use Rattle.written_replies.specs.Replies.{Written, written}
use Rattle.polycalc.proofs.StreamLaws.{Goes, start_reading, goes_start, goes_line, goes_written, front_of_goes, goes_end, written_at_end, ends_script, goes_failed, goes_too_long, goes_earlier, goes_unanswered, goes_before, ended_before, few_taken, size_given, match_true, risen_since}
use Rattle.calc_state.specs.Runs.{at_end}
use Rattle.polycalc.specs.Outcomes.{AnswersFirst, GivesUp}
use Rattle.job_words.specs.declared.job.Job.TheVariants as job
use Rattle.written_replies.specs.declared.status.Status.TheVariants.{ReadFault, WriteFault, Memory}
use Rattle.polycalc.proofs.EndLaws.{never_unread}
use Rattle.polycalc.proofs.runs.answer_lines.Goals as goal

pub loop-calc-init : goal.loop-calc-init
loop-calc-init g c =
    let fresh : c.args.reader.now ≡ start_reading = c.requires.fresh in
    let held = g.W.Sink.held c.args.sink.now in
    let fresh_goes : Goes [] held held c.args.calc.now c.args.reader.now c.args.replies.now =
    subst (λ (w : Written). Goes [] held held c.args.calc.now c.args.reader.now w) (sym c.requires.silent)
    (subst (λ (t : State). Goes [] held held t c.args.reader.now (written [])) (sym c.requires.start) (goes_start held c.args.reader.now fresh)) in (
      [],
      sym (prepend_known-nil (g.S.Source.left c.args.source.now)),
      fresh_goes,
      inl (ap (λ (w : Written). w.bytes) c.requires.silent),
      λ (e : c.args.reader.now.ended ≡ true). (let no : true ≡ false = sym e ∙ ap (λ (r : Reading). r.ended) fresh in cc),
      omega arith,
      omega arith,
      omega (arith, ap (λ (r : Reading). r.taken) fresh),
      omega arith,
    )

pub end_script-requires : goal.end_script-requires
end_script-requires g c = (let h = c.loop-calc.invariant in written_at_end c.in-End.ensures.given.0 c.loop-calc.reader c.next.new.self c.loop-calc.replies h.3 c.in-End.ensures.given.2.says)

pub returns-in-End-clause-outcome : goal.returns-in-End-clause-outcome
returns-in-End-clause-outcome g c =
    let h = c.loop-calc.invariant in
    let e = c.in-End.ensures in
    let a = e.given in
    let left = g.S.Source.left in
    let held = g.W.Sink.held in
    let few = few_taken (End ≡ TooLong) c.next.new.self.taken e.too_long (λ (i : End ≡ TooLong). cc) in
    let size = size_given h.0 a.0 c.loop-calc.reader c.next.new.self h.2.size a.2.taken in (
      h.0 ++ a.0,
      prepend_known-then h.0 a.0 (left c.args.source.now) (left c.loop-calc.source) (left c.next.new.source) h.1 a.1,
      ends_script (h.0 ++ a.0) (left c.next.new.source) (held c.args.sink.now) (held c.loop-calc.sink) (held c.end_script.new.sink) c.loop-calc.calc c.loop-calc.replies c.end_script.result (omega (arith, few, size)) (e.ended a.2.says.0)
          (goes_end h.0 a.0 (held c.args.sink.now) (held c.loop-calc.sink) c.loop-calc.calc c.loop-calc.reader c.next.new.self c.loop-calc.replies h.2 h.3 a.2.taken e.still a.2.says) c.end_script.ensures.closes,
    )

pub returns-in-Failed-clause-outcome : goal.returns-in-Failed-clause-outcome
returns-in-Failed-clause-outcome g c =
    let h = c.loop-calc.invariant in
    let e = c.in-Failed.ensures in
    let a = e.given in
    let left = g.S.Source.left in
    let held = g.W.Sink.held in
    let few = few_taken (Failed ≡ TooLong) c.next.new.self.taken e.too_long (λ (i : Failed ≡ TooLong). cc) in
    let size = size_given h.0 a.0 c.loop-calc.reader c.next.new.self h.2.size a.2.taken in
    let written : c.loop-calc.replies.bytes ≡ [] = (elim h.3 [ inl x ↦ x | inr y ↦ (let no : Failed ≡ Line = (e.unread h.7 y).0 in cc) ]) in (
      h.0 ++ a.0,
      prepend_known-then h.0 a.0 (left c.args.source.now) (left c.loop-calc.source) (left c.next.new.source) h.1 a.1,
      (
        omega (arith, few, size),
        goes_failed h.0 a.0 (held c.args.sink.now) (held c.loop-calc.sink) c.loop-calc.calc c.loop-calc.reader c.next.new.self c.loop-calc.replies h.2 written a.2.taken e.still (e.going refl) a.2.says,
      ),
    )

pub returns-in-TooLong-clause-outcome : goal.returns-in-TooLong-clause-outcome
returns-in-TooLong-clause-outcome g c =
    let h = c.loop-calc.invariant in
    let e = c.in-TooLong.ensures in
    let a = e.given in
    let left = g.S.Source.left in
    let held = g.W.Sink.held in
    let many = e.too_long.0 refl in
    let no_line : Contains c.loop-calc.reader.pending 10 → ⊥ = λ (y : Contains c.loop-calc.reader.pending 10). (let no : TooLong ≡ Line = (e.unread h.7 y).0 in cc) in
    let going : c.loop-calc.reader.ended ≡ true → ⊥ = λ (t : c.loop-calc.reader.ended ≡ true). (let same = (e.still t).1 in omega (arith, same, many, h.7)) in
    let written : c.loop-calc.replies.bytes ≡ [] = (elim h.3 [ inl x ↦ x | inr y ↦ absurd (no_line y) ]) in
    let size = size_given h.0 a.0 c.loop-calc.reader c.next.new.self h.2.size a.2.taken in (
      h.0 ++ a.0,
      prepend_known-then h.0 a.0 (left c.args.source.now) (left c.loop-calc.source) (left c.next.new.source) h.1 a.1,
      (
        omega (arith, many, size),
        omega (arith, e.bounded, size),
        goes_too_long h.0 a.0 (left c.next.new.source) (held c.args.sink.now) (held c.loop-calc.sink) c.loop-calc.calc c.loop-calc.reader c.next.new.self c.loop-calc.replies (λ t. e.ended (e.still t).0) h.2 a.2.taken e.still a.2.says,
        goes_earlier h.0 a.0 (held c.args.sink.now) (held c.loop-calc.sink) c.loop-calc.calc c.loop-calc.reader c.loop-calc.replies h.2 written going
            (lacks_unless c.loop-calc.reader.pending no_line) a.2.says.1,
      ),
    )

pub returns-in_default-clause-outcome : goal.returns-in_default-clause-outcome
returns-in_default-clause-outcome g c =
    let h = c.loop-calc.invariant in
    let e = c.in-Line.ensures in
    let a = e.given in
    let left = g.S.Source.left in
    let held = g.W.Sink.held in
    let few = few_taken (Line ≡ TooLong) c.next.new.self.taken e.too_long (λ (i : Line ≡ TooLong). cc) in
    let size = size_given h.0 a.0 c.loop-calc.reader c.next.new.self h.2.size a.2.taken in
    let p = c.give_up.ensures.partly in
    let same : c.reply_to.new.replies ≡ c.loop-calc.replies = c.in_default.ensures.wanting in (
      h.0 ++ a.0,
      prepend_known-then h.0 a.0 (left c.args.source.now) (left c.loop-calc.source) (left c.next.new.source) h.1 a.1,
      goes_unanswered h.0 a.0 (left c.next.new.source) (held c.args.sink.now) (held c.loop-calc.sink) (held c.give_up.new.sink) c.loop-calc.calc c.loop-calc.reader c.next.new.self c.loop-calc.replies p.0 c.give_up.result
          (omega (arith, few, size)) (λ t. e.ended (e.still t).0) h.2 a.2.taken e.still a.2.says (p.1 ∙ ap (λ (w : Written). append_known (held c.loop-calc.sink) (take p.0 w.bytes)) same) c.give_up.ensures.status,
    )

pub loop-calc-preserved-in-Ok-write_all : goal.loop-calc-preserved-in-Ok-write_all
loop-calc-preserved-in-Ok-write_all g c =
    let h = c.loop-calc.invariant in
    let e = c.in-Line.ensures in
    let a = e.given in
    let left = g.S.Source.left in
    let held = g.W.Sink.held in
    let new = c.next.new.self in
    let s = c.in-Ok.ensures.answered in
    let few = few_taken (Line ≡ TooLong) new.taken e.too_long (λ (i : Line ≡ TooLong). cc) in
    let size = size_given h.0 a.0 c.loop-calc.reader new h.2.size a.2.taken in
    let step : Step c.loop-calc.calc new.line s.0 c.reply_to.new.calc = subst (λ (x : List ℕ). Step c.loop-calc.calc x s.0 c.reply_to.new.calc) c.line.ensures s.1 in
    let more = goes_line h.0 a.0 (held c.args.sink.now) (held c.loop-calc.sink) c.loop-calc.calc c.reply_to.new.calc c.loop-calc.reader new c.loop-calc.replies c.reply_to.new.replies s.0
    h.2 a.2.taken e.still a.2.says step s.2 in
    let given : left c.args.source.now ≡ prepend_known (h.0 ++ a.0) (left c.next.new.source) =
    prepend_known-then h.0 a.0 (left c.args.source.now) (left c.loop-calc.source) (left c.next.new.source) h.1 a.1 in
    let none : c.clear.new.self.bytes ≡ [] = ap (λ (w : Written). w.bytes) c.clear.ensures in (
      h.0 ++ a.0,
      given,
      goes_written (h.0 ++ a.0) (held c.args.sink.now) (held c.loop-calc.sink) (held c.write_all.new.sink) c.reply_to.new.calc new c.reply_to.new.replies c.clear.new.self more
          (c.in-Ok-write_all.ensures.written ∙ ap (append_known (held c.loop-calc.sink)) c.bytes.ensures) none (ap (λ (w : Written). w.clean) c.clear.ensures),
      inl none,
      e.ended,
      omega (arith, h.5, e.counted),
      omega (arith, h.6, c.write_all.ensures.counted),
      few,
      omega (arith, h.8, c.write_all.ensures.wants_counted),
    )

pub returns-in-Err-Failed-clause-outcome : goal.returns-in-Err-Failed-clause-outcome
returns-in-Err-Failed-clause-outcome g c =
    let h = c.loop-calc.invariant in
    let e = c.in-Line.ensures in
    let a = e.given in
    let left = g.S.Source.left in
    let held = g.W.Sink.held in
    let new = c.next.new.self in
    let s = c.in-Ok.ensures.answered in
    let few = few_taken (Line ≡ TooLong) new.taken e.too_long (λ (i : Line ≡ TooLong). cc) in
    let size = size_given h.0 a.0 c.loop-calc.reader new h.2.size a.2.taken in
    let step : Step c.loop-calc.calc new.line s.0 c.reply_to.new.calc = subst (λ (x : List ℕ). Step c.loop-calc.calc x s.0 c.reply_to.new.calc) c.line.ensures s.1 in
    let more = goes_line h.0 a.0 (held c.args.sink.now) (held c.loop-calc.sink) c.loop-calc.calc c.reply_to.new.calc c.loop-calc.reader new c.loop-calc.replies c.reply_to.new.replies s.0
    h.2 a.2.taken e.still a.2.says step s.2 in
    let given : left c.args.source.now ≡ prepend_known (h.0 ++ a.0) (left c.next.new.source) =
    prepend_known-then h.0 a.0 (left c.args.source.now) (left c.loop-calc.source) (left c.next.new.source) h.1 a.1 in
    let p = c.in-Err-Failed.ensures.partly in (
      h.0 ++ a.0,
      given,
      (
        omega (arith, few, size),
        front_of_goes (h.0 ++ a.0) (left c.next.new.source) (held c.args.sink.now) (held c.loop-calc.sink) (held c.write_all.new.sink) c.reply_to.new.calc new c.reply_to.new.replies p.0 e.ended more
            (p.1 ∙ ap (λ (x : List ℕ). append_known (held c.loop-calc.sink) (take p.0 x)) c.bytes.ensures),
      ),
    )

pub returns-in-Err-Memory-clause-outcome : goal.returns-in-Err-Memory-clause-outcome
returns-in-Err-Memory-clause-outcome g c =
    let h = c.loop-calc.invariant in
    let e = c.in-Line.ensures in
    let a = e.given in
    let left = g.S.Source.left in
    let held = g.W.Sink.held in
    let new = c.next.new.self in
    let s = c.in-Ok.ensures.answered in
    let few = few_taken (Line ≡ TooLong) new.taken e.too_long (λ (i : Line ≡ TooLong). cc) in
    let size = size_given h.0 a.0 c.loop-calc.reader new h.2.size a.2.taken in
    let step : Step c.loop-calc.calc new.line s.0 c.reply_to.new.calc = subst (λ (x : List ℕ). Step c.loop-calc.calc x s.0 c.reply_to.new.calc) c.line.ensures s.1 in
    let more = goes_line h.0 a.0 (held c.args.sink.now) (held c.loop-calc.sink) c.loop-calc.calc c.reply_to.new.calc c.loop-calc.reader new c.loop-calc.replies c.reply_to.new.replies s.0
    h.2 a.2.taken e.still a.2.says step s.2 in
    let given : left c.args.source.now ≡ prepend_known (h.0 ++ a.0) (left c.next.new.source) =
    prepend_known-then h.0 a.0 (left c.args.source.now) (left c.loop-calc.source) (left c.next.new.source) h.1 a.1 in
    let p = c.in-Err-Memory.ensures.partly in (
      h.0 ++ a.0,
      given,
      (
        omega (arith, few, size),
        front_of_goes (h.0 ++ a.0) (left c.next.new.source) (held c.args.sink.now) (held c.loop-calc.sink) (held c.write_all.new.sink) c.reply_to.new.calc new c.reply_to.new.replies p.0 e.ended more
            (p.1 ∙ ap (λ (x : List ℕ). append_known (held c.loop-calc.sink) (take p.0 x)) c.bytes.ensures),
      ),
    )

pub loop-calc-preserved : goal.loop-calc-preserved
loop-calc-preserved g c =
    let h = c.loop-calc.invariant in
    let e = c.in-Line.ensures in
    let a = e.given in
    let left = g.S.Source.left in
    let held = g.W.Sink.held in
    let new = c.next.new.self in
    let s = c.in-Ok.ensures.answered in
    let few = few_taken (Line ≡ TooLong) new.taken e.too_long (λ (i : Line ≡ TooLong). cc) in
    let size = size_given h.0 a.0 c.loop-calc.reader new h.2.size a.2.taken in
    let step : Step c.loop-calc.calc new.line s.0 c.reply_to.new.calc = subst (λ (x : List ℕ). Step c.loop-calc.calc x s.0 c.reply_to.new.calc) c.line.ensures s.1 in
    let more = goes_line h.0 a.0 (held c.args.sink.now) (held c.loop-calc.sink) c.loop-calc.calc c.reply_to.new.calc c.loop-calc.reader new c.loop-calc.replies c.reply_to.new.replies s.0
    h.2 a.2.taken e.still a.2.says step s.2 in
    let given : left c.args.source.now ≡ prepend_known (h.0 ++ a.0) (left c.next.new.source) =
    prepend_known-then h.0 a.0 (left c.args.source.now) (left c.loop-calc.source) (left c.next.new.source) h.1 a.1 in (
      h.0 ++ a.0,
      given,
      more,
      inr (match_true c.has_line.result (Contains new.pending 10) (LacksFeed new.pending) c.if-not-has_line.false c.has_line.ensures),
      e.ended,
      omega (arith, h.5, e.counted),
      h.6,
      few,
      h.8,
    )

pub returns-in-End-clause-read_fault : goal.returns-in-End-clause-read_fault
returns-in-End-clause-read_fault g c =
    λ e. absurd (never_unread (at_end c.loop-calc.calc) c.loop-calc.replies.clean (g.W.Sink.held c.loop-calc.sink) (g.W.Sink.held c.end_script.new.sink) c.end_script.result c.end_script.ensures.closes e)

pub returns-in_default-clause-read_fault : goal.returns-in_default-clause-read_fault
returns-in_default-clause-read_fault g c =
    λ e. elim c.give_up.ensures.status [
      | inl x ↦ (let no : WriteFault ≡ ReadFault = sym x ∙ e in cc)
      | inr y ↦ (let no : Memory ≡ ReadFault = sym y ∙ e in cc)
    ]

pub returns-in-End-clause-lines_before : goal.returns-in-End-clause-lines_before
returns-in-End-clause-lines_before g c = λ memory calm.
    let h = c.loop-calc.invariant in
    let e = c.in-End.ensures in
    let a = e.given in
    let left = g.S.Source.left in
    let held = g.W.Sink.held in
    let wants = g.W.Sink.wants in
    let same = c.end_script.ensures.untouched memory (λ r. calm (risen_since (wants c.args.sink.now) (wants c.loop-calc.sink) (wants c.end_script.new.sink) h.8 r)) in (
      h.0 ++ a.0,
      prepend_known-then h.0 a.0 (left c.args.source.now) (left c.loop-calc.source) (left c.next.new.source) h.1 a.1,
      subst (λ later. AnswersFirst (h.0 ++ a.0) (left c.next.new.source) (held c.args.sink.now) later) (sym same)
          (ended_before (h.0 ++ a.0) (left c.next.new.source) (held c.args.sink.now) (held c.loop-calc.sink) c.loop-calc.calc c.loop-calc.replies (e.ended a.2.says.0)
          (goes_end h.0 a.0 (held c.args.sink.now) (held c.loop-calc.sink) c.loop-calc.calc c.loop-calc.reader c.next.new.self c.loop-calc.replies h.2 h.3 a.2.taken e.still a.2.says)),
    )

pub returns-in_default-clause-lines_before : goal.returns-in_default-clause-lines_before
returns-in_default-clause-lines_before g c = λ memory calm.
    let h = c.loop-calc.invariant in
    let e = c.in-Line.ensures in
    let a = e.given in
    let left = g.S.Source.left in
    let held = g.W.Sink.held in
    let wants = g.W.Sink.wants in
    let same : c.reply_to.new.replies ≡ c.loop-calc.replies = c.in_default.ensures.wanting in
    let whole = c.give_up.ensures.whole memory (λ r. calm (risen_since (wants c.args.sink.now) (wants c.loop-calc.sink) (wants c.give_up.new.sink) h.8 r)) in (
      h.0 ++ a.0,
      prepend_known-then h.0 a.0 (left c.args.source.now) (left c.loop-calc.source) (left c.next.new.source) h.1 a.1,
      goes_before h.0 a.0 (left c.next.new.source) (held c.args.sink.now) (held c.loop-calc.sink) (held c.give_up.new.sink) c.loop-calc.calc c.loop-calc.reader c.next.new.self c.loop-calc.replies
          (λ t. e.ended (e.still t).0) h.2 a.2.taken e.still a.2.says (whole ∙ ap (λ (w : Written). append_known (held c.loop-calc.sink) w.bytes) same),
    )

pub returns-in-Err-Memory-clause-lines_before : goal.returns-in-Err-Memory-clause-lines_before
returns-in-Err-Memory-clause-lines_before g c = λ memory calm.
    let wants = g.W.Sink.wants in
    let never : ⊥ = calm (risen_since (wants c.args.sink.now) (wants c.loop-calc.sink) (wants c.write_all.new.sink) c.loop-calc.invariant.8 (c.in-Err-Memory.ensures.memory_by_want (ap Err c.in-Err-Memory.field-0-is))) in
    absurd {A = GivesUp job.Run (g.S.Source.left c.args.source.now) (g.S.Source.left c.next.new.source) (g.W.Sink.held c.args.sink.now) (g.W.Sink.held c.write_all.new.sink)} never

pub returns-in-Failed-clause-read_fault : goal.returns-in-Failed-clause-read_fault
returns-in-Failed-clause-read_fault g c = λ e. risen_since (g.S.Source.faults c.args.source.now) (g.S.Source.faults c.loop-calc.source) (g.S.Source.faults c.next.new.source) c.loop-calc.invariant.5 (c.in-Failed.ensures.failed_by_fault refl)

pub returns-in-End-clause-write_fault : goal.returns-in-End-clause-write_fault
returns-in-End-clause-write_fault g c = λ e. risen_since (g.W.Sink.faults c.args.sink.now) (g.W.Sink.faults c.loop-calc.sink) (g.W.Sink.faults c.end_script.new.sink) c.loop-calc.invariant.6 (c.end_script.ensures.fault e)

pub returns-in_default-clause-write_fault : goal.returns-in_default-clause-write_fault
returns-in_default-clause-write_fault g c = λ e. risen_since (g.W.Sink.faults c.args.sink.now) (g.W.Sink.faults c.loop-calc.sink) (g.W.Sink.faults c.give_up.new.sink) c.loop-calc.invariant.6 (c.give_up.ensures.fault e)

pub returns-in-Err-Failed-clause-write_fault : goal.returns-in-Err-Failed-clause-write_fault
returns-in-Err-Failed-clause-write_fault g c = λ e. risen_since (g.W.Sink.faults c.args.sink.now) (g.W.Sink.faults c.loop-calc.sink) (g.W.Sink.faults c.write_all.new.sink) c.loop-calc.invariant.6 (c.in-Err-Failed.ensures.failed_by_fault (ap Err c.in-Err-Failed.field-0-is))
