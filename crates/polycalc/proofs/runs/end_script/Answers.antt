use Rattle.std.proofs.Common.{List, ℕ, ap, ◌∙◌, sym, take}
use Rattle.std.specs.Io.KnownBytes.{append_known}
use Rattle.polycalc.specs.Endings.{unwritten, unmade}
use Rattle.polycalc.proofs.EndLaws.{closes_done, closes_refused, closes_written, closes_unmade, bytes_at_end}
use Rattle.polycalc.proofs.runs.end_script.Goals as goal

pub returns-then-is_clean-clause-closes : goal.returns-then-is_clean-clause-closes
returns-then-is_clean-clause-closes g c = closes_done c.args.calc.now c.args.replies.now.clean (g.W.Sink.held c.args.sink.now) c.in_default.ensures.answer (sym c.if-is_clean.ensures)

pub returns-else-is_clean-clause-closes : goal.returns-else-is_clean-clause-closes
returns-else-is_clean-clause-closes g c = closes_refused c.args.calc.now c.args.replies.now.clean (g.W.Sink.held c.args.sink.now) c.in_default.ensures.answer (sym c.if-is_clean.ensures)

pub returns-in_default-add_fault-clause-closes : goal.returns-in_default-add_fault-clause-closes
returns-in_default-add_fault-clause-closes g c = closes_unmade c.args.calc.now c.args.replies.now.clean (g.W.Sink.held c.args.sink.now)

pub returns-in-Ok-write_all-clause-closes : goal.returns-in-Ok-write_all-clause-closes
returns-in-Ok-write_all-clause-closes g c =
    let bytes = bytes_at_end c.args.calc.now c.args.replies.now c.add_fault.new.self c.in-Err.fault c.in-Err.ensures.answer.1 c.in-Err.ensures.answer.0 c.requires c.in-Ok.ensures.added in
    closes_written c.args.calc.now c.args.replies.now.clean (g.W.Sink.held c.args.sink.now) (g.W.Sink.held c.write_all.new.sink) c.in-Err.ensures.answer.1
    (c.in-Ok-write_all.ensures.written ∙ ap (append_known (g.W.Sink.held c.args.sink.now)) (c.bytes.ensures ∙ bytes))

pub returns-in-Err-Failed-clause-closes : goal.returns-in-Err-Failed-clause-closes
returns-in-Err-Failed-clause-closes g c =
    let bytes = bytes_at_end c.args.calc.now c.args.replies.now c.add_fault.new.self c.in-Err.fault c.in-Err.ensures.answer.1 c.in-Err.ensures.answer.0 c.requires c.in-Ok.ensures.added in
    let p = c.in-Err-Failed.ensures.partly in
    unwritten p.0 (p.1 ∙ ap (λ (x : List ℕ). append_known (g.W.Sink.held c.args.sink.now) (take p.0 x)) (c.bytes.ensures ∙ bytes))

pub returns-in-Err-Memory-clause-closes : goal.returns-in-Err-Memory-clause-closes
returns-in-Err-Memory-clause-closes g c =
    let bytes = bytes_at_end c.args.calc.now c.args.replies.now c.add_fault.new.self c.in-Err.fault c.in-Err.ensures.answer.1 c.in-Err.ensures.answer.0 c.requires c.in-Ok.ensures.added in
    let p = c.in-Err-Memory.ensures.partly in
    unmade p.0 (p.1 ∙ ap (λ (x : List ℕ). append_known (g.W.Sink.held c.args.sink.now) (take p.0 x)) (c.bytes.ensures ∙ bytes))
