use Rattle.std.proofs.Common.{◌≡◌, ℕ, ◌+◌, ◌-◌, ◌≤◌, List, true, length}
use Rattle.std.specs.Io.KnownBytes.{prepend_known, IsAtEnd}
use Rattle.polycalc.proofs.StreamLaws.{Goes, IsReady}
use Rattle.polycalc.proofs.runs.answer_lines.Given as goal

abbrev pub invariant-loop-calc : goal.invariant-loop-calc
invariant-loop-calc g l =
    (given : List ℕ) × (g.S.Source.left l.fn.source ≡ prepend_known given (g.S.Source.left l.source))
    × Goes given (g.W.Sink.held l.fn.sink) (g.W.Sink.held l.sink) l.calc l.reader l.replies × IsReady l.reader l.replies
    × (l.reader.ended ≡ true → IsAtEnd (g.S.Source.left l.source))
    × (g.S.Source.faults l.fn.source ≤ g.S.Source.faults l.source) × (g.W.Sink.faults l.fn.sink ≤ g.W.Sink.faults l.sink)
    × (l.reader.taken ≤ 67108864) × (g.W.Sink.wants l.fn.sink ≤ g.W.Sink.wants l.sink)

abbrev pub decreases-loop-calc : goal.decreases-loop-calc
decreases-loop-calc g l = length l.reader.pending + (67174400 - l.reader.taken)
