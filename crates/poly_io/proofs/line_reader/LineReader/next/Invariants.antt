use Rattle.std.proofs.Common.{◌≡◌, ℕ, ◌+◌, ◌-◌, ◌*◌, ◌≤◌, List, true, cond, length, take}
use Rattle.poly_io.specs.Cut.{LacksFeed}
use Rattle.std.specs.Io.KnownBytes.{prepend_known, IsAtEnd}
use Rattle.poly_io.proofs.NextLaws.{Follows, IsFirst}
use Rattle.poly_io.proofs.line_reader.LineReader.next.Given as goal

abbrev pub invariant-loop-self : goal.invariant-loop-self
invariant-loop-self g l =
    (given : List ℕ) × (g.S.Source.left l.fn.source ≡ prepend_known given (g.S.Source.left l.source)) × Follows given l.fn.self l.self
    × (l.self.ended ≡ true → IsAtEnd (g.S.Source.left l.source)) × (g.S.Source.faults l.fn.source ≤ g.S.Source.faults l.source)
    × IsFirst l.fn.self l.self l.fn.source l.source
    × (l.seen ≤ length l.self.pending) × LacksFeed (take l.seen l.self.pending)

abbrev pub decreases-loop-self : goal.decreases-loop-self
decreases-loop-self g l = 2 * (67108865 - l.self.taken) + cond l.self.ended 0 1
