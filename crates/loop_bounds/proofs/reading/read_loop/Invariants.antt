use Rattle.std.proofs.Common.{◌≡◌, ◌-◌, ◌^◌, length, take, min}
use Rattle.loop_bounds.specs.Reading.{SayAll, lines_of, IsDraft}
use Rattle.loop_bounds.proofs.reading.read_loop.Given as goal

abbrev pub invariant-loop-line : goal.invariant-loop-line
invariant-loop-line l = record {
  can_next : (goal.iterator-loop-line).can_next l.line-iterator;
  is_finite : (goal.iterator-loop-line).is_finite l.line-iterator;
  say : SayAll (take (length l.yielded) (lines_of l.text)) l.draft;
  fits : IsDraft l.draft;
  counted : l.number ≡ min (length l.yielded) (2 ^ 64 - 1);
}
