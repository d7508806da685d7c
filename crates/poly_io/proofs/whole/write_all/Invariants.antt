use Rattle.std.proofs.Common.{◌≡◌, ◌≤◌, ◌-◌, length, take}
use Rattle.std.specs.Io.KnownBytes.{append_known}
use Rattle.poly_io.proofs.whole.write_all.Given as goal

abbrev pub invariant-loop-at : goal.invariant-loop-at
invariant-loop-at g l = record {
  within : l.at ≤ length l.bytes;
  written : g.W.Sink.held l.sink ≡ append_known (g.W.Sink.held l.fn.sink) (take l.at l.bytes);
  counted : g.W.Sink.faults l.fn.sink ≤ g.W.Sink.faults l.sink;
  wanted : g.W.Sink.wants l.fn.sink ≤ g.W.Sink.wants l.sink;
}

abbrev pub decreases-loop-at : goal.decreases-loop-at
decreases-loop-at g l = length l.bytes - l.at
