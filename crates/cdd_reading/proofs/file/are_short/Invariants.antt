use Rattle.std.proofs.Common.{length}
use Rattle.std.specs.Str.Lines.{lines}
use Rattle.cdd_reading.specs.Refusals.{AreShort}
use Rattle.cdd_reading.proofs.file.are_short.Given as goal

abbrev pub invariant-loop-rest : goal.invariant-loop-rest
invariant-loop-rest l = record {
  whole : AreShort (lines l.rest) → AreShort (lines l.file);
  part : AreShort (lines l.file) → AreShort (lines l.rest);
}

abbrev pub decreases-loop-rest : goal.decreases-loop-rest
decreases-loop-rest l = length l.rest
