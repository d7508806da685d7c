use Rattle.std.proofs.Common.{◌≡◌, ℕ, ◌+◌, ◌≤◌, List, ◌++◌, length}
use Rattle.std.specs.Str.Lines.{lines}
use Rattle.cdd_reading.specs.Headings.{Holds}
use Rattle.cdd_reading.proofs.head.read_head.Given as goal

abbrev pub invariant-loop-said : goal.invariant-loop-said
invariant-loop-said l = record {
  done : (before : List (List ℕ)) × (lines l.file ≡ before ++ lines l.rest) × (l.number ≡ length before + 1) × Holds before l.said.kind l.said.linearity.now;
  short : l.number + length l.rest ≤ length l.file + 1;
}

abbrev pub decreases-loop-said : goal.decreases-loop-said
decreases-loop-said l = length l.rest
