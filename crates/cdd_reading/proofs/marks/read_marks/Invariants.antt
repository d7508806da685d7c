use Rattle.std.proofs.Common.{◌≡◌, ℕ, List, ◌++◌, map, drop, length}
use Rattle.cdd_reading.specs.Tokens.{tokens}
use Rattle.plain_text.specs.Digits.{number}
use Rattle.cdd_reading.specs.Files.{marks}
use Rattle.cdd_reading.specs.Refusals.{AllName}
use Rattle.cdd_reading.proofs.marks.read_marks.Given as goal

abbrev pub invariant-loop-index : goal.invariant-loop-index
invariant-loop-index l = record {
  done : (before : List (List ℕ)) × (drop 2 (tokens l.linearity) ≡ before ++ tokens l.rest) × AllName l.rows (map number before) × (l.marks.items ≡ marks (map number before) l.rows);
}

abbrev pub decreases-loop-index : goal.decreases-loop-index
decreases-loop-index l = length l.rest
