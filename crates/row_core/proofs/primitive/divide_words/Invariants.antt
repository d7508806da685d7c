use Rattle.std.specs.Prelude.{◌≡◌, ℕ, ◌<◌, ◌≤◌, ◌*ℤ◌}
use Rattle.row_core.specs.Vectors.{cell}
use Rattle.row_core.specs.Range.{InRange}
use Rattle.row_core.proofs.primitive.divide_words.Given as goal

abbrev pub invariant-loop-j : goal.invariant-loop-j
invariant-loop-j l = record {
  done : (k : ℕ) → k < l.j → cell l.fn.row k ≡ l.fn.divisor *ℤ cell l.row k;
  in_range : (k : ℕ) → k < l.j → InRange (cell l.row k);
  rest : (k : ℕ) → l.j ≤ k → cell l.row k ≡ cell l.fn.row k;
}
