use Rattle.std.specs.Prelude.{◌≡◌, ℕ, ◌<◌, ◌≤◌, ◌*ℤ◌}
use Rattle.row_core.specs.Vectors.{cell}
use Rattle.row_core.specs.Range.{InRange}
use Rattle.mapped_systems.proofs.substitution.scale_all.Given as goal

abbrev pub invariant-loop-column : goal.invariant-loop-column
invariant-loop-column l = record {
  done : (k : ℕ) → k < l.column → cell l.row k ≡ l.fn.factor *ℤ cell l.fn.row k;
  in_range : (k : ℕ) → k < l.column → InRange (cell l.row k);
  rest : (k : ℕ) → l.column ≤ k → cell l.row k ≡ cell l.fn.row k;
}
