use Rattle.std.specs.Prelude.{◌≡◌, ℕ, ◌<◌, ◌≤◌, ◌+ℤ◌, ◌*ℤ◌}
use Rattle.row_core.specs.Vectors.{cell}
use Rattle.row_core.specs.Sizes.{IsWithin}
use Rattle.row_core.proofs.sizes.words_onto.Given as goal

abbrev pub invariant-loop-j : goal.invariant-loop-j
invariant-loop-j l = record {
  done : (k : ℕ) → k < l.j → cell l.dst k ≡ l.fn.s *ℤ cell l.initial.dst k +ℤ l.fn.t *ℤ cell l.v k;
  rest : (k : ℕ) → l.j ≤ k → cell l.dst k ≡ cell l.initial.dst k;
  within : (k : ℕ) → k < l.j → IsWithin l.sizes (cell l.dst k);
}
