use Rattle.std.specs.Prelude.{◌≡◌, take}
use Rattle.row_core.specs.Vectors.{dot}
use Rattle.row_core.specs.Sizes.{IsWord}
use Rattle.row_core.proofs.sizes.word_dot.Given as goal

abbrev pub invariant-loop-j : goal.invariant-loop-j
invariant-loop-j l = record {
  total : l.total ≡ dot (take l.j l.u) (take l.j l.v);
  word : IsWord l.total;
}
