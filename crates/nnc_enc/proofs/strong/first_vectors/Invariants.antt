use Rattle.std.proofs.Common.{◌≡◌, ◌≤◌, length, vec_len, vec_capacity}
use Rattle.nnc_enc.specs.Strong.{AreFirstVectors}
use Rattle.nnc_enc.proofs.strong.first_vectors.Given as goal

abbrev pub invariant-loop-index : goal.invariant-loop-index
invariant-loop-index l = record {
  first : AreFirstVectors l.places l.strict l.sat.rows l.keep.items l.index;
  len : vec_len l.keep ≡ l.index;
  room : length l.sat.rows ≤ vec_capacity l.keep;
}
