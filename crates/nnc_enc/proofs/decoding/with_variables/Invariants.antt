use Rattle.std.proofs.Common.{◌≡◌, ◌≤◌, length, vec_len, vec_capacity}
use Rattle.nnc_enc.specs.Decoding.{HaveVariables}
use Rattle.nnc_enc.proofs.decoding.with_variables.Given as goal

abbrev pub invariant-loop-index : goal.invariant-loop-index
invariant-loop-index l = record {
  variables : HaveVariables l.fn.dim l.rays.rows l.keep.items l.index;
  len : vec_len l.keep ≡ l.index;
  room : length l.rays.rows ≤ vec_capacity l.keep;
}
