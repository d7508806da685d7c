use Rattle.std.proofs.Common.{◌≡◌, ◌≤◌, length, vec_len, vec_capacity}
use Rattle.nnc_enc.specs.Strong.{AreFirstRows}
use Rattle.nnc_enc.proofs.strong.first_rows.Given as goal

abbrev pub invariant-loop-index : goal.invariant-loop-index
invariant-loop-index l = record {
  first : AreFirstRows l.fn.dim l.rays.rows l.strict l.places l.sat.rows l.keep.items l.index;
  len : vec_len l.keep ≡ l.index;
  room : length l.sat.rows ≤ vec_capacity l.keep;
}
