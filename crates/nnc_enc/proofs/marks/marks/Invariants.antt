use Rattle.std.proofs.Common.{◌≡◌, ◌≤◌, length, vec_len, vec_capacity}
use Rattle.nnc_enc.specs.Marks.{AreTold}
use Rattle.nnc_enc.proofs.marks.marks.Given as goal

abbrev pub invariant-loop-index : goal.invariant-loop-index
invariant-loop-index l = record {
  told : AreTold l.fn.mark l.fn.dim l.list.rows l.marks.items l.index;
  len : vec_len l.marks ≡ l.index;
  room : length l.list.rows ≤ vec_capacity l.marks;
}
