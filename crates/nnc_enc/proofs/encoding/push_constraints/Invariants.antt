use Rattle.std.proofs.Common.{◌≡◌, ◌++◌, take, map}
use Rattle.nnc_enc.specs.Encoding.{encoded_constraint}
use Rattle.nnc_enc.proofs.encoding.push_constraints.Given as goal

abbrev pub invariant-loop-index : goal.invariant-loop-index
invariant-loop-index l = record {
  width : l.list.width ≡ l.initial.list.width;
  rows : l.list.rows ≡ l.initial.list.rows ++ map (encoded_constraint l.cons.dim) (take l.index l.cons.list);
}
