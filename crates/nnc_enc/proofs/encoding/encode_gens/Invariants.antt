use Rattle.std.proofs.Common.{◌≡◌, ◌+◌, take}
use Rattle.nnc_enc.specs.EncodedGenerators.{encoded_generators}
use Rattle.nnc_enc.proofs.encoding.encode_gens.Given as goal

abbrev pub invariant-loop-index : goal.invariant-loop-index
invariant-loop-index l = record {
  width : l.list.width ≡ l.gens.dim + 2;
  rows : l.list.rows ≡ encoded_generators l.gens.dim (take l.index l.gens.list);
}
