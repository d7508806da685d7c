use Rattle.nnc_enc.specs.Decoding.{AreKept, Rise}
use Rattle.nnc_enc.proofs.decoding.kept.Given as goal

abbrev pub invariant-loop-index : goal.invariant-loop-index
invariant-loop-index l = record {
  kept : AreKept l.keep l.kept.items l.index;
  rising : Rise l.kept.items;
}
