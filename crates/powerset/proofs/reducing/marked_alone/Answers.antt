use Rattle.std.proofs.Common.{arith, rules}
use Rattle.std.proofs.lemmas.Grind.{common_steps}
use Rattle.powerset.proofs.ReductionLemmas.{one_kept, one_out}
use Rattle.powerset.proofs.reducing.marked_alone.Goals as goal

pub loop-index-preserved-then-not-keep-index : goal.loop-index-preserved-then-not-keep-index
loop-index-preserved-then-not-keep-index c = record {
  below = omega arith;
  part = one_out c.args.members.items c.args.keep.now c.loop-index.index (omega arith) (omega arith) (omega arith) c.loop-index.part.items c.loop-index.invariant.part c.take_out.new.members.items (cc) c.take_out.ensures;
}

pub loop-index-preserved : goal.loop-index-preserved
loop-index-preserved c = record {
  below = omega arith;
  part = one_kept c.args.members.items c.args.keep.now c.loop-index.index (omega arith) (omega arith) (omega arith) c.loop-index.part.items c.loop-index.invariant.part (first_of (cc, search rules, grind (arith, common_steps)));
}
