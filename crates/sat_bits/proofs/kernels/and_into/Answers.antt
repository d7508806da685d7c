use Rattle.std.proofs.Common.{[], arith}
use Rattle.sat_bits.proofs.BlockLemmas.{block_at}
use Rattle.sat_bits.proofs.PlaceLemmas.{places_and, ands_more}
use Rattle.sat_bits.proofs.kernels.and_into.Goals as goal

pub loop-block-preserved : goal.loop-block-preserved
loop-block-preserved c = (
  omega (arith, c.and_block.ensures.width, c.loop-block.invariant.0),
  ands_more c.args.a.now c.args.b.now c.loop-block.dst c.and_block.new.dst _ _ c.loop-block.block c.loop-block.invariant.1
      (block_at c.args.a.now c.as_chunks.result.0.now c.loop-block.block [] c.as_chunks.ensures.front (omega (arith, c.as_chunks.ensures.front_len, c.loop-block-test.true)))
      (block_at c.args.b.now c.as_chunks-2.result.0.now c.loop-block.block [] c.as_chunks-2.ensures.front (omega (arith, c.as_chunks.ensures.front_len, c.requires.first, c.requires.second, c.loop-block-test.true)))
      c.and_block.ensures.inside c.and_block.ensures.outside,
)

pub returns-clause-places : goal.returns-clause-places
returns-clause-places c = places_and c.args.a.now c.args.b.now c.loop-word.dst (omega (arith, c.loop-word.invariant.0)) (omega (arith, c.loop-word.invariant.0, c.requires.first, c.requires.second)) (λ k h. c.loop-word.invariant.1 k (omega (arith, c.loop-word-test.false, c.loop-word.invariant.0, h)))
