use Rattle.std.proofs.Common.{arith}
use Rattle.sat_bits.proofs.BlockLemmas.{none_missing, joined_none}
use Rattle.sat_bits.proofs.kernels.is_block_covered.Goals as goal

pub returns : goal.returns
returns c = (λ h. none_missing c.args.a.now c.args.b.now c.args.c.now c.told-a c.told-b c.told-c (grind (arith, h)), λ h. grind (arith, joined_none c.args.a.now c.args.b.now c.args.c.now c.told-a c.told-b c.told-c h))
