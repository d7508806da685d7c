use Rattle.std.proofs.Common.{arith, subst}
use Rattle.row_core.specs.Sizes.{HaveBits}
use Rattle.row_core.proofs.SizeLemmas.{HaveBits-more}
use Rattle.worked_cases.proofs.stored_rows.combine_with.Goals as goal

pub combine_with-requires-clause-bits : goal.combine_with-requires-clause-bits
combine_with-requires-clause-bits g c = (
  subst (HaveBits c.max-within.result) c.row.ensures.value
      (HaveBits-more c.bits.result c.max-within.result c.row.result.now
      (omega (arith, c.max-within.ensures)) c.bits.ensures.within),
  HaveBits-more c.bits-2.result c.max-within.result c.args.v.now
      (omega (arith, c.max-within.ensures)) c.bits-2.ensures.within,
)
