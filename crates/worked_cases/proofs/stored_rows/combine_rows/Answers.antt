use Rattle.std.proofs.Common.{arith, subst}
use Rattle.row_core.specs.Sizes.{HaveBits}
use Rattle.row_core.proofs.SizeLemmas.{HaveBits-more}
use Rattle.worked_cases.proofs.stored_rows.combine_rows.Goals as goal

pub combine_rows_within-requires-clause-first_bits :
    goal.combine_rows_within-requires-clause-first_bits
combine_rows_within-requires-clause-first_bits g c =
    subst (HaveBits c.max-within.result) c.row.ensures.value
    (HaveBits-more c.bits.result c.max-within.result c.row.result.now
    (omega (arith, c.max-within.ensures)) c.bits.ensures.within)

pub combine_rows_within-requires-clause-second_bits :
    goal.combine_rows_within-requires-clause-second_bits
combine_rows_within-requires-clause-second_bits g c =
    subst (HaveBits c.max-within.result) c.row-2.ensures.value
    (HaveBits-more c.bits-2.result c.max-within.result c.row-2.result.now
    (omega (arith, c.max-within.ensures)) c.bits-2.ensures.within)
