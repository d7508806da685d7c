use Rattle.std.specs.Int.{w128}
use Rattle.std.proofs.Common.{arith, subst}
use Rattle.std.proofs.lemmas.Int.{to_z-of_z}
use Rattle.row_core.specs.Sizes.{HaveBits}
use Rattle.row_core.proofs.SizeLemmas.{HaveBits-more}
use Rattle.row_store.proofs.store.RowStore.combine_rows.Goals as goal

pub combine_rows_within-requires-clause-first_bits :
    goal.combine_rows_within-requires-clause-first_bits
combine_rows_within-requires-clause-first_bits g c =
    subst (HaveBits c.max-bits.result) c.row.ensures.value
    (HaveBits-more c.bits.result c.max-bits.result c.row.result.now
    (omega (arith, c.max-bits.ensures)) c.bits.ensures.within)

pub combine_rows_within-requires-clause-second_bits :
    goal.combine_rows_within-requires-clause-second_bits
combine_rows_within-requires-clause-second_bits g c =
    subst (HaveBits c.max-bits.result) c.row-2.ensures.value
    (HaveBits-more c.bits-2.result c.max-bits.result c.row-2.result.now
    (omega (arith, c.max-bits.ensures)) c.bits-2.ensures.within)

pub returns-clause-combined : goal.returns-clause-combined
returns-clause-combined g c =
    rw (to_z-of_z w128 c.args.s c.ranges.s, to_z-of_z w128 c.args.t c.ranges.t) at
    c.in_ok-combine_rows_within.ensures.combined
