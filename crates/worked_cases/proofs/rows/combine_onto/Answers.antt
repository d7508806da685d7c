use Rattle.std.proofs.Common.{◌≡◌, arith, max}
use Rattle.std.proofs.lemmas.Bool.Decides.{nat_tests}
use Rattle.row_core.proofs.SizeLemmas.{HaveBits-more}
use Rattle.worked_cases.proofs.rows.combine_onto.Goals as goal

pub combine_within-requires-clause-within : goal.combine_within-requires-clause-within
combine_within-requires-clause-within g c =
    let most : c.max-within.result ≡ max c.bits.result c.bits-2.result =
    grind (arith, nat_tests, c.max-within.ensures) in (
      HaveBits-more c.bits.result c.max-within.result _ (omega (arith, most)) c.bits.ensures.within,
      HaveBits-more c.bits-2.result c.max-within.result c.args.v.now (omega (arith, most))
          c.bits-2.ensures.within,
    )
