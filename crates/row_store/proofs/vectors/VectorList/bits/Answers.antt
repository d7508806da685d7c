use Rattle.std.specs.Prelude.{length}
use Rattle.std.proofs.Common.{◌<◌, [], sym, subst, arith}
use Rattle.row_core.specs.Sizes.{HaveBits}
use Rattle.row_store.proofs.MarkedVectors.{seen_count, seen_row}
use Rattle.row_store.proofs.vectors.VectorList.bits.Goals as goal

pub returns : goal.returns
returns c = λ i h.
    let below : i < length c.self.inside.store.rows = omega (arith, h, seen_count c.self.inside.eq c.self.inside.store c.args.self.now c.self.view_is) in
    subst (HaveBits c.self.inside.bits) (sym (seen_row c.self.inside.eq c.self.inside.store c.args.self.now i c.self.view_is below)) (c.self.invariant i [] below)
