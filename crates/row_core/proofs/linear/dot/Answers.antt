use Rattle.std.proofs.Common.{refl, sym}
use Rattle.row_core.proofs.linear.dot.Goals as goal

pub dot-requires-clause-suffices : goal.dot-requires-clause-suffices
dot-requires-clause-suffices c =
    c.of.ensures.suffices c.args.u.now c.args.v.now refl (sym c.requires.same_width) c.bits.ensures.within
    c.bits-2.ensures.within
