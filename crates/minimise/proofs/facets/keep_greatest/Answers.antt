use Rattle.std.proofs.Common.{arith}
use Rattle.minimise.proofs.KeptPlaces.{kept_at_first, greatest_kept}
use Rattle.minimise.proofs.facets.keep_greatest.Goals as goal

pub loop-at-init : goal.loop-at-init
loop-at-init c = record { within = omega arith; fewer = omega arith; kept = kept_at_first c.args.table.now.rows c.args.places.now.items c.requires.uneven c.requires.rising }

pub loop-at-preserved : goal.loop-at-preserved
loop-at-preserved c = record { within = c.next_kept-at.ensures.within; fewer = omega (arith, c.loop-at.invariant.fewer, c.next_kept-at.ensures.fewer); kept = c.next_kept-at.ensures.kept }

pub returns-clause-greatest : goal.returns-clause-greatest
returns-clause-greatest c = greatest_kept c.args.table.now.rows c.loop-at.places.items c.loop-at.at (omega arith) c.loop-at.invariant.kept
