use Rattle.std.proofs.Common.{refl, arith}
use Rattle.cover_search.proofs.PartLemmas.{apart_by, lies_by}
use Rattle.cover_search.proofs.contacts.contact_of.Goals as goal

pub returns-then-is_outside : goal.returns-then-is_outside
returns-then-is_outside c = apart_by c.args.region.now c.args.walls.now c.loop-index.index c.requires.inequalities (omega arith) (c.if-is_outside.ensures refl)

pub returns-then-end-eq0 : goal.returns-then-end-eq0
returns-then-end-eq0 c = lies_by c.args.region.now c.args.walls.now (λ i l b. c.loop-index.invariant.hold i (omega arith) (omega (arith, b)))
