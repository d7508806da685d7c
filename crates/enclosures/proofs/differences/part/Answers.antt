use Rattle.cons_sys.specs.Constraints.{constraint_at}
use Rattle.enclosures.proofs.JoinLemmas.{part_of}
use Rattle.enclosures.proofs.differences.part.Goals as goal

pub returns-clause-points : goal.returns-clause-points
returns-clause-points g c = part_of c.args.p.now (constraint_at c.args.cons.now.list c.args.index) c.in_ok-one.one c.args.p.now.topology c.in_ok-made.made c.requires.topology c.in_ok-one.ensures.list c.in_ok-made.ensures.points
