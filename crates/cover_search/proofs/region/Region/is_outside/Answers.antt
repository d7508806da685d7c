use Rattle.std.proofs.Common.{subst}
use Rattle.cover_search.specs.Regions.{HoldsOn}
use Rattle.cover_search.proofs.InequalityLemmas.{at_complements}
use Rattle.cover_search.proofs.region.Region.is_outside.Goals as goal

pub returns : goal.returns
returns c t = subst (HoldsOn c.args.self.now) (at_complements c.args.walls.now.list c.outer.result.now.list c.args.index c.outer.ensures.list) (c.keeps.ensures t)
