use Rattle.std.proofs.Common.{◌≡◌}
use Rattle.cover_search.proofs.RegionLemmas.{copied_region}
use Rattle.cover_search.proofs.region.Region.copied.Goals as goal

pub invariant_of-result : goal.invariant_of-result
invariant_of-result c =
    let cons : c.in_ok-cons.cons ≡ c.self.inside.cons = c.in_ok-cons.ensures.cases in
    let list : c.in_ok-list.list ≡ c.self.inside.list = c.in_ok-list.ensures.cases in
    copied_region c.self.inside.cons c.in_ok-cons.cons c.self.inside.list c.in_ok-list.list c.self.inside.cone c.in_ok-cone.cone cons list c.in_ok-cone.ensures.cases c.self.invariant
