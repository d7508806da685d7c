use Rattle.cone_laws.proofs.OneMore.{one_more_law}
use Rattle.cone_laws.proofs.adjacency.one_more_law.Goals as goal

pub returns : goal.returns
returns c = one_more_law
