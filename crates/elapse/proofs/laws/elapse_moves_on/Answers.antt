use Rattle.elapse.proofs.ElapseLaws.{moves_law}
use Rattle.elapse.proofs.laws.elapse_moves_on.Goals as goal

pub returns : goal.returns
returns c = moves_law
