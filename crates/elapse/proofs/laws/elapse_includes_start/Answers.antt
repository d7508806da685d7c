use Rattle.elapse.proofs.ElapseLaws.{start_law}
use Rattle.elapse.proofs.laws.elapse_includes_start.Goals as goal

pub returns : goal.returns
returns c = start_law
