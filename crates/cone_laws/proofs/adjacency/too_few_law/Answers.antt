use Rattle.cone_laws.proofs.TooFew.{too_few_law}
use Rattle.cone_laws.proofs.adjacency.too_few_law.Goals as goal

pub returns : goal.returns
returns c = too_few_law
