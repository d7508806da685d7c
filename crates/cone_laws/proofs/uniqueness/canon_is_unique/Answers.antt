use Rattle.cone_laws.proofs.UniqueSystems.{upto_canon_unique}
use Rattle.cone_laws.proofs.uniqueness.canon_is_unique.Goals as goal

pub returns : goal.returns
returns c = upto_canon_unique
