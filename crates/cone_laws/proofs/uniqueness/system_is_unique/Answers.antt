use Rattle.cone_laws.proofs.UniqueSystems.{upto_system_unique}
use Rattle.cone_laws.proofs.uniqueness.system_is_unique.Goals as goal

pub returns : goal.returns
returns c = upto_system_unique
