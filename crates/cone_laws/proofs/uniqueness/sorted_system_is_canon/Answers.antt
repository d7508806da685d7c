use Rattle.cone_laws.proofs.UniqueSystems.{upto_canon_from_sorted}
use Rattle.cone_laws.proofs.uniqueness.sorted_system_is_canon.Goals as goal

pub returns : goal.returns
returns c = upto_canon_from_sorted
