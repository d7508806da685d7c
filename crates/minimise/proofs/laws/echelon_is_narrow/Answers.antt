use Rattle.minimise.proofs.NarrowBases.{echelon_is_narrow}
use Rattle.minimise.proofs.laws.echelon_is_narrow.Goals as goal

pub returns : goal.returns
returns c = echelon_is_narrow
