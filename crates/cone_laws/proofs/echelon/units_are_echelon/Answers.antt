use Rattle.cone_laws.proofs.EchelonForm.{units_echelon, units_primitive}
use Rattle.cone_laws.proofs.echelon.units_are_echelon.Goals as goal

pub returns : goal.returns
returns c = λ width lines u. (units_echelon width lines u, units_primitive width lines u)
