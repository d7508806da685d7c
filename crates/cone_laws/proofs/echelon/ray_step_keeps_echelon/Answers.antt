use Rattle.cone_laws.proofs.EchelonForm.{ray_step_echelon}
use Rattle.cone_laws.proofs.echelon.ray_step_keeps_echelon.Goals as goal

pub returns : goal.returns
returns c = ray_step_echelon
