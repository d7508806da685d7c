use Rattle.cone_laws.proofs.EchelonForm.{line_step_echelon}
use Rattle.cone_laws.proofs.echelon.line_step_keeps_echelon.Goals as goal

pub returns : goal.returns
returns c = line_step_echelon
