use Rattle.minimise.proofs.TakenLines.{echelon_takes_line}
use Rattle.minimise.proofs.laws.echelon_takes_line.Goals as goal

pub returns : goal.returns
returns c = echelon_takes_line
