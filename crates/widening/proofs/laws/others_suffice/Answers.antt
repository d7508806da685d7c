use Rattle.widening.proofs.LargerRows.{others_suffice_law}
use Rattle.widening.proofs.laws.others_suffice.Goals as goal

pub returns : goal.returns
returns c = others_suffice_law
