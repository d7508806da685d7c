use Rattle.poly_pair.proofs.PairedSystems.{closed_lists_tell}
use Rattle.poly_pair.proofs.laws.closed_lists_tell.Goals as goal

pub returns : goal.returns
returns c = closed_lists_tell
