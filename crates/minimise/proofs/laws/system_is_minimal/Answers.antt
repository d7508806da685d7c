use Rattle.minimise.proofs.MinimalForms.{system_is_minimal}
use Rattle.minimise.proofs.laws.system_is_minimal.Goals as goal

pub returns : goal.returns
returns c = system_is_minimal
