use Rattle.minimise.proofs.MinimalForms.{formed_is_system}
use Rattle.minimise.proofs.laws.formed_is_system.Goals as goal

pub returns : goal.returns
returns c = formed_is_system
