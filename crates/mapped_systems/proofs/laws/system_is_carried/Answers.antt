use Rattle.mapped_systems.proofs.CarriedSystems.{system_carried}
use Rattle.mapped_systems.proofs.laws.system_is_carried.Goals as goal

pub returns : goal.returns
returns c = system_carried
