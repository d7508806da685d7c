use Rattle.mapped_systems.proofs.CarriedSystems.{minimal_carried}
use Rattle.mapped_systems.proofs.laws.minimal_is_carried.Goals as goal

pub returns : goal.returns
returns c = minimal_carried
