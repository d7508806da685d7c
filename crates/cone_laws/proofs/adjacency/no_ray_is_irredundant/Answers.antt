use Rattle.cone_laws.proofs.FaceLists.{no_ray_irredundant}
use Rattle.cone_laws.proofs.adjacency.no_ray_is_irredundant.Goals as goal

pub returns : goal.returns
returns c = no_ray_irredundant
