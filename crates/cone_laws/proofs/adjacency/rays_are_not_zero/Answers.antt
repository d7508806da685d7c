use Rattle.cone_laws.proofs.FaceLists.{rays_not_zero}
use Rattle.cone_laws.proofs.adjacency.rays_are_not_zero.Goals as goal

pub returns : goal.returns
returns c = rays_not_zero
