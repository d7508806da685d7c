use Rattle.cone_laws.proofs.ExtremeRays.{extreme}
use Rattle.cone_laws.proofs.extreme_rays.rays_are_extreme.Goals as goal

pub returns : goal.returns
returns c = extreme
