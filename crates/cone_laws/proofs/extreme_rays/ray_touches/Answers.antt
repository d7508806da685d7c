use Rattle.cone_laws.proofs.ExtremeRays.{ray_touches}
use Rattle.cone_laws.proofs.extreme_rays.ray_touches.Goals as goal

pub returns : goal.returns
returns c = ray_touches
