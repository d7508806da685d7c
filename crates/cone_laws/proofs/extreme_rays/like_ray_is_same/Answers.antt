use Rattle.cone_laws.proofs.LikeRays.{like_ray_is_same}
use Rattle.cone_laws.proofs.extreme_rays.like_ray_is_same.Goals as goal

pub returns : goal.returns
returns c = like_ray_is_same
