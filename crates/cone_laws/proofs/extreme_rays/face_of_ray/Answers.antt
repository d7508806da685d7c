use Rattle.cone_laws.proofs.ExtremeRays.{face_of_ray}
use Rattle.cone_laws.proofs.extreme_rays.face_of_ray.Goals as goal

pub returns : goal.returns
returns c = face_of_ray
