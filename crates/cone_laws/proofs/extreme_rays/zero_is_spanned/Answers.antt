use Rattle.cone_laws.proofs.ZeroFaces.{zero_is_spanned}
use Rattle.cone_laws.proofs.extreme_rays.zero_is_spanned.Goals as goal

pub returns : goal.returns
returns c = zero_is_spanned
