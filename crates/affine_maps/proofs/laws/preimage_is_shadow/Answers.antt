use Rattle.affine_maps.proofs.RelatedPreimages.{preimage_law}
use Rattle.affine_maps.proofs.laws.preimage_is_shadow.Goals as goal

pub returns : goal.returns
returns c = preimage_law
