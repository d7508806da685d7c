use Rattle.affine_maps.proofs.EqualImages.{equal_images, equal_preimages}
use Rattle.affine_maps.proofs.laws.equality_is_substitution.Goals as goal

pub returns-clause-image : goal.returns-clause-image
returns-clause-image c = equal_images

pub returns-clause-preimage : goal.returns-clause-preimage
returns-clause-preimage c = equal_preimages
